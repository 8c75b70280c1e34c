-- Four host values live as long as their four kinds do, part by part; the search for it stops short of four.
use Rattle.std.proofs.Common.{[], ◌++◌}
use base.Fml.{Lft}
use contract.BorrowLft.{◌⊑◌, ⊑_refl, ⊑_trans, ⊑_meet, meet_⊑_left, meet_⊑_right}

meets : (a b c d : Lft) → a ⊑ b → c ⊑ d → a ++ c ⊑ b ++ d
meets a b c d h k = ⊑_meet (a ++ c) b d (⊑_trans (a ++ c) a b (meet_⊑_left a c) h) (⊑_trans (a ++ c) c d (meet_⊑_right a c) k)

-- the lifetimes of a tuple of four, as the logic lists them
abbrev pub four : Lft → Lft → Lft → Lft → Lft
four a b c d = (a ++ (b ++ (c ++ (d ++ [])))) ++ (a ++ (b ++ (c ++ (d ++ []))))

pub four_live : (a b c d p q r s : Lft) → a ⊑ p → b ⊑ q → c ⊑ r → d ⊑ s → four a b c d ⊑ four p q r s
four_live a b c d p q r s h i j k =
    let w = meets d s [] [] k (⊑_refl []) in
    let x = meets c r _ _ j w in
    let y = meets b q _ _ i x in
    let z = meets a p _ _ h y in
    meets _ _ _ _ z z

-- so they do beside others
pub beside_live : (k a b : Lft) → a ⊑ b → k ++ a ⊑ b
beside_live k a b h = ⊑_trans (k ++ a) a b (meet_⊑_right k a) h
