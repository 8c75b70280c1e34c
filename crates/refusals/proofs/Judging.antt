-- What an answer tells of the refusal that was judged before it.
use Rattle.std.proofs.Common.{◌≡◌, ℕ, Bool, true, false, [], ◌∷◌, refl, arith}
use Rattle.refusals.specs.Answers.{gives, judged, after}

-- a value is given only if the refusal is not due
pub gave : {X : Type 0} (b : Bool) (n : ℕ) (x y : X) → gives x ≡ judged ((b, n) ∷ []) y → (b ≡ false) × (x ≡ y)
gave true n x y e = let z : ◌≡◌ {A = ℕ} 0 1 = cc in Prim.absurd (omega arith)
gave false n x y e = (refl, cc)

-- and then what it leaves is the new state
pub went : {S : Type 0} (b : Bool) (n : ℕ) (old new : S) → b ≡ false → after ((b, n) ∷ []) old new ≡ new
went b n old new e = rw e refl

-- the same of two refusals
pub gave_two : {X : Type 0} (a b : Bool) (m n : ℕ) (x y : X) → gives x ≡ judged ((a, m) ∷ (b, n) ∷ []) y → (b ≡ false) × (x ≡ y)
gave_two true b m n x y e = let z : ◌≡◌ {A = ℕ} 0 1 = cc in Prim.absurd (omega arith)
gave_two false b m n x y e = gave b n x y e
