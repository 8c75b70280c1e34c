-- The text of a list of bytes grows by the text of one more byte.
use Rattle.std.proofs.Common.{◌≡◌, ℕ, ◌+◌, ◌<◌, List, [], ◌∷◌, ◌++◌, length, get_or, take, sym, refl, ap, ◌∙◌, append_assoc, append-nil}
use Rattle.std.proofs.lemmas.List.{take_more}
use Rattle.text.specs.Hexadecimal.{each}

pub each_append : (f : ℕ → List ℕ) (xs ys : List ℕ) → each f (xs ++ ys) ≡ each f xs ++ each f ys
each_append f [] ys = refl
each_append f (x ∷ xs) ys = ap (λ (t : List ℕ). f x ++ t) (each_append f xs ys) ∙ sym (append_assoc (f x) (each f xs) (each f ys))

pub each_more : (f : ℕ → List ℕ) (bs : List ℕ) (i : ℕ) → i < length bs → each f (take (i + 1) bs) ≡ each f (take i bs) ++ f (get_or bs i 0)
each_more f bs i h =
    ap (each f) (take_more bs i 0 h)
    ∙ each_append f (take i bs) (get_or bs i 0 ∷ [])
    ∙ ap (λ (t : List ℕ). each f (take i bs) ++ t) (append-nil (f (get_or bs i 0)))

-- two characters pushed, one after the other
pub two_pushes : (a b c : List ℕ) (x y : ℕ) → b ≡ a ++ (x ∷ []) → c ≡ b ++ (y ∷ []) → c ≡ a ++ (x ∷ y ∷ [])
two_pushes a b c x y p q = q ∙ ap (λ (t : List ℕ). t ++ (y ∷ [])) p ∙ append_assoc a (x ∷ []) (y ∷ [])
