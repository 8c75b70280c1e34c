-- Two data types side by side keep the laws if each does, however the pair of their values is held;
-- and writing the one behind the other gives the bytes of both.
use Rattle.std.specs.Prelude.{◌≡◌, ℕ, ◌+◌, ◌-◌, ◌<◌, Bool, ◌&&◌, List, [], ◌++◌, length, take, drop}
use Rattle.std.proofs.Common.{ap, ap₂, ◌∙◌, append-nil, arith, length-append, length-take, length-drop, take-append-drop, drop_of_length-le}
use borrow.Rule.Slice.PartMut.{put_mid}
use Rattle.std.proofs.lemmas.List.Elements.{All-append, All-take, All-drop}
use Rattle.std.proofs.lemmas.List.{take_at, drop_at}
use Rattle.std.proofs.lemmas.Bool.{and_parts, and_from}
use Rattle.kinds.specs.Laws.{Lawful}

module _ {X Y : Type 0} {m n : ℕ} {f : X → Bool} {h : Y → Bool} {p : X → List ℕ} {q : Y → List ℕ} {r : List ℕ → X} {s : List ℕ → Y} (a : Lawful m f p r) (b : Lawful n h q s) where
  pub beside : Lawful {V = X × Y} (m + n) (λ v. f v.0 && h v.1) (λ v. p v.0 ++ q v.1) (λ bs. (r (take m bs), s (drop m bs)))
  beside = record {
    sized = λ v e. let i = and_parts _ _ e in length-append (p v.0) (q v.1) ∙ ap₂ ◌+◌ (a.sized v.0 i.0) (b.sized v.1 i.1);
    small = λ v e. let i = and_parts _ _ e in All-append (λ d. d < 256) (p v.0) (q v.1) (a.small v.0 i.0) (b.small v.1 i.1);
    back = λ v e.
        let i = and_parts _ _ e in
        let long = a.sized v.0 i.0 in
        ap₂ (λ (x : X) (y : Y). (x, y)) (ap r (take_at (p v.0) (q v.1) m long) ∙ a.back v.0 i.0) (ap s (drop_at (p v.0) (q v.1) m long) ∙ b.back v.1 i.1);
    whole = λ bs long small.
        and_from _ _
        (a.whole (take m bs) (length-take m bs ∙ omega arith) (All-take (λ d. d < 256) m bs small))
        (b.whole (drop m bs) (length-drop m bs ∙ omega arith) (All-drop (λ d. d < 256) m bs small));
    again = λ bs long small.
        ap₂ ◌++◌
        (a.again (take m bs) (length-take m bs ∙ omega arith) (All-take (λ d. d < 256) m bs small))
        (b.again (drop m bs) (length-drop m bs ∙ omega arith) (All-drop (λ d. d < 256) m bs small))
        ∙ take-append-drop m bs;
  }

-- the same values, held otherwise
pub through : {V W : Type 0} {n : ℕ} {f : V → Bool} {p : V → List ℕ} {r : List ℕ → V} (to : W → V) (from : V → W) → ((v : V) → to (from v) ≡ v) → ((w : W) → from (to w) ≡ w) → Lawful n f p r → Lawful n (λ w. f (to w)) (λ w. p (to w)) (λ bs. from (r bs))
through {f = f} {p = p} {r = r} to from there here a = record {
  sized = λ w e. a.sized (to w) e;
  small = λ w e. a.small (to w) e;
  back = λ w e. ap from (a.back (to w) e) ∙ here w;
  whole = λ bs long small. ap f (there (r bs)) ∙ a.whole bs long small;
  again = λ bs long small. ap p (there (r bs)) ∙ a.again bs long small;
}

-- the back of memory is written after its front
pub put_behind : (xs rest ys : List ℕ) (n : ℕ) → length xs ≡ n → put_mid n (length (xs ++ rest) - n) (xs ++ rest) ys ≡ xs ++ ys
put_behind xs rest ys n long =
    let none : drop (length (xs ++ rest) - n) (drop n (xs ++ rest)) ≡ [] = drop_of_length-le (drop n (xs ++ rest)) (simp length-drop (omega arith)) in
    ap₂ (λ (a b : List ℕ). a ++ (ys ++ b)) (take_at xs rest n long) none ∙ ap (λ (b : List ℕ). xs ++ b) (append-nil ys)
