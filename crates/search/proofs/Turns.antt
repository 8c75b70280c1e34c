-- The turns of the search: what is left at each comes to what the whole comes to.
use Rattle.std.proofs.Common.{◌≡◌, ℕ, zero, suc, ◌+◌, ◌-◌, ◌<◌, ◌≤◌, Bool, List, cond, Some, None, Ok, Err, Option, Ordering, Less, Equal, Greater, sym, refl, ap, ◌∙◌, arith, le-ltb, lt-ltb}
use Rattle.arrays.specs.Arrays.{Array, item}
use Rattle.search.specs.Halving.{said, asked, middle, turned, halves}

-- the items from l on and before r are left, with turns enough, and what comes of them is what comes of all n
pub record Left (f : ℕ → Option Ordering) (n l r : ℕ) : Type 0 where
  pub turns : ℕ
  pub enough : r - l ≤ turns
  pub same : halves f turns l r ≡ halves f n 0 n

module _ (f : ℕ → Option Ordering) (n : ℕ) where
  pub begin : Left f n 0 n
  begin = record { turns = n; enough = omega arith; same = refl }

  pub none_by : (k l r : ℕ) → r ≤ l → halves f k l r ≡ Err l
  none_by zero l r le = refl
  none_by (suc k) l r le = ap (λ (b : Bool). cond b (turned (f (middle l r)) (halves f k l (middle l r)) (Ok (middle l r)) (halves f k (middle l r + 1) r) l) (Err l)) (le-ltb l r le)

  pub none_left : (l r : ℕ) → Left f n l r → r ≤ l → Err l ≡ halves f n 0 n
  none_left l r h le = sym (none_by h.turns l r le) ∙ h.same

  pub turn : (k l r : ℕ) → l < r → (o : Option Ordering) → f (middle l r) ≡ o → halves f (suc k) l r ≡ turned o (halves f k l (middle l r)) (Ok (middle l r)) (halves f k (middle l r + 1) r) l
  turn k l r lt o e =
      ap (λ (b : Bool). cond b (turned (f (middle l r)) (halves f k l (middle l r)) (Ok (middle l r)) (halves f k (middle l r + 1) r) l) (Err l)) (lt-ltb l r lt)
      ∙ ap (λ (p : Option Ordering). turned p (halves f k l (middle l r)) (Ok (middle l r)) (halves f k (middle l r + 1) r) l) e

  -- one turn of what is left
  turn_by : (k l r : ℕ) → r - l ≤ k → halves f k l r ≡ halves f n 0 n → l < r → (o : Option Ordering) → f (middle l r) ≡ o → (j : ℕ) × (k ≡ suc j) × (turned o (halves f j l (middle l r)) (Ok (middle l r)) (halves f j (middle l r + 1) r) l ≡ halves f n 0 n)
  turn_by zero l r le same lt o e = Prim.absurd (omega arith)
  turn_by (suc k) l r le same lt o e = (k, refl, sym (turn k l r lt o e) ∙ same)

  module _ (l r : ℕ) (h : Left f n l r) (lt : l < r) where
    turned_at : (o : Option Ordering) → f (middle l r) ≡ o → (j : ℕ) × (h.turns ≡ suc j) × (turned o (halves f j l (middle l r)) (Ok (middle l r)) (halves f j (middle l r + 1) r) l ≡ halves f n 0 n)
    turned_at o e = turn_by h.turns l r h.enough h.same lt o e

    pub found : f (middle l r) ≡ Some Equal → Ok (middle l r) ≡ halves f n 0 n
    found e = (turned_at (Some Equal) e).2

    pub gone : f (middle l r) ≡ None → Err l ≡ halves f n 0 n
    gone e = (turned_at None e).2

    pub above : f (middle l r) ≡ Some Less → {l' r' : ℕ} → l' ≡ middle l r + 1 → r' ≡ r → Left f n l' r'
    above e {l'} {r'} p q =
        let t = turned_at (Some Less) e in
        let s = t.1 in
        let enough = h.enough in
        record { turns = t.0; enough = omega arith; same = ap (λ (x : ℕ). halves f t.0 x r') p ∙ ap (halves f t.0 (middle l r + 1)) q ∙ t.2 }

    pub below : f (middle l r) ≡ Some Greater → {l' r' : ℕ} → l' ≡ l → r' ≡ middle l r → Left f n l' r'
    below e {l'} {r'} p q =
        let t = turned_at (Some Greater) e in
        let s = t.1 in
        let enough = h.enough in
        record { turns = t.0; enough = omega arith; same = ap (λ (x : ℕ). halves f t.0 x r') p ∙ ap (halves f t.0 l) q ∙ t.2 }

-- one turn of the search in an array, by what the probe says of the middle item
module _ {V : Type 0} (width : ℕ) (value : List ℕ → V) (answers : V → Ordering) (a : Array) {l r : ℕ} (h : Left (asked width value answers a) a.count l r) (lt : l < r) where
  pub no_middle : None ≡ item width value a (middle l r) → Err l ≡ halves (asked width value answers a) a.count 0 a.count
  no_middle e = gone (asked width value answers a) a.count l r h lt (ap (said answers) (sym e))

  module _ (v : V) (there : Some v ≡ item width value a (middle l r)) (o : Ordering) (says : o ≡ answers v) where
    told : asked width value answers a (middle l r) ≡ Some o
    told = ap (said answers) (sym there) ∙ ap (λ (x : Ordering). Some x) (sym says)

    pub middle_less : o ≡ Less → Left (asked width value answers a) a.count (middle l r + 1) r
    middle_less e = above (asked width value answers a) a.count l r h lt (told ∙ ap (λ (x : Ordering). Some x) e) refl refl

    pub middle_greater : o ≡ Greater → Left (asked width value answers a) a.count l (middle l r)
    middle_greater e = below (asked width value answers a) a.count l r h lt (told ∙ ap (λ (x : Ordering). Some x) e) refl refl

    pub middle_equal : o ≡ Equal → Ok (middle l r) ≡ halves (asked width value answers a) a.count 0 a.count
    middle_equal e = found (asked width value answers a) a.count l r h lt (told ∙ ap (λ (x : Ordering). Some x) e)
