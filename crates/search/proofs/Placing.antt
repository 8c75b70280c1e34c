-- Where items run below, equal, above, the halving finds an equal one, or the place between.
use Rattle.std.proofs.Common.{◌≡◌, ℕ, zero, suc, ◌+◌, ◌-◌, ◌<◌, ◌≤◌, Some, Ok, Err, Option, Result, Ordering, Less, Equal, Greater, sym, refl, ap, subst, inl, inr, arith}
use Rattle.std.proofs.lemmas.Bool.{cases_lt}
use Rattle.search.specs.Orders.{rank}
use Rattle.search.specs.Halving.{middle, turned, halves}
use Rattle.search.specs.Found.{Runs, Found}
use Rattle.search.proofs.Turns.{turn, none_by}

-- ranks tell the answers apart
is_less : (o : Ordering) → rank o ≤ 0 → o ≡ Less
is_less Less h = refl
is_less Equal h = Prim.absurd (omega arith)
is_less Greater h = Prim.absurd (omega arith)

is_greater : (o : Ordering) → 2 ≤ rank o → o ≡ Greater
is_greater Less h = Prim.absurd (omega arith)
is_greater Equal h = Prim.absurd (omega arith)
is_greater Greater h = refl

module _ (f : ℕ → Option Ordering) (g : ℕ → Ordering) (n : ℕ) (there : (i : ℕ) → i < n → f i ≡ Some (g i)) (runs : Runs g n) where
  -- all before l are below, and all from r on are above
  record Around (l r : ℕ) : Type 0 where
    ends : l ≤ r
    within : r ≤ n
    under : (i : ℕ) → i < l → g i ≡ Less
    over : (i : ℕ) → r ≤ i → i < n → g i ≡ Greater

  at_end : (l r : ℕ) → r ≤ l → Around l r → Found g n (Err l)
  at_end l r le a = let e = a.ends in let w = a.within in (omega arith, a.under, λ i p q. a.over i (omega arith) q)

  module _ (k : ℕ) (ih : (l r : ℕ) → r - l ≤ k → Around l r → Found g n (halves f k l r)) (l r : ℕ) (le : r - l ≤ suc k) (lt : l < r) (a : Around l r) where
    placed_turn : (o : Ordering) → g (middle l r) ≡ o → Found g n (turned (Some o) (halves f k l (middle l r)) (Ok (middle l r)) (halves f k (middle l r + 1) r) l)
    placed_turn Less e =
        let w = a.within in
        ih (middle l r + 1) r (omega arith)
        (record { ends = omega arith; within = a.within; under = λ i p. is_less (g i) (omega (arith, runs i (middle l r) (omega arith) (omega arith), ap rank e)); over = a.over })
    placed_turn Equal e = let w = a.within in (omega arith, e)
    placed_turn Greater e =
        let w = a.within in
        ih l (middle l r) (omega arith)
        (record { ends = omega arith; within = omega arith; under = a.under; over = λ i p q. is_greater (g i) (omega (arith, runs (middle l r) i p q, ap rank e)) })

  placed_by : (k l r : ℕ) → r - l ≤ k → Around l r → Found g n (halves f k l r)
  placed_by zero l r le a = at_end l r (omega arith) a
  placed_by (suc k) l r le a =
      elim (cases_lt l r) [
        | inl lt ↦ let w = a.within in subst (Found g n) (sym (turn f n k l r lt (Some (g (middle l r))) (there (middle l r) (omega arith)))) (placed_turn k (placed_by k) l r le lt a (g (middle l r)) refl)
        | inr ge ↦ subst (Found g n) (sym (none_by f n (suc k) l r ge)) (at_end l r ge a)
      ]

  pub placed : (x : Result ℕ ℕ) → x ≡ halves f n 0 n → Found g n x
  placed x e =
      subst (Found g n) (sym e) (placed_by n 0 n (omega arith) (record { ends = omega arith; within = omega arith; under = λ i p. Prim.absurd (omega arith); over = λ i p q. Prim.absurd (omega arith) }))
