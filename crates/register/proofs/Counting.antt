-- How many rows are in a state: as a count of those that pass a test, and of rows joined, changed and taken together.
use Rattle.std.proofs.Common.{◌≡◌, ℕ, zero, suc, ◌+◌, ◌<◌, ◌==◌, cond, List, [], ◌∷◌, ◌++◌, length, get_or, take, set, refl, ap, ◌∙◌, arith}
use Rattle.std.specs.List.{count_by}
use Rattle.std.proofs.lemmas.List.{length-append, take_more}
use Rattle.std.proofs.lemmas.List.Sums.{sum_by-cons}
use Rattle.register.specs.declared.register.State.{State}
use Rattle.register.specs.declared.register.State.TheVariants.{Open, Filled, Spoiled}
use Rattle.register.specs.declared.register.Row.{Row}
use Rattle.register.specs.Rows.{opened, row, tallied, one_more, is_open, is_filled, is_spoiled, state_count, counted}

-- the rows that pass the test of a state are as many as that state counts
pub count_by-counted : (s : State) (rs : List Row) → count_by (λ r. counted s r.state == 1) rs ≡ state_count (counted s) rs
count_by-counted s [] = refl
count_by-counted s (r ∷ rs) = sum_by-cons _ r rs ∙ (λ i. one s r.state i + count_by-counted s rs i)
  where
    one : (s t : State) → cond (counted s t == 1) 1 0 ≡ counted s t
    one Open Open = refl
    one Open Filled = refl
    one Open Spoiled = refl
    one Filled Open = refl
    one Filled Filled = refl
    one Filled Spoiled = refl
    one Spoiled Open = refl
    one Spoiled Filled = refl
    one Spoiled Spoiled = refl

-- rows joined count together
pub state_count-append : (f : State → ℕ) (rs qs : List Row) → state_count f (rs ++ qs) ≡ state_count f rs + state_count f qs
state_count-append f [] qs = omega arith
state_count-append f (r ∷ rs) qs = let h = state_count-append f rs qs in omega arith

-- one row more counts one more, or none
pub state_count_push : (f : State → ℕ) (rs : List Row) (r : Row) → state_count f (rs ++ r ∷ []) ≡ state_count f rs + f r.state
state_count_push f rs r = let h = state_count-append f rs (r ∷ []) in omega arith

-- a row that is changed counts by its new state in place of the old
pub state_count-set : (f : State → ℕ) (rs : List Row) (n : ℕ) (r : Row) → n < length rs → state_count f (set rs n r) + f (row rs n).state ≡ state_count f rs + f r.state
state_count-set f [] n r h = absurd (let z : ⊥ = omega arith in z)
state_count-set f (q ∷ rs) zero r h = omega arith
state_count-set f (q ∷ rs) (suc n) r h = let k = state_count-set f rs n r (omega arith) in omega arith

-- each row is filled, spoiled or open
pub state_count_all : (rs : List Row) → length rs ≡ state_count is_filled rs + (state_count is_spoiled rs + state_count is_open rs)
state_count_all [] = refl
state_count_all (r ∷ rs) = let h = state_count_all rs in let o = one r.state in omega arith
  where
    one : (s : State) → is_filled s + (is_spoiled s + is_open s) ≡ 1
    one Open = refl
    one Filled = refl
    one Spoiled = refl

-- the rows up to one more are tallied with it
pub tallied_more : (rs : List Row) (i : ℕ) → i < length rs → tallied (take (i + 1) rs) ≡ one_more (tallied (take i rs)) (get_or rs i (opened 0 0)).state
tallied_more rs i h =
    let r = get_or rs i (opened 0 0) in
    let one : length (take i rs ++ r ∷ []) ≡ length (take i rs) + 1 = simp length-append refl in
    ap tallied (take_more rs i (opened 0 0) h)
    ∙ (λ j. record { taken = one j; filled = state_count_push is_filled (take i rs) r j; spoiled = state_count_push is_spoiled (take i rs) r j; «open» = state_count_push is_open (take i rs) r j })
