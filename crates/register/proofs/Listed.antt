-- The rows taken are a front of the array of rows; and the rows of places that follow one another.
use Rattle.std.proofs.Common.{◌≡◌, ℕ, zero, suc, ◌+◌, ◌*◌, List, [], ◌∷◌, ◌++◌, length, refl, ap, suc-mul, add-one, append_assoc, arith}
use Rattle.std.proofs.lemmas.List.{get_or-take, length-append}
use Rattle.std.proofs.Math.Seq.{take-set-lt}
use Rattle.register.specs.declared.register.Row.{Row}
use Rattle.register.specs.Rows.{opened, in_a_row}

-- k places are k rows
pub length-in_a_row : (k n at : ℕ) → length (in_a_row at n k) ≡ k
length-in_a_row zero n at = refl
length-in_a_row (suc k) n at = ap suc (length-in_a_row k n (at + n))

-- one place more is one row more at the end
pub in_a_row_push : (k n at : ℕ) → in_a_row at n (suc k) ≡ in_a_row at n k ++ opened (at + k * n) n ∷ []
in_a_row_push zero n at = grind arith
in_a_row_push (suc k) n at = grind (arith, suc-mul k n, in_a_row_push k n (at + n))

-- the same behind other rows
pub append-in_a_row_push : (rs : List Row) (k n at : ℕ) → rs ++ in_a_row at n (k + 1) ≡ rs ++ in_a_row at n k ++ opened (at + k * n) n ∷ []
append-in_a_row_push rs k n at = rw (add-one, in_a_row_push, append_assoc)

-- what is read and changed at the front of a list
pub ruleset front = (get_or-take, take-set-lt)

-- how many rows there are behind k places more, and one more at their end
pub ruleset joined = (length-append, length-in_a_row, append-in_a_row_push)
