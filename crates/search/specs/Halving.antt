-- The binary search, for every array and every probe: it looks at the middle of what is left, and goes on in one half.
use Rattle.std.specs.Prelude.{ℕ, zero, suc, ◌+◌, ◌-◌, ◌/◌, cond, List, Some, None, Ok, Err, Option, Result, nat_lt}
use Rattle.std.specs.declared.cmp.Ordering.TheVariants.{Less, Equal, Greater}
use Rattle.std.specs.declared.cmp.Ordering.{Ordering}
use Rattle.arrays.specs.Arrays.{Array, item}

-- What a probe says of an item, if there is one.
abbrev pub said : {V : Type 0} → (V → Ordering) → Option V → Option Ordering
said answers (Some v) = Some (answers v)
said answers None = None

-- What it says of item i of an array.
abbrev pub asked : {V : Type 0} → ℕ → (List ℕ → V) → (V → Ordering) → Array → ℕ → Option Ordering
asked width value answers a i = said answers (item width value a i)

-- The middle of the items from l on and before r.
abbrev pub middle : ℕ → ℕ → ℕ
middle l r = l + (r - l) / 2

-- By what is said of the middle: it is found, or the search goes on above or below it. (A whole array has every item.)
abbrev pub turned : Option Ordering → (below found above : Result ℕ ℕ) → ℕ → Result ℕ ℕ
turned (Some Less) below found above l = above
turned (Some Equal) below found above l = found
turned (Some Greater) below found above l = below
turned None below found above l = Err l

-- The search among the items from l on and before r, in at most n turns: an equal item's index, or the place where one would go in.
abbrev pub halves : (ℕ → Option Ordering) → ℕ → ℕ → ℕ → Result ℕ ℕ
halves f zero l r = Err l
halves f (suc n) l r =
    cond (nat_lt l r) (turned (f (middle l r)) (halves f n l (middle l r)) (Ok (middle l r)) (halves f n (middle l r + 1) r) l) (Err l)
