-- What a search finds in an array whose items run in order. It says nothing of how the search goes.
use Rattle.std.specs.Prelude.{◌≡◌, ℕ, ◌<◌, ◌≤◌, List, Ok, Err, Result}
use Rattle.std.specs.declared.cmp.Ordering.TheVariants.{Less, Equal, Greater}
use Rattle.std.specs.declared.cmp.Ordering.{Ordering}
use Rattle.arrays.specs.Arrays.{Array, item_bytes}
use Rattle.search.specs.Orders.{rank}

-- What a probe says of item i of a whole array.
abbrev pub said_of : {V : Type 0} → ℕ → (List ℕ → V) → (V → Ordering) → Array → ℕ → Ordering
said_of width value answers a i = answers (value (item_bytes width a i))

-- The n items run below, then equal, then above; `g i` is what the probe says of item i.
abbrev pub Runs : (ℕ → Ordering) → ℕ → Type 0
Runs g n = (i j : ℕ) → i ≤ j → j < n → rank (g i) ≤ rank (g j)

-- The answer is an equal item's index; or, if no item is equal, the place where one would go in: all before it are below, all from it on above.
abbrev pub Found : (ℕ → Ordering) → ℕ → Result ℕ ℕ → Type 0
Found g n (Ok i) = (i < n) × (g i ≡ Equal)
Found g n (Err p) = (p ≤ n) × ((i : ℕ) → i < p → g i ≡ Less) × ((i : ℕ) → p ≤ i → i < n → g i ≡ Greater)
