-- The register of places, as the list of the rows taken; a place's number is its index there.
use Rattle.std.specs.Prelude.{ℕ, zero, suc, ◌+◌, ◌*◌, Bool, true, false, cond, ◌&&◌, ◌||◌, List, [], ◌∷◌, ◌++◌, length, Some, None, Option, nat_lt, slice_index_or, slice_set}
use Rattle.opentype.specs.Alignment.{largest}
use Rattle.register.specs.declared.register.State.{State}
use Rattle.register.specs.declared.register.State.TheVariants.{Open, Filled, Spoiled}
use Rattle.register.specs.declared.register.Event.{Event}
use Rattle.register.specs.declared.register.Event.TheVariants.{Fill, Refuse, Abandon}
use Rattle.register.specs.declared.register.Row.{Row}
use Rattle.register.specs.declared.register.Tally.{Tally}

-- How many places may be taken.
abbrev pub capacity : ℕ
capacity = 256

-- An open row of n bytes from `at` on.
abbrev pub opened : ℕ → ℕ → Row
opened at n = record { offset = at; length = n; state = Open }

-- The row in another state.
abbrev pub turned : State → Row → Row
turned s r = record { offset = r.offset; length = r.length; state = s }

-- What an event makes of a state: an open place is filled, or it is spoiled by a refused fill or an abandon; any other stays.
abbrev pub goes : Event → State → State
goes Fill Open = Filled
goes Refuse Open = Spoiled
goes Abandon Open = Spoiled
goes Fill Filled = Filled
goes Refuse Filled = Filled
goes Abandon Filled = Filled
goes Fill Spoiled = Spoiled
goes Refuse Spoiled = Spoiled
goes Abandon Spoiled = Spoiled

-- What an event makes of a row.
abbrev pub stepped : Event → Row → Row
stepped e r = turned (goes e r.state) r

-- Whether a state is open.
abbrev pub open? : State → Bool
open? Open = true
open? Filled = false
open? Spoiled = false

-- The row of number n. (Past the rows taken there is none, and an empty open one is named in its place.)
abbrev pub row : List Row → ℕ → Row
row rs n = slice_index_or rs n (opened 0 0)

-- Whether the row of number n was taken and is open.
abbrev pub waits : List Row → ℕ → Bool
waits rs n = nat_lt n (length rs) && open? (row rs n).state

-- The row of number n, if it is open.
abbrev pub open_at : List Row → ℕ → Option Row
open_at rs n = cond (waits rs n) (Some (row rs n)) None

-- The rows with that of number n turned to a state.
abbrev pub turn : State → List Row → ℕ → List Row
turn s rs n = slice_set rs n (turned s (row rs n))

-- The rows with that of number n as the event makes it.
abbrev pub struck : Event → List Row → ℕ → List Row
struck e rs n = slice_set rs n (stepped e (row rs n))

-- Whether k rows more would be too many.
abbrev pub lacking : List Row → ℕ → Bool
lacking rs k = nat_lt capacity (length rs + k)

-- k open rows of n bytes, one right after the other.
abbrev pub in_a_row : ℕ → ℕ → ℕ → List Row
in_a_row at n zero = []
in_a_row at n (suc k) = opened at n ∷ in_a_row (at + n) n k

-- The rows with k more, if that is not too many and their bytes end within the largest usize.
abbrev pub added : List Row → ℕ → ℕ → ℕ → List Row
added rs at n k = cond (lacking rs k || nat_lt largest (at + k * n)) rs (rs ++ in_a_row at n k)

-- 1 for an open state.
abbrev pub is_open : State → ℕ
is_open Open = 1
is_open Filled = 0
is_open Spoiled = 0

-- 1 for a filled state.
abbrev pub is_filled : State → ℕ
is_filled Open = 0
is_filled Filled = 1
is_filled Spoiled = 0

-- 1 for a spoiled state.
abbrev pub is_spoiled : State → ℕ
is_spoiled Open = 0
is_spoiled Filled = 0
is_spoiled Spoiled = 1

-- What counts 1 for that state.
abbrev pub counted : State → State → ℕ
counted Open = is_open
counted Filled = is_filled
counted Spoiled = is_spoiled

-- How many rows are in the states that f counts.
abbrev pub state_count : (State → ℕ) → List Row → ℕ
state_count f [] = 0
state_count f (r ∷ rs) = f r.state + state_count f rs

-- How many rows there are, and how many of them are filled, spoiled and open.
abbrev pub tallied : List Row → Tally
tallied rs = record { taken = length rs; filled = state_count is_filled rs; spoiled = state_count is_spoiled rs; «open» = state_count is_open rs }

-- The tally of one row more, in that state.
abbrev pub one_more : Tally → State → Tally
one_more t s = record { taken = t.taken + 1; filled = t.filled + is_filled s; spoiled = t.spoiled + is_spoiled s; «open» = t.«open» + is_open s }
