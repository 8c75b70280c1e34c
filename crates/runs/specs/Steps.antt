-- What each call of a writer does: its answer, and what it leaves. Exact for every writer, over any context.
use Rattle.std.specs.Prelude.{◌≡◌, ℕ, ◌+◌, ◌*◌, Bool, true, false, not, ◌&&◌, List, [], ◌∷◌, ◌++◌, length, replicate, ◌==◌, nat_le, nat_lt}
use Rattle.refusals.specs.declared.refusal.Refusal.TheVariants.{BadEof, BadIndex, BadValue, PlaceholderMismatch, Overflow, NoSpace, NoPlace, RegisterFull, Unfilled}
use Rattle.refusals.specs.Answers.{Answer, gives, refuses, due, judged}
use Rattle.opentype.specs.Alignment.{largest}
use Rattle.context.specs.Contexts.{Context, Grown, Overlaid, Unchanged}
use Rattle.register.specs.declared.register.State.TheVariants.{Filled, Spoiled}
use Rattle.register.specs.declared.register.Row.{Row}
use Rattle.register.specs.Rows.{row, waits, turn, lacking, in_a_row, tallied, state_count, is_filled}
use Rattle.runs.specs.Calls.{Item, Piece, value, items, bytes, zeros, Taking, placeholder, placeholder_array, reserve, Target, token, run_item, Call, adds, takes, fills, fills_dep, abandons, finishes, tallies, Given, nothing, place, run, written, tally}
use Rattle.runs.specs.Counts.{count_of, width_of, number, spoils_place}
use Rattle.runs.specs.Straight.{piece_bytes}

-- What a writer holds: a context, and the rows of the places taken.
pub record Held (C : Type 0) : Type 0 where
  pub context : C
  pub rows : List Row

-- Whether the place of number n is open and k bytes long.
abbrev pub open_of_length : List Row → ℕ → ℕ → Bool
open_of_length rs n k = waits rs n && (row rs n).length == k

-- What naming a place refuses: of a run, BadIndex if the index is at or past the count, then NoPlace if the number exceeds 255.
abbrev pub target_dues : Target → List (Bool × ℕ)
target_dues (token n k) = []
target_dues (run_item first count i) = due BadIndex (nat_le count i) ∷ due NoPlace (nat_lt 255 (first + i)) ∷ []

-- What filling a place with a value refuses: what naming it refuses, NoPlace unless it is open and as long as the kind's size, then BadValue if the value does not fit.
abbrev pub fill_dues : List Row → Target → Item → List (Bool × ℕ)
fill_dues rs t e = target_dues t ++ due NoPlace (not (open_of_length rs (number t) e.width)) ∷ due BadValue (not e.fits) ∷ []

-- What filling a place with a scope refuses: NoPlace unless it is open and as long as the Placeholder says, then PlaceholderMismatch if the scope is longer.
abbrev pub fill_dep_dues : List Row → ℕ → ℕ → List ℕ → List (Bool × ℕ)
fill_dep_dues rs n k d = due NoPlace (not (open_of_length rs n k)) ∷ due PlaceholderMismatch (nat_lt k (length d)) ∷ []

-- What abandoning a place refuses: what naming it refuses, then NoPlace unless it is open.
abbrev pub abandon_dues : List Row → Target → List (Bool × ℕ)
abandon_dues rs t = target_dues t ++ due NoPlace (not (waits rs (number t))) ∷ []

-- What finishing refuses: Unfilled unless every place is filled.
abbrev pub finish_dues : List Row → List (Bool × ℕ)
finish_dues rs = due Unfilled (not (state_count is_filled rs == length rs)) ∷ []

-- What joining a piece on refuses, given the space. (An array that a call made is whole, so BadEof is never due there.)
abbrev pub piece_dues : ℕ → Piece → List (Bool × ℕ)
piece_dues space (value e) = due BadValue (not e.fits) ∷ due NoSpace (nat_lt space e.width) ∷ []
piece_dues space (items w whole es) = due NoSpace (nat_lt space (length es * w)) ∷ due BadEof (not whole) ∷ []
piece_dues space (bytes d) = due NoSpace (nat_lt space (length d)) ∷ []
piece_dues space (zeros n) = due NoSpace (nat_lt space n) ∷ []

-- What taking places refuses, given the rows and the space: RegisterFull if there would be too many, then NoSpace; of several, Overflow first if their bytes exceed the largest usize.
abbrev pub taking_dues : List Row → ℕ → Taking → List (Bool × ℕ)
taking_dues rs space (placeholder w) = due RegisterFull (lacking rs 1) ∷ due NoSpace (nat_lt space w) ∷ []
taking_dues rs space (placeholder_array w k) = due Overflow (nat_lt largest (k * w)) ∷ due RegisterFull (lacking rs k) ∷ due NoSpace (nat_lt space (k * w)) ∷ []
taking_dues rs space (reserve n) = due RegisterFull (lacking rs 1) ∷ due NoSpace (nat_lt space n) ∷ []

-- What an accepted taking gives: the number of the first place, and a Placeholder's length or a run's count.
abbrev pub taking_gives : List Row → Taking → Given
taking_gives rs (placeholder w) = place (length rs) w
taking_gives rs (placeholder_array w k) = run (length rs) k
taking_gives rs (reserve n) = place (length rs) n

module _ {C : Type 0} (x : Context C) where
  -- Neither context nor register changed.
  pub record Still (w v : Held C) : Type 0 where
    pub context : Unchanged x w.context v.context
    pub rows : v.rows ≡ w.rows

  -- Bytes and rows were joined on.
  pub record Joined (w : Held C) (put : List ℕ) (more : List Row) (v : Held C) : Type 0 where
    pub context : Grown x w.context put v.context
    pub rows : v.rows ≡ w.rows ++ more

  -- Bytes were laid at the start of place n, and it is filled.
  pub record Put (w : Held C) (n : ℕ) (put : List ℕ) (v : Held C) : Type 0 where
    pub context : Overlaid x w.context (row w.rows n).offset put v.context
    pub rows : v.rows ≡ turn Filled w.rows n

  -- The context did not change, and place n is spoiled.
  pub record Spoilt (w : Held C) (n : ℕ) (v : Held C) : Type 0 where
    pub context : Unchanged x w.context v.context
    pub rows : v.rows ≡ turn Spoiled w.rows n

  -- Whether data laid at the start of place n would pass the written end. (In no run of a writer it does.)
  abbrev pub passes : Held C → ℕ → List ℕ → Bool
  passes w n d = nat_lt (x.written w.context) ((row w.rows n).offset + length d)

  -- What a call refuses.
  abbrev pub dues : Held C → Call → List (Bool × ℕ)
  dues w (adds p) = piece_dues (x.space w.context) p
  dues w (takes t) = taking_dues w.rows (x.space w.context) t
  dues w (fills t e) = fill_dues w.rows t e ++ due PlaceholderMismatch (passes w (number t) e.bytes) ∷ []
  dues w (fills_dep n k d) = fill_dep_dues w.rows n k d ++ due PlaceholderMismatch (passes w n d) ∷ []
  dues w (abandons t) = abandon_dues w.rows t
  dues w finishes = finish_dues w.rows
  dues w tallies = []

  -- What it gives if it is accepted.
  abbrev pub given : Held C → Call → Given
  given w (adds p) = nothing
  given w (takes t) = taking_gives w.rows t
  given w (fills t e) = nothing
  given w (fills_dep n k d) = nothing
  given w (abandons t) = nothing
  given w finishes = written (x.written w.context)
  given w tallies = tally (tallied w.rows)

  -- What an accepted call leaves.
  abbrev pub Done : Held C → Call → Held C → Type 0
  Done w (adds p) v = Joined w (piece_bytes p) [] v
  Done w (takes t) v = Joined w (replicate (count_of t * width_of t) 0) (in_a_row (x.written w.context) (width_of t) (count_of t)) v
  Done w (fills t e) v = Put w (number t) e.bytes v
  Done w (fills_dep n k d) v = Put w n d v
  Done w (abandons t) v = Spoilt w (number t) v
  Done w finishes v = Still w v
  Done w tallies v = Still w v

  -- What a refused call leaves: all, but a fill that spoils its place.
  abbrev pub Undone : Held C → Call → Bool → Held C → Type 0
  Undone w (adds p) s v = Still w v
  Undone w (takes t) s v = Still w v
  Undone w (fills t e) true v = Spoilt w (number t) v
  Undone w (fills t e) false v = Still w v
  Undone w (fills_dep n k d) true v = Spoilt w n v
  Undone w (fills_dep n k d) false v = Still w v
  Undone w (abandons t) s v = Still w v
  Undone w finishes s v = Still w v
  Undone w tallies s v = Still w v

  -- What a call so answered leaves.
  abbrev pub Left : Held C → Call → Answer Given → Held C → Type 0
  Left w c (gives g) v = Done w c v
  Left w c (refuses n) v = Undone w c (spoils_place n) v

  -- A call goes by the rules: it answers what its list says, and leaves what that answer leaves.
  pub record Step (w : Held C) (c : Call) (a : Answer Given) (v : Held C) : Type 0 where
    pub answer : a ≡ judged (dues w c) (given w c)
    pub left : Left w c a v
