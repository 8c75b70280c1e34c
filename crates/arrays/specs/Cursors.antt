-- Cursors: an array, and the range of its items that are still to come.
use Rattle.std.specs.Prelude.{◌≡◌, ℕ, Bool, true, IfSome, ◌+◌, ◌-◌, cond, List, is_some, Some, None, Option, Result, nat_lt}
use Rattle.refusals.specs.declared.refusal.Refusal.{Refusal}
use Rattle.refusals.specs.Answers.{Answer, told}
use Rattle.arrays.specs.Arrays.{Array, array, item, read_item_of}
use Rattle.arrays.specs.declared.cursor.ReadArrayIter.{ReadArrayIter}
use Rattle.arrays.specs.declared.cursor.ReadArrayResIter.{ReadArrayResIter}

-- A cursor as a value: items from `index` on and before `end` are still to come, and both ends share that range.
pub record Cursor : Type 0 where
  pub array : Array
  pub index : ℕ
  pub end : ℕ

-- The value of a cursor of the program.
abbrev pub cursor : {K : Type 0} → ReadArrayIter K → Cursor
cursor c = record { array = array c.array; index = c.index; end = c.end }

-- The cursor over all items.
abbrev pub over : Array → Cursor
over a = record { array = a; index = 0; end = a.count }

-- How many items are still to come.
abbrev pub remaining : Cursor → ℕ
remaining c = c.end - c.index

module _ {V : Type 0} (width : ℕ) (value : List ℕ → V) (c : Cursor) where
  -- the first item still to come, if there is one
  abbrev pub first_item : Option V
  first_item = cond (nat_lt c.index c.end) (item width value c.array c.index) None

  -- the cursor once it was given
  abbrev pub past_first : Cursor
  past_first = cond (is_some first_item) (record { array = c.array; index = c.index + 1; end = c.end }) c

  -- the last item still to come, if there is one
  abbrev pub last_item : Option V
  last_item = cond (nat_lt c.index c.end) (item width value c.array (c.end - 1)) None

  -- the cursor once it was given
  abbrev pub past_last : Cursor
  past_last = cond (is_some last_item) (record { array = c.array; index = c.index; end = c.end - 1 }) c

  -- A step from the front: its answer is the first item, which fits, and it leaves the cursor past it.
  pub record FirstTaken (fitting : V → Bool) (r : Option V) (d : Cursor) : Type 0 where
    pub answer : r ≡ first_item
    pub after : d ≡ past_first
    pub fit : IfSome r (λ v. fitting v ≡ true)

  -- A step from the back: its answer is the last item, which fits, and it leaves the cursor before it.
  pub record LastTaken (fitting : V → Bool) (r : Option V) (d : Cursor) : Type 0 where
    pub answer : r ≡ last_item
    pub after : d ≡ past_last
    pub fit : IfSome r (λ v. fitting v ≡ true)

-- The cursor of `iter_res` goes forward only: all items from `index` on are still to come.
abbrev pub forward : {K : Type 0} → ReadArrayResIter K → Cursor
forward c = record { array = array c.array; index = c.index; end = c.array.length }

-- What such a cursor gives, as answers.
abbrev pub told_next : {V : Type 0} → Option (Result V Refusal) → Option (Answer V)
told_next (Some r) = Some (told (λ v. v) r)
told_next None = None

module _ {V : Type 0} (width : ℕ) (value : List ℕ → V) (c : Cursor) where
  -- what `read_item` answers for the first item still to come, if there is one
  abbrev pub first_answer : Option (Answer V)
  first_answer = cond (nat_lt c.index c.end) (Some (read_item_of width value c.array c.index)) None

  -- the cursor once it was given
  abbrev pub past_answer : Cursor
  past_answer = cond (nat_lt c.index c.end) (record { array = c.array; index = c.index + 1; end = c.end }) c

  -- A step forward: its answer is that of the first item, and it leaves the cursor past it.
  pub record AnswerTaken (r : Option (Result V Refusal)) (d : Cursor) : Type 0 where
    pub answer : told_next r ≡ first_answer
    pub after : d ≡ past_answer
