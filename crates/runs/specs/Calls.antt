-- The calls of a writer, and its log: the calls with their answers, the refused ones too.
use Rattle.std.specs.Prelude.{◌≡◌, ℕ, Bool, true, List, length}
use base.Stored.{Gv, Coded}
use Rattle.refusals.specs.Answers.{Answer}
use Rattle.kinds.specs.declared.kind.Kind.{Ghosts}
use Rattle.register.specs.declared.register.Tally.{Tally}

-- A value as its kind sees it, so that one log can hold values of every kind.
pub record Item : Type 0 where
  -- how many bytes the kind takes
  pub width : ℕ
  -- whether the value fits
  pub fits : Bool
  -- its bytes
  pub bytes : List ℕ
  -- the value, by its code; each call that logs one promises that the code is one to one at its host type
  pub value : Gv
  -- what the kind reads from bytes, by the same code
  pub reads : List ℕ → Gv

-- The value v as a kind sees it.
abbrev pub item : {K V : Type 0} → Ghosts K V → Coded V → V → Item
item k c v = record { width = k.width; fits = k.fitting v; bytes = k.bytes v; value = c.code v; reads = λ bs. c.code (k.value bs) }

-- The kind's laws, at this value: if it fits it has `width` bytes, and they are read as the value.
pub record Kept (e : Item) : Type 0 where
  pub sized : e.fits ≡ true → length e.bytes ≡ e.width
  pub back : e.fits ≡ true → e.reads e.bytes ≡ e.value

-- What is joined on to what was written.
pub data Piece : Type 0 where
  -- `write`: a value
  value : Item → Piece
  -- `write_array`: the kind's size, whether the array is whole, and its items
  items : ℕ → Bool → List Item → Piece
  -- `write_bytes`: data
  bytes : List ℕ → Piece
  -- `write_zeros`: so many zeros
  zeros : ℕ → Piece

-- What takes places.
pub data Taking : Type 0 where
  -- `placeholder`: the kind's size
  placeholder : ℕ → Taking
  -- `placeholder_array`: the kind's size, and how many places
  placeholder_array : ℕ → ℕ → Taking
  -- `reserve`: the place's length
  reserve : ℕ → Taking

-- What names a place.
pub data Target : Type 0 where
  -- a Placeholder: its number and length
  token : ℕ → ℕ → Target
  -- an item of a run: the run's first number and count, and the index
  run_item : ℕ → ℕ → ℕ → Target

-- A call with what it was given.
pub data Call : Type 0 where
  adds : Piece → Call
  takes : Taking → Call
  -- `write_placeholder`
  fills : Target → Item → Call
  -- `write_placeholder_dep`: a Placeholder's number and length, and the scope's bytes
  fills_dep : ℕ → ℕ → List ℕ → Call
  abandons : Target → Call
  finishes : Call
  tallies : Call

-- What an accepted call gives.
pub data Given : Type 0 where
  nothing : Given
  -- a Placeholder: its number and length
  place : ℕ → ℕ → Given
  -- a run: its first number and count
  run : ℕ → ℕ → Given
  -- how many bytes were written
  written : ℕ → Given
  tally : Tally → Given

-- A call and its answer.
pub record Entry : Type 0 where
  pub call : Call
  pub answer : Answer Given

-- The log of a writer, the latest call last.
pub data Log : Type 0 where
  none : Log
  then : Log → Entry → Log
