-- Straight writing: what a log would have written if every place had been known when it was taken.
use Rattle.std.specs.Prelude.{ℕ, zero, suc, ◌-◌, cond, List, [], ◌∷◌, ◌++◌, length, replicate}
use Rattle.refusals.specs.Answers.{Answer}
use Rattle.runs.specs.Calls.{Item, Piece, value, items, bytes, zeros, Call, adds, takes, fills, fills_dep, abandons, finishes, tallies, Given, Log, none, then}
use Rattle.runs.specs.Counts.{count_of, width_of, number, accepted, spoiling}

-- What became of a place: it waits, holds a value, keeps a scope's bytes, or was lost.
pub data Fate : Type 0 where
  waiting : Fate
  holds : Item → Fate
  keeps : List ℕ → Fate
  lost : Fate

-- A part of what was written: a piece joined on, or a place of so many bytes with its fate.
pub data Part : Type 0 where
  piece : Piece → Part
  hole : ℕ → Fate → Part

-- The bytes of items, one right after the other.
abbrev pub all_bytes : List Item → List ℕ
all_bytes [] = []
all_bytes (e ∷ es) = e.bytes ++ all_bytes es

-- The bytes that a piece joins on.
abbrev pub piece_bytes : Piece → List ℕ
piece_bytes (value e) = e.bytes
piece_bytes (items w whole es) = all_bytes es
piece_bytes (bytes d) = d
piece_bytes (zeros n) = replicate n 0

-- Data, then zeros to the length k.
abbrev pub padded : ℕ → List ℕ → List ℕ
padded k d = d ++ replicate (k - length d) 0

-- The bytes of a place of length k: what it was filled with, then zeros; zeros alone if it was not filled.
abbrev pub hole_bytes : ℕ → Fate → List ℕ
hole_bytes k waiting = replicate k 0
hole_bytes k (holds e) = padded k e.bytes
hole_bytes k (keeps d) = padded k d
hole_bytes k lost = replicate k 0

-- The bytes of a part.
abbrev pub part_bytes : Part → List ℕ
part_bytes (piece p) = piece_bytes p
part_bytes (hole k f) = hole_bytes k f

-- The bytes of parts, one right after the other.
abbrev pub flat : List Part → List ℕ
flat [] = []
flat (p ∷ ps) = part_bytes p ++ flat ps

-- The parts, of which place n has a new fate.
abbrev pub fated : List Part → ℕ → Fate → List Part
fated [] n f = []
fated (piece p ∷ ps) n f = piece p ∷ fated ps n f
fated (hole k g ∷ ps) zero f = hole k f ∷ ps
fated (hole k g ∷ ps) (suc n) f = hole k g ∷ fated ps n f

-- What a call so answered makes of the parts: if accepted, a piece or new places are joined on, and a place is filled; a place is lost by an accepted abandon or a fill that spoils it; all else changes nothing.
abbrev pub next_parts : List Part → Call → Answer Given → List Part
next_parts ps (adds p) a = cond (accepted a) (ps ++ piece p ∷ []) ps
next_parts ps (takes t) a = cond (accepted a) (ps ++ replicate (count_of t) (hole (width_of t) waiting)) ps
next_parts ps (fills t e) a = cond (accepted a) (fated ps (number t) (holds e)) (cond (spoiling a) (fated ps (number t) lost) ps)
next_parts ps (fills_dep n k d) a = cond (accepted a) (fated ps n (keeps d)) (cond (spoiling a) (fated ps n lost) ps)
next_parts ps (abandons t) a = cond (accepted a) (fated ps (number t) lost) ps
next_parts ps finishes a = ps
next_parts ps tallies a = ps

-- The parts of a log, in the order in which they were joined on, each place where it was taken.
abbrev pub parts : Log → List Part
parts none = []
parts (then log e) = next_parts (parts log) e.call e.answer

-- The straight string of a log: the string that there was at the start, and behind it the bytes of the log's parts.
abbrev pub straight : List ℕ → Log → List ℕ
straight start log = start ++ flat (parts log)
