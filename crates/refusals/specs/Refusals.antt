-- The refusals, each with its number and its word. A new refusal is one line in each definition here.
use Rattle.std.specs.Prelude.{ℕ, List, codes}
use Rattle.refusals.specs.declared.refusal.Refusal.{Refusal}
use Rattle.refusals.specs.declared.refusal.Refusal.TheVariants.{BadEof, BadOffset, BadIndex, BadValue, BadVersion, PlaceholderMismatch, Overflow, NoSpace, NoPlace, RegisterFull, Unfilled}

-- The number of each refusal.
abbrev pub number_of : Refusal → ℕ
number_of BadEof = 1
number_of BadOffset = 2
number_of BadIndex = 3
number_of BadValue = 4
number_of BadVersion = 5
number_of PlaceholderMismatch = 6
number_of Overflow = 7
number_of NoSpace = 8
number_of NoPlace = 9
number_of RegisterFull = 10
number_of Unfilled = 11

-- The word of each refusal, as ASCII bytes.
abbrev pub word_of : Refusal → List ℕ
word_of BadEof = codes "BadEof"
word_of BadOffset = codes "BadOffset"
word_of BadIndex = codes "BadIndex"
word_of BadValue = codes "BadValue"
word_of BadVersion = codes "BadVersion"
word_of PlaceholderMismatch = codes "PlaceholderMismatch"
word_of Overflow = codes "Overflow"
word_of NoSpace = codes "NoSpace"
word_of NoPlace = codes "NoPlace"
word_of RegisterFull = codes "RegisterFull"
word_of Unfilled = codes "Unfilled"
