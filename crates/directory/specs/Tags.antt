-- Finding a table by its tag, among records whose tags ascend.
use Rattle.std.specs.Prelude.{◌≡◌, ℕ, ◌<◌, ◌≤◌, cond, List, [], ◌∷◌, length, take, drop, pos, Some, None, Ok, Err, Option, Result, ◌≢◌, nat_lt, slice_index}
use Rattle.std.specs.declared.cmp.Ordering.{Ordering}
use Rattle.opentype.specs.Numbers.{number_of}
use Rattle.arrays.specs.Arrays.{Array, item_bytes}
use Rattle.search.specs.Orders.{order}
use Rattle.search.specs.Halving.{asked, halves}

-- The four numbers of a record, as the tuple kind reads them.
abbrev pub four_fields : List ℕ → ℕ × ℕ × ℕ × ℕ
four_fields bs = (number_of (take 4 bs), number_of (take 4 (drop 4 bs)), number_of (take 4 (drop 4 (drop 4 bs))), number_of (drop 4 (drop 4 (drop 4 bs))))

-- How a record's tag stands to the one that is looked for.
abbrev pub by_tag : ℕ → ℕ × ℕ × ℕ × ℕ → Ordering
by_tag tag v = order (pos v.0) (pos tag)

-- The index that was found.
abbrev pub index_of : Result ℕ ℕ → Option ℕ
index_of (Ok i) = Some i
index_of (Err p) = None

-- What the search for a tag comes to, in any array of records.
abbrev pub tag_search : Array → ℕ → Option ℕ
tag_search a tag = index_of (halves (asked 16 four_fields (by_tag tag) a) a.count 0 a.count)

-- The tag of record i.
abbrev pub tag_in : Array → ℕ → ℕ
tag_in a i = number_of (take 4 (item_bytes 16 a i))

-- The records' tags ascend.
abbrev pub Ascending : Array → Type 0
Ascending a = (i j : ℕ) → i ≤ j → j < a.count → tag_in a i ≤ tag_in a j

-- The answer is the index of a record with that tag; or none has it.
abbrev pub TagFound : Array → ℕ → Option ℕ → Type 0
TagFound a tag (Some i) = (i < a.count) × (tag_in a i ≡ tag)
TagFound a tag None = (i : ℕ) → i < a.count → tag_in a i ≢ tag

-- Byte i of a tag that is given as text: a space where the text has ended.
abbrev pub tag_byte_of : List ℕ → ℕ → ℕ
tag_byte_of text i = cond (nat_lt i (length text)) (slice_index text i) 0x20

-- A tag that is given as text of at most four bytes, as a number; a longer text is none.
abbrev pub tag_number : List ℕ → Option ℕ
tag_number text =
    cond (nat_lt 4 (length text)) None (Some (number_of (tag_byte_of text 0 ∷ tag_byte_of text 1 ∷ tag_byte_of text 2 ∷ tag_byte_of text 3 ∷ [])))
