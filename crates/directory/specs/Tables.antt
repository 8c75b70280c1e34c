-- A font's table directory as OpenType lays it out: a header of 12 bytes, and then 16 bytes for each table.
use Rattle.std.specs.Prelude.{◌≡◌, ℕ, ◌+◌, ◌*◌, ◌<◌, ◌≤◌, cond, ◌&&◌, List, take, drop, Some, None, Option, nat_lt}
use Rattle.opentype.specs.Numbers.{number_of}
use Rattle.read.specs.Scopes.{Slice, scope_over}
use Rattle.read.specs.Ctxts.{start, moved}
use Rattle.arrays.specs.Arrays.{Array, next_array, reaches, item_bytes}
use Rattle.directory.specs.declared.tables.Header.{Header}
use Rattle.directory.specs.declared.tables.TableRecord.{TableRecord}

-- The number in the n bytes from o on.
abbrev pub field : List ℕ → ℕ → ℕ → ℕ
field font o n = number_of (take n (drop o font))

-- The header's first two fields: sfntVersion, and numTables.
abbrev pub header : List ℕ → Header
header font = record { version = field font 0 4; count = field font 4 2 }

-- How many tables the header announces.
abbrev pub count : List ℕ → ℕ
count font = (header font).count

-- How many bytes the header and its records take.
abbrev pub extent : List ℕ → ℕ
extent font = 12 + count font * 16

-- What the sixteen bytes of a record say: four fields of four bytes each.
abbrev pub record_of : List ℕ → TableRecord
record_of bs = record { tag = field bs 0 4; checksum = field bs 4 4; offset = field bs 8 4; length = field bs 12 4 }

-- The record of table i.
abbrev pub table : List ℕ → ℕ → TableRecord
table font i = record_of (take 16 (drop (12 + i * 16) font))

-- The records as an array: so many items of 16 bytes, from byte 12 on.
abbrev pub records : Slice → Array
records font = next_array (moved (start (scope_over font)) 12) (count font.bytes) 16

-- What an array of records says of table i.
abbrev pub table_at : Array → ℕ → Option TableRecord
table_at a i = cond (nat_lt i a.count && reaches 16 a i) (Some (record_of (item_bytes 16 a i))) None

-- The same of a whole array, which has every record that it counts.
abbrev pub table_in : Array → ℕ → TableRecord
table_in a i = record_of (item_bytes 16 a i)

-- A step over the tables of an array from number i on: table i and the next number, or none past the last.
abbrev pub TableGiven : Array → ℕ → Option TableRecord → ℕ → Type 0
TableGiven a i (Some t) next = (i < a.count) × (t ≡ table_in a i) × (next ≡ i + 1)
TableGiven a i None next = a.count ≤ i
