-- The table directory as text.
use Rattle.std.specs.Prelude.{ℕ, zero, suc, Bool, cond, ◌&&◌, List, [], ◌∷◌, ◌++◌, length, Some, None, codes, decimal, Option, nat_le, nat_lt}
use Rattle.refusals.specs.declared.refusal.Refusal.{Refusal}
use Rattle.refusals.specs.declared.refusal.Refusal.TheVariants.{BadEof}
use Rattle.refusals.specs.Refusals.{number_of, word_of}
use Rattle.opentype.specs.Numbers.{big_endian}
use Rattle.read.specs.Scopes.{Slice}
use Rattle.arrays.specs.Arrays.{Array}
use Rattle.text.specs.Hexadecimal.{hex_byte, each, hex}
use Rattle.directory.specs.declared.tables.Header.{Header}
use Rattle.directory.specs.declared.tables.TableRecord.{TableRecord}
use Rattle.directory.specs.Tables.{header, count, extent, table, records, table_at, table_in}
use Rattle.directory.specs.Tags.{tag_search, tag_number}

-- Whether a byte of a tag stands for itself: from 0x20 to 0x7E.
abbrev pub printable : ℕ → Bool
printable b = nat_le 0x20 b && nat_le b 0x7E

-- A byte of a tag: as itself, or as \x and two hexadecimal digits.
abbrev pub tag_byte : ℕ → List ℕ
tag_byte b = cond (printable b) (b ∷ []) (codes "\\x" ++ hex_byte b)

-- A tag's four bytes as text.
unfoldable pub tag_text_of : ℕ → List ℕ
tag_text_of tag = each tag_byte (big_endian 4 tag)

-- A number of 32 bits in eight hexadecimal digits.
unfoldable pub hex_number_of : ℕ → List ℕ
hex_number_of v = hex (big_endian 4 v)

-- A table as text: its tag, its checksum in eight hexadecimal digits, its offset and its length in decimal.
abbrev pub table_text_of : TableRecord → List ℕ
table_text_of t =
    tag_text_of t.tag ++ (codes " " ++ (hex_number_of t.checksum ++ (codes " " ++ (decimal t.offset ++ (codes " " ++ decimal t.length)))))

-- The line of a table.
abbrev pub table_line_of : TableRecord → List ℕ
table_line_of t = table_text_of t ++ codes "\n"

-- The lines of tables, of which `t i` is the record of table i: the first n.
abbrev pub lines_of : (ℕ → TableRecord) → ℕ → List ℕ
lines_of t zero = []
lines_of t (suc n) = lines_of t n ++ table_line_of (t n)

-- A header as text: the version in eight hexadecimal digits, and how many tables there are.
abbrev pub header_text_of : Header → List ℕ
header_text_of h = codes "0x" ++ (hex_number_of h.version ++ (codes " " ++ (decimal h.count ++ codes " tables")))

-- The first line.
abbrev pub header_line_of : Header → List ℕ
header_line_of h = header_text_of h ++ codes "\n"

-- A directory as text: the line of its header, and one for each record.
abbrev pub directory_text_of : Header → Array → List ℕ
directory_text_of h a = header_line_of h ++ lines_of (table_in a) a.count

-- The line of a refusal.
abbrev pub refusal_line_of : Refusal → List ℕ
refusal_line_of e = codes "refused " ++ (word_of e ++ (codes " " ++ (decimal (number_of e) ++ codes "\n")))

-- The whole text: one line for a font that is shorter than its directory, else the header's line and one for each table.
abbrev pub listing_of : List ℕ → List ℕ
listing_of font = cond (nat_lt (length font) (extent font)) (refusal_line_of BadEof) (header_line_of (header font) ++ lines_of (table font) (count font))

-- The line of a table that was found, or `none`.
abbrev pub line_for_found : Option TableRecord → List ℕ
line_for_found (Some t) = table_line_of t
line_for_found None = codes "none\n"

-- What the records say of the table that the search for a tag comes to; nothing if there is no such tag.
abbrev pub table_found : Array → Option ℕ → Option TableRecord
table_found a (Some i) = table_at a i
table_found a None = None

-- The same from a tag, if the text was one.
abbrev pub table_tagged_in : Array → Option ℕ → Option TableRecord
table_tagged_in a (Some tag) = table_found a (tag_search a tag)
table_tagged_in a None = None

-- The text for a tag: one line for a font that is shorter than its directory, else that table's line, or `none`.
abbrev pub named_of : Slice → List ℕ → List ℕ
named_of font text =
    cond (nat_lt (length font.bytes) (extent font.bytes)) (refusal_line_of BadEof) (line_for_found (table_tagged_in (records font) (tag_number text)))
