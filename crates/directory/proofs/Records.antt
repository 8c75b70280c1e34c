-- Where the records lie in the font, and so what their lines say.
use Rattle.std.proofs.Common.{◌≡◌, ℕ, zero, suc, ◌+◌, ◌-◌, ◌*◌, ◌<◌, ◌≤◌, Bool, cond, ltb, List, [], ◌∷◌, ◌++◌, length, take, drop, sym, refl, ap, ◌∙◌, ap₂, arith, add-one, take-take, drop-drop}
use Rattle.std.proofs.lemmas.List.{drop-take}
use Rattle.refusals.specs.declared.refusal.Refusal.TheVariants.{BadEof}
use Rattle.refusals.specs.Answers.{gives, due, judged}
use Rattle.refusals.proofs.Judging.{gave}
use Rattle.read.specs.Scopes.{Slice}
use Rattle.arrays.specs.Arrays.{Array}
use Rattle.directory.specs.declared.tables.Header.{Header}
use Rattle.directory.specs.declared.tables.TableRecord.{TableRecord}
use Rattle.directory.specs.Tables.{header, count, extent, record_of, table, records, table_in}
use Rattle.directory.specs.Listing.{table_line_of, lines_of, header_line_of, directory_text_of, refusal_line_of, listing_of}

-- a record lies as far into the records as the records lie into the font
record_inside : (bs : List ℕ) (i n : ℕ) → i < n → take 16 (drop (i * 16) (take (n * 16) (drop 12 bs))) ≡ take 16 (drop (12 + i * 16) bs)
record_inside bs i n lt =
    let m : n * 16 ≡ i * 16 + (16 + (n - i - 1) * 16) = omega arith in
    ap (λ (k : ℕ). take 16 (drop (i * 16) (take k (drop 12 bs)))) m
    ∙ ap (take 16) (drop-take (i * 16) (16 + (n - i - 1) * 16) (drop 12 bs))
    ∙ take-take 16 (16 + (n - i - 1) * 16) (drop (i * 16) (drop 12 bs)) (omega arith)
    ∙ ap (take 16) (drop-drop (i * 16) 12 bs)

-- the lines of one more table
pub lines_more : (t : ℕ → TableRecord) (i : ℕ) → lines_of t (i + 1) ≡ lines_of t i ++ table_line_of (t i)
lines_more t i = ap (lines_of t) (add-one i)

module _ (s : Slice) where
  -- the lines of the first n records are those of the font's first n tables
  lines_same : (n : ℕ) → n ≤ count s.bytes → lines_of (table_in (records s)) n ≡ lines_of (table s.bytes) n
  lines_same zero h = refl
  lines_same (suc n) h =
      ap₂ (λ (l : List ℕ) (t : TableRecord). l ++ table_line_of t) (lines_same n (omega arith)) (ap record_of (record_inside s.bytes n (count s.bytes) (omega arith)))

  -- the text of the records is that of the font
  pub text_same : (h : Header) (a : Array) → gives h ≡ judged (due BadEof (ltb (length s.bytes) (extent s.bytes)) ∷ []) (header s.bytes) → a ≡ records s → directory_text_of h a ≡ listing_of s.bytes
  text_same h a e f =
      let g = gave _ 1 _ _ e in
      ap₂ directory_text_of g.1 f
      ∙ ap (λ (l : List ℕ). header_line_of (header s.bytes) ++ l) (lines_same (count s.bytes) (omega arith))
      ∙ sym (ap (λ (b : Bool). cond b (refusal_line_of BadEof) (header_line_of (header s.bytes) ++ lines_of (table s.bytes) (count s.bytes))) g.0)
