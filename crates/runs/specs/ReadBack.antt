-- Reading back, part by part, by the definitions in the contracts of the reading calls.
use Rattle.std.specs.Prelude.{◌≡◌, ℕ, zero, suc, ◌*◌, List, [], ◌∷◌, length, replicate, Some}
use Rattle.refusals.specs.Answers.{gives, judged, after}
use Rattle.read.specs.Ctxts.{Ctxt, left, next, next_slice, take_dues, moved}
use Rattle.arrays.specs.Arrays.{next_array, array_dues, item}
use Rattle.runs.specs.Calls.{Item, value, items, bytes, zeros}
use Rattle.runs.specs.Straight.{waiting, holds, keeps, lost, Part, piece, hole, padded}

-- `read` of the item's kind gives its value.
abbrev pub ReadsValue : Ctxt → Item → Type 0
ReadsValue c e = judged (take_dues c e.width) (e.reads (next c e.width)) ≡ gives e.value

-- `read_slice` gives just these bytes.
abbrev pub ReadsSlice : Ctxt → List ℕ → Type 0
ReadsSlice c d = judged (take_dues c (length d)) (next_slice c (length d)).bytes ≡ gives d

-- e is item i of a list.
abbrev pub ItemAt : List Item → ℕ → Item → Type 0
ItemAt [] i e = ⊥
ItemAt (d ∷ es) zero e = d ≡ e
ItemAt (d ∷ es) (suc i) e = ItemAt es i e

-- `read_array` gives an array, and its `get_item` the value of each item.
pub record ReadsArray (c : Ctxt) (w : ℕ) (es : List Item) : Type 0 where
  pub array : judged (array_dues c (length es) w) (next_array c (length es) w) ≡ gives (next_array c (length es) w)
  pub each : (i : ℕ) (e : Item) → ItemAt es i e → item w e.reads (next_array c (length es) w) i ≡ Some e.value

-- Reading the parts from a context on, each by the kind that wrote it or else as a slice, gives what was put there, and no byte is left. A place that was not filled has no reading.
abbrev pub Reads : Ctxt → List Part → Type 0
Reads c [] = left c ≡ 0
Reads c (piece (value e) ∷ ps) = ReadsValue c e × Reads (after (take_dues c e.width) c (moved c e.width)) ps
Reads c (piece (items w whole es) ∷ ps) = ReadsArray c w es × Reads (after (array_dues c (length es) w) c (moved c (length es * w))) ps
Reads c (piece (bytes d) ∷ ps) = ReadsSlice c d × Reads (after (take_dues c (length d)) c (moved c (length d))) ps
Reads c (piece (zeros n) ∷ ps) = ReadsSlice c (replicate n 0) × Reads (after (take_dues c (length (replicate {A = ℕ} n 0))) c (moved c (length (replicate {A = ℕ} n 0)))) ps
Reads c (hole k waiting ∷ ps) = ⊥
Reads c (hole k (holds e) ∷ ps) = (e.width ≡ k) × ReadsValue c e × Reads (after (take_dues c e.width) c (moved c e.width)) ps
Reads c (hole k (keeps d) ∷ ps) = ReadsSlice c (padded k d) × Reads (after (take_dues c (length (padded k d))) c (moved c (length (padded k d)))) ps
Reads c (hole k lost ∷ ps) = ⊥
