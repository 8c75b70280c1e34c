-- Arrays of a kind: items that lie a stride apart.
use Rattle.std.specs.Prelude.{◌≡◌, ℕ, ◌+◌, ◌*◌, ◌≤◌, Bool, cond, not, ◌&&◌, List, [], ◌∷◌, map, take, drop, Some, None, Option, ◌==◌, nat_le, nat_lt}
use Rattle.std.specs.List.{range_with_len}
use Rattle.refusals.specs.declared.refusal.Refusal.TheVariants.{BadEof, BadIndex, BadValue, Overflow, NoSpace}
use Rattle.refusals.specs.Answers.{Answer, due, judged}
use Rattle.opentype.specs.Alignment.{largest}
use Rattle.read.specs.Scopes.{Scope, view, size}
use Rattle.read.specs.Ctxts.{Ctxt, next_scope, take_dues}
use Rattle.arrays.specs.declared.array.ReadArray.{ReadArray}

-- An array as a value: the scope of its bytes, how many items it has, and how far apart they lie.
pub record Array : Type 0 where
  pub scope : Scope
  pub count : ℕ
  pub stride : ℕ

-- The value of an array of the program.
abbrev pub array : {K : Type 0} → ReadArray K → Array
array a = record { scope = view a.scope; count = a.length; stride = a.stride }

-- An item fits its stride, and the strides of all items are the array's bytes. Every call that makes an array promises it.
pub record Whole (width : ℕ) (a : Array) : Type 0 where
  pub within : width ≤ a.stride
  pub long : size a.scope ≡ a.count * a.stride

-- The array of the next n items, a stride apart; whole strides are taken, the last one too.
abbrev pub next_array : Ctxt → ℕ → ℕ → Array
next_array c n stride = record { scope = next_scope c (n * stride); count = n; stride = stride }

-- What `read_array` refuses: Overflow if the items' bytes exceed the largest usize, then BadEof if fewer remain.
abbrev pub array_dues : Ctxt → ℕ → ℕ → List (Bool × ℕ)
array_dues c n stride = due Overflow (nat_lt largest (n * stride)) ∷ take_dues c (n * stride)

-- What `read_array_stride` refuses: BadValue if an item exceeds its stride, then the same.
abbrev pub stride_dues : ℕ → Ctxt → ℕ → ℕ → List (Bool × ℕ)
stride_dues width c n stride = due BadValue (nat_lt stride width) ∷ array_dues c n stride

-- The bytes of item i.
abbrev pub item_bytes : ℕ → Array → ℕ → List ℕ
item_bytes width a i = take width (drop (i * a.stride) a.scope.slice.bytes)

-- Whether the array's bytes reach to the end of item i. (In a whole array they do, of every item that it has.)
abbrev pub reaches : ℕ → Array → ℕ → Bool
reaches width a i = nat_le (i * a.stride + width) (size a.scope)

-- Item i, if there is one.
abbrev pub item : {V : Type 0} → ℕ → (List ℕ → V) → Array → ℕ → Option V
item width value a i = cond (nat_lt i a.count && reaches width a i) (Some (value (item_bytes width a i))) None

-- What asking for an index refuses: BadIndex at or past the count.
abbrev pub index_dues : Array → ℕ → List (Bool × ℕ)
index_dues a i = due BadIndex (nat_le a.count i) ∷ []

-- What `read_item` answers of any array: BadIndex at or past the count, then BadEof if the bytes do not reach (never in a whole array), else item i.
abbrev pub read_item_of : {V : Type 0} → ℕ → (List ℕ → V) → Array → ℕ → Answer V
read_item_of width value a i =
    judged (due BadIndex (nat_le a.count i) ∷ due BadEof (not (reaches width a i)) ∷ []) (value (item_bytes width a i))

-- All items, in order.
abbrev pub items : {V : Type 0} → ℕ → (List ℕ → V) → Array → List V
items width value a = map (λ i. value (item_bytes width a i)) (range_with_len 0 a.count)

-- Whether an array is whole.
abbrev pub is_whole : ℕ → Array → Bool
is_whole width a = nat_le width a.stride && size a.scope == a.count * a.stride

-- What copying the items to memory for n of them refuses: NoSpace if there are more.
abbrev pub space_dues : Array → ℕ → List (Bool × ℕ)
space_dues a n = due NoSpace (nat_lt n a.count) ∷ []

-- The same of any array: then BadEof if it is not whole.
abbrev pub copy_dues : ℕ → Array → ℕ → List (Bool × ℕ)
copy_dues width a n = due NoSpace (nat_lt n a.count) ∷ due BadEof (not (is_whole width a)) ∷ []
