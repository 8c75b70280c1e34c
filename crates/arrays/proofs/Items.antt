-- A whole array has each of its items, a cursor gives them in order, and a loop copies them.
use Rattle.std.proofs.Common.{◌≡◌, ℕ, suc, ◌+◌, ◌*◌, ◌<◌, ◌≤◌, Bool, true, false, cond, List, [], ◌∷◌, ◌++◌, map, length, get_or, drop, set, Some, None, sym, ap, ◌∙◌, ap₂, append_assoc, mul-le-mul_right, suc-mul, zero-add, add-one, arith, drop-cons, lt-ltb, ltb-true, ltb-false, is_some, Option, refl, subst, eqb-true, nat_lt, le-leb, leb-true}
use Rattle.std.proofs.lemmas.List.{set_at}
use Rattle.std.proofs.lemmas.Bool.{and_parts, and_from}
use Rattle.std.proofs.lemmas.List.FromFn.{map-range_with_len_more, length-map-range_with_len}
use Rattle.std.specs.List.{range_with_len}
use Rattle.read.specs.Scopes.{size}
use Rattle.arrays.specs.Arrays.{Array, Whole, item, item_bytes, is_whole}
use Rattle.arrays.specs.Cursors.{Cursor, FirstTaken}

-- the test for a whole array tells that it is one
pub whole_from : (width : ℕ) (a : Array) → is_whole width a ≡ true → Whole width a
whole_from width a h = let p = and_parts _ _ h in record { within = leb-true _ _ p.0; long = eqb-true _ _ p.1 }

-- an item before the end lies within the bytes
pub item_within : (width : ℕ) (a : Array) (i : ℕ) → Whole width a → i < a.count → i * a.stride + width ≤ size a.scope
item_within width a i w lt =
    let more : suc i * a.stride ≤ a.count * a.stride = mul-le-mul_right a.stride lt in
    let step : suc i * a.stride ≡ i * a.stride + a.stride = suc-mul i a.stride in
    let within = w.within in
    let long = w.long in
    omega arith

-- a whole array has each of its items
pub whole_item : {V : Type 0} (width : ℕ) (value : List ℕ → V) (a : Array) (i : ℕ) → Whole width a → i < a.count → item width value a i ≡ Some (value (item_bytes width a i))
whole_item {V} width value a i w lt =
    ap (λ (b : Bool). cond b (Some (value (item_bytes width a i))) None) (and_from _ _ (lt-ltb _ _ lt) (le-leb _ _ (item_within width a i w lt)))

-- one more item at the front of memory
pub copy_more : {V : Type 0} (f : ℕ → V) (out : List V) (i : ℕ) → i < length out → set (map f (range_with_len 0 i) ++ drop i out) i (f i) ≡ map f (range_with_len 0 (i + 1)) ++ drop (i + 1) out
copy_more {V} f out i h =
    let front = map f (range_with_len 0 i) in
    ap (λ (t : List V). set (front ++ t) i (f i)) (drop-cons out i (f i) h)
    ∙ set_at front (get_or out i (f i)) (drop (suc i) out) (f i) i (length-map-range_with_len f 0 i)
    ∙ sym (append_assoc front (f i ∷ []) (drop (suc i) out))
    ∙ ap₂ (λ (t : List V) (k : ℕ). t ++ drop k out) (sym (map-range_with_len_more f 0 i i (zero-add i))) (sym (add-one i))

-- the cursor over an array that has given i items from the front
abbrev pub given : Array → ℕ → Cursor
given a i = record { array = a; index = i; end = a.count }

module _ {V : Type 0} (width : ℕ) (value : List ℕ → V) (fitting : V → Bool) (a : Array) (i : ℕ) (w : Whole width a) (d : Cursor) where
  at_an_item : (b : Bool) (v : V) → nat_lt i a.count ≡ b → Some v ≡ cond b (item width value a i) None → (i < a.count) × (v ≡ value (item_bytes width a i))
  at_an_item true v h e = let lt = ltb-true _ _ h in let there = whole_item width value a i w lt in (lt, cc)
  at_an_item false v h e = let z : ◌≡◌ {A = ℕ} 0 1 = cc in Prim.absurd (omega arith)

  at_the_end : (b : Bool) → nat_lt i a.count ≡ b → ◌≡◌ {A = Option V} None (cond b (item width value a i) None) → a.count ≤ i
  at_the_end true h e = let there = whole_item width value a i w (ltb-true _ _ h) in let z : ◌≡◌ {A = ℕ} 0 1 = cc in Prim.absurd (omega arith)
  at_the_end false h e = ltb-false _ _ h

  -- over a whole array it gives item i, and goes on with the next ..
  pub item_given : (v : V) (c : Cursor) → c ≡ given a i → FirstTaken width value c fitting (Some v) d → (i < a.count) × (v ≡ value (item_bytes width a i)) × (d ≡ given a (i + 1))
  item_given v c e t =
      let s = subst (λ c. FirstTaken width value c fitting (Some v) d) e t in
      let there = at_an_item (nat_lt i a.count) v refl s.answer in
      (there.0, there.1, s.after ∙ ap (λ (o : Option V). cond (is_some o) (given a (i + 1)) (given a i)) (sym s.answer))

  -- .. and none only when all were given
  pub none_given : (c : Cursor) → c ≡ given a i → FirstTaken width value c fitting None d → a.count ≤ i
  none_given c e t = at_the_end (nat_lt i a.count) refl (subst (λ c. FirstTaken width value c fitting None d) e t).answer
