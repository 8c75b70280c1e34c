-- Scopes: a part of the font's bytes, and how far from its start that part lies.
use Rattle.std.specs.Prelude.{ℕ, ◌+◌, ◌-◌, ◌≤◌, min, Bool, ◌&&◌, List, [], ◌∷◌, length, take, drop, nat_le, nat_lt}
use Rattle.std.specs.Borrow.{Bor}
use Rattle.refusals.specs.declared.refusal.Refusal.TheVariants.{BadEof, BadOffset, Overflow}
use Rattle.refusals.specs.Answers.{due}
use Rattle.opentype.specs.Alignment.{largest}
use Rattle.read.specs.declared.scope.ReadScope.{ReadScope}

-- A slice as a value: the block of memory and the place in it of its first byte, and its bytes. So two equal slices are the same bytes of the same memory.
pub record Slice : Type 0 where
  pub block : ℕ
  pub place : ℕ
  pub bytes : List ℕ

-- What a reference to bytes refers to.
abbrev pub slice : Bor (List ℕ) → Slice
slice r = record { block = r.ref_ptr.0; place = r.ref_ptr.1; bytes = r.now }

-- The n bytes of a slice from o on; past its end, none.
abbrev pub part : Slice → ℕ → ℕ → Slice
part s o n = record { block = s.block; place = s.place + min o (length s.bytes); bytes = take n (drop o s.bytes) }

-- A scope as a value: its base and its data.
pub record Scope : Type 0 where
  pub base : ℕ
  pub slice : Slice

-- The value of a scope of the program.
abbrev pub view : ReadScope → Scope
view s = record { base = s.base; slice = slice s.«data» }

-- How many bytes a scope has.
abbrev pub size : Scope → ℕ
size s = length s.slice.bytes

-- How far from the font's start a scope may reach.
abbrev pub reach : ℕ
reach = largest

-- A scope reaches no further than it may. Every call that makes a scope promises it.
abbrev pub Sound : Scope → Type 0
Sound s = s.base + size s ≤ reach

-- The scope of all the bytes of a slice.
abbrev pub scope_over : Slice → Scope
scope_over s = record { base = 0; slice = s }

-- The scope from o on, of n bytes.
abbrev pub scope_at : Scope → ℕ → ℕ → Scope
scope_at s o n = record { base = s.base + o; slice = part s.slice o n }

-- What `offset` refuses: Overflow if the new base passes the reach.
abbrev pub offset_dues : Scope → ℕ → List (Bool × ℕ)
offset_dues s o = due Overflow (nat_lt reach (s.base + o)) ∷ []

-- What `offset_length` refuses: BadOffset if bytes are wanted from the end on, BadEof if fewer follow than are wanted, Overflow if the new base passes the reach.
abbrev pub offset_length_dues : Scope → ℕ → ℕ → List (Bool × ℕ)
offset_length_dues s o n =
    due BadOffset (nat_lt 0 n && nat_le (size s) o) ∷ due BadEof (nat_lt (size s - o) n) ∷ due Overflow (nat_lt reach (s.base + o)) ∷ []
