-- Contexts for reading: a scope and a position in it.
use Rattle.std.specs.Prelude.{ℕ, ◌+◌, ◌-◌, ◌≤◌, min, Bool, List, [], ◌∷◌, take, drop, nat_lt}
use Rattle.refusals.specs.declared.refusal.Refusal.TheVariants.{BadEof}
use Rattle.refusals.specs.Answers.{due}
use Rattle.read.specs.declared.scope.ctxt.ReadCtxt.{ReadCtxt}
use Rattle.read.specs.Scopes as Scopes
use Rattle.read.specs.Scopes.{Slice, Scope, view, part, size, reach}

-- A context as a value: its scope, and how many of its bytes have been read.
pub record Ctxt : Type 0 where
  pub scope : Scope
  pub position : ℕ

-- The value of a context of the program.
abbrev pub state : ReadCtxt → Ctxt
state c = record { scope = view c.scope; position = c.offset }

-- The scope is sound, and the position lies within its data. Every call that makes or moves a context promises it.
pub record Sound (c : Ctxt) : Type 0 where
  pub scope : Scopes.Sound c.scope
  pub within : c.position ≤ size c.scope

-- The context at the start of a scope.
abbrev pub start : Scope → Ctxt
start s = record { scope = s; position = 0 }

-- How many bytes remain.
abbrev pub left : Ctxt → ℕ
left c = size c.scope - c.position

-- The next n bytes.
abbrev pub next : Ctxt → ℕ → List ℕ
next c n = take n (drop c.position c.scope.slice.bytes)

-- The same bytes as a slice.
abbrev pub next_slice : Ctxt → ℕ → Slice
next_slice ctxt n = part ctxt.scope.slice ctxt.position n

-- The same bytes as a scope. (A sound context's position never takes the base past the reach.)
abbrev pub next_scope : Ctxt → ℕ → Scope
next_scope c n = record { base = min (c.scope.base + c.position) reach; slice = next_slice c n }

-- What taking n bytes refuses: BadEof if fewer remain.
abbrev pub take_dues : Ctxt → ℕ → List (Bool × ℕ)
take_dues c n = due BadEof (nat_lt (left c) n) ∷ []

-- The context n bytes on.
abbrev pub moved : Ctxt → ℕ → Ctxt
moved c n = record { scope = c.scope; position = c.position + n }
