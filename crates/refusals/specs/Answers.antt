-- How a call answers. Every contract that can refuse is written with these words: a list of refusals
-- with their conditions, in the order in which the call judges them, and what it gives if none is due.
use Rattle.std.specs.Prelude.{ℕ, Bool, cond, List, [], ◌∷◌, Ok, Err, Result}
use Rattle.refusals.specs.declared.refusal.Refusal.{Refusal}
use Rattle.refusals.specs.Refusals.{number_of}

-- An answer as a value: what was given, or the number of the refusal.
pub data Answer (X : Type 0) : Type 0 where
  gives : X → Answer X
  refuses : ℕ → Answer X

-- What a result says: the value in it as `f` sees it, or the number of the refusal in it.
abbrev pub told : {T X : Type 0} → (T → X) → Result T Refusal → Answer X
told f (Ok t) = gives (f t)
told f (Err e) = refuses (number_of e)

-- One refusal of a call's list: its condition, and its number.
abbrev pub due : Refusal → Bool → Bool × ℕ
due e c = (c, number_of e)

-- The answer of a call that judges these refusals: the first that is due, else x.
abbrev pub judged : {X : Type 0} → List (Bool × ℕ) → X → Answer X
judged [] x = gives x
judged (d ∷ ds) x = cond d.0 (refuses d.1) (judged ds x)

-- What such a call leaves: `old`, untouched, if a refusal of the list is due, else `new`.
abbrev pub after : {S : Type 0} → List (Bool × ℕ) → S → S → S
after [] old new = new
after (d ∷ ds) old new = cond d.0 old (after ds old new)
