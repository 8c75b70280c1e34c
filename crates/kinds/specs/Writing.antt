-- Writing one value to the front of memory.
use Rattle.std.specs.Prelude.{ℕ, Bool, not, List, [], ◌∷◌, ◌++◌, length, drop, nat_lt}
use Rattle.refusals.specs.declared.refusal.Refusal.TheVariants.{BadValue, NoSpace}
use Rattle.refusals.specs.Answers.{due}

-- What writing a value of `width` bytes refuses: BadValue if it does not fit, then NoSpace if the memory is shorter.
abbrev pub write_dues : ℕ → Bool → List ℕ → List (Bool × ℕ)
write_dues width fits memory = due BadValue (not fits) ∷ due NoSpace (nat_lt (length memory) width) ∷ []

-- Memory whose front is these bytes, and the rest of which is as it was.
abbrev pub fronted : List ℕ → List ℕ → List ℕ
fronted bs memory = bs ++ drop (length bs) memory
