-- Contexts for writing: what it means to write bytes somewhere.
use Rattle.std.specs.Prelude.{◌≡◌, ℕ, ◌+◌, Bool, not, List, [], ◌∷◌, ◌++◌, length, take, drop, nat_lt}
use Rattle.refusals.specs.declared.refusal.Refusal.TheVariants.{BadValue, NoSpace, PlaceholderMismatch}
use Rattle.refusals.specs.Answers.{due}

-- The meaning of a type of contexts. A context `stands for` one or more byte strings: those that may have been written so far.
pub record Context (C : Type 0) : Type 1 where
  -- the strings that a context stands for
  pub stands : C → List ℕ → Type 0
  -- how many bytes were written
  pub written : C → ℕ
  -- how many more bytes there is space for
  pub space : C → ℕ
  -- what a kind of context chooses to keep from one state to a later one; a context with nothing to say keeps the unit type
  pub keeps : C → C → Type 0
  -- a context stands for some string ..
  pub some : (c : C) → (s : List ℕ) × stands c s
  -- .. and only for strings of the length written
  pub long : (c : C) (s : List ℕ) → stands c s → length s ≡ written c
  -- what is kept is kept where nothing happens ..
  pub unmoved : (c : C) → keeps c c
  -- .. and from call to call
  pub onward : (a b c : C) → keeps a b → keeps b c → keeps a c

-- The string with data laid over it from p on.
abbrev pub overlaid : List ℕ → ℕ → List ℕ → List ℕ
overlaid s p put = take p s ++ (put ++ drop (p + length put) s)

module _ {C : Type 0} (x : Context C) where
  -- Each string was grown by the data, and the space fell by its length.
  pub record Grown (c : C) (put : List ℕ) (d : C) : Type 0 where
    pub each : (s : List ℕ) → x.stands c s → x.stands d (s ++ put)
    pub less : x.space d + length put ≡ x.space c
    pub kept : x.keeps c d

  -- Each string had the data laid over it from p on, and the space stayed.
  pub record Overlaid (c : C) (p : ℕ) (put : List ℕ) (d : C) : Type 0 where
    pub each : (s : List ℕ) → x.stands c s → x.stands d (overlaid s p put)
    pub less : x.space d ≡ x.space c
    pub kept : x.keeps c d

  -- The strings and the space are what they were.
  pub record Unchanged (c d : C) : Type 0 where
    pub each : (s : List ℕ) → x.stands c s → x.stands d s
    pub back : (s : List ℕ) → x.stands d s → x.stands c s
    pub less : x.space d ≡ x.space c
    pub kept : x.keeps c d

-- What writing n bytes refuses: NoSpace if they are more than there is space for.
abbrev pub space_dues : ℕ → ℕ → List (Bool × ℕ)
space_dues space n = due NoSpace (nat_lt space n) ∷ []

-- What writing a value of so many bytes refuses: BadValue if it does not fit, then as writing its bytes does.
abbrev pub value_dues : Bool → ℕ → ℕ → List (Bool × ℕ)
value_dues fits space width = due BadValue (not fits) ∷ space_dues space width

-- What laying n bytes from p on refuses: PlaceholderMismatch if they pass the written end.
abbrev pub overlay_dues : ℕ → ℕ → ℕ → List (Bool × ℕ)
overlay_dues written p n = due PlaceholderMismatch (nat_lt written (p + n)) ∷ []

-- What laying a value of so many bytes from p on refuses: BadValue if it does not fit, then as laying its bytes does.
abbrev pub value_at_dues : Bool → ℕ → ℕ → ℕ → List (Bool × ℕ)
value_at_dues fits written p width = due BadValue (not fits) ∷ overlay_dues written p width
