-- The places of a log: the bytes that their takings added.
use Rattle.std.specs.Prelude.{ℕ, ◌+◌, List, [], ◌∷◌, length, slice_index_or}
use Rattle.runs.specs.Straight.{Part, piece, hole, piece_bytes}

-- The bytes of a place: where the first stands, and how many there are.
pub record Place : Type 0 where
  pub first : ℕ
  pub length : ℕ

-- The places among parts of which the first byte stands at `at`, by number.
abbrev pub places : ℕ → List Part → List Place
places at [] = []
places at (piece p ∷ ps) = places (at + length (piece_bytes p)) ps
places at (hole k f ∷ ps) = record { first = at; length = k } ∷ places (at + k) ps

-- The place of number n. (Past the last there is none, and an empty one is named in its place.)
abbrev pub place_of : List Place → ℕ → Place
place_of ps n = slice_index_or ps n (record { first = 0; length = 0 })

-- Where a place ends.
abbrev pub end : Place → ℕ
end p = p.first + p.length
