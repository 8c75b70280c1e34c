-- What it means that data types lie side by side: sizes add up, all parts fit, the parts' bytes follow one another, and each part is read from its own bytes.
use Rattle.std.specs.Prelude.{◌≡◌, ℕ, ◌+◌, ◌&&◌, List, ◌++◌, take, drop}
use Rattle.kinds.specs.declared.kind.Kind.{Ghosts}

-- The kind p is a and b side by side.
pub record IsPair {A X B Y P : Type 0} (a : Ghosts A X) (b : Ghosts B Y) (p : Ghosts P (X × Y)) : Type 0 where
  pub size : p.width ≡ a.width + b.width
  pub fits : (x : X) (y : Y) → p.fitting (x, y) ≡ (a.fitting x && b.fitting y)
  pub writes : (x : X) (y : Y) → p.bytes (x, y) ≡ a.bytes x ++ b.bytes y
  pub reads : (bs : List ℕ) → p.value bs ≡ (a.value (take a.width bs), b.value (drop a.width bs))

-- The kind p is a, b and c side by side.
pub record IsTriple {A X B Y C Z P : Type 0} (a : Ghosts A X) (b : Ghosts B Y) (c : Ghosts C Z) (p : Ghosts P (X × Y × Z)) : Type 0 where
  pub size : p.width ≡ a.width + (b.width + c.width)
  pub fits : (x : X) (y : Y) (z : Z) → p.fitting (x, y, z) ≡ (a.fitting x && (b.fitting y && c.fitting z))
  pub writes : (x : X) (y : Y) (z : Z) → p.bytes (x, y, z) ≡ a.bytes x ++ (b.bytes y ++ c.bytes z)
  pub reads : (bs : List ℕ) → p.value bs ≡ (a.value (take a.width bs), b.value (take b.width (drop a.width bs)), c.value (drop b.width (drop a.width bs)))

-- The kind p is a, b, c and d side by side.
pub record IsQuad {A W B X C Y D Z P : Type 0} (a : Ghosts A W) (b : Ghosts B X) (c : Ghosts C Y) (d : Ghosts D Z) (p : Ghosts P (W × X × Y × Z)) : Type 0 where
  pub size : p.width ≡ a.width + (b.width + (c.width + d.width))
  pub fits : (w : W) (x : X) (y : Y) (z : Z) → p.fitting (w, x, y, z) ≡ (a.fitting w && (b.fitting x && (c.fitting y && d.fitting z)))
  pub writes : (w : W) (x : X) (y : Y) (z : Z) → p.bytes (w, x, y, z) ≡ a.bytes w ++ (b.bytes x ++ (c.bytes y ++ d.bytes z))
  pub reads : (bs : List ℕ) → p.value bs ≡ (a.value (take a.width bs), b.value (take b.width (drop a.width bs)), c.value (take c.width (drop b.width (drop a.width bs))), d.value (drop c.width (drop b.width (drop a.width bs))))
