-- A buffer whose memory had data laid over it: what it stands for, its space, and what it keeps.
use Rattle.std.proofs.Common.{◌≡◌, ℕ, ◌+◌, ◌-◌, ◌≤◌, List, ◌++◌, length, take, drop, sym, refl, ap, ◌∙◌, subst, append_assoc, arith, length-append, length-drop, length-take}
use lib.Seq.{take-append-add}
use Rattle.std.proofs.lemmas.List.{take-take, drop-take, take_at, drop_at}
use Rattle.context.specs.Contexts.{overlaid, Grown, Overlaid}
use Rattle.buffer.specs.declared.WriteBuffer.{WriteBuffer}
use Rattle.buffer.specs.Buffers.{Buffer, buffer, end, room, front, laid, appended, Kept, drop_further, buffer_means}

pub length-overlaid : (s : List ℕ) (p : ℕ) (put : List ℕ) → p + length put ≤ length s → length (overlaid s p put) ≡ length s
length-overlaid s p put h = simp (length-append, length-take, length-drop) (omega arith)

-- what stands up to the end of the data
take-overlaid : (s : List ℕ) (p : ℕ) (put : List ℕ) (n : ℕ) → n ≡ p + length put → p ≤ length s → take n (overlaid s p put) ≡ take p s ++ put
take-overlaid s p put n e h =
    ap (take n) (sym (append_assoc (take p s) put (drop (p + length put) s)))
    ∙ take_at (take p s ++ put) (drop (p + length put) s) n (simp (length-append, length-take) (omega arith))

-- past the data all is as it was
drop-overlaid : (s : List ℕ) (p : ℕ) (put : List ℕ) (n : ℕ) → p + length put ≤ n → p ≤ length s → drop n (overlaid s p put) ≡ drop n s
drop-overlaid s p put n e h =
    drop_further (p + length put) n (overlaid s p put) s e
    (ap (drop (p + length put)) (sym (append_assoc (take p s) put (drop (p + length put) s)))
    ∙ drop_at (take p s ++ put) (drop (p + length put) s) (p + length put) (simp (length-append, length-take) (omega arith)))

-- a front that holds the data whole
take-overlaid_past : (s : List ℕ) (p : ℕ) (put : List ℕ) (r : ℕ) → p + length put ≤ length s → take ((p + length put) + r) (overlaid s p put) ≡ overlaid (take ((p + length put) + r) s) p put
take-overlaid_past s p put r h =
    let a : length (take p s) ≡ p = simp length-take (omega arith) in
    let e : (p + length put) + r ≡ length (take p s) + (length put + r) = omega arith in
    ap (λ (k : ℕ). take k (overlaid s p put)) e
    ∙ take-append-add (take p s) (put ++ drop (p + length put) s) (length put + r)
    ∙ ap (λ (z : List ℕ). take p s ++ z) (take-append-add put (drop (p + length put) s) r)
    ∙ sym (rw (take-take p ((p + length put) + r) s (omega arith), drop-take (p + length put) r s))

take-overlaid_front : (s : List ℕ) (p : ℕ) (put : List ℕ) (n : ℕ) → p + length put ≤ n → n ≤ length s → take n (overlaid s p put) ≡ overlaid (take n s) p put
take-overlaid_front s p put n h k =
    let e : n ≡ (p + length put) + (n - (p + length put)) = omega arith in
    ap (λ (m : ℕ). take m (overlaid s p put)) e
    ∙ take-overlaid_past s p put (n - (p + length put)) (omega arith)
    ∙ sym (ap (λ (m : ℕ). overlaid (take m s) p put) e)

-- a buffer that had data written behind its end
module _ (b : Buffer) (put : List ℕ) (fit : length put ≤ room b) where
  appended_long : length (appended b put).holds ≡ length b.holds
  appended_long = length-overlaid b.holds (end b) put (omega arith)

  appended_end : end (appended b put) ≡ end b + length put
  appended_end = let l = appended_long in omega arith

  front-appended : front (appended b put) ≡ front b ++ put
  front-appended = take-overlaid b.holds (end b) put (end (appended b put)) appended_end (omega arith)

  Kept-appended : Kept b (appended b put)
  Kept-appended = let e = appended_end in record { same = refl; long = appended_long; more = omega arith; rest = drop-overlaid b.holds (end b) put (end (appended b put)) (omega arith) (omega arith) }

  room-appended : room (appended b put) + length put ≡ room b
  room-appended = let l = appended_long in omega arith

-- a buffer that had data laid over what was written
module _ (b : Buffer) (p : ℕ) (put : List ℕ) (fit : p + length put ≤ end b) where
  laid_long : length (laid b p put).holds ≡ length b.holds
  laid_long = length-overlaid b.holds p put (omega arith)

  laid_end : end (laid b p put) ≡ end b
  laid_end = let l = laid_long in omega arith

  front-laid : front (laid b p put) ≡ overlaid (front b) p put
  front-laid = ap (λ (n : ℕ). take n (overlaid b.holds p put)) laid_end ∙ take-overlaid_front b.holds p put (end b) fit (omega arith)

  Kept-laid : Kept b (laid b p put)
  Kept-laid = let e = laid_end in record { same = refl; long = laid_long; more = omega arith; rest = drop-overlaid b.holds p put (end (laid b p put)) (omega arith) (omega arith) }

  room-laid : room (laid b p put) ≡ room b
  room-laid = let l = laid_long in omega arith

-- the same of buffers of the program
pub Grown-appended : (c d : WriteBuffer) (put : List ℕ) → length put ≤ room (buffer c) → buffer d ≡ appended (buffer c) put → Grown buffer_means c put d
Grown-appended c d put fit e = record {
  each = λ s h. ap (λ (t : List ℕ). t ++ put) h ∙ sym (front-appended (buffer c) put fit) ∙ sym (ap front e);
  less = ap (λ (b : Buffer). room b + length put) e ∙ room-appended (buffer c) put fit;
  kept = subst (Kept (buffer c)) (sym e) (Kept-appended (buffer c) put fit);
}

pub Overlaid-laid : (c d : WriteBuffer) (p : ℕ) (put : List ℕ) → p + length put ≤ end (buffer c) → buffer d ≡ laid (buffer c) p put → Overlaid buffer_means c p put d
Overlaid-laid c d p put fit e = record {
  each = λ s h. ap (λ (t : List ℕ). overlaid t p put) h ∙ sym (front-laid (buffer c) p put fit) ∙ sym (ap front e);
  less = ap room e ∙ room-laid (buffer c) p put fit;
  kept = subst (Kept (buffer c)) (sym e) (Kept-laid (buffer c) p put fit);
}
