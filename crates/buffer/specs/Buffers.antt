-- Buffers: the caller's memory, of which a front was written.
use Rattle.std.specs.Prelude.{◌≡◌, ℕ, ◌+◌, ◌-◌, ◌≤◌, min, List, length, take, drop, refl}
use Rattle.std.proofs.Common.{sym, ap, ◌∙◌, arith, length-take, drop-drop}
use Rattle.std.specs.Borrow.{GName}
use Rattle.context.specs.Contexts.{Context, overlaid}
use Rattle.buffer.specs.declared.WriteBuffer.{WriteBuffer}

-- A buffer as a value: the name of the reference to its memory, by which the lender knows its own, what the memory holds, and a count of bytes written.
pub record Buffer : Type 0 where
  pub memory : GName
  pub holds : List ℕ
  pub count : ℕ

-- The value of a buffer of the program.
abbrev pub buffer : WriteBuffer → Buffer
buffer b = record { memory = b.memory.ghost_name; holds = b.memory.now; count = b.count }

-- Where the written bytes end. (No buffer that a call makes has a count past its memory; of a made-up one, all is written.)
abbrev pub end : Buffer → ℕ
end b = min b.count (length b.holds)

-- How much space is left.
abbrev pub room : Buffer → ℕ
room b = length b.holds - b.count

-- The written bytes.
abbrev pub front : Buffer → List ℕ
front b = take (end b) b.holds

-- The buffer of memory of which nothing was written.
abbrev pub over : GName → List ℕ → Buffer
over memory holds = record { memory = memory; holds = holds; count = 0 }

-- The buffer with data laid over its memory from p on.
abbrev pub laid : Buffer → ℕ → List ℕ → Buffer
laid b p put = record { memory = b.memory; holds = overlaid b.holds p put; count = b.count }

-- The buffer with data written behind its end.
abbrev pub appended : Buffer → List ℕ → Buffer
appended b put = record { memory = b.memory; holds = overlaid b.holds (end b) put; count = end b + length put }

-- The buffer with nothing written.
abbrev pub cleared : Buffer → Buffer
cleared b = record { memory = b.memory; holds = b.holds; count = 0 }

-- What a buffer keeps: the same memory, written no less far, and from the written end on as it was.
pub record Kept (a b : Buffer) : Type 0 where
  pub same : b.memory ≡ a.memory
  pub long : length b.holds ≡ length a.holds
  pub more : end a ≤ end b
  pub rest : drop (end b) b.holds ≡ drop (end b) a.holds

-- What agrees from a on agrees from b on.
pub drop_further : (a b : ℕ) (m n : List ℕ) → a ≤ b → drop a m ≡ drop a n → drop b m ≡ drop b n
drop_further a b m n h e =
    let s : b ≡ a + (b - a) = omega arith in
    ap (λ (k : ℕ). drop k m) s ∙ sym (drop-drop (b - a) a m) ∙ ap (drop (b - a)) e ∙ drop-drop (b - a) a n ∙ sym (ap (λ (k : ℕ). drop k n) s)

-- What did not change was kept.
pub kept_unmoved : (a : Buffer) → Kept a a
kept_unmoved a = record { same = refl; long = refl; more = omega arith; rest = refl }

-- What was kept twice over was kept.
pub kept_onward : (a b c : Buffer) → Kept a b → Kept b c → Kept a c
kept_onward a b c p q = record {
  same = q.same ∙ p.same;
  long = q.long ∙ p.long;
  more = let h = p.more in let k = q.more in omega arith;
  rest = q.rest ∙ drop_further (end b) (end c) b.holds a.holds q.more p.rest;
}

-- A front is as long as what was written.
pub front_long : (b : Buffer) (s : List ℕ) → s ≡ front b → length s ≡ end b
front_long b s e = ap length e ∙ simp length-take (omega arith)

-- A buffer stands for its written bytes alone, has the rest of its memory as space, and keeps that rest.
abbrev pub buffer_means : Context WriteBuffer
buffer_means = record {
  stands = λ b s. s ≡ front (buffer b);
  written = λ b. end (buffer b);
  space = λ b. room (buffer b);
  keeps = λ a b. Kept (buffer a) (buffer b);
  some = λ b. (front (buffer b), refl);
  long = λ b. front_long (buffer b);
  unmoved = λ b. kept_unmoved (buffer b);
  onward = λ a b c. kept_onward (buffer a) (buffer b) (buffer c);
}
