-- The promise over every run of calls on a writer just made: the balance of places, late filling as straight writing, and reading back.
use Rattle.std.specs.Prelude.{◌≡◌, ℕ, ◌+◌, ◌<◌, ◌≤◌, true, false, not, List, [], ◌∷◌, length, nat_lt}
use Rattle.refusals.specs.declared.refusal.Refusal.TheVariants.{Unfilled}
use Rattle.refusals.specs.Answers.{Answer, gives, due, judged}
use Rattle.read.specs.Scopes.{Slice, scope_over, Sound}
use Rattle.context.specs.Contexts.{Context}
use Rattle.register.specs.Rows.{row, open?}
use Rattle.runs.specs.Calls.{Item, Kept, Piece, value, items, bytes, zeros, Target, Call, adds, takes, fills, fills_dep, abandons, finishes, tallies, Given, nothing, written, tally, Log, none, then}
use Rattle.runs.specs.Counts.{named, counts}
use Rattle.runs.specs.Straight.{parts, straight}
use Rattle.runs.specs.Places.{Place, places, place_of, end}
use Rattle.runs.specs.ReadBack.{Reads}
use Rattle.runs.specs.Steps.{Held, fill_dues, fill_dep_dues, Step}

-- An item that a kind of w bytes read: it fits, and the kind keeps its laws at it.
pub record ReadBy (w : ℕ) (e : Item) : Type 0 where
  pub width : e.width ≡ w
  pub fits : e.fits ≡ true
  pub kept : Kept e

-- Each item is one.
abbrev pub AllReadBy : ℕ → List Item → Type 0
AllReadBy w [] = Unit {0}
AllReadBy w (e ∷ es) = ReadBy w e × AllReadBy w es

-- The kinds of a piece keep their laws at its values.
abbrev pub PieceKept : Piece → Type 0
PieceKept (value e) = Kept e
PieceKept (items w true es) = AllReadBy w es
PieceKept (items w false es) = Unit {0}
PieceKept (bytes d) = Unit {0}
PieceKept (zeros n) = Unit {0}

-- The kinds of a call keep their laws at its values.
abbrev pub CallKept : Call → Type 0
CallKept (adds p) = PieceKept p
CallKept (takes t) = Unit {0}
CallKept (fills t e) = Kept e
CallKept (fills_dep n k d) = Unit {0}
CallKept (abandons t) = Unit {0}
CallKept finishes = Unit {0}
CallKept tallies = Unit {0}

module _ {C : Type 0} (x : Context C) where
  -- What every call of a writer shows: its kinds keep their laws, and it goes by the rules.
  pub record Shown (w : Held C) (c : Call) (a : Answer Given) (v : Held C) : Type 0 where
    pub kept : CallKept c
    pub step : Step x w c a v

  -- A run of calls with these answers leads from one state of a writer to another.
  abbrev pub Ran : Held C → Log → Held C → Type 0
  Ran start none w = start ≡ w
  Ran start (then log e) w = (m : Held C) × Ran start log m × Shown m e.call e.answer w

  -- The places of a log, from where the writer started.
  abbrev pub log_places : Held C → Log → List Place
  log_places start log = places (x.written start.context) (parts log)

  -- What holds after a run of calls on a writer just made.
  pub record Law (start : Held C) (log : Log) (w : Held C) : Type 0 where
    -- asking for the tally would give the log's own four counts ..
    pub tally_is : (a : Answer Given) (v : Held C) → Step x w tallies a v → a ≡ gives (tally (counts log))
    -- .. of which taken is the sum of the others
    pub balance : (counts log).taken ≡ (counts log).filled + ((counts log).spoiled + (counts log).«open»)
    -- every place lies inside what was written ..
    pub inside : (n : ℕ) → n < (counts log).taken → end (place_of (log_places start log) n) ≤ x.written w.context
    -- .. no two share a byte ..
    pub apart : (m n : ℕ) → m < n → n < (counts log).taken → end (place_of (log_places start log) m) ≤ (place_of (log_places start log) n).first
    -- .. and the rows are the places at their bytes, open where no call counted as filled or spoiled names them
    pub all_rows : length w.rows ≡ (counts log).taken
    pub row_first : (n : ℕ) → n < (counts log).taken → (row w.rows n).offset ≡ (place_of (log_places start log) n).first
    pub row_length : (n : ℕ) → n < (counts log).taken → (row w.rows n).length ≡ (place_of (log_places start log) n).length
    pub row_open : (n : ℕ) → n < (counts log).taken → open? (row w.rows n).state ≡ not (named log n)
    -- finishing would be accepted just if nothing is open or spoiled, and give the length of every string stood for
    pub finish_is : (a : Answer Given) (v : Held C) → Step x w finishes a v → (s : List ℕ) → x.stands w.context s → a ≡ judged (due Unfilled (nat_lt 0 ((counts log).spoiled + (counts log).«open»)) ∷ []) (written (length s))
    -- a fill would be refused as its list says, and never because it would pass the written end
    pub fill_is : (t : Target) (e : Item) (a : Answer Given) (v : Held C) → Kept e → Step x w (fills t e) a v → a ≡ judged (fill_dues w.rows t e) nothing
    pub fill_dep_is : (n k : ℕ) (d : List ℕ) (a : Answer Given) (v : Held C) → Step x w (fills_dep n k d) a v → a ≡ judged (fill_dep_dues w.rows n k d) nothing
    -- late filling is straight writing
    pub straight_is : (s : List ℕ) → x.stands start.context s → x.stands w.context (straight s log)
    -- where finishing would be accepted and the context stands for one string, reading that from where the writer started gives back what was put there
    pub reads_back : (n : ℕ) (v : Held C) → Step x w finishes (gives (written n)) v → (s t : List ℕ) → x.stands start.context s → x.stands w.context t → ((u : List ℕ) → x.stands w.context u → u ≡ t) → (bytes : Slice) → bytes.bytes ≡ t → Sound (scope_over bytes) → Reads (record { scope = scope_over bytes; position = length s }) (parts log)
    -- the context kept what it keeps
    pub kept : x.keeps start.context w.context

  -- The promise: it holds after every run of calls on a writer just made.
  abbrev pub EveryRun : Type 0
  EveryRun = (start : Held C) → start.rows ≡ [] → (log : Log) (w : Held C) → Ran start log w → Law start log w
