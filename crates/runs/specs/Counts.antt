-- The counts of a log, by its calls and answers alone.
use Rattle.std.specs.Prelude.{ℕ, zero, suc, ◌+◌, Bool, true, false, cond, not, ◌&&◌, ◌||◌, ◌==◌}
use Rattle.refusals.specs.declared.refusal.Refusal.TheVariants.{BadValue, PlaceholderMismatch}
use Rattle.refusals.specs.Refusals.{number_of}
use Rattle.refusals.specs.Answers.{Answer, gives, refuses}
use Rattle.register.specs.declared.register.Tally.{Tally}
use Rattle.runs.specs.Calls.{Taking, placeholder, placeholder_array, reserve, Target, token, run_item, Call, adds, takes, fills, fills_dep, abandons, finishes, tallies, Given, Log, none, then}

-- How many places a taking takes.
abbrev pub count_of : Taking → ℕ
count_of (placeholder w) = 1
count_of (placeholder_array w k) = k
count_of (reserve n) = 1

-- How long each of them is.
abbrev pub width_of : Taking → ℕ
width_of (placeholder w) = w
width_of (placeholder_array w k) = w
width_of (reserve n) = n

-- The number of the place that is named.
abbrev pub number : Target → ℕ
number (token n k) = n
number (run_item first count i) = first + i

-- Whether a call was accepted.
abbrev pub accepted : {X : Type 0} → Answer X → Bool
accepted (gives x) = true
accepted (refuses n) = false

-- Whether a fill refused with this number spoils its place: BadValue and PlaceholderMismatch do.
abbrev pub spoils_place : ℕ → Bool
spoils_place n = n == number_of BadValue || n == number_of PlaceholderMismatch

-- Whether a fill so answered spoils its place.
abbrev pub spoiling : {X : Type 0} → Answer X → Bool
spoiling (gives x) = false
spoiling (refuses n) = spoils_place n

-- 1 if so.
abbrev pub once : Bool → ℕ
once b = cond b 1 0

-- How many places a call so answered took: those of an accepted taking.
abbrev pub took : Call → Answer Given → ℕ
took (adds p) a = 0
took (takes t) a = cond (accepted a) (count_of t) 0
took (fills t e) a = 0
took (fills_dep n k d) a = 0
took (abandons t) a = 0
took finishes a = 0
took tallies a = 0

-- How many it filled: one, by an accepted fill.
abbrev pub filled : Call → Answer Given → ℕ
filled (adds p) a = 0
filled (takes t) a = 0
filled (fills t e) a = once (accepted a)
filled (fills_dep n k d) a = once (accepted a)
filled (abandons t) a = 0
filled finishes a = 0
filled tallies a = 0

-- How many it spoiled: one, by an accepted abandon or a fill refused with BadValue or PlaceholderMismatch.
abbrev pub spoiled : Call → Answer Given → ℕ
spoiled (adds p) a = 0
spoiled (takes t) a = 0
spoiled (fills t e) a = once (spoiling a)
spoiled (fills_dep n k d) a = once (spoiling a)
spoiled (abandons t) a = once (accepted a)
spoiled finishes a = 0
spoiled tallies a = 0

-- Whether it is counted as filled or spoiled and names the place of number n.
abbrev pub names : Call → Answer Given → ℕ → Bool
names (adds p) a n = false
names (takes t) a n = false
names (fills t e) a n = (accepted a || spoiling a) && number t == n
names (fills_dep m k d) a n = (accepted a || spoiling a) && m == n
names (abandons t) a n = accepted a && number t == n
names finishes a n = false
names tallies a n = false

-- The sum of what f counts at each call of a log.
abbrev pub total : (Call → Answer Given → ℕ) → Log → ℕ
total f none = 0
total f (then log e) = total f log + f e.call e.answer

-- Whether some call of the log, counted as filled or spoiled, names the place of number n.
abbrev pub named : Log → ℕ → Bool
named none n = false
named (then log e) n = names e.call e.answer n || named log n

-- How many of the numbers below t fail a test.
abbrev pub failing : ℕ → (ℕ → Bool) → ℕ
failing zero p = 0
failing (suc t) p = failing t p + once (not (p t))

-- The four counts of a log. Open are the places taken whose number no call counted as filled or spoiled names.
abbrev pub counts : Log → Tally
counts log = record { taken = total took log; filled = total filled log; spoiled = total spoiled log; «open» = failing (total took log) (named log) }
