-- What the calls of a writer of the program are given and answer, as steps and runs speak of it.
use Rattle.std.specs.Prelude.{ℕ, ◌≤◌, length, Result}
use Rattle.refusals.specs.declared.refusal.Refusal.{Refusal}
use Rattle.refusals.specs.Answers.{Answer, told}
use Rattle.register.specs.Rows.{capacity}
use Rattle.runs.specs.Calls.{Target, token, run_item, Given, nothing, place, run, written}
use Rattle.runs.specs.Steps.{Held}
use Rattle.writer.specs.declared.writer.Placeholder.{Placeholder}
use Rattle.writer.specs.declared.writer.Run.{Run}

-- The place that a Placeholder names.
abbrev pub by_token : Placeholder → Target
by_token p = token p.number p.length

-- The place that item i of a run names.
abbrev pub by_run : Run → ℕ → Target
by_run r i = run_item r.first r.count i

-- The answer of a call that gives nothing.
abbrev pub done : Result (Unit {0}) Refusal → Answer Given
done r = told (λ t. nothing) r

-- The answer of a call that gives a Placeholder.
abbrev pub one_place : Result Placeholder Refusal → Answer Given
one_place r = told (λ p. place p.number p.length) r

-- The answer of a call that gives a run.
abbrev pub one_run : Result Run Refusal → Answer Given
one_run r = told (λ q. run q.first q.count) r

-- The answer of a call that gives a number of bytes.
abbrev pub length_written : Result ℕ Refusal → Answer Given
length_written r = told (λ n. written n) r

-- No more places are taken than may be, before a call and after it.
abbrev pub Few : {C : Type 0} → Held C → Held C → Type 0
Few w v = (length w.rows ≤ capacity) × (length v.rows ≤ capacity)
