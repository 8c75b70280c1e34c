-- Each turn keeps what the search comes to; and that is where the item lies, or would go in.
use Rattle.std.proofs.Common.{◌≡◌, ℕ, List, Result, Ordering, sym, refl, ap, subst, arith}
use Rattle.arrays.specs.Arrays.{Array, Whole, array}
use Rattle.arrays.proofs.Items.{whole_item}
use Rattle.search.specs.Halving.{said, asked, halves}
use Rattle.search.specs.Found.{said_of, Runs, Found}
use Rattle.search.proofs.Turns.{Left, begin, none_left, no_middle, middle_less, middle_greater, middle_equal}
use Rattle.search.proofs.Placing.{placed}
use Rattle.search.proofs.binary.halve.Goals as goal

-- a whole array has each item that is asked for
finds : {V : Type 0} (width : ℕ) (value : List ℕ → V) (answers : V → Ordering) (a : Array) (r : Result ℕ ℕ) → r ≡ halves (asked width value answers a) a.count 0 a.count → Whole width a → Runs (said_of width value answers a) a.count → Found (said_of width value answers a) a.count r
finds width value answers a r e w runs =
    placed (asked width value answers a) (said_of width value answers a) a.count (λ i lt. ap (said answers) (whole_item width value a i w lt)) runs r e

pub loop-right-init : goal.loop-right-init
loop-right-init g c =
    let a = array c.args.items.now in
    let f = asked g.K.Kind.width g.K.Kind.value (g.P.Probe.answers c.args.probe.now) a in
    (omega arith, subst (λ (k : ℕ). Left f a.count 0 k) (sym c.len-right.ensures.value) (begin f a.count))

pub loop-right-preserved-in-Less : goal.loop-right-preserved-in-Less
loop-right-preserved-in-Less g c =
    (omega arith, middle_less g.K.Kind.width g.K.Kind.value (g.P.Probe.answers c.args.probe.now) (array c.args.items.now) c.loop-right.invariant.1 (omega arith) c.in-Some.v c.in-Some.ensures.value _ c.in-Less.ensures.value refl)

pub loop-right-preserved : goal.loop-right-preserved
loop-right-preserved g c =
    (omega arith, middle_greater g.K.Kind.width g.K.Kind.value (g.P.Probe.answers c.args.probe.now) (array c.args.items.now) c.loop-right.invariant.1 (omega arith) c.in-Some.v c.in-Some.ensures.value _ c.in-Greater.ensures.value refl)

pub returns-then-left-right : goal.returns-then-left-right
returns-then-left-right g c =
    let e = none_left _ _ c.loop-right.left c.loop-right.right c.loop-right.invariant.1 c.if-left-right.true in
    record { value = e; found = finds g.K.Kind.width g.K.Kind.value (g.P.Probe.answers c.args.probe.now) (array c.args.items.now) _ e }

pub returns-in_default : goal.returns-in_default
returns-in_default g c =
    let e = no_middle g.K.Kind.width g.K.Kind.value (g.P.Probe.answers c.args.probe.now) (array c.args.items.now) c.loop-right.invariant.1 (omega arith) c.in_default.ensures.value in
    record { value = e; found = finds g.K.Kind.width g.K.Kind.value (g.P.Probe.answers c.args.probe.now) (array c.args.items.now) _ e }

pub returns-in-Equal : goal.returns-in-Equal
returns-in-Equal g c =
    let e = middle_equal g.K.Kind.width g.K.Kind.value (g.P.Probe.answers c.args.probe.now) (array c.args.items.now) c.loop-right.invariant.1 (omega arith) c.in-Some.v c.in-Some.ensures.value _ c.in-Equal.ensures.value refl in
    record { value = e; found = finds g.K.Kind.width g.K.Kind.value (g.P.Probe.answers c.args.probe.now) (array c.args.items.now) _ e }
