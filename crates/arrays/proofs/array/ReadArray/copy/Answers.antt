-- Each turn copies the item that the cursor gives, and all were copied when it gives none.
use Rattle.std.proofs.Common.{◌≡◌, ℕ, ◌++◌, map, set, drop, ap, ap₂, ◌∙◌, arith}
use Rattle.std.specs.List.{range_with_len}
use Rattle.arrays.specs.Arrays.{array, item_bytes}
use Rattle.arrays.specs.Cursors.{cursor, remaining}
use Rattle.arrays.proofs.Items.{whole_from, copy_more, item_given, none_given}
use Rattle.arrays.proofs.array.ReadArray.copy.Goals as goal

pub loop-i-preserved : goal.loop-i-preserved
loop-i-preserved g c =
    let a = array c.args.self.now in
    let i = c.loop-i.i in
    let inv = c.loop-i.invariant in
    let there = item_given g.K.Kind.width g.K.Kind.value g.K.Kind.fitting a i (whole_from g.K.Kind.width a c.requires.whole) (cursor c.next.new.self) c.in-Some.v _ inv.0 c.in-Some.ensures.steps in
    let before = ap remaining inv.0 in
    let behind = ap remaining there.2 in
    (there.2, omega arith, ap₂ (λ o v. set o i v) inv.2 there.1 ∙ copy_more (λ (k : ℕ). g.K.Kind.value (item_bytes g.K.Kind.width a k)) c.args.out.now i (omega arith), omega arith)

pub returns : goal.returns
returns g c =
    let a = array c.args.self.now in
    let inv = c.loop-i.invariant in
    let end = none_given g.K.Kind.width g.K.Kind.value g.K.Kind.fitting a c.loop-i.i (whole_from g.K.Kind.width a c.requires.whole) (cursor c.next.new.self) _ inv.0 c.in-None.ensures.steps in
    let same : c.loop-i.i ≡ a.count = omega arith in
    inv.2 ∙ ap (λ (k : ℕ). map (λ (i : ℕ). g.K.Kind.value (item_bytes g.K.Kind.width a i)) (range_with_len 0 k) ++ drop k c.args.out.now) same
