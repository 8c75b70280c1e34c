-- The last bytes of the eight are the bytes of the format's width.
use Rattle.std.proofs.Common.{◌≡◌, ◌≤◌, Bool, cond, Some, None, ap, ap₂, ◌∙◌, sym, subst, ◌-◌, take, drop}
use Rattle.opentype.specs.Numbers.{big_endian}
use Rattle.opentype.proofs.BigEndian.{take-to_be_bytes}
use Rattle.scalars.proofs.big_endian.put_value.Goals as goal

pub returns-in-Some : goal.returns-in-Some
returns-in-Some g c =
    let n = c.SIZE.result in
    let few = subst (λ k. k ≤ 8) (sym c.SIZE.ensures) g.met.F.Format.few.1 in
    let known = c.in-Some.ensures.value ∙ ap (λ (b : Bool). cond b (Some (g.F.Format.bits c.args.v)) None) c.requires.fit in
    let bits : c.in-Some.bits ≡ g.F.Format.bits c.args.v = cc in
    record { bytes = c.copy_from_slice.ensures.after ∙ ap (λ bs. take (8 - (8 - n)) (drop (8 - n) bs)) c.to_be_bytes.ensures ∙ take-to_be_bytes n c.in-Some.bits few ∙ ap₂ big_endian c.SIZE.ensures bits }
