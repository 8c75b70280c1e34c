-- What is read is the number that the bytes write, and bytes of the format's width write one that fits.
use Rattle.std.proofs.Common.{◌≡◌, ◌^◌, ◌%◌, ◌≤◌, true, ap, mod-eq_of_lt, ◌∙◌, sym, subst}
use Rattle.opentype.proofs.BigEndian.{Bytes-from_type, from_be_bytes-padded, number_of_lt}
use Rattle.scalars.proofs.big_endian.value_of.Goals as goal

pub returns : goal.returns
returns g c =
    let few = subst (λ n. n ≤ 8) (sym c.SIZE.ensures) g.met.F.Format.few.1 in
    let read = c.from_be_bytes.ensures ∙ from_be_bytes-padded c.SIZE.result _ _ few c.copy_from_slice.ensures.after (c.requires.long ∙ sym c.SIZE.ensures) in
    let bytes = Bytes-from_type c.args.part.now c.type_inv.part in
    let small = number_of_lt _ _ c.requires.long bytes in
    let value = c.from_bits.ensures.value ∙ ap g.F.Format.value (ap (λ n. n % 256 ^ g.F.Format.SIZE) read ∙ mod-eq_of_lt small) in
    record { value = value; fit = subst (λ v. g.F.Format.fitting v ≡ true) (sym value) (g.met.F.Format.lawful.whole _ c.requires.long bytes) }
