-- Unsigned and two's complement numbers of n bytes keep the laws of a kind. Stated once, over the width.
use Rattle.std.specs.Prelude.{◌≡◌, ℕ, ◌/◌, ◌^◌}
use Rattle.std.proofs.Common.{ltb-true, lt-ltb}
use Rattle.std.specs.Int.{Width}
use mir.Val.{bits, hbits}
use Rattle.opentype.specs.Numbers.{unsigned_fits, big_endian, number_of, signed_fits, complement, signed}
use Rattle.opentype.proofs.BigEndian.{length-big_endian, Bytes-big_endian, number_of-big_endian, number_of_lt, big_endian-number_of}
use Rattle.opentype.proofs.Complement.{signed_back, signed_whole, signed_again}
use Rattle.kinds.specs.Laws.{Lawful}

pub unsigned_lawful : (n : ℕ) → Lawful n (unsigned_fits n) (big_endian n) number_of
unsigned_lawful n = record {
  sized = λ v h. length-big_endian n v;
  small = λ v h. Bytes-big_endian n v;
  back = λ v h. number_of-big_endian n v (ltb-true _ _ h);
  whole = λ bs long small. lt-ltb _ _ (number_of_lt n bs long small);
  again = λ bs long small. big_endian-number_of n bs long small;
}

pub signed_lawful : (w : Width) (n : ℕ) → 256 ^ n ≡ 2 ^ bits w → 256 ^ n / 2 ≡ 2 ^ hbits w → Lawful n (signed_fits n) (λ v. big_endian n (complement n v)) (λ bs. signed n (number_of bs))
signed_lawful w n whole half = record {
  sized = λ v h. length-big_endian n (complement n v);
  small = λ v h. Bytes-big_endian n (complement n v);
  back = signed_back w n whole half;
  whole = signed_whole w n whole half;
  again = signed_again w n whole half;
}
