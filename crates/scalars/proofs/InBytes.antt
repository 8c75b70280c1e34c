-- The definitions that the kinds are given are what OpenType says, byte by byte. Stated once, over the width.
use Rattle.std.proofs.Common.{◌≡◌, ℕ, ◌-◌, ◌/◌, ◌%◌, ◌^◌, ◌<◌, List, pos, sym, refl, ap, ◌∙◌}
use Rattle.std.proofs.lemmas.List.FromFn.{fill_by_all}
use Rattle.opentype.specs.Numbers.{unsigned_fits, signed_fits, big_endian, number_of, complement, signed}
use Rattle.opentype.proofs.BigEndian.{length-big_endian, get_or-big_endian, number_of-big_endian}
use Rattle.scalars.specs.DataTypes.{InBytes, IsUnsigned, IsSigned}

in_bytes : (n u : ℕ) → InBytes n u (big_endian n u)
in_bytes n u = record { long = length-big_endian n u; byte = get_or-big_endian n u }

-- no other bytes are those of the number
read_in_bytes : (n u : ℕ) (bs : List ℕ) → u < 256 ^ n → InBytes n u bs → number_of bs ≡ u
read_in_bytes n u bs h b =
    let f : ℕ → ℕ = λ i. (u / 256 ^ (n - 1 - i)) % 256 in
    let same : bs ≡ big_endian n u = fill_by_all f bs n 0 b.long b.byte ∙ sym (fill_by_all f (big_endian n u) n 0 (length-big_endian n u) (get_or-big_endian n u)) in
    ap number_of same ∙ number_of-big_endian n u h

pub is_unsigned : {K : Type 0} (n : ℕ) → IsUnsigned {K = K} n (record { width = n; fitting = unsigned_fits n; bytes = big_endian n; value = number_of }) pos
is_unsigned n = record {
  size = refl;
  fits = λ v. refl;
  writes = λ v h. in_bytes n v;
  reads = λ bs u h b. read_in_bytes n u bs h b;
  number = λ v. refl;
}

pub is_signed : {K : Type 0} (n : ℕ) → IsSigned {K = K} n (record { width = n; fitting = signed_fits n; bytes = λ v. big_endian n (complement n v); value = λ bs. signed n (number_of bs) }) (λ v. v)
is_signed n = record {
  size = refl;
  fits = λ v. refl;
  writes = λ v h. in_bytes n (complement n v);
  reads = λ bs u h b. ap (signed n) (read_in_bytes n u bs h b);
  number = λ v. refl;
}
