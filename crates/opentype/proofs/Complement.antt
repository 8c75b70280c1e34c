-- Two's complement in n bytes is what the language's casts between signed and unsigned numbers compute, and undoes itself.
use Rattle.std.proofs.Common.{◌≡◌, ℕ, suc, ◌+◌, ◌-◌, ◌/◌, ◌^◌, ◌<◌, Bool, true, false, cond, ltb, List, length, ℤ, pos, negsuc, sym, refl, ap, ◌∙◌, subst, add-one, SFits, to_z, of_z, ltb-true, lt-ltb}
use mir.Syntax.{Width}
use mir.ValLaws.{of_z_fits, to_z-Fits}
use mir.Val.{bits, hbits, sel}
use Rattle.std.proofs.lemmas.Int.{to_z-of_z, of_z-to_z}
use Rattle.opentype.specs.Numbers.{Bytes, big_endian, number_of, signed_fits, complement, signed}
use Rattle.opentype.proofs.BigEndian.{number_of-big_endian, number_of_lt, big_endian-number_of}

sel-cond : (b : Bool) (x y : ℤ) → sel b x y ≡ cond b x y
sel-cond true x y = refl
sel-cond false x y = refl

module _ (w : Width) (n : ℕ) (whole : 256 ^ n ≡ 2 ^ bits w) (half : 256 ^ n / 2 ≡ 2 ^ hbits w) where
  pub complement_is : (v : ℤ) → complement n v ≡ of_z w v
  complement_is (pos v) = refl
  complement_is (negsuc k) = ap (λ (x : ℕ). x - (k + 1)) whole ∙ ap (λ (x : ℕ). 2 ^ bits w - x) (add-one k)

  pub signed_is : (u : ℕ) → signed n u ≡ to_z w u
  signed_is u =
      ap (λ (h : ℕ). cond (ltb u h) (pos u) (negsuc (256 ^ n - (u + 1)))) half
      ∙ ap (λ (x : ℕ). cond (ltb u (2 ^ hbits w)) (pos u) (negsuc (x - (u + 1)))) whole
      ∙ ap (λ (x : ℕ). cond (ltb u (2 ^ hbits w)) (pos u) (negsuc (2 ^ bits w - x))) (add-one u)
      ∙ sym (sel-cond (ltb u (2 ^ hbits w)) (pos u) (negsuc (2 ^ bits w - suc u)))

  fits_to : (v : ℤ) → signed_fits n v ≡ true → SFits w v
  fits_to (pos v) h = record { sfits = subst (λ (x : ℕ). v < x) half (ltb-true _ _ h) }
  fits_to (negsuc k) h = record { sfits = subst (λ (x : ℕ). k < x) half (ltb-true _ _ h) }

  pub fits_from : (v : ℤ) → SFits w v → signed_fits n v ≡ true
  fits_from (pos v) h = lt-ltb _ _ (subst (λ (x : ℕ). v < x) (sym half) h.sfits)
  fits_from (negsuc k) h = lt-ltb _ _ (subst (λ (x : ℕ). k < x) (sym half) h.sfits)

  pub signed_back : (v : ℤ) → signed_fits n v ≡ true → signed n (number_of (big_endian n (complement n v))) ≡ v
  signed_back v h =
      let small : complement n v < 256 ^ n = subst (λ (x : ℕ). x < 256 ^ n) (sym (complement_is v)) (subst (λ (x : ℕ). of_z w v < x) (sym whole) (of_z_fits w v (fits_to v h)).fits) in
      ap (signed n) (number_of-big_endian n (complement n v) small) ∙ signed_is (complement n v) ∙ ap (to_z w) (complement_is v) ∙ to_z-of_z w v (fits_to v h)

  module _ (bs : List ℕ) (long : length bs ≡ n) (small : Bytes bs) where
    below : number_of bs < 2 ^ bits w
    below = subst (λ (x : ℕ). number_of bs < x) whole (number_of_lt n bs long small)

    pub signed_whole : signed_fits n (signed n (number_of bs)) ≡ true
    signed_whole =
        ap (signed_fits n) (signed_is (number_of bs)) ∙ fits_from (to_z w (number_of bs)) (to_z-Fits w (number_of bs) (record { fits = below }))

    pub signed_again : big_endian n (complement n (signed n (number_of bs))) ≡ bs
    signed_again =
        ap (λ (z : ℤ). big_endian n (complement n z)) (signed_is (number_of bs)) ∙ ap (big_endian n) (complement_is (to_z w (number_of bs)) ∙ of_z-to_z w (number_of bs) below) ∙ big_endian-number_of n bs long small
