-- Digits in the field, finished with the sign and the status, are the exact result put there. What carries it: they are the digits of the result's size, cut.
use mathlib.Core.Path.{◌≡◌, refl, sym, ap, ◌∙◌}
use mathlib.Core.Bool.{Bool, true, false, cond, ◌&&◌}
use mathlib.Core.List.{List}
use Prim.Native.Nat.{ℕ, ◌+◌, ◌-◌, ◌%◌, ◌^◌, ◌≤◌, ◌<◌}
use native.Mathlib.Nat.{sub-zero, mod-le}
use native.Mathlib.Omega.{arith}
use lib.Dec.{eqb, leb}
use lib.ListN.{length, get_or, set}
use borrow.Author.Tests.{eqb-true, eqb-false}
use Rattle.manual.specs.Values.{digit, size, signed, negative, cut, overflows, left_minus}
use Rattle.manual.specs.Zoned.{zoned_status}
use Rattle.manual.proofs.Digits.{digit_units}
use Rattle.manual.proofs.FieldBytes.{written_length}
use Rattle.manual.proofs.ZonedRead.{zoned_byte, zoned_bytes, zoned_size, zoned_digit, zoned_cut, sign_last, abs_signed, minus_zero_gone}
use Rattle.zoned.specs.Working.{from_right, holding, sign_put, finished, LeftIn}
use Rattle.zoned.proofs.Signs.{negative_signed, order_signed}

and-true : (g : Bool) → (g && true) ≡ g
and-true true = refl
and-true false = refl

-- the result has the size m and the sign g, and the columns leave the digits of T
module _ (f : List ℕ) (status T m : ℕ) (g over : Bool) (some : 0 < length f) (cuts : T % 10 ^ length f ≡ m % 10 ^ length f)
    (flow : over ≡ leb (10 ^ length f) m) where
  abbrev n : ℕ
  n = length f

  abbrev a : ℕ
  a = length f - 1

  inn : a < length f
  inn = omega arith

  fits : n ≤ a + 1
  fits = omega arith

  cut_is : cut n (signed g m) ≡ T % 10 ^ n
  unfolding cut
  cut_is = rw (abs_signed g m) (sym cuts)

  over_is : overflows n (signed g m) ≡ over
  unfolding overflows
  over_is = rw (abs_signed g m) (sym flow)

  digits_are : (h : Bool) → zoned_bytes f n a h T ≡ zoned_bytes f n a h (cut n (signed g m))
  digits_are h = sym (rw cut_is (zoned_cut f n a h T))

  -- where the size left isn't zero the exact result has the sign
  minus_is : eqb (T % 10 ^ n) 0 ≡ false → negative (signed g m) ≡ g
  minus_is e =
      let k : T % 10 ^ n ≡ 0 → ⊥ = eqb-false (T % 10 ^ n) 0 e in
      negative_signed g m (omega (arith, mod-le m (10 ^ n)))

  left_is : eqb (T % 10 ^ n) 0 ≡ false → left_minus n (signed g m) ≡ g
  unfolding left_minus
  left_is e = rw (minus_is e, cut_is, e) (and-true g)

  put_sign : (h : Bool) → cond h (set (zoned_bytes f n a false T) a (0xD0 + digit (get_or (zoned_bytes f n a false T) a 0))) (zoned_bytes f n a false T) ≡ zoned_bytes f n a h T
  put_sign true =
      let d : digit (get_or (zoned_bytes f n a false T) a 0) ≡ T % 10 = rw sub-zero at (zoned_digit f n a false T inn fits 0 some) ∙ digit_units T in
      rw d (sign_last f n a true T inn fits some)
  put_sign false = refl

  held_length : length (holding f false T) ≡ length f
  held_length = written_length f n a (zoned_byte false T)

  storage_is : (z : Bool) → eqb (T % 10 ^ n) 0 ≡ z → sign_put g z (holding f false T) ≡ holding f (left_minus n (signed g m)) (cut n (signed g m))
  storage_is true e = rw (minus_zero_gone n (signed g m) (cut_is ∙ eqb-true (T % 10 ^ n) 0 e)) (digits_are false)
  storage_is false e = rw (left_is e, held_length) (put_sign g ∙ digits_are g)

  status_is : (z : Bool) → eqb (T % 10 ^ n) 0 ≡ z → finished g over z status ≡ zoned_status n status (signed g m)
  unfolding zoned_status
  status_is true e = rw (over_is, order_signed, cut_is, e)
  status_is false e = rw (over_is, order_signed, cut_is, e, minus_is e)

  pub settled : (t : List ℕ) (r : ℕ) (u : List ℕ) → t ≡ holding f false T → r ≡ finished g over (eqb (size (from_right t)) 0) status → u ≡ sign_put g (eqb (size (from_right t)) 0) t
      → LeftIn f status (signed g m) r u
  settled t r u e h k =
      let same : length t ≡ n = ap length e ∙ held_length in
      let told : size (from_right t) ≡ T % 10 ^ n = rw (same, e) (zoned_size f n a false T inn fits) in
      let z : eqb (T % 10 ^ n) 0 ≡ eqb (size (from_right t)) 0 = ap (λ (d : ℕ). eqb d 0) (sym told) in
      record { storage = k ∙ ap (λ (l : List ℕ). sign_put g (eqb (size (from_right t)) 0) l) e ∙ storage_is (eqb (size (from_right t)) 0) z; status_after = h ∙ status_is (eqb (size (from_right t)) 0) z }
