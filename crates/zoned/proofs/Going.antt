-- The loops over columns: where they stand, and one turn of each. What carries it: a column is a digit of the sum, and what it carries on is the rest's.
use mathlib.Core.Path.{◌∙◌, ◌≡◌, sym}
use mathlib.Core.Bool.{true, Bool, false}
use mathlib.Core.List.{List}
use Prim.Native.Nat.{ℕ, ◌+◌, ◌-◌, ◌*◌, ◌/◌, ◌^◌, ◌≤◌, ◌<◌}
use native.Mathlib.Omega.{arith}
use lib.ListN.{length, get_or, set}
use Rattle.manual.specs.Values.{digit, size}
use Rattle.manual.proofs.Digits.{digit_at, digit_small}
use Rattle.manual.proofs.FieldBytes.{written_none}
use Rattle.manual.proofs.ZonedRead.{zoned_bytes, digit_of_size}
use Rattle.zoned.specs.Working.{from_right, holding, taken, added_up, still, alone, Field, Operands}
use Rattle.zoned.proofs.Summing.{sum_first, turn_digit, turn_rest, put_next, next_byte, zero_digit}
use Rattle.zoned.proofs.Fields.{each_low}
use Rattle.zoned.proofs.Carrying.{still_over, still_field}

-- j columns of the field f and of y are added, with start carried into the first: t is the field, and over goes into the next
pub record Going (v w : Bool) (f : List ℕ) (y start : ℕ) (t : List ℕ) (over j : ℕ) : Type 0 where
  pub carry : over ≤ 1
  pub put : t ≡ zoned_bytes f j (length f - 1) false (added_up v w start (length f) (size (from_right f)) y)
  pub left : added_up v w start (length f) (size (from_right f)) y / 10 ^ j ≡ added_up v w over (length f - j) (size (from_right f) / 10 ^ j) (y / 10 ^ j)

pub going_start : (v w : Bool) (f : List ℕ) (y start : ℕ) → start ≤ 1 → Going v w f y start f start (length f - length f)
going_start v w f y start h =
    let e : length f - length f ≡ 0 = omega arith in
    rw e (record { carry = h; put = sym (written_none _ _ _); left = sum_first v w start (length f) (size (from_right f)) y })

low_digit : (b d : ℕ) → d ≤ 9 → b ≡ 0xF0 + d → digit b ≡ d
low_digit b d h e = omega arith

-- the field's byte, whose turn it is
module _ (v w : Bool) (f t : List ℕ) (y start over j : ℕ) (o : Field f) (g : Going v w f y start t over j) (h : j < length f) where
  going_byte : get_or t (length f - 1 - j) 0 ≡ 0xF0 + digit_at (size (from_right f)) j
  going_byte = next_byte f t j _ o h g.put

  byte_small : get_or t (length f - 1 - j) 0 ≤ 249
  byte_small = omega (arith, going_byte, digit_small (size (from_right f)) j)

  going_digit : digit (get_or t (length f - 1 - j) 0) ≡ digit_at (size (from_right f)) j
  going_digit = low_digit _ _ (digit_small _ _) going_byte

-- the second field's digit
second_digit : (f d : List ℕ) (j : ℕ) → Operands f d → length d ≡ length f → j < length f → digit (get_or d (length f - 1 - j) 0) ≡ digit_at (size (from_right d)) j
second_digit f d j o e h = let i : length f - 1 - j ≡ length d - 1 - j = omega arith in rw i (digit_of_size d (length d) (length d - 1) j o.fits.digits (omega arith))

taken_small : (v : Bool) (d : ℕ) → d ≤ 9 → taken v d ≤ 9
taken_small false d h = h
taken_small true d h = omega arith

-- one turn, with c in its column, of which k is carried on
going_next : (v w : Bool) (f t u : List ℕ) (y start over j c k : ℕ) → Going v w f y start t over j → j < length f
    → c ≡ 0xF0 + taken v (digit_at (size (from_right f)) j) + taken w (digit_at y j) + over → k ≡ (c - 0xF0) / 10 → u ≡ set t (length f - 1 - j) (c - 10 * k)
    → Going v w f y start u k (j + 1)
going_next v w f t u y start over j c k g h e i p =
    let x = size (from_right f) in
    let one = taken_small v (digit_at x j) (digit_small x j) in
    let two = taken_small w (digit_at y j) (digit_small y j) in
    record {
      carry = omega (arith, g.carry, one, two, e, i);
      put = put_next f t u j (length f - 1) _ (c - 10 * k) g.put p (turn_digit v w (length f) j x y over c k _ h g.left e i);
      left = turn_rest v w (length f) j x y over c k _ h g.left e i;
    }

-- the turns of a loop that goes down, by the calls' promises: `at` bytes are left, b is the last of them and p what is added to it
module _ (f : List ℕ) (at : ℕ) (some : 0 < at) (in_f : at ≤ length f) where
  here : length f - 1 - (length f - at) ≡ at - 1
  here = omega arith

  next : length f - (at - 1) ≡ length f - at + 1
  next = omega arith

  turn : length f - at < length f
  turn = omega arith

  pub second_low : (d : List ℕ) → Operands f d → length d ≡ length f → digit (get_or d (at - 1) 0) ≤ 9
  second_low d o e = each_low d o.fits.digits (at - 1) (omega arith)

  pub first_low : (t : List ℕ) (over : ℕ) → Field f → Going true false f 0 1 t over (length f - at) → digit (get_or t (at - 1) 0) ≤ 9
  first_low t over o g =
      let h = going_digit true false f t 0 1 over (length f - at) o g turn in
      let k = rw here at h in
      rw k (digit_small _ _)

  module _ (w : Bool) (t : List ℕ) (start over b p : ℕ) (e : b ≡ get_or t (at - 1) 0) where
    byte : (y : ℕ) → Field f → Going false w f y start t over (length f - at) → b ≡ 0xF0 + digit_at (size (from_right f)) (length f - at)
    byte y o g = e ∙ (let h = going_byte false w f t y start over (length f - at) o g turn in rw here at h)

    small : (y : ℕ) → Field f → Going false w f y start t over (length f - at) → p ≤ 9 → b + p + over < 260
    small y o g h = omega (arith, byte y o g, digit_small (size (from_right f)) (length f - at), g.carry)

    module _ (d : List ℕ) (o : Operands f d) (same : length d ≡ length f) (g : Going false w f (size (from_right d)) start t over (length f - at))
        (i : (p ≡ taken w (digit (get_or d (at - 1) 0))) × (p ≤ 9)) where
      pub columns_small : b + p + over < 260
      columns_small = small _ o.field g i.1

      pub columns_next : (u : List ℕ) (k : ℕ) → k ≡ (b + p + over - 0xF0) / 10 → u ≡ set t (at - 1) (b + p + over - 10 * k)
          → Going false w f (size (from_right d)) start u k (length f - (at - 1))
      columns_next u k q r =
          let two : digit (get_or d (at - 1) 0) ≡ digit_at (size (from_right d)) (length f - at) = (let h = second_digit f d (length f - at) o same turn in rw here at h) in
          rw next
          (going_next false w f t u _ start over (length f - at) (b + p + over) k g turn (rw (byte _ o.field g, i.0, two)) q (rw here r))

    module _ (o : Field f) (g : Going false w f 0 start t over (length f - at)) (i : (p ≡ taken w 0) × (p ≤ 9)) where
      pub run_on_small : b + p + over < 260
      run_on_small = small _ o g i.1

      pub run_on_next : (u : List ℕ) (k : ℕ) → k ≡ (b + p + over - 0xF0) / 10 → u ≡ set t (at - 1) (b + p + over - 10 * k) → Going false w f 0 start u k (length f - (at - 1))
      run_on_next u k q r =
          rw next
          (going_next false w f t u 0 start over (length f - at) (b + p + over) k g turn (rw (byte _ o g, i.0, zero_digit (length f - at))) q (rw here r))

  pub turned_next : (t u : List ℕ) (over p k : ℕ) → Field f → Going true false f 0 1 t over (length f - at)
      → (p ≡ taken true (digit (get_or t (at - 1) 0))) × (p ≤ 9) → k ≡ (0xF0 + p + over - 0xF0) / 10 → u ≡ set t (at - 1) (0xF0 + p + over - 10 * k)
      → Going true false f 0 1 u k (length f - (at - 1))
  turned_next t u over p k o g i q r =
      let one = going_digit true false f t 0 1 over (length f - at) o g turn in
      let two = rw here at one in
      let e = rw two at i.0 in
      rw next
      (going_next true false f t u 0 1 over (length f - at) (0xF0 + p + over) k g turn (omega (arith, e, zero_digit (length f - at))) q (rw here r))

-- where the carry stands still the rest is the sum's already
module _ (w : Bool) (f t : List ℕ) (start over at c : ℕ) (o : Field f) (g : Going false w f 0 start t over (length f - at)) (some : 0 < at) (in_f : at ≤ length f) (e : over ≡ c)
    (i : c ≡ still w) where
  pub still_put : t ≡ holding f false (alone w start f)
  still_put = still_field w f t (length f - at) over (alone w start f) o (omega arith) (e ∙ i) g.left g.put

  pub still_carry : over ≡ alone w start f / 10 ^ length f
  still_carry = still_over w (length f) (length f - at) (size (from_right f)) over (alone w start f) (omega arith) (e ∙ i) g.left
