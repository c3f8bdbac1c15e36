-- Columns of digits, turn by turn. What carries it: division by ten takes the first column off.
use mathlib.Core.Path.{◌≡◌, sym, ap, ◌∙◌}
use mathlib.Core.Bool.{Bool, true, false}
use mathlib.Core.List.{List}
use mathlib.Core.Logic.{inr}
use Prim.Native.Nat.{ℕ, suc, ◌+◌, ◌-◌, ◌*◌, ◌/◌, ◌%◌, ◌^◌, ◌≤◌, ◌<◌}
use native.Mathlib.Nat.{pow-suc, div-div-eq-div-mul, sub-zero, div-one, mod-lt, mod-one, zero-div}
use native.Mathlib.Numerals.{add-one}
use native.Mathlib.Omega.{arith}
use lib.ListN.{length, get_or, set}
use Rattle.manual.specs.Values.{digit, zone, size}
use Rattle.manual.proofs.Digits.{ten_pos, digit_at, cut_next}
use Rattle.manual.proofs.FieldBytes.{written_next, written_outside}
use Rattle.manual.proofs.ZonedRead.{zoned_byte, zoned_bytes, digit_of_size}
use Rattle.zoned.specs.Working.{from_right, taken, part, added_up, Field}

-- ---- one column after another

div_next : (x i : ℕ) → x / 10 ^ (i + 1) ≡ x / 10 ^ i / 10
div_next x i = ap (λ (p : ℕ). x / p) (ap (λ (k : ℕ). 10 ^ k) (add-one i) ∙ pow-suc 10 i) ∙ sym (div-div-eq-div-mul x (10 ^ i) 10)

pub part_next : (v : Bool) (n x : ℕ) → part v (suc n) x ≡ taken v (x % 10) + 10 * part v n (x / 10)
part_next false n x = sym (cut_next x n)
part_next true n x = omega (arith, cut_next x n, pow-suc 10 n, mod-lt (x / 10) (ten_pos n))

pub sum_first : (v w : Bool) (c n x y : ℕ) → added_up v w c n x y / 10 ^ 0 ≡ added_up v w c (n - 0) (x / 10 ^ 0) (y / 10 ^ 0)
sum_first v w c n x y = simp (div-one, sub-zero)

pub part_none : (v : Bool) (x : ℕ) → part v 0 x ≡ 0
part_none false x = mod-one x
part_none true x = omega (arith, mod-one x)

-- T is the whole sum; t is its column i on top of the zone, with the carry c into it, and k is what that carries on
module _ (v w : Bool) (n i x y c t k T : ℕ) (h : i < n) (left : T / 10 ^ i ≡ added_up v w c (n - i) (x / 10 ^ i) (y / 10 ^ i))
    (e : t ≡ 0xF0 + taken v (digit_at x i) + taken w (digit_at y i) + c) (f : k ≡ (t - 0xF0) / 10) where
  column : T / 10 ^ i + 0xF0 ≡ t + 10 * (part v (n - (i + 1)) (x / 10 ^ i / 10) + part w (n - (i + 1)) (y / 10 ^ i / 10))
  column =
      let q : n - i ≡ suc (n - (i + 1)) = omega arith in
      let r = rw q at left in
      omega (arith, r, part_next v (n - (i + 1)) (x / 10 ^ i), part_next w (n - (i + 1)) (y / 10 ^ i))

  above : 0xF0 ≤ t
  above = omega (arith, e)

  pub turn_digit : t - 10 * k ≡ 0xF0 + digit_at T i
  turn_digit = omega (arith, column, above, f)

  pub turn_rest : T / 10 ^ (i + 1) ≡ added_up v w k (n - (i + 1)) (x / 10 ^ (i + 1)) (y / 10 ^ (i + 1))
  turn_rest = rw (div_next T i, div_next x i, div_next y i) (omega (arith, column, above, f))

-- one more digit of T stands in the field
pub put_next : (s s₁ s₂ : List ℕ) (i a T v : ℕ) → s₁ ≡ zoned_bytes s i a false T → s₂ ≡ set s₁ (a - i) v → v ≡ 0xF0 + digit_at T i
    → s₂ ≡ zoned_bytes s (i + 1) a false T
unfolding zoned_byte
put_next s s₁ s₂ i a T v e f d = rw (written_next, ← e, ← d) f

pub zero_digit : (i : ℕ) → digit_at 0 i ≡ 0
zero_digit i = ap (λ (k : ℕ). k % 10) (zero-div (10 ^ i))

-- ---- fields of digits

-- the byte whose turn it is, while those to its right are replaced
pub byte_of : (b d : ℕ) → zone b ≡ 0xF → digit b ≡ d → b ≡ 0xF0 + d
byte_of b d p q = omega arith

pub next_byte : (f t : List ℕ) (i T : ℕ) → Field f → i < length f → t ≡ zoned_bytes f i (length f - 1) false T
    → get_or t (length f - 1 - i) 0 ≡ 0xF0 + digit_at (size (from_right f)) i
next_byte f t i T o h e =
    rw e
    (written_outside f i (length f - 1) (zoned_byte false T) (length f - 1 - i) (inr (omega arith)) ∙
    byte_of (get_or f (length f - 1 - i) 0) _ (o.zones (length f - 1 - i) (omega arith)) (digit_of_size f (length f) (length f - 1) i o.digits h))
