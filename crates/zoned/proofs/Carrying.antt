-- Columns in two parts, those with digits to add and those left of them, where only the carry runs on. What carries it: ten to the k takes the first k columns off.
use mathlib.Core.Path.{◌≡◌, refl, sym, ap, ◌∙◌}
use mathlib.Core.Bool.{true, Bool, false}
use mathlib.Core.List.{List, ◌++◌}
use mathlib.Core.Logic.{inr}
use Prim.Native.Nat.{ℕ, zero, suc, ◌+◌, ◌-◌, ◌*◌, ◌/◌, ◌%◌, ◌^◌, ◌≤◌, ◌<◌}
use native.Mathlib.Decide.{dec_lt}
use native.Mathlib.Nat.{pow-suc, pow-succ', div-div-eq-div-mul, div-eq_of_lt, div-one, mod-lt, mod-mod, mod-eq_of_lt, zero-div, zero-mod, one-mul, mul-add, mul_assoc, mod-add-div, add-mul-div_left, add-mul-mod_self_left}
use native.Mathlib.Omega.{arith}
use lib.ListN.{length, get_or, take, drop}
use lib.Seq.{get_or-append_right}
use borrow.Rule.Slice.PartMut.{put_mid}
use Rattle.std.proofs.lemmas.List.{length-take-le, length-drop, length-append, get_or-take, get_or-drop, get_or_append_left}
use Rattle.manual.specs.Values.{digit, size}
use Rattle.manual.proofs.Digits.{ten_pos, digit_at, digit-cut}
use Rattle.manual.proofs.FieldBytes.{written_inside, written_outside, written_length}
use Rattle.manual.proofs.ZonedRead.{zoned_byte, zoned_bytes, size_read, digit_of_size}
use Rattle.zoned.specs.Working.{from_right, holding, part, added_up, still, sum_of, alone, Field, Operands}
use Rattle.zoned.proofs.Fields.{part_of, part_length, part_byte, spliced_length, spliced_in, spliced_left, holds, held, held_length, all_low, each_low, size_below}
use Rattle.zoned.proofs.Summing.{part_next, part_none, byte_of}

-- ---- powers of ten

div_suc : (x i : ℕ) → x / 10 ^ suc i ≡ x / 10 ^ i / 10
div_suc x i = ap (λ (p : ℕ). x / p) (pow-suc 10 i) ∙ sym (div-div-eq-div-mul x (10 ^ i) 10)

pub div_more : (x j q : ℕ) → x / 10 ^ (j + q) ≡ x / 10 ^ j / 10 ^ q
div_more x j zero =
    let e : j + zero ≡ j = omega arith in
    ap (λ (k : ℕ). x / 10 ^ k) e ∙ sym (div-one (x / 10 ^ j))
div_more x j (suc q) =
    let e : j + suc q ≡ suc (j + q) = omega arith in
    ap (λ (k : ℕ). x / 10 ^ k) e ∙ div_suc x (j + q) ∙ ap (λ (k : ℕ). k / 10) (div_more x j q) ∙ sym (div_suc (x / 10 ^ j) q)

digit_more : (x j q : ℕ) → digit_at x (j + q) ≡ digit_at (x / 10 ^ j) q
digit_more x j q = ap (λ (k : ℕ). k % 10) (div_more x j q)

-- ---- where the carry stands still

still_left : (w : Bool) (c m x : ℕ) → c ≡ still w → part false m x + part w m 0 + c ≡ x % 10 ^ m + 10 ^ m * c
still_left false c m x e = rw e (omega (arith, zero-mod (10 ^ m)))
still_left true c m x e = rw e (omega (arith, zero-mod (10 ^ m), ten_pos m))

module _ (w : Bool) (n j x c T : ℕ) (le : j ≤ n) (e : c ≡ still w) (left : T / 10 ^ j ≡ added_up false w c (n - j) (x / 10 ^ j) (0 / 10 ^ j)) where
  rest : T / 10 ^ j ≡ x / 10 ^ j % 10 ^ (n - j) + 10 ^ (n - j) * c
  rest = left ∙ ap (λ (z : ℕ). added_up false w c (n - j) (x / 10 ^ j) z) (zero-div (10 ^ j)) ∙ still_left w c (n - j) (x / 10 ^ j) e

  pub still_over : c ≡ T / 10 ^ n
  still_over =
      let k : j + (n - j) ≡ n = omega arith in
      sym
      (ap (λ (i : ℕ). T / 10 ^ i) (sym k) ∙ div_more T j (n - j) ∙ ap (λ (z : ℕ). z / 10 ^ (n - j)) rest ∙
      add-mul-div_left (x / 10 ^ j % 10 ^ (n - j)) c (ten_pos (n - j)) ∙
      ap (λ (z : ℕ). z + c) (div-eq_of_lt (mod-lt (x / 10 ^ j) (ten_pos (n - j)))) ∙ omega arith)

  cuts : T / 10 ^ j % 10 ^ (n - j) ≡ x / 10 ^ j % 10 ^ (n - j)
  cuts = ap (λ (z : ℕ). z % 10 ^ (n - j)) rest ∙ add-mul-mod_self_left (x / 10 ^ j % 10 ^ (n - j)) (10 ^ (n - j)) c ∙ mod-mod (x / 10 ^ j) (10 ^ (n - j))

  still_digit : (p : ℕ) → j ≤ p → p < n → digit_at T p ≡ digit_at x p
  still_digit p h q =
      let k : j + (p - j) ≡ p = omega arith in
      let d : p - j < n - j = omega arith in
      ap (λ (i : ℕ). digit_at T i) (sym k) ∙ digit_more T j (p - j) ∙ sym (digit-cut (T / 10 ^ j) (n - j) (p - j) d) ∙
      ap (λ (z : ℕ). digit_at z (p - j)) cuts ∙ digit-cut (x / 10 ^ j) (n - j) (p - j) d ∙ sym (digit_more x j (p - j)) ∙ ap (λ (i : ℕ). digit_at x i) k

pub plain_byte : (m j : ℕ) → 0xF0 + digit_at m j ≡ zoned_byte false m j
unfolding zoned_byte
plain_byte m j = refl

-- the bytes left of it are those of the whole sum
pub still_field : (w : Bool) (f t : List ℕ) (j c T : ℕ) → Field f → j < length f → c ≡ still w
    → T / 10 ^ j ≡ added_up false w c (length f - j) (size (from_right f) / 10 ^ j) (0 / 10 ^ j) → t ≡ zoned_bytes f j (length f - 1) false T → t ≡ holding f false T
still_field w f t j c T o le e left is =
    holds f t false T (omega arith) (rw is (written_length f j (length f - 1) (zoned_byte false T))) (λ p q. rw is (pick p q (dec_lt p j)))
  where
    pick : (p : ℕ) → p < length f → Dec (p < j) → get_or (zoned_bytes f j (length f - 1) false T) (length f - 1 - p) 0 ≡ zoned_byte false T p
    pick p q (yes h) = written_inside f j (length f - 1) (zoned_byte false T) p (omega arith) (omega arith) h
    pick p q (no h) =
        written_outside f j (length f - 1) (zoned_byte false T) (length f - 1 - p) (inr (omega arith)) ∙
        byte_of (get_or f (length f - 1 - p) 0) _ (o.zones (length f - 1 - p) (omega arith))
        (digit_of_size f (length f) (length f - 1) p o.digits q ∙ sym (still_digit w (length f) j (size (from_right f)) c T (omega arith) e left p (omega arith) q)) ∙
        plain_byte T p

-- ---- columns in two parts

part_split : (v : Bool) (k m x : ℕ) → part v (k + m) x ≡ part v k x + 10 ^ k * part v m (x / 10 ^ k)
part_split v zero m x =
    let e : zero + m ≡ m = omega arith in
    ap (λ (i : ℕ). part v i x) e ∙ ap (λ (z : ℕ). part v m z) (sym (div-one x)) ∙ omega (arith, part_none v x, one-mul (part v m (x / 10 ^ 0)))
part_split v (suc k) m x =
    let e : suc k + m ≡ suc (k + m) = omega arith in
    let q : x / 10 ^ suc k ≡ x / 10 / 10 ^ k = ap (λ (p : ℕ). x / p) (pow-succ' 10 k) ∙ sym (div-div-eq-div-mul x 10 (10 ^ k)) in
    let d : 10 ^ suc k * part v m (x / 10 ^ suc k) ≡ 10 * (10 ^ k * part v m (x / 10 / 10 ^ k)) =
    rw (q, pow-succ' 10 k) (mul_assoc 10 (10 ^ k) (part v m (x / 10 / 10 ^ k))) in
    ap (λ (i : ℕ). part v i x) e ∙ omega (arith, part_next v (k + m) x, part_next v k x, part_split v k m (x / 10), d)

part_mod : (v : Bool) (k x : ℕ) → part v k (x % 10 ^ k) ≡ part v k x
part_mod false k x = mod-mod x (10 ^ k)
part_mod true k x = ap (λ (z : ℕ). 10 ^ k - 1 - z) (mod-mod x (10 ^ k))

-- T2 is the sum of k columns, and T1 that of the m left of them
module _ (w : Bool) (k m x y c : ℕ) (small : y < 10 ^ k) where
  abbrev T : ℕ
  T = added_up false w c (k + m) x y

  abbrev T2 : ℕ
  T2 = added_up false w c k (x % 10 ^ k) (y % 10 ^ k)

  abbrev T1 : ℕ
  T1 = added_up false w (T2 / 10 ^ k) m (x / 10 ^ k % 10 ^ m) 0

  glued : T ≡ T2 % 10 ^ k + 10 ^ k * T1
  glued =
      let P : ℕ = 10 ^ k in
      let X : ℕ = part false m (x / 10 ^ k) in
      let Y : ℕ = part w m (y / 10 ^ k) in
      let one : T ≡ T2 + (10 ^ k * X + 10 ^ k * Y) = omega (arith, part_split false k m x, part_split w k m y, part_mod false k x, part_mod w k y) in
      let two : T1 ≡ T2 / 10 ^ k + (X + Y) =
      ap (λ (z : ℕ). part false m (x / 10 ^ k % 10 ^ m) + part w m z + T2 / 10 ^ k) (sym (div-eq_of_lt small)) ∙ omega (arith, part_mod false m (x / 10 ^ k)) in
      let three : 10 ^ k * T1 ≡ 10 ^ k * (T2 / 10 ^ k) + (10 ^ k * X + 10 ^ k * Y) =
      ap (λ (z : ℕ). 10 ^ k * z) two ∙ mul-add (10 ^ k) (T2 / 10 ^ k) (X + Y) ∙ ap (λ (z : ℕ). 10 ^ k * (T2 / 10 ^ k) + z) (mul-add (10 ^ k) X Y) in
      omega (arith, one, three, mod-add-div T2 (10 ^ k))

  above : T / 10 ^ k ≡ T1
  above =
      ap (λ (z : ℕ). z / 10 ^ k) glued ∙ add-mul-div_left (T2 % 10 ^ k) T1 (ten_pos k) ∙ ap (λ (z : ℕ). z + T1) (div-eq_of_lt (mod-lt T2 (ten_pos k))) ∙ omega arith

  below : T % 10 ^ k ≡ T2 % 10 ^ k
  below = ap (λ (z : ℕ). z % 10 ^ k) glued ∙ add-mul-mod_self_left (T2 % 10 ^ k) (10 ^ k) T1 ∙ mod-mod T2 (10 ^ k)

  glued_over : T1 / 10 ^ m ≡ T / 10 ^ (k + m)
  glued_over = ap (λ (z : ℕ). z / 10 ^ m) (sym above) ∙ sym (div_more T k m)

  glued_right : (j : ℕ) → j < k → digit_at T2 j ≡ digit_at T j
  glued_right j q = sym (digit-cut T2 k j q) ∙ ap (λ (z : ℕ). digit_at z j) (sym below) ∙ digit-cut T k j q

  glued_left : (j : ℕ) → digit_at T1 j ≡ digit_at T (k + j)
  glued_left j = ap (λ (z : ℕ). digit_at z j) (sym above) ∙ sym (digit_more T k j)

-- ---- what the last columns, and then those left of them, leave is what all leave

field_part : (f : List ℕ) (l k : ℕ) → Field f → l + k ≤ length f → Field (part_of l k f)
field_part f l k o in_f =
    record {
      digits = all_low (part_of l k f) (λ i h. let p : i < k = omega (arith, part_length f l k in_f) in rw (part_byte f l k in_f i p) (each_low f o.digits (l + i) (omega arith)));
      zones = λ i h. let p : i < k = omega (arith, part_length f l k in_f) in rw (part_byte f l k in_f i p) (o.zones (l + i) (omega arith));
    }

module _ (f d : List ℕ) (o : Operands f d) where
  -- as the calls have it: l bytes to the left of the k that have digits to add
  abbrev l : ℕ
  l = length f - length d

  abbrev k : ℕ
  k = length f - l

  abbrev right : List ℕ
  right = part_of l k f

  abbrev x : ℕ
  x = size (from_right f)

  abbrev y : ℕ
  y = size (from_right d)

  meet : l + k ≡ length f
  meet = omega arith

  in_f : l + k ≤ length f
  in_f = omega (arith, meet)

  k_is : k ≡ length d
  k_is = omega (arith, o.fits.shorter)

  right_length : length right ≡ k
  right_length = part_length f l k in_f

  right_long : length d ≡ length right
  right_long = omega (arith, right_length, k_is)

  pub right_operands : Operands right d
  right_operands =
      record {
        field = field_part f l k o.field in_f;
        fits = record { some = o.fits.some; shorter = omega (arith, right_long); most = omega (arith, o.fits.most, right_length); digits = o.fits.digits };
      }

  y_small : y < 10 ^ length right
  y_small =
      let h = size_below d (length d) (length d - 1) o.fits.digits in
      let e : 10 ^ length d ≡ 10 ^ length right = ap (λ (n : ℕ). 10 ^ n) right_long in
      omega (arith, h, e)

  x_digit : (j : ℕ) → j < length f → digit (get_or f (length f - 1 - j) 0) ≡ digit_at x j
  x_digit j q = digit_of_size f (length f) (length f - 1) j o.field.digits q

  right_digit : (j : ℕ) → j < length right → digit (get_or right (length right - 1 - j) 0) ≡ digit_at x j
  right_digit j q =
      let e : l + (length right - 1 - j) ≡ length f - 1 - j = omega (arith, right_length, meet) in
      let h = part_byte f l k in_f (length right - 1 - j) (omega (arith, right_length)) in
      ap digit (rw e at h) ∙ x_digit j (omega (arith, right_length))

  right_size : size (from_right right) ≡ x % 10 ^ length right
  right_size = size_read right (length right) (length right - 1) x right_digit

  module _ (t : List ℕ) (same : length t ≡ length right) where
    abbrev now : List ℕ
    now = put_mid l k f t

    abbrev left : List ℕ
    left = take l now

    same_k : length t ≡ k
    same_k = same ∙ right_length

    now_length : length now ≡ length f
    now_length = spliced_length f l k in_f t same_k

    pub left_length : length left ≡ l
    left_length = length-take-le l now (omega (arith, now_length, meet))

    left_byte : (i : ℕ) → i < l → get_or left i 0 ≡ get_or f i 0
    left_byte i h = get_or-take l now i 0 h ∙ spliced_left f l k in_f t same_k i h

    pub left_field : Field left
    left_field =
        record {
          digits = all_low left (λ i h. let p : i < l = omega (arith, left_length) in rw (left_byte i p) (each_low f o.field.digits i (omega (arith, meet))));
          zones = λ i h. let p : i < l = omega (arith, left_length) in rw (left_byte i p) (o.field.zones i (omega (arith, meet)));
        }

    left_digit : (j : ℕ) → j < length left → digit (get_or left (length left - 1 - j) 0) ≡ digit_at (x / 10 ^ length right) j
    left_digit j q =
        let e : length left - 1 - j ≡ length f - 1 - (length right + j) = omega (arith, left_length, right_length, meet) in
        let h = left_byte (length left - 1 - j) (omega (arith, left_length)) in
        ap digit (h ∙ ap (λ (i : ℕ). get_or f i 0) e) ∙ x_digit (length right + j) (omega (arith, left_length, right_length, meet)) ∙ digit_more x (length right) j

    left_size : size (from_right left) ≡ x / 10 ^ length right % 10 ^ length left
    left_size = size_read left (length left) (length left - 1) (x / 10 ^ length right) left_digit

    all_is : length right + length left ≡ length f
    all_is = omega (arith, left_length, right_length, meet)

    module _ (w : Bool) (c : ℕ) (e : t ≡ holding right false (sum_of w c right d)) (over : ℕ) (i : over ≡ sum_of w c right d / 10 ^ length right) where
      right_sum : sum_of w c right d ≡ T2 w (length right) (length left) x y c y_small
      right_sum = rw (right_size, mod-eq_of_lt y_small)

      left_sum : alone w over left ≡ T1 w (length right) (length left) x y c y_small
      left_sum = rw (left_size, i, right_sum)

      pub both_over : (r : ℕ) → r ≡ alone w over left / 10 ^ length left → r ≡ sum_of w c f d / 10 ^ length f
      both_over r g =
          g ∙ ap (λ (z : ℕ). z / 10 ^ length left) left_sum ∙ glued_over w (length right) (length left) x y c y_small ∙ ap (λ (n : ℕ). added_up false w c n x y / 10 ^ n) all_is

      pub both_field : (u : List ℕ) → u ≡ holding left false (alone w over left) → u ++ drop l now ≡ holding f false (sum_of w c f d)
      both_field u g = holds f (u ++ drop l now) false (sum_of w c f d) (omega (arith, o.fits.some, o.fits.shorter)) whole (λ j q. pick j q (dec_lt j (length right)))
        where
          u_length : length u ≡ length left
          u_length = held_length left u false (alone w over left) g

          whole : length (u ++ drop l now) ≡ length f
          whole = omega (arith, length-append u (drop l now), length-drop l now, u_length, left_length, now_length, meet)

          right_byte : (j : ℕ) → j < length right → zoned_byte false (sum_of w c right d) j ≡ zoned_byte false (sum_of w c f d) j
          right_byte j q =
              sym (plain_byte (sum_of w c right d) j) ∙
              ap (λ (z : ℕ). 0xF0 + z)
              (ap (λ (z : ℕ). digit_at z j) right_sum ∙ glued_right w (length right) (length left) x y c y_small j q ∙ ap (λ (n : ℕ). digit_at (added_up false w c n x y) j) all_is) ∙
              plain_byte (sum_of w c f d) j

          left_byte_is : (j p : ℕ) → length right + j ≡ p → zoned_byte false (alone w over left) j ≡ zoned_byte false (sum_of w c f d) p
          left_byte_is j p z =
              sym (plain_byte (alone w over left) j) ∙
              ap (λ (z : ℕ). 0xF0 + z)
              (ap (λ (z : ℕ). digit_at z j) left_sum ∙ glued_left w (length right) (length left) x y c y_small j ∙
              ap (λ (n : ℕ). digit_at (added_up false w c n x y) (length right + j)) all_is ∙ ap (λ (n : ℕ). digit_at (sum_of w c f d) n) z) ∙
              plain_byte (sum_of w c f d) p

          pick : (j : ℕ) → j < length f → Dec (j < length right) → get_or (u ++ drop l now) (length f - 1 - j) 0 ≡ zoned_byte false (sum_of w c f d) j
          pick j q (yes p) =
              let h : l + (length f - 1 - j - length u) ≡ l + (length right - 1 - j) = omega (arith, u_length, left_length, right_length, meet) in
              get_or-append_right u (drop l now) (length f - 1 - j) 0 (omega (arith, u_length, left_length, right_length, meet)) ∙
              get_or-drop l now (length f - 1 - j - length u) 0 ∙ ap (λ (n : ℕ). get_or now n 0) h ∙
              spliced_in f l k in_f t same_k (length right - 1 - j) (omega (arith, right_length)) ∙ held right t false (sum_of w c right d) e j p ∙ right_byte j p
          pick j q (no p) =
              let h : length f - 1 - j ≡ length left - 1 - (j - length right) = omega (arith, all_is) in
              get_or_append_left u (drop l now) 0 (length f - 1 - j) (omega (arith, u_length, all_is)) ∙ ap (λ (n : ℕ). get_or u n 0) h ∙
              held left u false (alone w over left) g (j - length right) (omega (arith, all_is)) ∙ left_byte_is (j - length right) j (omega arith)
