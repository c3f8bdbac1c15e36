-- What the columns of two fields leave, finished, is their exact sum or difference, and what a copy of operand 2 leaves is its value. What carries it: the sum of the columns is that size, or ten to the n more.
use mathlib.Core.Path.{◌≡◌, refl, sym, ap, ◌∙◌}
use mathlib.Core.Bool.{Bool, true, false, cond, not, beq}
use mathlib.Core.List.{List, [], ◌++◌, append-nil}
use Prim.Native.Nat.{ℕ, ◌+◌, ◌-◌, ◌/◌, ◌%◌, ◌^◌, ◌≤◌, ◌<◌}
use native.Mathlib.Decide.{dec_le, dec_lt}
use native.Mathlib.Nat.{zero-mod, add-mod_right, mod-eq_of_lt, div-eq_of_lt, div-eq_of_lt-le, pow-le-pow_right}
use native.Mathlib.Omega.{arith}
use lib.Dec.{eqb, leb}
use lib.IntN.{ℤ, ◌+ℤ◌, ◌-ℤ◌}
use lib.ListN.{length, get_or, take, drop, replicate, get_or-replicate, length-replicate}
use lib.Seq.{take_all, drop_at}
use Rattle.std.proofs.Math.ListN.{drop_of_length-le}
use borrow.Author.Tests.{le-leb, lt-leb, leb-true, leb-false, eq-eqb, ne_eqb}
use borrow.Rule.Slice.PartMut.{put_mid}
use Rattle.std.proofs.lemmas.List.{length-take-le, length-drop, length-append, get_or_append_left, take-replicate}
use Rattle.manual.specs.Values.{bytes_of, digit, size, minus, value, all_digits, cut, left_minus}
use Rattle.manual.specs.Zoned.{l1, l2, zoned_status}
use Rattle.manual.proofs.Digits.{ten_pos, digit_at}
use Rattle.manual.proofs.ZonedRead.{zoned_bytes, zoned_size, digit_of_size}
use Rattle.zoned.proofs.Fields.{part_of, spliced_length, spliced_in, spliced_left, field_length, field_bytes, put_back, size_below, zones_size, zones_field, held_length, holds, holding_alike, field_put}
use Rattle.zoned.specs.Working.{Ready, from_right, Zones, holding, Field, Fits, Operands, sum_of, round_of, sign_put, finished, signed_sum, Left, LeftIn}
use Rattle.zoned.proofs.Carrying.{plain_byte}
use Rattle.zoned.proofs.Signs.{add_alike, add_unlike, add_other, op_signed, same_sign, other_sign}
use Rattle.zoned.proofs.Settling.{settled}

-- ---- two fields of digits

-- a carry out of the columns of two
carry_out : (T P : ℕ) → 0 < P → T < P + P → eqb (T / P) 1 ≡ leb P T
carry_out T P h q = pick (dec_le P T)
  where
    pick : Dec (P ≤ T) → eqb (T / P) 1 ≡ leb P T
    pick (yes p) =
        let e : T / P ≡ 1 = div-eq_of_lt-le {k = 1} P (omega arith) (omega arith) in
        rw (e, le-leb P T p)
    pick (no p) =
        let r : T < P = omega arith in
        rw (div-eq_of_lt r, lt-leb P T r)

module _ (f d : List ℕ) (status : ℕ) (g : Bool) (o : Operands f d) where
  abbrev P : ℕ
  P = 10 ^ length f

  abbrev x : ℕ
  x = size (from_right f)

  abbrev y : ℕ
  y = size (from_right d)

  some : 0 < length f
  some = omega (arith, o.fits.some, o.fits.shorter)

  x_small : x < P
  x_small = size_below f (length f) (length f - 1) o.field.digits

  y_small : y < P
  y_small = omega (arith, size_below d (length d) (length d - 1) o.fits.digits, pow-le-pow_right {n = 10} (omega arith) {i = length d} {j = length f} o.fits.shorter)

  -- of one sign
  abbrev plus : ℕ
  plus = sum_of false 0 f d

  plus_is : plus ≡ x + y
  plus_is = omega (arith, mod-eq_of_lt x_small, mod-eq_of_lt y_small)

  pub sum_left : (over : ℕ) (t u : List ℕ) (r : ℕ) → t ≡ holding f false plus → over ≡ plus / P
      → r ≡ finished g (eqb over 1) (eqb (size (from_right t)) 0) status → u ≡ sign_put g (eqb (size (from_right t)) 0) t → LeftIn f status (signed_sum g g f d) r u
  sum_left over t u r e i h k =
      let small : plus < P + P = omega (arith, plus_is, x_small, y_small) in
      let flow : eqb over 1 ≡ leb P (x + y) = ap (λ (v : ℕ). eqb v 1) i ∙ carry_out plus P (ten_pos (length f)) small ∙ ap (λ (v : ℕ). leb P v) plus_is in
      rw (add_alike g x y) (settled f status plus (x + y) g (eqb over 1) some (ap (λ (v : ℕ). v % P) plus_is) flow t r u e h k)

  -- of two signs: ten to the n more than the difference
  abbrev ahead : ℕ
  ahead = sum_of true 1 f d

  ahead_is : ahead + y ≡ x + P
  ahead_is = omega (arith, mod-eq_of_lt x_small, mod-eq_of_lt y_small, y_small)

  module _ (over : ℕ) (t : List ℕ) (e : t ≡ holding f false ahead) (i : over ≡ ahead / P) where
    test : eqb over 1 ≡ leb P ahead
    test = ap (λ (v : ℕ). eqb v 1) i ∙ carry_out ahead P (ten_pos (length f)) (omega (arith, ahead_is, x_small, y_small, ten_pos (length f)))

    pub again : Field t
    again = field_put f ahead t some e

    pub more_left : over ≡ 1 → (r : ℕ) (u : List ℕ) → r ≡ finished g false (eqb (size (from_right t)) 0) status → u ≡ sign_put g (eqb (size (from_right t)) 0) t
        → LeftIn f status (signed_sum g (not g) f d) r u
    more_left q r u h k =
        let full : P ≤ ahead = leb-true P ahead (sym test ∙ eq-eqb over 1 q) in
        let le : y ≤ x = omega (arith, ahead_is) in
        let is : ahead ≡ x - y + P = omega (arith, ahead_is) in
        rw (add_unlike g x y le)
        (settled f status ahead (x - y) g false some (ap (λ (v : ℕ). v % P) is ∙ add-mod_right (x - y) P) (sym (lt-leb P (x - y) (omega (arith, x_small)))) t r u e h k)

    -- without a carry: ten to the n less that is the difference
    abbrev below : ℕ
    below = round_of t

    same : length t ≡ length f
    same = held_length f t false ahead e

    short : (over ≡ 1 → ⊥) → ahead < P
    short q = leb-false P ahead (sym test ∙ ne_eqb over 1 q)

    again_size : ahead < P → size (from_right t) ≡ ahead
    again_size h = rw (same, e) (zoned_size f (length f) (length f - 1) false ahead (omega (arith, some)) (omega (arith, some)) ∙ mod-eq_of_lt h)

    below_is : ahead < P → below ≡ y - x
    below_is h =
        let p : size (from_right t) % P ≡ ahead = rw (again_size h) (mod-eq_of_lt h) in
        let whole : 10 ^ length t ≡ P = ap (λ (n : ℕ). 10 ^ n) same in
        let q : size (from_right t) % 10 ^ length t ≡ ahead = rw whole p in
        omega (arith, q, zero-mod (10 ^ length t), ahead_is, whole)

    pub less_left : (over ≡ 1 → ⊥) → (v : List ℕ) → v ≡ holding t false below → (r : ℕ) (u : List ℕ)
        → r ≡ finished (not g) false (eqb (size (from_right v)) 0) status → u ≡ sign_put (not g) (eqb (size (from_right v)) 0) v
        → LeftIn f status (signed_sum g (not g) f d) r u
    less_left q v e₂ r u h k =
        let lt : x < y = omega (arith, short q, ahead_is) in
        let whole : v ≡ holding f false below = holding_alike f t v false below some same e₂ in
        rw (add_other g x y lt)
        (settled f status below (y - x) (not g) false some (ap (λ (n : ℕ). n % P) (below_is (short q))) (sym (lt-leb P (y - x) (omega (arith, y_small)))) v r u whole h k)

-- ---- zones put first

module _ (f d t : List ℕ) (status : ℕ) (fits : Fits f d) (good : all_digits (from_right f) ≡ true) (z : Zones f t) where
  pub both_operands : Operands t d
  both_operands =
      record {
        field = zones_field f t z good;
        fits = record { some = fits.some; shorter = omega (arith, fits.shorter, z.same_length); most = omega (arith, fits.most, z.same_length); digits = fits.digits };
      }

  nonempty : 0 < length f
  nonempty = omega (arith, fits.some, fits.shorter)

  -- change neither the exact sum nor the result
  pub zone_left : (g h : Bool) (r : ℕ) (u : List ℕ) → LeftIn t status (signed_sum g h t d) r u → LeftIn f status (signed_sum g h f d) r u
  zone_left g h r u l =
      let m : LeftIn t status (signed_sum g h f d) r u = rw (zones_size f t z good) at l in
      record {
        storage = holding_alike f t u _ _ nonempty z.same_length m.storage ∙ ap (λ (n : ℕ). holding f (left_minus n (signed_sum g h f d)) (cut n (signed_sum g h f d))) z.same_length;
        status_after = m.status_after ∙ ap (λ (n : ℕ). zoned_status n status (signed_sum g h f d)) z.same_length;
      }

  module _ (less g1 g2 : Bool) (i : g1 ≡ minus (from_right f)) (j : g2 ≡ minus (from_right d)) where
    abbrev exactly : ℤ
    exactly = cond less ◌-ℤ◌ ◌+ℤ◌ (value (from_right f)) (value (from_right d))

    exact : (h : Bool) → not (beq g2 less) ≡ h → exactly ≡ signed_sum g1 h f d
    unfolding value
    exact h k = rw (← i, ← j, ← k) (op_signed less g1 g2 (size (from_right f)) (size (from_right d)))

    pub sum_all : (r : ℕ) (u : List ℕ) → LeftIn t status (signed_sum g1 g1 t d) r u → beq g1 (not (beq g2 less)) ≡ true → LeftIn f status exactly r u
    sum_all r u l x = rw (exact g1 (same_sign g1 _ x)) (zone_left g1 g1 r u l)

    pub difference_all : (r : ℕ) (u : List ℕ) → LeftIn t status (signed_sum g1 (not g1) t d) r u → beq g1 (not (beq g2 less)) ≡ false → LeftIn f status exactly r u
    difference_all r u l x = rw (exact (not g1) (other_sign g1 _ x)) (zone_left g1 (not g1) r u l)

-- ---- ZAZ: zeros in front of the second field, and then the zones

module _ (f d : List ℕ) (fits : Fits f d) (zs e t : List ℕ) (zero : zs ≡ replicate (length (take (length f - length d) f)) 0) (is : e ≡ d) where
  abbrev l : ℕ
  l = length f - length d

  abbrev cleared : List ℕ
  cleared = zs ++ drop l f

  abbrev k : ℕ
  k = length cleared - l

  abbrev m : ℕ
  m = size (from_right d)

  zs_length : length zs ≡ l
  zs_length = ap length zero ∙ length-replicate _ _ ∙ length-take-le l f (omega arith)

  cleared_length : length cleared ≡ length f
  cleared_length = omega (arith, length-append zs (drop l f), length-drop l f, zs_length)

  in_cleared : l + k ≤ length cleared
  in_cleared = omega (arith, cleared_length)

  k_is : length e ≡ k
  k_is = ap length is ∙ omega (arith, cleared_length, fits.shorter)

  nonzero : 0 < length f
  nonzero = omega (arith, fits.some, fits.shorter)

  put_length : length (put_mid l k cleared e) ≡ length f
  put_length = spliced_length cleared l k in_cleared e k_is ∙ cleared_length

  put_digit : (j : ℕ) → j < length f → Dec (j < length d) → digit (get_or (put_mid l k cleared e) (length f - 1 - j) 0) ≡ digit_at m j
  put_digit j q (yes p) =
      let i : l + (length d - 1 - j) ≡ length f - 1 - j = omega (arith, fits.shorter) in
      let h = spliced_in cleared l k in_cleared e k_is (length d - 1 - j) (omega (arith, k_is, ap length is)) in
      ap digit (rw i at h ∙ ap (λ (v : List ℕ). get_or v (length d - 1 - j) 0) is) ∙ digit_of_size d (length d) (length d - 1) j fits.digits p
  put_digit j q (no p) =
      let i : length f - 1 - j < l = omega (arith, fits.shorter) in
      let small : m < 10 ^ j =
      omega (arith, size_below d (length d) (length d - 1) fits.digits, pow-le-pow_right {n = 10} (omega arith) {i = length d} {j = j} (omega arith)) in
      let long : length (take l f) ≡ l = length-take-le l f (omega arith) in
      ap digit
      (spliced_left cleared l k in_cleared e k_is (length f - 1 - j) i ∙ get_or_append_left zs (drop l f) 0 (length f - 1 - j) (omega (arith, zs_length)) ∙
      ap (λ (v : List ℕ). get_or v (length f - 1 - j) 0) zero ∙ get_or-replicate (length (take l f)) (length f - 1 - j) 0 0 (omega (arith, long))) ∙
      sym (ap (λ (h : ℕ). h % 10) (div-eq_of_lt small))

  module _ (z : Zones (put_mid l k cleared e) t) where
    t_length : length t ≡ length f
    t_length = z.same_length ∙ put_length

    value_held : t ≡ holding f false m
    value_held =
        holds f t false m nonzero t_length
        (λ j q. z.each (length f - 1 - j) (omega (arith, put_length)) ∙ ap (λ (d : ℕ). 0xF0 + d) (put_digit j q (dec_lt j (length d))) ∙ plain_byte m j)

    pub value_left : (status r : ℕ) (g : Bool) (u : List ℕ) → g ≡ minus (from_right d) → r ≡ finished g false (eqb (size (from_right t)) 0) status
        → u ≡ sign_put g (eqb (size (from_right t)) 0) t → LeftIn f status (value (from_right d)) r u
    unfolding value
    value_left status r g u i h p =
        let small : m < 10 ^ length f =
        omega (arith, size_below d (length d) (length d - 1) fits.digits, pow-le-pow_right {n = 10} (omega arith) {i = length d} {j = length f} fits.shorter) in
        rw (← i) (settled f status m m g false nonzero refl (sym (lt-leb (10 ^ length f) m small)) t r u value_held h p)

-- a list put at the end of zeros stands behind those that are left
pub at_end : (m a k : ℕ) (ys zs : List ℕ) → ys ≡ zs → a ≤ m → a + k ≡ m → put_mid a k (replicate m 0) ys ≡ replicate a 0 ++ zs
at_end m a k ys zs e h l =
    let cleared : List ℕ = replicate m 0 in
    let whole : length cleared ≡ m = length-replicate m 0 in
    let front : take a cleared ≡ replicate a 0 = take-replicate a m 0 h in
    let rest : drop k (drop a cleared) ≡ [] = drop_of_length-le (drop a cleared) {i = k} (omega (arith, length-drop a cleared, whole)) in
    ap (λ (t : List ℕ). t ++ (ys ++ drop k (drop a cleared))) front ∙ ap (λ (t : List ℕ). replicate a 0 ++ (ys ++ t)) rest
    ∙ ap (λ (t : List ℕ). replicate a 0 ++ t) (append-nil ys ∙ e)

-- ---- operand 1 in storage as a field, and operand 2's copy: r is operand 2's field, and n and k are what the calls of l1 and l2 answer

module _ (s : List ℕ) (q a1 a2 n k : ℕ) (ready : Ready s q a1 a2) (byte : q < 256) (one : n ≡ l1 q) (two : k ≡ l2 q) (c r : List ℕ)
    (copied : c ≡ replicate (16 - length r) 0 ++ r) (told : (length r ≡ k) × (from_right r ≡ bytes_of s k a2)) where
  abbrev first : List ℕ
  first = part_of (a1 + 1 - n) (a1 + 1 - (a1 + 1 - n)) s

  abbrev second : List ℕ
  second = part_of (16 - k) (16 - (16 - k)) c

  reaches : n ≤ a1 + 1
  reaches = omega (arith, ready.fits_one)

  second_is : second ≡ r
  second_is =
      ap (λ (l : List ℕ). part_of (16 - k) (16 - (16 - k)) l) (rw told.0 at copied)
      ∙ ap (take (16 - (16 - k))) (drop_at (replicate (16 - k) 0) r (16 - k) (length-replicate (16 - k) 0))
      ∙ take_all (16 - (16 - k)) r (omega (arith, told.0, two))

  second_bytes : from_right second ≡ bytes_of s (l2 q) a2
  second_bytes = ap from_right second_is ∙ told.1 ∙ ap (λ (h : ℕ). bytes_of s h a2) two

  first_length : length first ≡ n
  first_length = field_length s n a1 ready.inside_one reaches

  first_bytes : from_right first ≡ bytes_of s (l1 q) a1
  first_bytes = field_bytes s n a1 ready.inside_one reaches ∙ ap (λ (h : ℕ). bytes_of s h a1) one

  pub first_digits : all_digits (bytes_of s (l1 q) a1) ≡ true → all_digits (from_right first) ≡ true
  first_digits h = rw first_bytes h

  back : (status v : ℕ) (x : ℤ) (t : List ℕ) → LeftIn first status x v t → Left s (l1 q) a1 status x v (put_mid (a1 + 1 - n) (a1 + 1 - (a1 + 1 - n)) s t)
  back status v x t h =
      let long : length first ≡ l1 q = first_length ∙ one in
      record {
        storage =
            put_back s n a1 ready.inside_one reaches _ _ t h.storage ∙ ap (λ (i : ℕ). zoned_bytes s i a1 (left_minus (length first) x) (cut (length first) x)) one ∙
            ap (λ (i : ℕ). zoned_bytes s (l1 q) a1 (left_minus i x) (cut i x)) long;
        status_after = h.status_after ∙ ap (λ (i : ℕ). zoned_status i status x) long;
      }

  pub second_left : (status v : ℕ) (t : List ℕ) → LeftIn first status (value (from_right second)) v t
      → Left s (l1 q) a1 status (value (bytes_of s (l2 q) a2)) v (put_mid (a1 + 1 - n) (a1 + 1 - (a1 + 1 - n)) s t)
  second_left status v t h = back status v _ t (rw second_bytes at h)

  pub both_left : (less : Bool) (status v : ℕ) (t : List ℕ) → LeftIn first status (cond less ◌-ℤ◌ ◌+ℤ◌ (value (from_right first)) (value (from_right second))) v t
      → Left s (l1 q) a1 status (cond less ◌-ℤ◌ ◌+ℤ◌ (value (bytes_of s (l1 q) a1)) (value (bytes_of s (l2 q) a2))) v (put_mid (a1 + 1 - n) (a1 + 1 - (a1 + 1 - n)) s t)
  both_left less status v t h = back status v _ t (rw (first_bytes, second_bytes) at h)
