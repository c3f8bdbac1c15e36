-- Fields, part by part and byte by byte: digits tested and zones put from both ends, and digits that are zero. What carries it: a byte from the left is one from the right.
use mathlib.Core.Path.{◌≡◌, refl, sym, ap, ◌∙◌}
use mathlib.Core.Bool.{Bool, true, false, false≢true}
use mathlib.Core.List.{List, ◌++◌}
use mathlib.Core.Logic.{◌↔◌, inl, inr}
use Prim.Native.Nat.{ℕ, zero, suc, ◌+◌, ◌-◌, ◌/◌, ◌%◌, ◌^◌, ◌≤◌, ◌<◌}
use native.Mathlib.Decide.{dec_lt}
use native.Mathlib.Nat.{sub-zero, zero-div, zero-mod, mod-lt, mod-eq_of_lt}
use native.Mathlib.Omega.{arith}
use lib.Dec.{eqb}
use lib.ListN.{length, get_or, take, drop, get_or-eq_default}
use lib.Seq.{get_or-append_right}
use borrow.Author.Tests.{ne_eqb, eq-eqb}
use borrow.Rule.Slice.PartMut.{put_mid}
use Rattle.std.proofs.lemmas.List.{length-take-le, length-drop, length-append, get_or-take, get_or-drop, get_or_append_left}
use Rattle.manual.specs.Values.{bytes_of, digit, zone, size, minus, all_digits}
use Rattle.manual.proofs.Digits.{ten_pos, digit_at, digit_small}
use Rattle.manual.proofs.FieldBytes.{Outside, written_once, written_length}
use Rattle.manual.proofs.ZonedRead.{zoned_byte, zoned_bytes, size_read, digits_read, digit_of_size, zoned_all, zoned_byte_lem, minus_read}
use Rattle.zoned.specs.Working.{from_right, Digits, Zones, Field, holding}

-- ---- a part of a slice

bytes_alike : (s t : List ℕ) (n a b : ℕ) → ((j : ℕ) → j < n → get_or s (a - j) 0 ≡ get_or t (b - j) 0) → bytes_of s n a ≡ bytes_of t n b
unfolding bytes_of
bytes_alike s t zero a b h = refl
bytes_alike s t (suc n) a b h =
    let e : get_or s a 0 ≡ get_or t b 0 = rw (sub-zero a, sub-zero b) at (h 0 (omega arith)) in
    let r = bytes_alike s t n (a - 1) (b - 1) (λ j q. let e : a - 1 - j ≡ a - suc j = omega arith in let f : b - 1 - j ≡ b - suc j = omega arith in rw (e, f) (h (suc j) (omega arith))) in
    cc

-- the part of s from l on that is k long
abbrev pub part_of : ℕ → ℕ → List ℕ → List ℕ
part_of l k s = take k (drop l s)

module _ (s : List ℕ) (l k : ℕ) (in_s : l + k ≤ length s) where
  pub part_length : length (part_of l k s) ≡ k
  part_length = length-take-le k (drop l s) (omega (arith, length-drop l s))

  pub part_byte : (i : ℕ) → i < k → get_or (part_of l k s) i 0 ≡ get_or s (l + i) 0
  part_byte i h = get_or-take k (drop l s) i 0 h ∙ get_or-drop l s i 0

  -- with t in its place
  module _ (t : List ℕ) (same : length t ≡ k) where
    before : length (take l s) ≡ l
    before = length-take-le l s (omega arith)

    pub spliced_length : length (put_mid l k s t) ≡ length s
    spliced_length = omega (arith, length-append (take l s) (t ++ drop k (drop l s)), length-append t (drop k (drop l s)), length-drop k (drop l s), length-drop l s, before)

    pub spliced_in : (i : ℕ) → i < k → get_or (put_mid l k s t) (l + i) 0 ≡ get_or t i 0
    spliced_in i h =
        let e : l + i - length (take l s) ≡ i = omega (arith, before) in
        get_or-append_right (take l s) (t ++ drop k (drop l s)) (l + i) 0 (omega (arith, before)) ∙ (rw e (get_or_append_left t (drop k (drop l s)) 0 i (omega arith)))

    pub spliced_left : (i : ℕ) → i < l → get_or (put_mid l k s t) i 0 ≡ get_or s i 0
    spliced_left i h = get_or_append_left (take l s) (t ++ drop k (drop l s)) 0 i (omega (arith, before)) ∙ get_or-take l s i 0 h

    pub spliced_right : (i : ℕ) → l + k ≤ i → get_or (put_mid l k s t) i 0 ≡ get_or s i 0
    spliced_right i h =
        let e : l + (k + (i - length (take l s) - length t)) ≡ i = omega (arith, before) in
        get_or-append_right (take l s) (t ++ drop k (drop l s)) i 0 (omega (arith, before)) ∙
        get_or-append_right t (drop k (drop l s)) (i - length (take l s)) 0 (omega (arith, before)) ∙
        get_or-drop k (drop l s) (i - length (take l s) - length t) 0 ∙ get_or-drop l s (k + (i - length (take l s) - length t)) 0 ∙ ap (λ (j : ℕ). get_or s j 0) e

-- the n bytes of storage whose rightmost is at a, as a slice
module _ (s : List ℕ) (n a : ℕ) (inn : a < length s) (fits : n ≤ a + 1) where
  lies : a + 1 - n + (a + 1 - (a + 1 - n)) ≤ length s
  lies = omega arith

  pub field_length : length (part_of (a + 1 - n) (a + 1 - (a + 1 - n)) s) ≡ n
  field_length = part_length s (a + 1 - n) (a + 1 - (a + 1 - n)) lies ∙ omega arith

  pub field_bytes : from_right (part_of (a + 1 - n) (a + 1 - (a + 1 - n)) s) ≡ bytes_of s n a
  field_bytes = rw field_length (bytes_alike (part_of (a + 1 - n) (a + 1 - (a + 1 - n)) s) s n (n - 1) a
      (λ j q. let e : a + 1 - n + (n - 1 - j) ≡ a - j = omega arith in rw e at (part_byte s (a + 1 - n) (a + 1 - (a + 1 - n)) lies (n - 1 - j) (omega arith))))

  -- m put in it is m put in storage
  pub put_back : (g : Bool) (m : ℕ) (t : List ℕ) → t ≡ holding (part_of (a + 1 - n) (a + 1 - (a + 1 - n)) s) g m
      → put_mid (a + 1 - n) (a + 1 - (a + 1 - n)) s t ≡ zoned_bytes s n a g m
  put_back g m t e =
      let p = part_of (a + 1 - n) (a + 1 - (a + 1 - n)) s in
      let k : length t ≡ length p = rw e (written_length p (length p) (length p - 1) (zoned_byte g m)) in
      let same : length t ≡ a + 1 - (a + 1 - n) = omega (arith, k, field_length) in
      written_once s n a (zoned_byte g m) _ inn fits (spliced_length s (a + 1 - n) (a + 1 - (a + 1 - n)) lies t same)
      (λ j q.
      let i : a + 1 - n + (n - 1 - j) ≡ a - j = omega arith in
      let x : n - 1 - j ≡ length p - 1 - j = omega (arith, field_length) in
      rw i at (spliced_in s (a + 1 - n) (a + 1 - (a + 1 - n)) lies t same (n - 1 - j) (omega arith)) ∙
      rw (e, x) (zoned_byte_lem p (length p) (length p - 1) g m (omega (arith, field_length)) (omega (arith, field_length)) j (omega (arith, field_length))))
      (λ i o. beyond t same i o)
    where
      beyond : (t : List ℕ) → length t ≡ a + 1 - (a + 1 - n) → (i : ℕ) → Outside n a i → get_or (put_mid (a + 1 - n) (a + 1 - (a + 1 - n)) s t) i 0 ≡ get_or s i 0
      beyond t same i (inl h) = spliced_right s (a + 1 - n) (a + 1 - (a + 1 - n)) lies t same i (omega arith)
      beyond t same i (inr h) = spliced_left s (a + 1 - n) (a + 1 - (a + 1 - n)) lies t same i (omega arith)

-- ---- digits

pub each_low : (f : List ℕ) → all_digits (from_right f) ≡ true → Digits f
each_low f e i q =
    let j : length f - 1 - (length f - 1 - i) ≡ i = omega arith in
    let h : digit (get_or f (length f - 1 - (length f - 1 - i)) 0) ≤ 9 =
    rw (digit_of_size f (length f) (length f - 1) (length f - 1 - i) e (omega arith)) (digit_small (size (from_right f)) (length f - 1 - i)) in
    rw j at h

pub all_low : (f : List ℕ) → Digits f → all_digits (from_right f) ≡ true
all_low f d = digits_read f (length f) (length f - 1) (λ j q. d (length f - 1 - j) (omega arith))

pub bad_told : (r : Bool) (f : List ℕ) → (r ≡ false) ↔ Digits f → r ≡ true → all_digits (from_right f) ≡ false
bad_told r f t e = pick (all_digits (from_right f)) refl
  where
    pick : (b : Bool) → all_digits (from_right f) ≡ b → all_digits (from_right f) ≡ false
    pick true g = absurd (false≢true (sym (t.1 (each_low f g)) ∙ e))
    pick false g = g

pub good_told : (r : Bool) (f : List ℕ) → (r ≡ false) ↔ Digits f → r ≡ false → all_digits (from_right f) ≡ true
good_told r f t e = all_low f (t.0 e)

-- of the first k and of what follows the first l
module _ (f : List ℕ) (k : ℕ) (r : Bool) (told : (r ≡ false) ↔ Digits (take k f)) (in_f : k ≤ length f) where
  first : Digits f → Digits (take k f)
  first d i h = let p : i < k = omega (arith, length-take-le k f in_f) in rw (get_or-take k f i 0 p) (d i (omega arith))

  pub bad_first : r ≡ true → (r ≡ false) ↔ Digits f
  bad_first e = (λ h. absurd (false≢true (sym h ∙ e)), λ d. told.1 (first d))

  pub bad_last : r ≡ false → (l m : ℕ) → l + m ≡ length f → l ≤ k → (q : Bool) → (q ≡ false) ↔ Digits (part_of l m f) → (q ≡ false) ↔ Digits f
  bad_last e l m whole le q rest = (λ h i p. pick (told.0 e) (rest.0 h) i p (dec_lt i k), λ d. rest.1 (last d))
    where
      in_part : l + m ≤ length f
      in_part = omega arith

      last : Digits f → Digits (part_of l m f)
      last d i h =
          let p : i < m = omega (arith, part_length f l m in_part) in
          rw (part_byte f l m in_part i p) (d (l + i) (omega arith))

      pick : Digits (take k f) → Digits (part_of l m f) → (i : ℕ) → i < length f → Dec (i < k) → digit (get_or f i 0) ≤ 9
      pick d g i p (yes x) = rw (get_or-take k f i 0 x) at (d i (omega (arith, length-take-le k f in_f)))
      pick d g i p (no x) =
          let j : l + (i - l) ≡ i = omega arith in
          rw (part_byte f l m in_part (i - l) (omega arith), j) at (g (i - l) (omega (arith, part_length f l m in_part)))

-- ---- zones

twice : (b : ℕ) → digit (0xF0 + digit b) ≡ digit b
twice b = omega arith

-- where what follows the first l is zoned, and then the first k
pub zoned_two : (f t u : List ℕ) (l m k : ℕ) → l + m ≡ length f → l ≤ k → k ≤ length f → Zones (part_of l m f) t → Zones (take k (put_mid l m f t)) u
    → Zones f (u ++ drop k (put_mid l m f t))
zoned_two f t u l m k meet le in_f y z = record { same_length = whole; each = λ i q. pick i q (dec_lt i k) }
  where
    in_part : l + m ≤ length f
    in_part = omega arith

    long : length t ≡ m
    long = y.same_length ∙ part_length f l m in_part

    same : length (put_mid l m f t) ≡ length f
    same = spliced_length f l m in_part t long

    first : length (take k (put_mid l m f t)) ≡ k
    first = length-take-le k (put_mid l m f t) (omega (arith, same))

    whole : length (u ++ drop k (put_mid l m f t)) ≡ length f
    whole = omega (arith, length-append u (drop k (put_mid l m f t)), length-drop k (put_mid l m f t), z.same_length, first, same)

    last : (i : ℕ) → l ≤ i → i < length f → get_or (put_mid l m f t) i 0 ≡ 0xF0 + digit (get_or f i 0)
    last i p q =
        let e : l + (i - l) ≡ i = omega arith in
        let h = spliced_in f l m in_part t long (i - l) (omega arith) ∙ y.each (i - l) (omega (arith, part_length f l m in_part)) in
        rw (part_byte f l m in_part (i - l) (omega arith), e) at h

    digit_same : (i : ℕ) → i < length f → Dec (i < l) → digit (get_or (put_mid l m f t) i 0) ≡ digit (get_or f i 0)
    digit_same i q (yes p) = ap digit (spliced_left f l m in_part t long i p)
    digit_same i q (no p) = ap digit (last i (omega arith) q) ∙ twice (get_or f i 0)

    pick : (i : ℕ) → i < length f → Dec (i < k) → get_or (u ++ drop k (put_mid l m f t)) i 0 ≡ 0xF0 + digit (get_or f i 0)
    pick i q (yes p) =
        get_or_append_left u (drop k (put_mid l m f t)) 0 i (omega (arith, z.same_length, first)) ∙ z.each i (omega (arith, first)) ∙
        ap (λ (b : ℕ). 0xF0 + digit b) (get_or-take k (put_mid l m f t) i 0 p) ∙ ap (λ (d : ℕ). 0xF0 + d) (digit_same i q (dec_lt i l))
    pick i q (no p) =
        let e : k + (i - length u) ≡ i = omega (arith, z.same_length, first) in
        get_or-append_right u (drop k (put_mid l m f t)) i 0 (omega (arith, z.same_length, first)) ∙
        get_or-drop k (put_mid l m f t) (i - length u) 0 ∙ ap (λ (j : ℕ). get_or (put_mid l m f t) j 0) e ∙ last i (omega arith) q

pub size_below : (t : List ℕ) (n a : ℕ) → all_digits (bytes_of t n a) ≡ true → size (bytes_of t n a) < 10 ^ n
size_below t n a good =
    let m = size (bytes_of t n a) in
    omega (arith, mod-lt m (ten_pos n), size_read t n a m (λ j q. digit_of_size t n a j good q))

-- they change no digit
module _ (f t : List ℕ) (z : Zones f t) (good : all_digits (from_right f) ≡ true) where
  digit_as : (j : ℕ) → j < length f → digit (get_or t (length f - 1 - j) 0) ≡ digit_at (size (from_right f)) j
  digit_as j q =
      ap digit (z.each (length f - 1 - j) (omega arith)) ∙ twice (get_or f (length f - 1 - j) 0) ∙ digit_of_size f (length f) (length f - 1) j good q

  pub zones_size : size (from_right t) ≡ size (from_right f)
  zones_size =
      rw z.same_length (size_read t (length f) (length f - 1) (size (from_right f)) digit_as ∙ mod-eq_of_lt (size_below f (length f) (length f - 1) good))

  zone_f : (b : ℕ) → zone (0xF0 + digit b) ≡ 0xF
  zone_f b = omega arith

  pub zones_field : Field t
  zones_field =
      record {
        digits = rw z.same_length (digits_read t (length f) (length f - 1) (λ j q. rw (digit_as j q) (digit_small (size (from_right f)) j)));
        zones = λ i q. rw (z.each i (omega (arith, z.same_length))) (zone_f (get_or f i 0));
      }

-- ---- a number put in a field

module _ (f t : List ℕ) (g : Bool) (m : ℕ) where
  pub held_length : t ≡ holding f g m → length t ≡ length f
  held_length e = rw e (written_length f (length f) (length f - 1) (zoned_byte g m))

  pub held : t ≡ holding f g m → (j : ℕ) → j < length f → get_or t (length f - 1 - j) 0 ≡ zoned_byte g m j
  held e j q = rw e (zoned_byte_lem f (length f) (length f - 1) g m (omega arith) (omega arith) j q)

  pub holds : 0 < length f → length t ≡ length f → ((j : ℕ) → j < length f → get_or t (length f - 1 - j) 0 ≡ zoned_byte g m j) → t ≡ holding f g m
  holds some same inside = written_once f (length f) (length f - 1) (zoned_byte g m) t (omega arith) (omega arith) same inside outside
    where
      outside : (i : ℕ) → Outside (length f) (length f - 1) i → get_or t i 0 ≡ get_or f i 0
      outside i (inl h) =
          let x : length t ≤ i = omega arith in
          let y : length f ≤ i = omega arith in
          get_or-eq_default t 0 x ∙ sym (get_or-eq_default f 0 y)
      outside i (inr h) = absurd (omega arith)

-- what the field held before is gone
pub holding_alike : (f t u : List ℕ) (g : Bool) (m : ℕ) → 0 < length f → length t ≡ length f → u ≡ holding t g m → u ≡ holding f g m
holding_alike f t u g m some same e =
    holds f u g m some (held_length t u g m e ∙ same) (λ j q. let h = held t u g m e j (omega arith) in rw same at h)

-- what is put is such a field
put_zone_f : (m j : ℕ) → zone (zoned_byte false m j) ≡ 0xF
unfolding zoned_byte
put_zone_f m j = omega (arith, digit_small m j)

pub field_put : (f : List ℕ) (m : ℕ) (t : List ℕ) → 0 < length f → t ≡ holding f false m → Field t
field_put f m t some e =
    rw e
    (record {
      digits = rw same (zoned_all f (length f) (length f - 1) false m (omega arith) (omega arith));
      zones = λ i q.
          let j : length f - 1 - (length f - 1 - i) ≡ i = omega (arith, same) in
          let h : get_or (holding f false m) (length f - 1 - (length f - 1 - i)) 0 ≡ zoned_byte false m (length f - 1 - i) =
          zoned_byte_lem f (length f) (length f - 1) false m (omega arith) (omega arith) (length f - 1 - i) (omega arith) in
          let k = rw j at h in
          rw k (put_zone_f m (length f - 1 - i));
    })
  where
    same : length (holding f false m) ≡ length f
    same = written_length f (length f) (length f - 1) (zoned_byte false m)

-- ---- digits that are zero

pub all_zero : (f : List ℕ) (at : ℕ) → at ≤ 0 → ((i : ℕ) → at ≤ i → i < length f → digit (get_or f i 0) ≡ 0) → true ≡ eqb (size (from_right f)) 0
all_zero f at e h =
    let zero : size (from_right f) ≡ 0 % 10 ^ length f =
    size_read f (length f) (length f - 1) 0 (λ j q. h (length f - 1 - j) (omega arith) (omega arith) ∙ sym (ap (λ (k : ℕ). k % 10) (zero-div (10 ^ j)))) in
    sym (eq-eqb (size (from_right f)) 0 (zero ∙ zero-mod (10 ^ length f)))

zero_digit : (s : List ℕ) (n a j : ℕ) → size (bytes_of s n a) ≡ 0 → j < n → digit (get_or s (a - j) 0) ≡ 0
unfolding size bytes_of
zero_digit s zero a j e h = absurd (omega arith)
zero_digit s (suc n) a zero e h = rw (sub-zero a) (omega (arith, e))
zero_digit s (suc n) a (suc j) e h = let k : a - suc j ≡ a - 1 - j = omega arith in rw k (zero_digit s n (a - 1) j (omega (arith, e)) (omega arith))

pub not_zero : (f : List ℕ) (i : ℕ) → i < length f → (digit (get_or f i 0) ≡ 0 → ⊥) → false ≡ eqb (size (from_right f)) 0
not_zero f i q h =
    let j : length f - 1 - (length f - 1 - i) ≡ i = omega arith in
    sym (ne_eqb (size (from_right f)) 0 (λ e. h (let k = zero_digit f (length f) (length f - 1) (length f - 1 - i) e (omega arith) in rw j at k)))

-- ---- the sign

pub sign_told : (f : List ℕ) → 0 < length f → eqb (get_or f (length f - 1) 0 / 16) 13 ≡ minus (from_right f)
sign_told f some = sym (minus_read f (length f) (length f - 1) some)
