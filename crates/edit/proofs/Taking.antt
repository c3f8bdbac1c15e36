-- What a loop over the bytes of a field has left at its i-th byte, and what that byte adds: 20s, digits, the size, the copy. What carries it: the first byte taken off.
use mathlib.Core.Path.{◌≡◌, refl, sym, ap, ◌∙◌}
use mathlib.Core.Bool.{Bool, true, false, cond, false≢true}
use mathlib.Core.List.{List, [], ◌∷◌, ◌++◌}
use Prim.Native.Nat.{ℕ, zero, suc, ◌+◌, ◌-◌, ◌*◌, ◌/◌, ◌%◌, ◌≤◌, ◌<◌}
use native.Mathlib.Omega.{arith}
use native.Mathlib.Nat.{sub-zero}
use native.Mathlib.Numerals.{add-one}
use lib.ListN.{length, get_or, take, drop, set, drop_of_length-le}
use lib.Seq.{drop-cons, take-suc-set}
use lib.Dec.{eqb, eqb-suc-zero}
use borrow.Author.Tests.{eq-eqb, ne_eqb, le-leb, lt-leb}
use Rattle.manual.specs.Values.{bytes_of, size, minus, signed, value, all_digits, sign_order}
use Rattle.manual.specs.Edit.{count20}
use Rattle.manual.proofs.FieldBytes.{outside_told, bytes_beside}

-- ---- what is left of a field

pub left_whole : (s : List ℕ) (n a : ℕ) → bytes_of s n a ≡ bytes_of s (n - 0) (a - 0)
left_whole s n a = rw (sub-zero n, sub-zero a)

pub left_first : (s : List ℕ) (n i a : ℕ) → i < n → bytes_of s (n - i) (a - i) ≡ get_or s (a - i) 0 ∷ bytes_of s (n - (i + 1)) (a - (i + 1))
unfolding bytes_of
left_first s n i a h =
    let e : n - i ≡ suc (n - (i + 1)) = omega arith in
    let f : a - (i + 1) ≡ a - i - 1 = omega arith in
    rw (e, f)

pub left_none : (s : List ℕ) (n i a : ℕ) → n ≤ i → bytes_of s (n - i) a ≡ []
unfolding bytes_of
left_none s n i a h = let e : n - i ≡ 0 = omega arith in rw e

-- a store at its first byte leaves the rest
pub rest_stays : (s : List ℕ) (n i a v : ℕ) → n ≤ a + 1 → bytes_of (set s (a - i) v) (n - (i + 1)) (a - (i + 1)) ≡ bytes_of s (n - (i + 1)) (a - (i + 1))
rest_stays s n i a v h =
    bytes_beside s (n - (i + 1)) (a - (i + 1)) (a - i) v ((outside_told (n - (i + 1)) (a - (i + 1)) (a - i)).1 (λ j q x. omega arith))

-- ---- the count of 20s

module _ (s : List ℕ) (n i a : ℕ) where
  pub counts : i < n → get_or s (a - i) 0 ≡ 0x20 → count20 (bytes_of s (n - i) (a - i)) ≡ suc (count20 (bytes_of s (n - (i + 1)) (a - (i + 1))))
  unfolding count20
  counts h e = rw (left_first s n i a h, eq-eqb (get_or s (a - i) 0) 0x20 e)

  pub counts_not : i < n → (get_or s (a - i) 0 ≡ 0x20 → ⊥) → count20 (bytes_of s (n - i) (a - i)) ≡ count20 (bytes_of s (n - (i + 1)) (a - (i + 1)))
  unfolding count20
  counts_not h e = rw (left_first s n i a h, ne_eqb (get_or s (a - i) 0) 0x20 e)

  pub counts_none : n ≤ i → count20 (bytes_of s (n - i) (a - i)) ≡ 0
  unfolding count20
  counts_none h = rw (left_none s n i (a - i) h)

-- ---- the copy of a field

bytes_more : (s : List ℕ) (i a : ℕ) → bytes_of s (suc i) a ≡ bytes_of s i a ++ (get_or s (a - i) 0 ∷ [])
unfolding bytes_of
bytes_more s zero a = rw (sub-zero a)
bytes_more s (suc i) a =
    let e : a - 1 - i ≡ a - suc i = omega arith in
    ap (λ (l : List ℕ). get_or s a 0 ∷ l) (bytes_more s i (a - 1) ∙ ap (λ (k : ℕ). bytes_of s i (a - 1) ++ (get_or s k 0 ∷ [])) e)

pub copied_none : (s : List ℕ) (a : ℕ) → [] ≡ bytes_of s 0 a
unfolding bytes_of
copied_none s a = refl

pub copied_more : (s d : List ℕ) (i a : ℕ) → i < length d → take i d ≡ bytes_of s i a → take (i + 1) (set d i (get_or s (a - i) 0)) ≡ bytes_of s (i + 1) a
copied_more s d i a h e = rw (add-one, take-suc-set d i (get_or s (a - i) 0) h, bytes_more, e)

-- ---- digits and the size

tens_zero : (n : ℕ) → eqb (0 + 10 * n) 0 ≡ eqb n 0
tens_zero zero = refl
tens_zero (suc n) = ne_eqb (0 + 10 * suc n) 0 (λ e. omega arith) ∙ sym (eqb-suc-zero n)

module _ (d : List ℕ) (i : ℕ) where
  left_of : i < length d → drop i d ≡ get_or d i 0 ∷ drop (i + 1) d
  left_of h = rw (add-one, drop-cons d i 0 h)

  pub digit_refused : i < length d → 9 < get_or d i 0 % 16 → all_digits (drop i d) ≡ false
  unfolding all_digits
  digit_refused h e = rw (left_of h, lt-leb (get_or d i 0 % 16) 9 e)

  pub digit_passed : i < length d → get_or d i 0 % 16 ≤ 9 → all_digits (drop i d) ≡ all_digits (drop (i + 1) d)
  unfolding all_digits
  digit_passed h e = rw (left_of h, le-leb (get_or d i 0 % 16) 9 e)

  pub digits_done : length d ≤ i → all_digits (drop i d) ≡ true
  unfolding all_digits
  digits_done h = rw (drop_of_length-le d h)

  pub size_refused : i < length d → (get_or d i 0 % 16 ≡ 0 → ⊥) → eqb (size (drop i d)) 0 ≡ false
  unfolding size
  size_refused h e = rw (left_of h) (ne_eqb (get_or d i 0 % 16 + 10 * size (drop (i + 1) d)) 0 (λ q. e (omega arith)))

  pub size_passed : i < length d → get_or d i 0 % 16 ≡ 0 → eqb (size (drop i d)) 0 ≡ eqb (size (drop (i + 1) d)) 0
  unfolding size
  size_passed h e = rw (left_of h, e) (tens_zero (size (drop (i + 1) d)))

  pub size_done : length d ≤ i → eqb (size (drop i d)) 0 ≡ true
  unfolding size
  size_done h = rw (drop_of_length-le d h)

-- ---- the order of a value

sign_told : (b : Bool) (n : ℕ) → sign_order (signed b n) ≡ cond (eqb n 0) 1 (cond b 2 4)
unfolding sign_order
sign_told true zero = refl
sign_told true (suc n) = rw (eqb-suc-zero n)
sign_told false n = refl

minus_told : (d : List ℕ) → eqb (size d) 0 ≡ false → minus d ≡ eqb (get_or d 0 0 / 16) 0xD
unfolding size minus
minus_told [] e = absurd (false≢true (sym e))
minus_told (b ∷ bs) e = refl

pub order_equal : (d : List ℕ) → eqb (size d) 0 ≡ true → sign_order (value d) ≡ 1
unfolding value
order_equal d e = sign_told (minus d) (size d) ∙ (rw e)

-- with a size, the zone of the rightmost byte tells
pub order_signed : (d : List ℕ) → eqb (size d) 0 ≡ false → sign_order (value d) ≡ cond (eqb (get_or d 0 0 / 16) 0xD) 2 4
unfolding value
order_signed d e = sign_told (minus d) (size d) ∙ (rw (e, minus_told d e))

pub sized : (d : List ℕ) → eqb (size d) 0 ≡ false → 0 < length d
unfolding size
sized [] e = absurd (false≢true (sym e))
sized (b ∷ bs) e = omega arith
