-- The field that AZ, SZ and ZAZ leave, read back, is the exact signed result cut to it. What carries it: the digits written from the right are those of the cut size.
use Rattle.std.proofs.Common.{Ok, ◌≡◌, refl, sym, ◌∙◌, ap, Bool, true, false, cond, not, ◌&&◌, ◌||◌, List, ◌↔◌, ◌≢◌, ℕ, zero, suc, ◌+◌, ◌-◌, ◌*◌, ◌/◌, ◌%◌, ◌^◌, ◌≤◌, ◌<◌, arith, mod-eq_of_lt, length, get_or, set, length-set, get_or-set_same, get_or-set_other, eqb, leb, ℤ, pos, negsuc, nat_abs, ◌+ℤ◌, ◌-ℤ◌, leb-false, le-leb}
use Rattle.std.proofs.lemmas.Bool.Decides.{nat_tests}
use Rattle.std.proofs.Math.Nat.{zero-mod, mod-mod, sub-zero}
use Rattle.std.proofs.Math.Dec.{eqb-suc-zero}
use Rattle.manual.specs.declared.Machine.{Machine}
use Rattle.manual.specs.declared.Fields.{Fields}
use Rattle.manual.specs.declared.Answer.{Answer}
use Rattle.manual.specs.declared.Answer.TheVariants.{Executed}
use Rattle.manual.specs.Places.{state}
use Rattle.manual.specs.Programs.{fin, clear, and_then}
use Rattle.manual.specs.TheMachine.{decimal_overflow, equal, low, high, is_on, set_order, turn_on}
use Rattle.manual.specs.Values.{bytes_of, digit, zone, size, minus, signed, value, all_digits, digits_of, negative, cut, overflows, left_minus, cut_to, sign_order}
use Rattle.manual.specs.Zoned.{l1, l2, zoned_reach, put_digits, put_zoned, zoned_status, put_result, zaz, combine, az, sz}
use Rattle.manual.specs.Step.{Outcome, ended, moved, given, did}
use Rattle.manual.proofs.Running.{from, did_from, from_bind, from_go, val_leftward, fin_leftward, unless_clear, both_clear, reach_clear}
use Rattle.manual.proofs.Status.{sign_small, order_set}
use Rattle.manual.proofs.FieldBytes.{Outside, written, outside_apart, written_length, written_outside, written_inside, written_same, written-first, written_once}
use Rattle.manual.proofs.Digits.{digit_at, digit_units, digit_next, digit_small, digit-cut, cut_next}

-- byte j from the right of a field: zone F and a digit of m; the rightmost zone D for minus
unfoldable pub zoned_byte : Bool → ℕ → ℕ → ℕ
zoned_byte sign m j = cond (sign && eqb j 0) 0xD0 0xF0 + digit_at m j

-- storage with m put in the zoned field
abbrev pub zoned_bytes : List ℕ → ℕ → ℕ → Bool → ℕ → List ℕ
zoned_bytes s n a sign m = written s n a (zoned_byte sign m)

-- what a zoned instruction leaves whose exact result is x: operand 1, read back, is x cut to it; status and storage are as document 01 says
pub record ZonedLeft (m : Machine) (s : List ℕ) (f : Fields) (x : ℤ) (o : Outcome) : Type 0 where
  pub answer : o.gave.answer ≡ Executed
  -- the size of the result is cut modulo 10 to the L1; read as an operand, the field is the cut result, and has no digit above 9
  pub read_back : value (bytes_of o.storage (l1 f.q) f.a1) ≡ cut_to (l1 f.q) x
  pub digits : all_digits (bytes_of o.storage (l1 f.q) f.a1) ≡ true
  -- zones are F; the rightmost is D if the exact result was negative and the cut size isn't zero
  pub sign_zone : zone (get_or o.storage f.a1 0) ≡ cond (left_minus (l1 f.q) x) 0xD 0xF
  pub zones : (j : ℕ) → 0 < j → j < l1 f.q → zone (get_or o.storage (f.a1 - j) 0) ≡ 0xF
  -- no byte outside operand 1 changes
  pub outside : (i : ℕ) → Outside (l1 f.q) f.a1 i → get_or o.storage i 0 ≡ get_or s i 0
  pub same_length : length o.storage ≡ length s
  -- of the machine, IAR and the status alone change
  pub machine : o.gave.machine ≡ moved m f.next (zoned_status (l1 f.q) m.status x)
  -- equal, low, high by the cut result being zero, minus, plus; decimal overflow goes on, and is never turned off here; what isn't named stays
  pub order : o.gave.machine.status % 8 ≡ sign_order (cut_to (l1 f.q) x)
  pub overflow : is_on decimal_overflow o.gave.machine.status ≡ (overflows (l1 f.q) x || is_on decimal_overflow m.status)
  pub others : o.gave.machine.status / 16 ≡ m.status / 16

-- ---- what the programs leave

-- the digits above the units, put after them
then_digits : (s : List ℕ) (n a m v : ℕ) (f : ℕ → ℕ) → f 0 ≡ v → ((j : ℕ) → f (suc j) ≡ 0xF0 + digit_at (m / 10) j)
    → written (set s a v) n (a - 1) (λ j. 0xF0 + digit_at (m / 10) j) ≡ written s (suc n) a f
then_digits s n a m v f units rest =
    written_same (set s a v) n (a - 1) (λ j. 0xF0 + digit_at (m / 10) j) (λ j. f (suc j)) (λ j q. sym (rest j)) ∙
    ap (λ (k : ℕ). written (set s a k) n (a - 1) (λ j. f (suc j))) (sym units) ∙ sym (written-first s n a f)

pub fin_put_digits : (n a m : ℕ) (mach : Machine) (s : List ℕ) → fin (put_digits n a m) (state mach s) ≡ state mach (written s n a (λ j. 0xF0 + digit_at m j))
unfolding fin put_digits
fin_put_digits zero a m mach s = unfold written in refl
fin_put_digits (suc n) a m mach s =
    fin_put_digits n (a - 1) (m / 10) mach (set s a (0xF0 + m % 10)) ∙
    ap (λ (t : List ℕ). state mach t)
    (then_digits s n a m (0xF0 + m % 10) (λ j. 0xF0 + digit_at m j) (ap (λ (d : ℕ). 0xF0 + d) (digit_units m)) (λ j. ap (λ (d : ℕ). 0xF0 + d) (digit_next m j)))

-- the rightmost byte has the sign, the others have zone F
pub byte_units : (sign : Bool) (m : ℕ) → zoned_byte sign m 0 ≡ cond sign 0xD0 0xF0 + m % 10
unfolding zoned_byte
byte_units true m = ap (λ (d : ℕ). 0xD0 + d) (digit_units m)
byte_units false m = ap (λ (d : ℕ). 0xF0 + d) (digit_units m)

pub byte_rest : (sign : Bool) (m j : ℕ) → zoned_byte sign m (suc j) ≡ 0xF0 + digit_at m (suc j)
unfolding zoned_byte
byte_rest true m j = simp eqb-suc-zero
byte_rest false m j = refl

pub fin_put_zoned : (n a : ℕ) (sign : Bool) (m : ℕ) (mach : Machine) (s : List ℕ) → fin (put_zoned n a sign m) (state mach s) ≡ state mach (zoned_bytes s n a sign m)
unfolding fin put_zoned
fin_put_zoned zero a sign m mach s = unfold written in refl
fin_put_zoned (suc n) a sign m mach s =
    fin_put_digits n (a - 1) (m / 10) mach (set s a (cond sign 0xD0 0xF0 + m % 10)) ∙
    ap (λ (t : List ℕ). state mach t)
    (then_digits s n a m (cond sign 0xD0 0xF0 + m % 10) (zoned_byte sign m) (byte_units sign m) (λ j. byte_rest sign m j ∙ ap (λ (d : ℕ). 0xF0 + d) (digit_next m j)))

-- ---- a zoned byte taken apart

pub byte_digit : (sign : Bool) (m j : ℕ) → digit (zoned_byte sign m j) ≡ digit_at m j
byte_digit true m zero = rw (byte_units true m, digit_units m) (omega arith)
byte_digit false m zero = rw (byte_units false m, digit_units m) (omega arith)
byte_digit sign m (suc j) = rw (byte_rest sign m j) (omega (arith, digit_small m (suc j)))

pub byte_sign : (sign : Bool) (m : ℕ) → zone (zoned_byte sign m 0) ≡ cond sign 0xD 0xF
byte_sign true m = rw (byte_units true m) (omega arith)
byte_sign false m = rw (byte_units false m) (omega arith)

pub byte_zone : (sign : Bool) (m j : ℕ) → 0 < j → zone (zoned_byte sign m j) ≡ 0xF
byte_zone sign m zero h = absurd (omega arith)
byte_zone sign m (suc j) h = rw (byte_rest sign m j) (omega (arith, digit_small m (suc j)))

-- ---- a field read by its bytes

-- the field without its rightmost byte
before : (t : List ℕ) (a j : ℕ) → get_or t (a - suc j) 0 ≡ get_or t (a - 1 - j) 0
before t a j = ap (λ (k : ℕ). get_or t k 0) (omega arith)

pub size_read : (t : List ℕ) (n a m : ℕ) → ((j : ℕ) → j < n → digit (get_or t (a - j) 0) ≡ digit_at m j) → size (bytes_of t n a) ≡ m % 10 ^ n
unfolding size bytes_of
size_read t zero a m h = omega arith
size_read t (suc n) a m h =
    let units : digit (get_or t a 0) ≡ m % 10 = rw sub-zero at (h 0 (omega arith)) ∙ digit_units m in
    let rest : size (bytes_of t n (a - 1)) ≡ m / 10 % 10 ^ n =
    size_read t n (a - 1) (m / 10) (λ j q. ap digit (sym (before t a j)) ∙ h (suc j) (omega arith) ∙ digit_next m j) in
    rw (units, rest) (cut_next m n)

pub digits_read : (t : List ℕ) (n a : ℕ) → ((j : ℕ) → j < n → digit (get_or t (a - j) 0) ≤ 9) → all_digits (bytes_of t n a) ≡ true
unfolding all_digits bytes_of
digits_read t zero a h = refl
digits_read t (suc n) a h =
    let units : leb (digit (get_or t a 0)) 9 ≡ true = le-leb (digit (get_or t a 0)) 9 (rw sub-zero at (h 0 (omega arith))) in
    rw units (digits_read t n (a - 1) (λ j q. rw before at (h (suc j) (omega arith))))

pub minus_read : (t : List ℕ) (n a : ℕ) → 0 < n → minus (bytes_of t n a) ≡ eqb (zone (get_or t a 0)) 0xD
unfolding minus bytes_of
minus_read t zero a h = absurd (omega arith)
minus_read t (suc n) a h = refl

pub digits_apart : (t : List ℕ) (n a : ℕ) → all_digits (bytes_of t (suc n) a) ≡ true → (digit (get_or t a 0) ≤ 9) × (all_digits (bytes_of t n (a - 1)) ≡ true)
unfolding all_digits bytes_of
digits_apart t n a good = grind (arith, nat_tests)

units_of : (d k : ℕ) → d ≤ 9 → ((d + 10 * k) % 10 ≡ d) × ((d + 10 * k) / 10 ≡ k)
units_of d k h = (omega arith, omega arith)

-- digit j of a field of digits is digit j of its size
pub digit_of_size : (t : List ℕ) (n a j : ℕ) → all_digits (bytes_of t n a) ≡ true → j < n → digit (get_or t (a - j) 0) ≡ digit_at (size (bytes_of t n a)) j
unfolding size bytes_of
digit_of_size t zero a j good q = absurd (omega arith)
digit_of_size t (suc n) a zero good q =
    let k : ℕ = size (bytes_of t n (a - 1)) in
    let d : ℕ = digit (get_or t a 0) in
    rw (sub-zero a) (sym (digit_units (d + 10 * k) ∙ (units_of d k (digits_apart t n a good).0).0))
digit_of_size t (suc n) a (suc j) good q =
    let k : ℕ = size (bytes_of t n (a - 1)) in
    let d : ℕ = digit (get_or t a 0) in
    let h = digits_apart t n a good in
    ap digit (before t a j) ∙ digit_of_size t n (a - 1) j h.1 (omega arith) ∙
    sym (digit_next (d + 10 * k) j ∙ ap (λ (x : ℕ). digit_at x j) (units_of d k h.0).1)

-- ---- the field that is left, read back

sign_zone_eqb : (sign : Bool) → eqb (cond sign 0xD 0xF) 0xD ≡ sign
sign_zone_eqb sign = grind (arith, nat_tests)

module _ (s : List ℕ) (n a : ℕ) (sign : Bool) (m : ℕ) (inn : a < length s) (fits : n ≤ a + 1) where
  pub zoned_byte_lem : (j : ℕ) → j < n → get_or (zoned_bytes s n a sign m) (a - j) 0 ≡ zoned_byte sign m j
  zoned_byte_lem j q = written_inside s n a (zoned_byte sign m) j inn fits q

  pub zoned_digit : (j : ℕ) → j < n → digit (get_or (zoned_bytes s n a sign m) (a - j) 0) ≡ digit_at m j
  zoned_digit j q = rw (zoned_byte_lem j q) (byte_digit sign m j)

  pub zoned_size : size (bytes_of (zoned_bytes s n a sign m) n a) ≡ m % 10 ^ n
  zoned_size = size_read (zoned_bytes s n a sign m) n a m zoned_digit

  pub zoned_all : all_digits (bytes_of (zoned_bytes s n a sign m) n a) ≡ true
  zoned_all = digits_read (zoned_bytes s n a sign m) n a (λ j q. rw (zoned_digit j q) (digit_small m j))

  pub zoned_sign : 0 < n → zone (get_or (zoned_bytes s n a sign m) a 0) ≡ cond sign 0xD 0xF
  zoned_sign h = ap zone (rw sub-zero at (zoned_byte_lem 0 h)) ∙ byte_sign sign m

  pub zoned_zone : (j : ℕ) → 0 < j → j < n → zone (get_or (zoned_bytes s n a sign m) (a - j) 0) ≡ 0xF
  zoned_zone j h q = ap zone (zoned_byte_lem j q) ∙ byte_zone sign m j h

  pub zoned_minus : 0 < n → minus (bytes_of (zoned_bytes s n a sign m) n a) ≡ sign
  zoned_minus h = minus_read (zoned_bytes s n a sign m) n a h ∙ ap (λ (z : ℕ). eqb z 0xD) (zoned_sign h) ∙ sign_zone_eqb sign

-- only the last n digits count
pub zoned_cut : (s : List ℕ) (n a : ℕ) (sign : Bool) (m : ℕ) → zoned_bytes s n a sign (m % 10 ^ n) ≡ zoned_bytes s n a sign m
zoned_cut s n a sign m = written_same s n a (zoned_byte sign (m % 10 ^ n)) (zoned_byte sign m) (λ j q. unfold zoned_byte in rw (digit-cut m n j q))

-- the sign may be put last
pub sign_last : (s : List ℕ) (n a : ℕ) (sign : Bool) (m : ℕ) → a < length s → n ≤ a + 1 → 0 < n
    → set (zoned_bytes s n a false m) a (cond sign 0xD0 0xF0 + m % 10) ≡ zoned_bytes s n a sign m
sign_last s n a sign m inn fits some =
    written_once s n a (zoned_byte sign m) (set l a v) inn fits (length-set l a v ∙ written_length s n a (zoned_byte false m)) inside outside
  where
    l : List ℕ
    l = zoned_bytes s n a false m

    v : ℕ
    v = cond sign 0xD0 0xF0 + m % 10

    inside : (j : ℕ) → j < n → get_or (set l a v) (a - j) 0 ≡ zoned_byte sign m j
    inside zero q =
        let h : a < length l = omega (arith, written_length s n a (zoned_byte false m)) in
        ap (λ (k : ℕ). get_or (set l a v) k 0) (sub-zero a) ∙ get_or-set_same l a v 0 h ∙ sym (byte_units sign m)
    inside (suc j) q =
        get_or-set_other l a (a - suc j) v 0 (λ e. omega arith) ∙ zoned_byte_lem s n a false m inn fits (suc j) q ∙ byte_rest false m j ∙ sym (byte_rest sign m j)

    outside : (i : ℕ) → Outside n a i → get_or (set l a v) i 0 ≡ get_or s i 0
    outside i h = get_or-set_other l a i v 0 (λ e. outside_apart n a i h 0 some (e ∙ sym (sub-zero a))) ∙ written_outside s n a (zoned_byte false m) i h

-- ---- a signed number cut to a field

-- a minus zero is not left
pub minus_zero_gone : (n : ℕ) (x : ℤ) → cut n x ≡ 0 → left_minus n x ≡ false
unfolding left_minus
minus_zero_gone n (pos k) e = refl
minus_zero_gone n (negsuc k) e = rw e

-- the sign that is left with the cut size is the cut result
signed_gone : (b : Bool) (k : ℕ) → signed (b && not (eqb k 0)) k ≡ signed b k
signed_gone false k = refl
signed_gone true zero = refl
signed_gone true (suc k) = rw eqb-suc-zero

pub signed_zero : (b : Bool) → signed b 0 ≡ pos 0
signed_zero true = refl
signed_zero false = refl

pub abs_signed : (b : Bool) (k : ℕ) → nat_abs (signed b k) ≡ k
abs_signed false k = refl
abs_signed true zero = refl
abs_signed true (suc k) = refl

pub abs_value : (bs : List ℕ) → nat_abs (value bs) ≡ size bs
unfolding value
abs_value bs = abs_signed (minus bs) (size bs)

pub cut_signed : (n : ℕ) (x : ℤ) → signed (left_minus n x) (cut n x) ≡ cut_to n x
unfolding left_minus
cut_signed n x = signed_gone (negative x) (cut n x)

pub cut_none : (n : ℕ) → cut n (pos 0) ≡ 0
unfolding cut
cut_none n = zero-mod (10 ^ n)

pub cut_cut : (n : ℕ) (x : ℤ) → cut n x % 10 ^ n ≡ cut n x
unfolding cut
cut_cut n x = mod-mod (nat_abs x) (10 ^ n)

signed_abs : (x : ℤ) → signed (negative x) (nat_abs x) ≡ x
signed_abs (pos k) = refl
signed_abs (negsuc k) = refl

-- without overflow the result is exact
pub cut_fits : (n : ℕ) (x : ℤ) → overflows n x ≡ false → cut_to n x ≡ x
unfolding overflows cut
cut_fits n x e = rw (mod-eq_of_lt {n = nat_abs x} {m = 10 ^ n} (leb-false (10 ^ n) (nat_abs x) e)) (signed_abs x)

-- ---- the status

module _ (n status : ℕ) (x : ℤ) where
  pub status_order : zoned_status n status x % 8 ≡ sign_order (cut_to n x)
  unfolding zoned_status
  status_order = order_set (sign_order (cut_to n x)) _ (sign_small (cut_to n x))

  pub status_overflow : is_on decimal_overflow (zoned_status n status x) ≡ (overflows n x || is_on decimal_overflow status)
  unfolding zoned_status set_order turn_on
  status_overflow = grind (arith, nat_tests, sign_small (cut_to n x))

  pub status_others : zoned_status n status x / 16 ≡ status / 16
  unfolding zoned_status set_order turn_on
  status_others = grind (arith, nat_tests, sign_small (cut_to n x))

-- ---- equal, low and high by the number being zero, minus and plus

sign_minus : (k : ℕ) → sign_order (negsuc k) ≡ low
unfolding sign_order
sign_minus k = rw eqb-suc-zero

sign_plus : (k : ℕ) → sign_order (pos (suc k)) ≡ high
unfolding sign_order
sign_plus k = rw eqb-suc-zero

pub sign_equal : (x : ℤ) → (sign_order x ≡ equal) ↔ (x ≡ pos 0)
sign_equal (pos zero) = (λ e. refl, λ e. unfold sign_order in refl)
sign_equal (pos (suc k)) = (λ e. absurd (omega (arith, e, sign_plus k)), λ e. cc)
sign_equal (negsuc k) = (λ e. absurd (omega (arith, e, sign_minus k)), λ e. cc)

pub sign_low : (x : ℤ) → (sign_order x ≡ low) ↔ (negative x ≡ true)
sign_low (pos zero) = (λ e. absurd (omega (arith, e, (sign_equal (pos 0)).1 refl)), λ e. cc)
sign_low (pos (suc k)) = (λ e. absurd (omega (arith, e, sign_plus k)), λ e. cc)
sign_low (negsuc k) = (λ e. refl, λ e. sign_minus k)

pub sign_high : (x : ℤ) → (sign_order x ≡ high) ↔ ((negative x ≡ false) × (x ≢ pos 0))
sign_high (pos zero) = (λ e. absurd (omega (arith, e, (sign_equal (pos 0)).1 refl)), λ e. absurd (e.1 refl))
sign_high (pos (suc k)) = (λ e. (refl, λ q. cc), λ e. sign_plus k)
sign_high (negsuc k) = (λ e. absurd (omega (arith, e, sign_minus k)), λ e. cc)

-- ---- the instructions

pub digits_clear : (bs : List ℕ) → all_digits bs ≡ true → digits_of bs ≡ Ok tt
unfolding digits_of
digits_clear bs e = rw e

-- the exact result, put in operand 1
pub put_left : (m : Machine) (s : List ℕ) (f : Fields) (x : ℤ) → from m s (put_result f x (given m s)) (state m s)
    ≡ ended (moved m f.next (zoned_status (l1 f.q) m.status x)) Executed (zoned_bytes s (l1 f.q) f.a1 (left_minus (l1 f.q) x) (cut (l1 f.q) x))
unfolding put_result
put_left m s f x = simp (from_bind, from_go, fin_put_zoned)

module _ (m : Machine) (s : List ℕ) (f : Fields) (way : clear (zoned_reach f (length s)) ≡ true) (good2 : all_digits (bytes_of s (l2 f.q) f.a2) ≡ true) where
  pub zaz_does : did m s (zaz f) ≡ from m s (put_result f (value (bytes_of s (l2 f.q) f.a2)) (given m s)) (state m s)
  unfolding zaz
  zaz_does = simp (did_from, from_bind, val_leftward, fin_leftward, unless_clear, digits_clear)

  pub combine_does : (op : ℤ → ℤ → ℤ) → all_digits (bytes_of s (l1 f.q) f.a1) ≡ true
      → did m s (combine op f) ≡ from m s (put_result f (op (value (bytes_of s (l1 f.q) f.a1)) (value (bytes_of s (l2 f.q) f.a2))) (given m s)) (state m s)
  unfolding combine and_then
  combine_does op good1 = simp (did_from, from_bind, val_leftward, fin_leftward, unless_clear, digits_clear)

-- operand 1 has a byte
some_byte : (q : ℕ) → 0 < l1 q
some_byte q = omega arith

left_value : (s : List ℕ) (n a : ℕ) (x : ℤ) → a < length s → n ≤ a + 1 → 0 < n → value (bytes_of (zoned_bytes s n a (left_minus n x) (cut n x)) n a) ≡ cut_to n x
unfolding value
left_value s n a x inn fits some =
    rw (zoned_minus s n a (left_minus n x) (cut n x) inn fits some, zoned_size s n a (left_minus n x) (cut n x) inn fits, cut_cut n x) (cut_signed n x)

pub put_leaves : (m : Machine) (s : List ℕ) (f : Fields) (x : ℤ) → f.a1 < length s → l1 f.q ≤ f.a1 + 1
    → ZonedLeft m s f x (from m s (put_result f x (given m s)) (state m s))
put_leaves m s f x inn fits =
    rw (put_left m s f x)
    (record {
      answer = refl;
      read_back = left_value s (l1 f.q) f.a1 x inn fits (some_byte f.q);
      digits = zoned_all s (l1 f.q) f.a1 _ _ inn fits;
      sign_zone = zoned_sign s (l1 f.q) f.a1 _ _ inn fits (some_byte f.q);
      zones = zoned_zone s (l1 f.q) f.a1 _ _ inn fits;
      outside = written_outside s (l1 f.q) f.a1 _;
      same_length = written_length s (l1 f.q) f.a1 _;
      machine = refl;
      order = status_order (l1 f.q) m.status x;
      overflow = status_overflow (l1 f.q) m.status x;
      others = status_others (l1 f.q) m.status x;
    })

module _ (m : Machine) (s : List ℕ) (f : Fields) (way : clear (zoned_reach f (length s)) ≡ true) where
  reached : (f.a1 < length s) × (l1 f.q ≤ f.a1 + 1)
  reached = reach_clear (length s) (l1 f.q) f.a1 (both_clear _ _ way).0

  pub zaz_leaves : all_digits (bytes_of s (l2 f.q) f.a2) ≡ true → ZonedLeft m s f (value (bytes_of s (l2 f.q) f.a2)) (did m s (zaz f))
  zaz_leaves good2 = rw (zaz_does m s f way good2) (put_leaves m s f _ reached.0 reached.1)

  pub combine_leaves : (op : ℤ → ℤ → ℤ) → all_digits (bytes_of s (l1 f.q) f.a1) ≡ true → all_digits (bytes_of s (l2 f.q) f.a2) ≡ true
      → ZonedLeft m s f (op (value (bytes_of s (l1 f.q) f.a1)) (value (bytes_of s (l2 f.q) f.a2))) (did m s (combine op f))
  combine_leaves op good1 good2 = rw (combine_does m s f way good2 op good1) (put_leaves m s f _ reached.0 reached.1)

  pub az_leaves : all_digits (bytes_of s (l1 f.q) f.a1) ≡ true → all_digits (bytes_of s (l2 f.q) f.a2) ≡ true
      → ZonedLeft m s f (value (bytes_of s (l1 f.q) f.a1) +ℤ value (bytes_of s (l2 f.q) f.a2)) (did m s (az f))
  az_leaves = combine_leaves ◌+ℤ◌

  pub sz_leaves : all_digits (bytes_of s (l1 f.q) f.a1) ≡ true → all_digits (bytes_of s (l2 f.q) f.a2) ≡ true
      → ZonedLeft m s f (value (bytes_of s (l1 f.q) f.a1) -ℤ value (bytes_of s (l2 f.q) f.a2)) (did m s (sz f))
  sz_leaves = combine_leaves ◌-ℤ◌

-- ---- what follows from it

same_byte : (b c : ℕ) → zone b ≡ zone c → digit b ≡ digit c → b ≡ c
same_byte b c p q = omega arith

same_outcome : {o : Outcome} {m : Machine} {a : Answer} {t : List ℕ} → o.gave.machine ≡ m → o.gave.answer ≡ a → o.storage ≡ t → o ≡ ended m a t
same_outcome p q e = λ i. record { gave = record { machine = p i; answer = q i }; storage = e i }

module _ {m : Machine} {s : List ℕ} {f : Fields} {x : ℤ} {o : Outcome} (left : ZonedLeft m s f x o) where
  -- without overflow the field has the exact result
  pub left_exact : overflows (l1 f.q) x ≡ false → value (bytes_of o.storage (l1 f.q) f.a1) ≡ x
  left_exact e = left.read_back ∙ cut_fits (l1 f.q) x e

  -- a cut size of zero is read back as zero, its zone is F, and the order is equal
  pub left_zero : cut (l1 f.q) x ≡ 0
      → (value (bytes_of o.storage (l1 f.q) f.a1) ≡ pos 0) × (zone (get_or o.storage f.a1 0) ≡ 0xF) × (o.gave.machine.status % 8 ≡ equal)
  left_zero e =
      let z : cut_to (l1 f.q) x ≡ pos 0 = ap (λ (k : ℕ). signed (negative x) k) e ∙ signed_zero (negative x) in (
        left.read_back ∙ z,
        left.sign_zone ∙ ap (λ (b : Bool). cond b 0xD 0xF) (minus_zero_gone (l1 f.q) x e),
        left.order ∙ (sign_equal (cut_to (l1 f.q) x)).1 z,
      )

  left_size : size (bytes_of o.storage (l1 f.q) f.a1) ≡ cut (l1 f.q) x
  left_size = sym (abs_value (bytes_of o.storage (l1 f.q) f.a1)) ∙ ap nat_abs left.read_back ∙ abs_signed (negative x) (cut (l1 f.q) x)

  left_byte : (j : ℕ) → j < l1 f.q → get_or o.storage (f.a1 - j) 0 ≡ zoned_byte (left_minus (l1 f.q) x) (cut (l1 f.q) x) j
  left_byte j q =
      same_byte _ _ (zone-here j q)
      (digit_of_size o.storage (l1 f.q) f.a1 j left.digits q ∙ ap (λ (k : ℕ). digit_at k j) left_size ∙ sym (byte_digit (left_minus (l1 f.q) x) _ j))
    where
      zone-here : (j : ℕ) → j < l1 f.q → zone (get_or o.storage (f.a1 - j) 0) ≡ zone (zoned_byte (left_minus (l1 f.q) x) (cut (l1 f.q) x) j)
      zone-here zero q = rw sub-zero (left.sign_zone ∙ sym (byte_sign _ _))
      zone-here (suc j) q = left.zones (suc j) (omega arith) q ∙ sym (byte_zone _ _ (suc j) (omega arith))

  -- it says all: there is one outcome of which it holds
  pub left_once : clear (zoned_reach f (length s)) ≡ true → o ≡ from m s (put_result f x (given m s)) (state m s)
  left_once way =
      let h = reached m s f way in
      let e : o.storage ≡ zoned_bytes s (l1 f.q) f.a1 (left_minus (l1 f.q) x) (cut (l1 f.q) x) =
      written_once s (l1 f.q) f.a1 _ o.storage h.0 h.1 left.same_length left_byte left.outside in
      same_outcome left.machine left.answer e ∙ sym (put_left m s f x)
