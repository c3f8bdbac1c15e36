-- What the inner functions' promises cite: what stands in the way, fields and their columns, and what a result leaves. No published promise does.
use Rattle.std.specs.Prelude.{◌≡◌, Bool, true, false, cond, List, ℕ, ◌+◌, ◌-◌, ◌%◌, ◌^◌, ◌≤◌, ◌<◌, ℤ, ◌+ℤ◌, length, get_or, set}
use Rattle.manual.specs.TheMachine.{decimal_overflow, equal, low, high, turn_on, set_order}
use Rattle.manual.specs.Programs.{and_then, Way}
use Rattle.manual.specs.Formats.{reach}
use Rattle.manual.specs.Values.{bytes_of, digit, zone, size, signed, all_digits, digits_of, cut, left_minus}
use Rattle.manual.specs.Zoned.{l1, l2, zoned_status}
use Rattle.manual.proofs.ZonedRead.{zoned_bytes}

-- ---- what stands in the way

abbrev pub zaz_way : List ℕ → ℕ → ℕ → ℕ → Way
zaz_way s q a1 a2 = and_then (and_then (reach (length s) (l1 q) a1) (reach (length s) (l2 q) a2)) (digits_of (bytes_of s (l2 q) a2))

abbrev pub combine_way : List ℕ → ℕ → ℕ → ℕ → Way
combine_way s q a1 a2 = and_then (zaz_way s q a1 a2) (digits_of (bytes_of s (l1 q) a1))

-- nothing stands in the way of ZAZ
pub record Ready (s : List ℕ) (q a1 a2 : ℕ) : Type 0 where
  pub inside_one : a1 < length s
  pub fits_one : l1 q ≤ a1 + 1
  pub inside_two : a2 < length s
  pub fits_two : l2 q ≤ a2 + 1
  pub digits_two : all_digits (bytes_of s (l2 q) a2) ≡ true

-- ---- a field is a slice, its units last

-- its bytes from the right
abbrev pub from_right : List ℕ → List ℕ
from_right f = bytes_of f (length f) (length f - 1)

-- each digit is 9 or below
abbrev pub Digits : List ℕ → Type 0
Digits f = (i : ℕ) → i < length f → digit (get_or f i 0) ≤ 9

-- t is f with zone F over each digit
pub record Zones (f t : List ℕ) : Type 0 where
  pub same_length : length t ≡ length f
  pub each : (i : ℕ) → i < length f → get_or t i 0 ≡ 0xF0 + digit (get_or f i 0)

-- f with the digits of m put in it, the rightmost zone D where g
abbrev pub holding : List ℕ → Bool → ℕ → List ℕ
holding f g m = zoned_bytes f (length f) (length f - 1) g m

-- a field of digits whose zones are F
pub record Field (f : List ℕ) : Type 0 where
  pub digits : all_digits (from_right f) ≡ true
  pub zones : (i : ℕ) → i < length f → zone (get_or f i 0) ≡ 0xF

-- d is a field of digits that isn't longer than f
pub record Fits (f d : List ℕ) : Type 0 where
  pub some : 0 < length d
  pub shorter : length d ≤ length f
  pub most : length f ≤ 31
  pub digits : all_digits (from_right d) ≡ true

-- and f is one whose zones are F
pub record Operands (f d : List ℕ) : Type 0 where
  pub field : Field f
  pub fits : Fits f d

-- ---- columns

-- what a digit adds to its column
abbrev pub taken : Bool → ℕ → ℕ
taken false d = d
taken true d = 9 - d

-- what n digits of x add to the sum
abbrev pub part : Bool → ℕ → ℕ → ℕ
part false n x = x % 10 ^ n
part true n x = 10 ^ n - 1 - x % 10 ^ n

-- n columns of x and y, with c carried into the first
abbrev pub added_up : Bool → Bool → ℕ → ℕ → ℕ → ℕ → ℕ
added_up v w c n x y = part v n x + part w n y + c

-- the fields f and d
abbrev pub sum_of : Bool → ℕ → List ℕ → List ℕ → ℕ
sum_of w c f d = added_up false w c (length f) (size (from_right f)) (size (from_right d))

-- the field f, and a carry
abbrev pub alone : Bool → ℕ → List ℕ → ℕ
alone w c f = added_up false w c (length f) (size (from_right f)) 0

-- the carry that then changes no digit
abbrev pub still : Bool → ℕ
still false = 0
still true = 1

-- ten to its length less the field f
abbrev pub round_of : List ℕ → ℕ
round_of f = added_up true false 1 (length f) (size (from_right f)) 0

-- ---- the result

-- the sign put over the digits, unless they are zero
abbrev pub sign_put : Bool → Bool → List ℕ → List ℕ
sign_put minus clear f = cond clear f (cond minus (set f (length f - 1) (0xD0 + digit (get_or f (length f - 1) 0))) f)

abbrev pub finished : Bool → Bool → Bool → ℕ → ℕ
finished minus over clear status =
    set_order (cond clear equal (cond minus low high)) (cond over (turn_on decimal_overflow status) status)

-- the exact sum of the two fields, with the signs g and h
abbrev pub signed_sum : Bool → Bool → List ℕ → List ℕ → ℤ
signed_sum g h f d = signed g (size (from_right f)) +ℤ signed h (size (from_right d))

-- the exact result x is put in the n bytes at a: the status r and the storage t afterwards
pub record Left (s : List ℕ) (n a status : ℕ) (x : ℤ) (r : ℕ) (t : List ℕ) : Type 0 where
  pub storage : t ≡ zoned_bytes s n a (left_minus n x) (cut n x)
  pub status_after : r ≡ zoned_status n status x

-- and in the field f
abbrev pub LeftIn : List ℕ → ℕ → ℤ → ℕ → List ℕ → Type 0
LeftIn f status x r t = Left f (length f) (length f - 1) status x r t
