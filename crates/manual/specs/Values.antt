-- The value of a field: of bytes as an unsigned number, of zoned bytes as a signed decimal number. A field is its bytes from the right.
use Rattle.std.specs.Prelude.{ℕ, zero, suc, ◌+◌, ◌-◌, ◌*◌, ◌/◌, ◌%◌, ◌^◌, Bool, true, false, cond, not, ◌&&◌, List, [], ◌∷◌, eqb, leb, get_or, ℤ, pos, negsuc, neg_ℤ, nat_abs, Ok, Err}
use Rattle.manual.specs.declared.Stop.TheVariants.{DigitRefused}
use Rattle.manual.specs.TheMachine.{equal, low, high}
use Rattle.manual.specs.Programs.{Way}

-- n bytes of storage whose rightmost is at a, the rightmost first
unfoldable pub bytes_of : List ℕ → ℕ → ℕ → List ℕ
bytes_of s zero a = []
bytes_of s (suc n) a = get_or s a 0 ∷ bytes_of s n (a - 1)

-- the unsigned number, base 256
unfoldable pub number : List ℕ → ℕ
number [] = 0
number (b ∷ bs) = b + 256 * number bs

-- ---- zoned fields

-- the right half of each byte is a digit
abbrev pub digit : ℕ → ℕ
digit b = b % 16

abbrev pub zone : ℕ → ℕ
zone b = b / 16

-- the size, of any length
unfoldable pub size : List ℕ → ℕ
size [] = 0
size (b ∷ bs) = digit b + 10 * size bs

-- zone D in the rightmost byte means minus, every other zone plus
unfoldable pub minus : List ℕ → Bool
minus [] = false
minus (b ∷ bs) = eqb (zone b) 0xD

abbrev pub signed : Bool → ℕ → ℤ
signed negative n = cond negative (neg_ℤ (pos n)) (pos n)

unfoldable pub value : List ℕ → ℤ
value bs = signed (minus bs) (size bs)

-- a digit above 9 stops with 8
unfoldable pub all_digits : List ℕ → Bool
all_digits [] = true
all_digits (b ∷ bs) = leb (digit b) 9 && all_digits bs

unfoldable pub digits_of : List ℕ → Way
digits_of bs = cond (all_digits bs) (Ok tt) (Err DigitRefused)

-- ---- a signed number in a field of n bytes

abbrev pub negative : ℤ → Bool
negative (pos n) = false
negative (negsuc n) = true

-- the size cut modulo 10 to the n
unfoldable pub cut : ℕ → ℤ → ℕ
cut n x = nat_abs x % 10 ^ n

-- the size is 10 to the n or more
unfoldable pub overflows : ℕ → ℤ → Bool
overflows n x = leb (10 ^ n) (nat_abs x)

-- the exact result was negative and the cut size isn't zero
unfoldable pub left_minus : ℕ → ℤ → Bool
left_minus n x = negative x && not (eqb (cut n x) 0)

-- the cut result
abbrev pub cut_to : ℕ → ℤ → ℤ
cut_to n x = signed (negative x) (cut n x)

-- equal, low, high by a number being zero, minus, plus
unfoldable pub sign_order : ℤ → ℕ
sign_order x = cond (eqb (nat_abs x) 0) equal (cond (negative x) low high)
