-- The machine: storage sizes, the step budget, and the status byte.
use Rattle.std.specs.Prelude.{Bool, cond, ◌&&◌, ℕ, ◌+◌, ◌-◌, ◌*◌, ◌/◌, ◌%◌, eqb, leb, ltb}

-- main storage has 256 to 65,536 bytes, a multiple of 256
unfoldable pub size_allowed : ℕ → Bool
size_allowed n = leb 256 n && (leb n 65536 && eqb (n % 256) 0)

-- a step budget of 0 to 16,777,216
unfoldable pub budget_allowed : ℕ → Bool
budget_allowed n = leb n 16777216

-- bits 0 and 1 of the status are always zero
unfoldable pub status_allowed : ℕ → Bool
status_allowed x = ltb x 64

-- ---- the status bits, counted from the left: 2 binary overflow, 3 test false, 4 decimal overflow, 5 high, 6 low, 7 equal

abbrev pub binary_overflow : ℕ
binary_overflow = 32

abbrev pub test_false : ℕ
test_false = 16

abbrev pub decimal_overflow : ℕ
decimal_overflow = 8

abbrev pub high : ℕ
high = 4

abbrev pub low : ℕ
low = 2

abbrev pub equal : ℕ
equal = 1

-- whether a bit of a byte is on
abbrev pub is_on : ℕ → ℕ → Bool
is_on bit x = eqb (x / bit % 2) 1

unfoldable pub turn_on : ℕ → ℕ → ℕ
turn_on bit x = cond (is_on bit x) x (x + bit)

unfoldable pub turn_off : ℕ → ℕ → ℕ
turn_off bit x = cond (is_on bit x) (x - bit) x

-- setting equal, low or high clears the other two
unfoldable pub set_order : ℕ → ℕ → ℕ
set_order o status = status / 8 * 8 + o

-- x against y, unsigned
unfoldable pub order_of : ℕ → ℕ → ℕ
order_of x y = cond (eqb x y) equal (cond (ltb x y) low high)
