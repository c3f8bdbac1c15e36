-- ZAZ, AZ, SZ.
use Rattle.std.specs.Prelude.{Bool, cond, ℕ, zero, suc, ◌+◌, ◌-◌, ◌/◌, ◌%◌, ℤ, ◌+ℤ◌, ◌-ℤ◌}
use Rattle.manual.specs.declared.Fields.{Fields}
use Rattle.manual.specs.Places.{mem}
use Rattle.manual.specs.Programs.{Prog, ret, wr, ◌>>=◌, ◌>>◌, leftward, go, Rule, unless, and_then, Way}
use Rattle.manual.specs.TheMachine.{decimal_overflow, turn_on, set_order}
use Rattle.manual.specs.Formats.{reach}
use Rattle.manual.specs.Values.{value, digits_of, cut, overflows, left_minus, cut_to, sign_order}

-- Q: left digit L1-L2, right digit L2-1
abbrev pub l2 : ℕ → ℕ
l2 q = q % 16 + 1

abbrev pub l1 : ℕ → ℕ
l1 q = q / 16 + l2 q

abbrev pub zoned_reach : Fields → ℕ → Way
zoned_reach f size = and_then (reach size (l1 f.q) f.a1) (reach size (l2 f.q) f.a2)

-- ---- the result

-- the digits of m, the units at a, with zone F
unfoldable pub put_digits : ℕ → ℕ → ℕ → Prog (Unit {0})
put_digits zero a m = ret tt
put_digits (suc n) a m = wr (mem a) (0xF0 + m % 10) (put_digits n (a - 1) (m / 10))

-- the same, the rightmost zone D for minus
unfoldable pub put_zoned : ℕ → ℕ → Bool → ℕ → Prog (Unit {0})
put_zoned zero a sign m = ret tt
put_zoned (suc n) a sign m = wr (mem a) (cond sign 0xD0 0xF0 + m % 10) (put_digits n (a - 1) (m / 10))

-- equal, low, high by the cut result; decimal overflow goes on, and is never turned off here
unfoldable pub zoned_status : ℕ → ℕ → ℤ → ℕ
zoned_status n status x = set_order (sign_order (cut_to n x)) (cond (overflows n x) (turn_on decimal_overflow status) status)

-- the exact result x, cut to operand 1
unfoldable pub put_result : Fields → ℤ → Rule
put_result f x g =
    put_zoned (l1 f.q) f.a1 (left_minus (l1 f.q) x) (cut (l1 f.q) x) >>
    ret (go f.next (zoned_status (l1 f.q) g.status x))

-- ---- the instructions: both operands are read whole before anything is written

-- ZAZ puts operand 2's value in operand 1, which isn't read
unfoldable pub zaz : Fields → Rule
zaz f g = unless (zoned_reach f g.size) (leftward (l2 f.q) f.a2 >>= λ ys. unless (digits_of ys) (put_result f (value ys) g))

unfoldable pub combine : (ℤ → ℤ → ℤ) → Fields → Rule
combine op f g =
    unless (zoned_reach f g.size)
    (leftward (l2 f.q) f.a2 >>= λ ys.
    leftward (l1 f.q) f.a1 >>= λ xs.
    unless (and_then (digits_of ys) (digits_of xs)) (put_result f (op (value xs) (value ys)) g))

-- AZ adds, SZ subtracts operand 2
abbrev pub az : Fields → Rule
az = combine ◌+ℤ◌

abbrev pub sz : Fields → Rule
sz = combine ◌-ℤ◌
