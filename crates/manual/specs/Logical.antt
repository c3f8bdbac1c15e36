-- MVC, CLC, ALC, SLC. Q is L-1, both operands equally long, taken byte by byte from the right.
use Rattle.std.specs.Prelude.{true, cond, ◌&&◌, ℕ, zero, suc, ◌+◌, ◌-◌, ◌/◌, ◌%◌, eqb, ltb}
use Rattle.manual.specs.declared.Fields.{Fields}
use Rattle.manual.specs.declared.Columns.{Columns}
use Rattle.manual.specs.Places.{mem}
use Rattle.manual.specs.Programs.{Prog, ret, rd, wr, ◌>>=◌, ◌>>◌, leftward, go, Rule, unless, and_then, Way}
use Rattle.manual.specs.TheMachine.{equal, low, high, binary_overflow, turn_on, turn_off, set_order, order_of}
use Rattle.manual.specs.Formats.{reach}
use Rattle.manual.specs.Values.{number}

abbrev pub reach_both : Fields → ℕ → Way
reach_both f size = and_then (reach size (f.q + 1) f.a1) (reach size (f.q + 1) f.a2)

-- ---- MVC

unfoldable pub copy : ℕ → ℕ → ℕ → Prog (Unit {0})
copy zero a b = ret tt
copy (suc n) a b = rd (mem b) λ v. wr (mem a) v (copy n (a - 1) (b - 1))

unfoldable pub mvc : Fields → Rule
mvc f g = unless (reach_both f g.size) (copy (f.q + 1) f.a1 f.a2 >> ret (go f.next g.status))

-- ---- CLC compares unsigned

unfoldable pub clc : Fields → Rule
clc f g =
    unless (reach_both f g.size)
    (leftward (f.q + 1) f.a1 >>= λ xs.
    leftward (f.q + 1) f.a2 >>= λ ys.
    ret (go f.next (set_order (order_of (number xs) (number ys)) g.status)))

-- ---- ALC and SLC, column by column

-- a column's result byte, and what it carries or borrows
pub record Column : Type 0 where
  pub byte : ℕ
  pub over : ℕ

abbrev pub added : ℕ → ℕ → ℕ → Column
added x y c = record { byte = (x + y + c) % 256; over = (x + y + c) / 256 }

abbrev pub subtracted : ℕ → ℕ → ℕ → Column
subtracted x y c = record { byte = (x + 256 - (y + c)) % 256; over = cond (ltb x (y + c)) 1 0 }

abbrev pub onward : Columns → Column → Columns
onward c k = record { over = k.over; clear = c.clear && eqb k.byte 0 }

unfoldable pub columns : (ℕ → ℕ → ℕ → Column) → ℕ → ℕ → ℕ → Columns → Prog Columns
columns column zero a b c = ret c
columns column (suc n) a b c =
    rd (mem a) λ x. rd (mem b) λ y. wr (mem a) (column x y c.over).byte (columns column n (a - 1) (b - 1) (onward c (column x y c.over)))

abbrev pub fresh : Columns
fresh = record { over = 0; clear = true }

-- equal, low (no carry, not zero), high (carry, not zero), and binary overflow as the carry
unfoldable pub sum_status : ℕ → Columns → ℕ
sum_status status c =
    set_order (cond c.clear equal (cond (eqb c.over 0) low high))
    (cond (eqb c.over 0) (turn_off binary_overflow status) (turn_on binary_overflow status))

-- equal, low if operand 1 was below operand 2, else high; binary overflow stays
unfoldable pub difference_status : ℕ → Columns → ℕ
difference_status status c = set_order (cond c.clear equal (cond (eqb c.over 0) high low)) status

unfoldable pub alc : Fields → Rule
alc f g = unless (reach_both f g.size) (columns added (f.q + 1) f.a1 f.a2 fresh >>= λ c. ret (go f.next (sum_status g.status c)))

unfoldable pub slc : Fields → Rule
slc f g = unless (reach_both f g.size) (columns subtracted (f.q + 1) f.a1 f.a2 fresh >>= λ c. ret (go f.next (difference_status g.status c)))
