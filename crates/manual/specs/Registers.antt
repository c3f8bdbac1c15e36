-- ST, L, A, S pair a register with two storage bytes.
use Rattle.std.specs.Prelude.{Bool, cond, ℕ, ◌+◌, ◌-◌, ◌*◌, ◌/◌, ◌%◌, eqb, ltb}
use Rattle.manual.specs.declared.Fields.{Fields}
use Rattle.manual.specs.declared.Columns.{Columns}
use Rattle.manual.specs.declared.Register.{Register}
use Rattle.manual.specs.declared.Register.TheVariants.{Arr, Xr1, Xr2, Work}
use Rattle.manual.specs.Places.{mem, reg}
use Rattle.manual.specs.Programs.{Prog, ret, rd, wr, Out, go, Rule, unless}
use Rattle.manual.specs.TheMachine.{equal, low, high, is_on, set_order}
use Rattle.manual.specs.Formats.{reach}
use Rattle.manual.specs.Logical.{sum_status, difference_status}

abbrev pub is_status : ℕ → Bool
is_status q = eqb q 0x04

-- the register of an allowed Q byte other than 04: 01 XR1, 02 XR2, 08 ARR, 44 to 47 WR4 to WR7
unfoldable pub register_named : ℕ → Register
register_named q = cond (eqb q 0x01) Xr1 (cond (eqb q 0x02) Xr2 (cond (eqb q 0x08) Arr (Work (q % 4))))

-- two bytes whose rightmost is at a
abbrev pub put_word : ℕ → ℕ → ℕ → Prog Out → Prog Out
put_word a left right p = wr (mem a) right (wr (mem (a - 1)) left p)

abbrev pub take_word : ℕ → (ℕ → ℕ → Prog Out) → Prog Out
take_word a k = rd (mem a) λ right. rd (mem (a - 1)) λ left. k left right

-- ST: of the status 00 and the status
unfoldable pub store : Fields → Rule
store f g =
    cond (is_status f.q)
    (unless (reach g.size 2 f.a1) (put_word f.a1 0 g.status (ret (go f.next g.status))))
    (rd (reg (register_named f.q)) λ v. unless (reach g.size 2 f.a1) (put_word f.a1 (v / 256) (v % 256) (ret (go f.next g.status))))

-- L of the status takes bits 2, 3, 4 of the rightmost byte, and one of 5, 6, 7: equal if it is on, else low if it is on, else high
unfoldable pub loaded_status : ℕ → ℕ
loaded_status b = set_order (cond (is_on equal b) equal (cond (is_on low b) low high)) (b % 64)

-- L
unfoldable pub load : Fields → Rule
load f g =
    unless (reach g.size 2 f.a1)
    (take_word f.a1 λ left right.
    cond (is_status f.q)
    (ret (go f.next (loaded_status right)))
    (wr (reg (register_named f.q)) (left * 256 + right) (ret (go f.next g.status))))

-- a register's sum and difference wrap at 65,536; the carry or borrow is told apart
abbrev pub sum_columns : ℕ → ℕ → Columns
sum_columns v w = record { over = (v + w) / 65536; clear = eqb ((v + w) % 65536) 0 }

abbrev pub difference : ℕ → ℕ → ℕ
difference v w = (v + 65536 - w) % 65536

abbrev pub difference_columns : ℕ → ℕ → Columns
difference_columns v w = record { over = cond (ltb v w) 1 0; clear = eqb (difference v w) 0 }

-- A adds the bytes to the register, status as ALC
unfoldable pub add : Fields → Rule
add f g =
    rd (reg (register_named f.q)) λ v.
    unless (reach g.size 2 f.a1)
    (take_word f.a1 λ left right.
    wr (reg (register_named f.q)) ((v + (left * 256 + right)) % 65536) (ret (go f.next (sum_status g.status (sum_columns v (left * 256 + right))))))

-- S subtracts them from it, status as SLC
unfoldable pub subtract : Fields → Rule
subtract f g =
    rd (reg (register_named f.q)) λ v.
    unless (reach g.size 2 f.a1)
    (take_word f.a1 λ left right.
    wr (reg (register_named f.q)) (difference v (left * 256 + right))
    (ret (go f.next (difference_status g.status (difference_columns v (left * 256 + right))))))
