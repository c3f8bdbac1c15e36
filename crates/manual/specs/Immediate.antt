-- TBN, TBF, SBN, SBF, MVI, CLI, SLI act on one byte, with Q as a mask or as the other byte.
use Rattle.std.specs.Prelude.{cond, ℕ, ◌-◌, eqb}
use Rattle.std.specs.Int.Bits.{bit_and, bit_or}
use Rattle.manual.specs.declared.Fields.{Fields}
use Rattle.manual.specs.Places.{mem}
use Rattle.manual.specs.Programs.{ret, rd, wr, go, Rule, unless}
use Rattle.manual.specs.TheMachine.{test_false, turn_on, set_order, order_of}
use Rattle.manual.specs.Formats.{reach}
use Rattle.manual.specs.Logical.{subtracted, fresh, onward, difference_status}

-- the byte is only looked at, for a status
abbrev pub tested : (ℕ → ℕ) → Fields → Rule
tested status f g = unless (reach g.size 1 f.a1) (rd (mem f.a1) λ b. ret (go f.next (status b)))

-- the byte is changed, and the status stays
abbrev pub changed : (ℕ → ℕ) → Fields → Rule
changed byte f g = unless (reach g.size 1 f.a1) (rd (mem f.a1) λ b. wr (mem f.a1) (byte b) (ret (go f.next g.status)))

-- TBN turns test false on if a masked bit is off
unfoldable pub tbn : Fields → Rule
tbn f g = tested (λ b. cond (eqb (bit_and b f.q) f.q) g.status (turn_on test_false g.status)) f g

-- TBF if a masked bit is on
unfoldable pub tbf : Fields → Rule
tbf f g = tested (λ b. cond (eqb (bit_and b f.q) 0) g.status (turn_on test_false g.status)) f g

-- SBN sets the masked bits on
unfoldable pub sbn : Fields → Rule
sbn f g = changed (λ b. bit_or b f.q) f g

-- SBF sets them off
unfoldable pub sbf : Fields → Rule
sbf f g = changed (λ b. bit_and b (255 - f.q)) f g

-- MVI: the byte isn't read
unfoldable pub mvi : Fields → Rule
mvi f g = unless (reach g.size 1 f.a1) (wr (mem f.a1) f.q (ret (go f.next g.status)))

-- CLI, unsigned
unfoldable pub cli : Fields → Rule
cli f g = tested (λ b. set_order (order_of b f.q) g.status) f g

-- SLI, status as SLC: one column
unfoldable pub sli : Fields → Rule
sli f g =
    unless (reach g.size 1 f.a1)
    (rd (mem f.a1) λ b.
    wr (mem f.a1) (subtracted b f.q 0).byte (ret (go f.next (difference_status g.status (onward fresh (subtracted b f.q 0))))))
