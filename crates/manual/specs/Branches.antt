-- BC, JC, LA, SVC.
use Rattle.std.specs.Prelude.{Bool, cond, not, ℕ, ◌%◌, eqb}
use Rattle.std.specs.Int.Bits.{bit_and}
use Rattle.manual.specs.declared.Fields.{Fields}
use Rattle.manual.specs.declared.Register.TheVariants.{Arr}
use Rattle.manual.specs.declared.Stop.TheVariants.{Supervisor}
use Rattle.manual.specs.Places.{reg}
use Rattle.manual.specs.Programs.{ret, wr, stop, go, Rule}
use Rattle.manual.specs.TheMachine.{test_false, decimal_overflow, is_on, turn_off}
use Rattle.manual.specs.Registers.{register_named}

-- Q bits 2 to 7 pick status bits
abbrev pub picked : ℕ → ℕ → ℕ
picked q status = bit_and status (q % 64)

-- Q bit 0 on: branch if any picked bit is on; off: branch if all are off
unfoldable pub taken : ℕ → ℕ → Bool
taken q status = cond (is_on 128 q) (not (eqb (picked q status) 0)) (eqb (picked q status) 0)

-- a picked test false or decimal overflow is then turned off
abbrev pub off_if_picked : ℕ → ℕ → ℕ → ℕ
off_if_picked bit q status = cond (is_on bit q) (turn_off bit status) status

unfoldable pub after_test : ℕ → ℕ → ℕ
after_test q status = off_if_picked test_false q (off_if_picked decimal_overflow q status)

-- BC: on a branch IAR takes the address and ARR the next instruction's; with no branch ARR takes the address
unfoldable pub branch : Fields → Rule
branch f g =
    cond (taken f.q g.status)
    (wr (reg Arr) f.next (ret (go f.a1 (after_test f.q g.status))))
    (wr (reg Arr) f.a1 (ret (go f.next (after_test f.q g.status))))

-- JC: the same test; ARR stays
unfoldable pub jump : Fields → Rule
jump f g = ret (go (cond (taken f.q g.status) f.a1 f.next) (after_test f.q g.status))

-- LA: the address itself is loaded
unfoldable pub load_address : Fields → Rule
load_address f g = wr (reg (register_named f.q)) f.a1 (ret (go f.next g.status))

-- SVC stops with 9
unfoldable pub call : Fields → Rule
call f g = ret (stop (Supervisor f.q f.r))
