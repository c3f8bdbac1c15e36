use Rattle.std.proofs.Common.{◌-◌}
use Rattle.manual.specs.Logical.{copy}
use Rattle.logical.proofs.Turns.{Leads}
use Rattle.logical.proofs.fields.copy_left.Given as goal

-- what is left to copy gives what the whole copy gives
abbrev pub invariant-loop-i : goal.invariant-loop-i
invariant-loop-i l = record { leads : Leads (copy l.p.n l.p.a l.p.b) l.fn.s (copy (l.p.n - l.i) (l.p.a - l.i) (l.p.b - l.i)) l.s }
