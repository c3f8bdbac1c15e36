-- As of `columns`, with nines less the field and nothing to add.
use Rattle.std.proofs.Common.{true, false, length, ◌-◌}
use Rattle.zoned.proofs.Going.{Going}
use Rattle.zoned.proofs.turned.Given as goal

abbrev pub invariant-loop-j : goal.invariant-loop-j
invariant-loop-j l = Going true false l.fn.field 0 1 l.field l.over (length l.fn.field - l.j)
