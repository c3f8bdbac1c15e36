-- As of `columns`, with nothing to add.
use Rattle.std.proofs.Common.{false, length, ◌-◌}
use Rattle.zoned.proofs.Going.{Going}
use denote.Param.{number}
use Rattle.zoned.specs.contracts.run_on.{NINES-type}
use Rattle.zoned.proofs.run_on.Given as goal

abbrev pub invariant-loop-j : goal.invariant-loop-j
invariant-loop-j g l = Going false (NINES-type (number g.row.NINES)) l.fn.field 0 l.start l.field l.over (length l.fn.field - l.j)
