-- The digits of the sum so far stand in the field, and what is left to add gives what is left of the sum.
use Rattle.std.proofs.Common.{false, length, ◌-◌}
use Rattle.manual.specs.Values.{size}
use Rattle.zoned.specs.Working.{from_right}
use Rattle.zoned.proofs.Going.{Going}
use denote.Param.{number}
use Rattle.zoned.specs.contracts.columns.{NINES-type}
use Rattle.zoned.proofs.columns.Given as goal

abbrev pub invariant-loop-j : goal.invariant-loop-j
invariant-loop-j g l = Going false (NINES-type (number g.row.NINES)) l.fn.field (size (from_right l.second)) l.start l.field l.over (length l.fn.field - l.j)
