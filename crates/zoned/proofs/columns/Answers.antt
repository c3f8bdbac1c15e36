-- A column is a digit of the sum, and what it carries on is the rest's.
use Rattle.std.proofs.Common.{rules}
use Rattle.zoned.proofs.Going.{going_start, second_low, columns_small, columns_next}
use Rattle.zoned.proofs.columns.Goals as goal

pub loop-j-init : goal.loop-j-init
loop-j-init g c = search (rules, going_start)

pub taken-requires : goal.taken-requires
taken-requires g c = search (rules, second_low)

pub carried-over-requires : goal.carried-over-requires
carried-over-requires g c = search (rules, columns_small)

pub loop-j-preserved : goal.loop-j-preserved
loop-j-preserved g c = search (rules, columns_next)
