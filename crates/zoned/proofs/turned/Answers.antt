-- As of `columns`.
use Rattle.std.proofs.Common.{rules}
use Rattle.zoned.proofs.Going.{going_start, first_low, turned_next}
use Rattle.zoned.proofs.turned.Goals as goal

pub loop-j-init : goal.loop-j-init
loop-j-init c = search (rules, going_start)

pub taken-requires : goal.taken-requires
taken-requires c = search (rules, first_low)

pub loop-j-preserved : goal.loop-j-preserved
loop-j-preserved c = search (rules, turned_next)
