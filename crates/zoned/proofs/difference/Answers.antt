-- A carry tells that operand 1 has the larger size, and else the field is turned round.
use Rattle.std.proofs.Common.{rules}
use Rattle.zoned.proofs.Combining.{more_left, less_left, again}
use Rattle.zoned.proofs.difference.Goals as goal

pub returns-then-over-eq1 : goal.returns-then-over-eq1
returns-then-over-eq1 c = search (rules, more_left)

pub turned-requires : goal.turned-requires
turned-requires c = search (rules, again)

pub returns : goal.returns
returns c = search (rules, less_left)
