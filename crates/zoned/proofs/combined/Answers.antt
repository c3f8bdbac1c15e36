-- Signs that are the same ask for the sum of the sizes, others for their difference.
use Rattle.std.proofs.Common.{rules}
use Rattle.zoned.proofs.Combining.{both_operands, sum_all, difference_all}
use Rattle.zoned.proofs.combined.Goals as goal

pub sum-requires : goal.sum-requires
sum-requires g c = search (rules, both_operands)

pub returns-then-m1-m2 : goal.returns-then-m1-m2
returns-then-m1-m2 g c = search (rules, sum_all)

pub difference-requires : goal.difference-requires
difference-requires g c = search (rules, both_operands)

pub returns : goal.returns
returns g c = search (rules, difference_all)
