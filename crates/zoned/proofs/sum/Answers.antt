-- The columns, finished, are the exact sum of two of one sign.
use Rattle.std.proofs.Common.{rules}
use Rattle.zoned.proofs.Combining.{sum_left}
use Rattle.zoned.proofs.sum.Goals as goal

pub returns : goal.returns
returns c = search (rules, sum_left)
