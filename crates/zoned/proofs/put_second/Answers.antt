-- What is left in the field is left in storage.
use Rattle.std.proofs.Common.{rules}
use Rattle.zoned.proofs.Combining.{second_left}
use Rattle.zoned.proofs.put_second.Goals as goal

pub returns : goal.returns
returns c = search (rules, second_left)
