-- What is left in the field is left in storage.
use Rattle.std.proofs.Common.{rules}
use Rattle.zoned.proofs.Combining.{first_digits, both_left}
use Rattle.zoned.proofs.combine_second.Goals as goal

pub combined-requires-clause-digits : goal.combined-requires-clause-digits
combined-requires-clause-digits g c = search (rules, first_digits)

pub returns : goal.returns
returns g c = search (rules, both_left)
