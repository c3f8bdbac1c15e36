-- The columns with digits to add, and then those left of them.
use Rattle.std.proofs.Common.{rules}
use Rattle.zoned.proofs.Carrying.{right_operands, left_field, both_over, both_field}
use Rattle.zoned.proofs.added.Goals as goal

pub columns-over-requires-clause-operands : goal.columns-over-requires-clause-operands
columns-over-requires-clause-operands g c = search (rules, right_operands)

pub run_on-requires-clause-field : goal.run_on-requires-clause-field
run_on-requires-clause-field g c = search (rules, left_field)

pub returns-clause-field_after : goal.returns-clause-field_after
returns-clause-field_after g c = search (rules, both_field)

pub returns-clause-value : goal.returns-clause-value
returns-clause-value g c = search (rules, both_over)
