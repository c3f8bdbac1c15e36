-- As of `columns`; where the carry stands still, the digits left are the sum's already.
use Rattle.std.proofs.Common.{rules}
use Rattle.zoned.proofs.Going.{going_start, run_on_small, run_on_next, still_put, still_carry}
use Rattle.zoned.proofs.run_on.Goals as goal

pub loop-j-init : goal.loop-j-init
loop-j-init g c = search (rules, going_start)

pub returns-then-over-still-clause-field_after : goal.returns-then-over-still-clause-field_after
returns-then-over-still-clause-field_after g c = search (rules, still_put)

pub returns-then-over-still-clause-value : goal.returns-then-over-still-clause-value
returns-then-over-still-clause-value g c = search (rules, still_carry)

pub carried-over-requires : goal.carried-over-requires
carried-over-requires g c = search (rules, run_on_small)

pub loop-j-preserved : goal.loop-j-preserved
loop-j-preserved g c = search (rules, run_on_next)
