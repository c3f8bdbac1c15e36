-- What stands in the way is tested first, and the rest adds or subtracts.
use Rattle.std.proofs.Common.{rules}
use denote.Param.{number}
use Rattle.zoned.specs.contracts.combine.{LESS-type}
use Rattle.zoned.proofs.Ways.{combine_ready, combine_digits, combine_stops, combine_goes}
use Rattle.zoned.proofs.combine.Goals as goal

pub returns-in_err-combine_way : goal.returns-in_err-combine_way
returns-in_err-combine_way g c = search (rules, combine_stops)

pub combine_second-m-requires-clause-ready : goal.combine_second-m-requires-clause-ready
combine_second-m-requires-clause-ready g c = search (rules, combine_ready)

pub combine_second-m-requires-clause-a1_value : goal.combine_second-m-requires-clause-a1_value
combine_second-m-requires-clause-a1_value g c = search (rules, combine_digits)

pub returns : goal.returns
returns g c = combine_goes c.args.m.now c.args.s.now c.args.f (LESS-type (number g.row.LESS)) c.in_ok-combine_way.ensures c.combine_second-m.result c.combine_second-m.new.s c.combine_second-m.ensures
