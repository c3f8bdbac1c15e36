-- What stands in the way is tested first, and the rest puts operand 2.
use Rattle.std.proofs.Common.{rules}
use Rattle.zoned.proofs.Ways.{zaz_ready, zaz_stops, zaz_goes}
use Rattle.zoned.proofs.zaz.Goals as goal

pub returns-in_err-zaz_way : goal.returns-in_err-zaz_way
returns-in_err-zaz_way c = search (rules, zaz_stops)

pub put_second-m-requires : goal.put_second-m-requires
put_second-m-requires c = search (rules, zaz_ready)

pub returns : goal.returns
returns c = zaz_goes c.args.m.now c.args.s.now c.args.f c.in_ok-zaz_way.ensures c.put_second-m.result c.put_second-m.new.s c.put_second-m.ensures
