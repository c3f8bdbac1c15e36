-- Operand 1 lies in storage where the tests before are passed.
use Rattle.std.proofs.Common.{arith}
use Rattle.zoned.proofs.Ways.{zaz_ready}
use Rattle.zoned.proofs.combine_way.Goals as goal

pub field-requires : goal.field-requires
field-requires c =
    let r = zaz_ready c.args.s.now c.args.f.q c.args.f.a1 c.args.f.a2 c.in_ok-zaz_way.ensures in
    omega (arith, r, c.l1.ensures)
