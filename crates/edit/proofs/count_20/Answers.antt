-- `edit::count_20`: the byte is a 20 or not.
use Rattle.std.proofs.Common.{arith}
use Rattle.edit.proofs.Taking.{counts, counts_not}
use Rattle.edit.proofs.count_20.Goals as goal
use Rattle.edit.proofs.count_20.Goals.{then-s-a-eq32, else-s-a-eq32}

pub loop-i-preserved : goal.loop-i-preserved
loop-i-preserved c =
    elim c.if-s-a-eq32.branch [
      | then-s-a-eq32 w ↦ omega (arith, counts c.args.s.now c.args.n c.loop-i.i c.args.a (omega arith) w.if-s-a-eq32.true)
      | else-s-a-eq32 w ↦ omega (arith, counts_not c.args.s.now c.args.n c.loop-i.i c.args.a (omega arith) w.if-s-a-eq32.false)
    ]
