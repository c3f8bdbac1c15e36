-- `processor::turns`: one more step that ran, and one that stopped.
use Rattle.std.proofs.Common.{arith}
use Rattle.processor.proofs.Stepping.{goes_on, stops_at}
use Rattle.processor.proofs.turns.Goals as goal

pub returns-in-Err : goal.returns-in-Err
returns-in-Err c =
    let l = c.loop-steps in
    rw c.ran.ensures (stops_at c.args.m c.args.s.now l.steps l.machine l.s l.invariant c.inner.new.m c.inner.new.s c.in-Err.stop c.args.budget (omega arith) c.in-Err.ensures)

pub loop-steps-preserved : goal.loop-steps-preserved
loop-steps-preserved c =
    let l = c.loop-steps in
    goes_on c.args.m c.args.s.now l.steps l.machine l.s l.invariant c.inner.new.m c.inner.new.s c.in_default.ensures
