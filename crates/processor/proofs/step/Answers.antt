use Rattle.processor.proofs.Stepping.{one_step}
use Rattle.processor.proofs.step.Goals as goal

pub returns : goal.returns
returns c = one_step c.args.m c.args.s.now c.run-ran.result c.run-ran.new.s c.run-ran.ensures
