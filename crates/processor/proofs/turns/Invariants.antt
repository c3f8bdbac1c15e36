-- The steps so far are the run of that many, which returned 0.
use Rattle.std.proofs.Common.{◌≡◌}
use Rattle.manual.specs.declared.Answer.TheVariants.{Executed}
use Rattle.manual.specs.Run.{ran, turns_of}
use Rattle.processor.proofs.turns.Given as goal

abbrev pub invariant-loop-steps : goal.invariant-loop-steps
invariant-loop-steps l = ran l.machine Executed l.steps l.s ≡ turns_of l.fn.m l.fn.s l.steps
