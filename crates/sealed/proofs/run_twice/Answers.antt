-- `sealed::run_twice`: all that is known of the two runs is what `processor::run` promises.
use Rattle.sealed.proofs.TwoRuns.{run_demand_3}
use Rattle.sealed.proofs.run_twice.Goals as goal

pub returns : goal.returns
returns c =
    let e = c.run-one.ensures in
    let f = c.run-two.ensures in
    record { first = e; second = f; no_leak = run_demand_3 _ _ _ _ _ _ _ _ e f }
