-- The scan of what is left gives and leaves what the whole does.
use Rattle.std.proofs.Common.{◌+◌, ◌-◌, ◌≤◌}
use Rattle.edit.proofs.Scanning.{Scanned}
use Rattle.edit.proofs.scan_right.Given as goal

abbrev pub invariant-loop-at : goal.invariant-loop-at
invariant-loop-at l = record { within : l.at ≤ l.a + l.n; scanned : Scanned l.fn.s l.a l.n l.v l.s l.at }

abbrev pub decreases-loop-at : goal.decreases-loop-at
decreases-loop-at l = l.a + l.n - l.at
