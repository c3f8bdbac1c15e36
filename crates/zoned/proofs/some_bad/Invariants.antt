-- All digits so far were 9 or below, or they weren't.
use Rattle.std.proofs.Common.{◌≡◌, ◌↔◌, ◌<◌, ◌≤◌, ℕ, false, get_or}
use Rattle.manual.specs.Values.{digit}
use Rattle.zoned.proofs.some_bad.Given as goal

abbrev pub invariant-loop-b : goal.invariant-loop-b
invariant-loop-b l = (l.bad ≡ false) ↔ ((i : ℕ) → i < l.b-index → digit (get_or l.part i 0) ≤ 9)
