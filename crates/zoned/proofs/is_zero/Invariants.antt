-- The digits from there on are zero.
use Rattle.std.proofs.Common.{◌≡◌, ◌≤◌, ◌<◌, ℕ, get_or, length}
use Rattle.manual.specs.Values.{digit}
use Rattle.zoned.proofs.is_zero.Given as goal

abbrev pub invariant-loop-j : goal.invariant-loop-j
invariant-loop-j l = (i : ℕ) → l.j ≤ i → i < length l.field → digit (get_or l.field i 0) ≡ 0
