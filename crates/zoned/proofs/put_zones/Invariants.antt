-- The zones so far are F, and the rest is as it was.
use Rattle.std.proofs.Common.{◌≡◌, ◌+◌, ◌<◌, ◌≤◌, ℕ, get_or}
use Rattle.manual.specs.Values.{digit}
use Rattle.zoned.proofs.put_zones.Given as goal

abbrev pub invariant-loop-b : goal.invariant-loop-b
invariant-loop-b l =
    record {
      zoned : (i : ℕ) → i < l.b-index → get_or l.part i 0 ≡ 0xF0 + digit (get_or l.fn.part i 0);
      rest : (i : ℕ) → l.b-index ≤ i → get_or l.part i 0 ≡ get_or l.fn.part i 0;
    }
