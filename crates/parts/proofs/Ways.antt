-- What stands in the way of a rule, by what the code's tests of both operands gave. What carries it: cases.
use Rattle.std.proofs.Common.{◌≡◌, refl, ℕ, ◌+◌, ◌<◌, ◌≤◌, Ok, sym}
use Rattle.manual.specs.Programs.{and_then, Way}
use Rattle.manual.specs.Formats.{reach}
use Rattle.manual.proofs.Running.{doing, reach_clear, both_clear}

pub both_reached : (size n a k b : ℕ) → Ok tt ≡ and_then (reach size n a) (reach size k b) → ((a < size) × (n ≤ a + 1)) × ((b < size) × (k ≤ b + 1))
both_reached size n a k b e =
    let w = both_clear (reach size n a) (reach size k b) (rw (sym e) refl) in
    (reach_clear size n a w.0, reach_clear size k b w.1)

-- the way, by what its test gave
pub tested : (v w r : Way) → r ≡ and_then v w → and_then v w ≡ r
tested v w r e = sym e

pub ruleset pairs = (doing, both_reached, tested)
