-- The whole has only digits if what is left has.
use Rattle.std.proofs.Common.{◌≡◌, drop}
use Rattle.manual.specs.Values.{all_digits}
use Rattle.edit.proofs.digits_of.Given as goal

abbrev pub invariant-loop-b : goal.invariant-loop-b
invariant-loop-b l = all_digits l.d ≡ all_digits (drop l.b-index l.d)
