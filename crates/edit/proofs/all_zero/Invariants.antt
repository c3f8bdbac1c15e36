-- The size of the whole is zero if that of what is left is.
use Rattle.std.proofs.Common.{◌≡◌, drop, eqb}
use Rattle.manual.specs.Values.{size}
use Rattle.edit.proofs.all_zero.Given as goal

abbrev pub invariant-loop-b : goal.invariant-loop-b
invariant-loop-b l = eqb (size l.d) 0 ≡ eqb (size (drop l.b-index l.d)) 0
