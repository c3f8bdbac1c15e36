-- The first i of the copy are the field's, the rightmost first.
use Rattle.std.proofs.Common.{◌≡◌, take}
use Rattle.manual.specs.Values.{bytes_of}
use Rattle.edit.proofs.take.Given as goal

abbrev pub invariant-loop-i : goal.invariant-loop-i
invariant-loop-i l = take l.i l.d ≡ bytes_of l.s l.i l.a
