-- There are digits for the rest of the pattern, and the rest of the edit leaves what the whole leaves.
use Rattle.edit.proofs.Editing.{Edited}
use Rattle.edit.proofs.put_edited.Given as goal

abbrev pub invariant-loop-i : goal.invariant-loop-i
invariant-loop-i l = Edited l.fn.s l.a l.n l.d l.s l.k l.i
