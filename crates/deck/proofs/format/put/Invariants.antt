-- `i` bytes of `src` are pasted.
use Rattle.std.proofs.Common.{◌≡◌}
use lib.Seq.{paste}
use Rattle.deck.proofs.format.put.Given as goal

abbrev pub invariant-loop-i : goal.invariant-loop-i
invariant-loop-i l = record { is : l.dst ≡ paste l.fn.dst l.at l.src l.i }
