-- `edit::put_edited`: a 20 takes a digit, another byte none, and at the end nothing is left.
use Rattle.std.proofs.Common.{refl, arith}
use Rattle.edit.proofs.Editing.{puts, passes, ends}
use Rattle.edit.proofs.put_edited.Goals as goal
use Rattle.edit.proofs.put_edited.Goals.{then-s-a-eq32, else-s-a-eq32}

pub loop-i-preserved : goal.loop-i-preserved
loop-i-preserved c =
    let l = c.loop-i in
    elim c.if-s-a-eq32.branch [
      | then-s-a-eq32 w ↦ puts _ _ _ _ l.s c.if-s-a-eq32.s l.k c.if-s-a-eq32.k l.i (omega arith) (omega arith) w.if-s-a-eq32.true w.s-is w.k-is l.invariant
      | else-s-a-eq32 w ↦ passes _ _ _ _ l.s c.if-s-a-eq32.s l.k c.if-s-a-eq32.k l.i (omega arith) w.if-s-a-eq32.false w.s-is w.k-is l.invariant
    ]

pub returns : goal.returns
returns c = λ m. (refl, ends _ _ _ _ _ _ _ (omega arith) c.loop-i.invariant m)
