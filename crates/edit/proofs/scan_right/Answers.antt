-- `edit::scan_right`: one more byte is passed.
use Rattle.std.proofs.Common.{arith, refl}
use Rattle.edit.proofs.Scanning.{goes_on}
use Rattle.edit.proofs.scan_right.Goals as goal

pub loop-at-preserved : goal.loop-at-preserved
loop-at-preserved c =
    let l = c.loop-at in
    record {
      within = omega arith;
      scanned = goes_on _ _ _ _ l.s _ l.at (omega arith) (cc) refl l.invariant.scanned;
    }
