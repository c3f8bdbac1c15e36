-- `with_byte`: the line's text grows by the byte stored at its end.
use Rattle.std.proofs.Common.{arith, refl, rules}
use native.Mathlib.Numerals.{add-one}
use lib.Seq.{take-suc-set}
use Rattle.runner.proofs.Lines.{behind_set}
use Rattle.runner.proofs.text.with_byte.Goals as goal

pub returns : goal.returns
returns c = (rw add-one (take-suc-set _ _ _ (omega arith)), refl, search rules, behind_set _ _ _)
