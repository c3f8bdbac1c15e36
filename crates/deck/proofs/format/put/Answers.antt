-- A byte more of the source is laid over the front (`paste-suc`); at its end all of it is (`paste_all`).
use Rattle.std.proofs.Common.{length, ◌≡◌, ◌∙◌, arith}
use native.Mathlib.Numerals.{add-one}
use lib.Seq.{paste-suc}
use Rattle.manual.proofs.Pages.{paste_all}
use Rattle.deck.proofs.format.put.Goals as goal

pub loop-i-preserved : goal.loop-i-preserved
loop-i-preserved c =
    let a = c.args in
    let l = c.loop-i in
    record { is = rw (l.invariant.is, add-one) (paste-suc a.dst.now a.at a.src.now l.i 0 (omega arith) (omega arith)) }

pub returns : goal.returns
returns c = let e : c.loop-i.i ≡ length c.args.src.now = omega arith in c.loop-i.invariant.is ∙ rw e (paste_all _ _ _)
