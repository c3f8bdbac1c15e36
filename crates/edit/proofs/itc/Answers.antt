-- `edit::itc`: both operands are reached.
use Rattle.edit.proofs.Rules.{itc_goes}
use Rattle.edit.proofs.itc.Goals as goal

pub returns : goal.returns
returns c = itc_goes c.args.m.now c.args.s.now c.args.f c.scan_right.result c.scan_right.new.s c.in_ok-reach_right.ensures c.in_ok-reach.ensures c.scan_right.ensures
