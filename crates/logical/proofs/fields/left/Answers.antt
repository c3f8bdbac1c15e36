use Rattle.std.proofs.Common.{◌*◌}
use Rattle.logical.proofs.Fours.{columns_on}
use Rattle.logical.proofs.fields.left.Goals as goal

pub returns : goal.returns
returns g c = columns_on _ _ (4 * _) _ _ _ _ _ _ c.by_fours-k.ensures.0 c.fours-c.ensures.0 _ _ c.ones.ensures
