-- What stands in the field after the zeros, the copy and the zones is operand 2's value.
use Rattle.zoned.proofs.Combining.{value_left}
use Rattle.zoned.proofs.put_value.Goals as goal

pub returns : goal.returns
returns c =
    value_left c.args.field.now c.args.second.now c.requires _ _ _ (c.fill.ensures.after (λ y e. e)) c.copy_from_slice.ensures.after c.put_zone.ensures _ _ _ _ c.is_minus.ensures c.finish.ensures.value c.finish.ensures.field_after
