-- Two parts that meet make the field.
use Rattle.std.proofs.Common.{arith}
use Rattle.zoned.proofs.Fields.{zoned_two}
use Rattle.zoned.proofs.put_zone.Goals as goal

pub returns-then-n-ge16 : goal.returns-then-n-ge16
returns-then-n-ge16 c = zoned_two c.args.field.now _ _ _ _ 16 (omega arith) (omega arith) (omega arith) c.put_zones.ensures c.put_zones-then-n-ge16.ensures

pub returns-then-n-ge8 : goal.returns-then-n-ge8
returns-then-n-ge8 c = zoned_two c.args.field.now _ _ _ _ 8 (omega arith) (omega arith) (omega arith) c.put_zones-then-n-ge8.ensures c.put_zones-then-n-ge8-2.ensures
