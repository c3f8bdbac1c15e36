-- Two parts that meet make the field.
use Rattle.std.proofs.Common.{arith}
use Rattle.zoned.proofs.Fields.{bad_first, bad_last}
use Rattle.zoned.proofs.has_bad.Goals as goal

pub returns-then-some_bad : goal.returns-then-some_bad
returns-then-some_bad c = bad_first c.args.field.now 16 _ c.some_bad.ensures (omega arith) c.if-some_bad.true

pub returns-else-some_bad : goal.returns-else-some_bad
returns-else-some_bad c = bad_last c.args.field.now 16 _ c.some_bad.ensures (omega arith) c.if-some_bad.false _ _ (omega arith) (omega arith) _ c.some_bad-else-some_bad.ensures

pub returns-then-some_bad-2 : goal.returns-then-some_bad-2
returns-then-some_bad-2 c = bad_first c.args.field.now 8 _ c.some_bad-then-n-ge8.ensures (omega arith) c.if-some_bad-2.true

pub returns-else-some_bad-2 : goal.returns-else-some_bad-2
returns-else-some_bad-2 c = bad_last c.args.field.now 8 _ c.some_bad-then-n-ge8.ensures (omega arith) c.if-some_bad-2.false _ _ (omega arith) (omega arith) _ c.some_bad-else-some_bad-2.ensures
