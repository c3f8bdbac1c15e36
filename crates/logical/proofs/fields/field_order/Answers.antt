use Rattle.std.proofs.Common.{arith, Equal, Less, Greater}
use Rattle.logical.proofs.Orders.{fields_order}
use Rattle.logical.proofs.fields.field_order.Goals as goal

pub returns-in-Equal-clause-order : goal.returns-in-Equal-clause-order
returns-in-Equal-clause-order c = fields_order c.args.s.now _ _ _ c.requires.0 c.requires.1 (λ k. omega (arith, c.type_inv.s k)) Equal c.in-Equal.ensures

pub returns-in-Less-clause-order : goal.returns-in-Less-clause-order
returns-in-Less-clause-order c = fields_order c.args.s.now _ _ _ c.requires.0 c.requires.1 (λ k. omega (arith, c.type_inv.s k)) Less c.in-Less.ensures

pub returns-in-Greater-clause-order : goal.returns-in-Greater-clause-order
returns-in-Greater-clause-order c = fields_order c.args.s.now _ _ _ c.requires.0 c.requires.1 (λ k. omega (arith, c.type_inv.s k)) Greater c.in-Greater.ensures
