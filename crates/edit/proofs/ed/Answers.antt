-- `edit::ed`: the digits that are copied are enough for the pattern, and with them it does what the rule says.
use Rattle.std.proofs.Common.{rules, ◌+◌, ◌≤◌, length, arith}
use Rattle.edit.proofs.Rules.{reach_in, lent_in, lent_full, source_stops, digit_stops, ed_goes}
use Rattle.edit.proofs.ed.Goals as goal

pub returns-in_err-source_reach : goal.returns-in_err-source_reach
returns-in_err-source_reach c = search (rules, source_stops)

pub returns-in_err-digits_of : goal.returns-in_err-digits_of
returns-in_err-digits_of c = search (rules, digit_stops)

pub take-requires : goal.take-requires
take-requires c = search (rules, lent_in)

pub returns : goal.returns
returns c =
    let h = reach_in (length c.args.s.now) (c.args.f.q + 1) c.args.f.a1 c.in_ok-reach.ensures in
    let few : c.count_20-count.result ≤ 256 = omega arith in
    let e = lent_full _ c.take.new.d c.count_20-count.result c.take.auto.d few in
    rw (c.set_order-m.ensures, c.value_order.ensures.0)
    (ed_goes c.args.m.now c.args.s.now c.args.f c.in_ok-reach.ensures _ c.count_20-count.ensures.0 c.in_ok-source_reach.ensures _ (rw e at c.take.ensures) c.put_edited.new.s c.in_ok-digits_of.ensures c.put_edited.ensures)
