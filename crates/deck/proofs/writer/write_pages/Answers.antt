-- A page more and the pages behind it are the pages that were left.
use Rattle.std.proofs.Common.{◌∙◌, length, ap, rules, arith, length-append}
use Rattle.std.specs.Iterator.Adapters.{enumerate_count}
use Rattle.deck.proofs.Writing.{length_turn, over_turn}
use Rattle.deck.proofs.writer.write_pages.Goals as goal

pub write_page-at-requires : goal.write_page-at-requires
write_page-at-requires c =
    let i = c.loop-number.invariant in
    let s = c.in-Some.ensures.steps in
    rw s.1 (omega (arith, length_turn _ _ _ (enumerate_count c.loop-number.number-iterator) s.0.1.0 (s.0.1.1 ∙ i.size), i.place))

pub loop-number-preserved : goal.loop-number-preserved
loop-number-preserved c =
    let i = c.loop-number.invariant in
    let s = c.in-Some.ensures.steps in
    let l = s.0.1.1 ∙ i.size in
    let k = enumerate_count c.loop-number.number-iterator in
    let w = c.write_page-at.ensures in
    record {
      can = search rules;
      size = s.0.0 ∙ i.size;
      small = omega (arith, i.small, s.2, l, simp length-append at (ap length s.0.1.0));
      place = rw (w.value, s.1, s.2) (omega (arith, length_turn _ _ _ k s.0.1.0 l, i.place));
      is = rw (w.out_after, w.value, s.1, s.2) (over_turn _ _ _ k _ _ s.0.1.0 l (omega (arith, i.place)) ∙ i.is);
    }
