-- A page has its place, and what is behind it is shorter; at the end the whole is laid; no record of an accepted deck is refused.
use Rattle.std.proofs.Common.{rules}
use Rattle.std.proofs.lemmas.List.{take_rest}
use Rattle.deck.proofs.Reading.{page_shorter, laying_starts, laying_fits, laying_end, laying_refused}
use Rattle.deck.proofs.reader.lay_pages.Goals as goal

pub loop-page-init : goal.loop-page-init
loop-page-init c = rw take_rest (laying_starts _ _ c.requires)

pub lay-requires : goal.lay-requires
lay-requires c = laying_fits c.loop-page.invariant (rw c.in-Ok-Some.field-0-is at c.in-Ok-Some.ensures.page)

pub loop-page-smaller : goal.loop-page-smaller
loop-page-smaller c = page_shorter (rw c.in-Ok-Some.field-0-is at c.in-Ok-Some.ensures.page)

pub returns-in_default : goal.returns-in_default
returns-in_default c = search (rules, laying_end c.loop-page.invariant)

pub returns-in_default-2 : goal.returns-in_default-2
returns-in_default-2 c = search (rules, laying_refused c.loop-page.invariant)
