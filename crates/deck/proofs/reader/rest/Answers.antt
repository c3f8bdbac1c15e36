-- At the end, and at a record that is refused, what is left gives the whole; behind a page less is left.
use Rattle.std.proofs.Common.{rules}
use Rattle.deck.proofs.Reading.{reading_refused, reading_end, page_refused, page_shorter}
use Rattle.deck.proofs.reader.rest.Goals as goal

pub returns-in_err-page : goal.returns-in_err-page
returns-in_err-page c = search (rules, reading_refused c.loop-page.invariant c.in_err-page.ensures.err)

pub returns-in_err-check : goal.returns-in_err-check
returns-in_err-check c = page_refused c.loop-page.invariant (rw c.in-Some.is at c.in_ok-page.ensures.page) c.in_err-check.ensures.err _ (search rules)

pub loop-page-smaller : goal.loop-page-smaller
loop-page-smaller c = page_shorter (rw c.in-Some.is at c.in_ok-page.ensures.page)

pub returns : goal.returns
returns c = reading_end c.loop-page.invariant (rw c.in_default.is at c.in_ok-page.ensures.end)
