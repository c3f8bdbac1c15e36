-- What is left of the deck, laid over the storage as it is now, gives the whole.
use Rattle.std.proofs.Common.{length, drop}
use Rattle.manual.specs.Deck.{paged}
use Rattle.deck.proofs.Reading.{Laying}
use Rattle.deck.proofs.reader.lay_pages.Given as goal

abbrev pub invariant-loop-page : goal.invariant-loop-page
invariant-loop-page l = Laying l.records.rest.now l.s (paged (length l.deck) (drop 19 l.deck) l.fn.s)

abbrev pub decreases-loop-page : goal.decreases-loop-page
decreases-loop-page l = length l.records.rest.now
