-- What is left of the deck gives the answer for the whole.
use Rattle.std.proofs.Common.{◌+◌, length}
use Rattle.manual.specs.Deck.{later_answer}
use Rattle.deck.proofs.Reading.{Reading}
use Rattle.deck.proofs.reader.rest.Given as goal

abbrev pub invariant-loop-page : goal.invariant-loop-page
invariant-loop-page l = Reading l.records.rest.now l.pages l.next (later_answer (19 + length l.initial.records.rest.now) l.initial.records.rest.now l.pages 0)

abbrev pub decreases-loop-page : goal.decreases-loop-page
decreases-loop-page l = length l.records.rest.now
