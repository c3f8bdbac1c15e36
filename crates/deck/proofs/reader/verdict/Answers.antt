-- Behind a first record that is not refused, the rest decides.
use Rattle.std.proofs.Common.{◌∙◌}
use Rattle.std.proofs.lemmas.List.{take_rest}
use Rattle.deck.proofs.Reading.{deck_rest}
use Rattle.deck.proofs.reader.verdict.Goals as goal

pub returns : goal.returns
returns c = c.rest.ensures ∙ rw take_rest (deck_rest _ _ c.in_ok-first.ensures.ok c.in_ok-first.ensures.whole)
