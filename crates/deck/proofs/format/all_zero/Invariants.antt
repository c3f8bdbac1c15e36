-- The page is all zero where its bytes so far are and the rest is.
use Rattle.std.proofs.Common.{◌≡◌, ◌&&◌, drop}
use Rattle.manual.specs.Deck.{all_zero}
use Rattle.deck.proofs.format.all_zero.Given as goal

abbrev pub invariant-loop-b : goal.invariant-loop-b
invariant-loop-b l = all_zero l.page ≡ (l.clear && all_zero (drop l.b-index l.page))
