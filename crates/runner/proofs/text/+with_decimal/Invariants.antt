-- Each digit takes one of the places.
use Rattle.runner.proofs.text.+with_decimal.Given as goal

abbrev pub decreases-with_decimal : goal.decreases-with_decimal
decreases-with_decimal l = l.places
