-- Whether bytes are all zero: one turn, and the end.
use Rattle.std.proofs.Common.{◌≡◌, ℕ, ◌+◌, ◌<◌, ◌&&◌, List, length, get_or, drop, true, eqb, add-one}
use Rattle.std.proofs.Math.Seq.{drop-cons, drop-length}
use Rattle.manual.specs.Deck.{all_zero}

pub all_zero_at : (s : List ℕ) (i : ℕ) → i < length s → all_zero (drop i s) ≡ (eqb (get_or s i 0) 0 && all_zero (drop (i + 1) s))
unfolding all_zero
all_zero_at s i h = rw (drop-cons s i 0 h, add-one)

pub all_zero_end : (s : List ℕ) (i : ℕ) → length s ≡ i → all_zero (drop i s) ≡ true
unfolding all_zero
all_zero_end s i e = rw (← e, drop-length)
