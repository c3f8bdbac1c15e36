-- One byte more than a deck may have decides: where the buffer is full the deck is too large, whatever stands behind; else the buffer has all of it.
use Rattle.std.proofs.Common.{◌≡◌, ℕ, ◌<◌, ◌≤◌, List, [], ◌++◌, length, take, Option, None, Some, IfSome, append-nil, length-append, arith}
use Rattle.std.proofs.lemmas.List.{length-take-le}
use Rattle.std.proofs.lemmas.Bool.{cases_lt}
use Rattle.std.specs.Io.KnownBytes.{Consumes, IsAtEnd}
use mathlib.Core.Logic.{⊎_elim}
use Rattle.manual.specs.Runner.{line_of}
use Rattle.runner.proofs.Decided.{both_long}

ended : (front rest : List ℕ) → rest ≡ [] → line_of front ≡ line_of (front ++ rest)
ended front rest none = rw (none, append-nil)

full : (front rest : List ℕ) → 16532 < length front → line_of front ≡ line_of (front ++ rest)
full front rest h = both_long front (front ++ rest) h (omega (arith, length-append front rest))

pub line_of_filled : (old new : Option (List ℕ)) (buffer : List ℕ) (n : ℕ) → 16532 < length buffer → n ≤ length buffer
    → Consumes old new (take n buffer) → (n < length buffer → IsAtEnd new) → IfSome old (λ bytes. line_of (take n buffer) ≡ line_of bytes)
line_of_filled None new buffer n large within taken end = tt
line_of_filled (Some bytes) None buffer n large within taken end = absurd taken
line_of_filled (Some bytes) (Some rest) buffer n large within taken end =
    rw taken
    (⊎_elim
    (λ k. ended (take n buffer) rest (end k))
    (λ k. full (take n buffer) rest (omega (arith, length-take-le n buffer within)))
    (cases_lt n (length buffer)))
