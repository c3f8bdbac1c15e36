-- What decides a line: the storage lent counts by its size alone, and of a deck that is too large the front is enough.
use Rattle.std.specs.Prelude.{Ok, Err}
use Prim.Native.Nat.{ℕ, ◌<◌, ◌≤◌}
use native.Mathlib.Omega.{arith}
use mathlib.Core.Path.{◌≡◌, refl, ap, sym, ◌∙◌}
use mathlib.Core.Bool.{Bool, true, false, true≢false, ◌||◌}
use mathlib.Core.List.{List}
use borrow.Author.Tests.{ltb-false, lt-ltb}
use lib.Dec.{ltb}
use lib.ListN.{length, get_or, take, replicate, length-replicate}
use lib.Seq.{length-take-le}
use Rattle.manual.specs.declared.DeckFault.{DeckFault}
use Rattle.manual.specs.declared.DeckOut.{DeckOut}
use Rattle.manual.specs.declared.Ran.{Ran}
use Rattle.manual.specs.Numbers.{told, fault_number, ReadAnswer}
use Rattle.manual.specs.Run.{ran_outcome, run_of}
use Rattle.manual.specs.Deck.{machine_in, storage_in, deck_answer, read_with, read_outcome, read_of}
use Rattle.manual.specs.Runner.{number_line, run_line, too_large, lent_size, budget, line_of_run, read_line, line_of}
use Rattle.runner.specs.declared.Printed.{Printed}
use Rattle.runner.specs.Text.{printed}

-- two storages of the same size give the same line
same_line :
    (x : ReadAnswer) (d s t : List ℕ) → length s ≡ length t
    → read_line (read_with x d s).gave.answer (read_with x d s) ≡ read_line (read_with x d t).gave.answer (read_with x d t)
same_line (Ok tt) d s t e = ap (λ (n : ℕ). line_of_run (run_of (machine_in d) (storage_in d n) budget)) e
same_line (Err x) d s t e = refl

read_line_lem : (d s : List ℕ) → too_large d ≡ false → length s ≡ lent_size d → line_of d ≡ read_line (read_of d s).gave.answer (read_of d s)
unfolding line_of read_of
read_line_lem d s e h =
    let z : List ℕ = replicate (lent_size d) 0 in
    let h' : length z ≡ length s = length-replicate (lent_size d) 0 ∙ sym h in
    rw e (ap (λ (n : ℕ). read_line (read_with (deck_answer d n) d z).gave.answer (read_with (deck_answer d n) d z)) h'
    ∙ same_line (deck_answer d (length s)) d z s h')

-- reading gave r and left t
pub refused_line :
    (d s : List ℕ) (r : DeckOut) (t : List ℕ) (x : DeckFault) (n : ℕ) {l : Printed} → too_large d ≡ false → length s ≡ lent_size d → read_outcome r t ≡ read_of d s
    → r.answer ≡ Err x → n ≡ fault_number x → l ≡ printed (number_line n) → l ≡ printed (line_of d)
refused_line d s r t x n e h p a q hl = rw (read_line_lem d s e h, ← p, a) (hl ∙ ap (λ (k : ℕ). printed (number_line k)) q)

pub ran_line :
    (d s : List ℕ) (r : DeckOut) (t : List ℕ) (g : Ran) (u : List ℕ) {l : Printed} → too_large d ≡ false → length s ≡ lent_size d → read_outcome r t ≡ read_of d s
    → r.answer ≡ Ok tt → ran_outcome g u ≡ run_of r.machine t budget → l ≡ printed (run_line g.machine (told g.ended)) → l ≡ printed (line_of d)
ran_line d s r t g u e h p a q hl = rw (read_line_lem d s e h, ← p, a, ← q) hl

pub large_line : (d : List ℕ) → too_large d ≡ true → line_of d ≡ number_line 18
unfolding line_of
large_line d e = rw e

-- the size asked for is at most 64 pages
both_false : (a b : Bool) → (a || b) ≡ false → b ≡ false
both_false false b e = e
both_false true b e = absurd (true≢false e)

pub fits : (d : List ℕ) → too_large d ≡ false → get_or d 1 0 ≤ 63
unfolding too_large
fits d e = ltb-false _ _ (both_false (ltb 16532 (length d)) (ltb 63 (get_or d 1 0)) e)

-- what is longer than any deck is too large by its first 16,533 bytes: reading more changes nothing
large_by_length : (d : List ℕ) → 16532 < length d → too_large d ≡ true
unfolding too_large
large_by_length d h = rw (lt-ltb _ _ h)

pub both_long : (d e : List ℕ) → 16532 < length d → 16532 < length e → line_of d ≡ line_of e
both_long d e h k = large_line d (large_by_length d h) ∙ sym (large_line e (large_by_length e k))

pub only_the_front : (d : List ℕ) → 16532 < length d → line_of d ≡ line_of (take 16533 d)
only_the_front d h = both_long d (take 16533 d) h (rw (length-take-le 16533 d (omega arith)) (omega arith))
