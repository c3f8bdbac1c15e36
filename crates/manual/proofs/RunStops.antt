-- A run that stopped stands before the instruction that stops: one step from where it ended gives the same answer, so the table of a step's numbers is the run's too.
-- What carries it: a stop keeps machine and storage.
use Rattle.std.proofs.Common.{◌≡◌, refl, ap, ◌∙◌, List, ℕ, zero, suc}
use Rattle.manual.specs.declared.Machine.{Machine}
use Rattle.manual.specs.declared.Answer.{Answer}
use Rattle.manual.specs.declared.Answer.TheVariants.{Executed, Refused, Stopped}
use Rattle.manual.specs.Numbers.{number_of}
use Rattle.manual.specs.Step.{inner_step}
use Rattle.manual.specs.Run.{RanOutcome, more_of, more, turns_of, run_of}
use Rattle.manual.specs.When.{Entered}
use Rattle.manual.proofs.Runs.{run_entered}
use Rattle.manual.proofs.Keeps.{inner_stop_keeps}

-- where the run o didn't return 0, one step more would stop just so
abbrev pub StopsThere : RanOutcome → Type 0
StopsThere o = (number_of o.gave.ended.answer ≡ 0 → ⊥) → (inner_step o.gave.machine o.storage).gave.answer ≡ o.gave.ended.answer

one_stops : (n : Machine) (l : List ℕ) → (number_of (inner_step n l).gave.answer ≡ 0 → ⊥)
    → (inner_step (inner_step n l).gave.machine (inner_step n l).storage).gave.answer ≡ (inner_step n l).gave.answer
one_stops n l h =
    let k = inner_stop_keeps n l h in
    ap (λ (m : Machine). (inner_step m (inner_step n l).storage).gave.answer) k.0 ∙ ap (λ (s : List ℕ). (inner_step n s).gave.answer) k.1

module _ (m : Machine) (s : List ℕ) where
  more_stops : (o : RanOutcome) (a : Answer) → StopsThere o → StopsThere (more_of a o)
  more_stops o Executed h = λ z. one_stops o.gave.machine o.storage z
  more_stops o (Refused x) h = h
  more_stops o (Stopped x) h = h

  pub turns_stop_there : (k : ℕ) → StopsThere (turns_of m s k)
  unfolding turns_of more
  turns_stop_there zero = λ z. absurd (z refl)
  turns_stop_there (suc k) = more_stops (turns_of m s k) (turns_of m s k).gave.ended.answer (turns_stop_there k)

  -- a run that was entered and didn't return 0
  pub run_stops_there : (b : ℕ) → Entered m s b → StopsThere (run_of m s b)
  run_stops_there b e = rw (run_entered m s b e) (turns_stop_there b)
