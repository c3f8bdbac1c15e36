-- What `step` and `run` promise, as a host reads it: laws on any result that their statements allow. What carries it: the manual's theorems, through the one equation of each statement.
use Rattle.std.proofs.Common.{◌≡◌, ap, sym, ◌∙◌, subst, true, List, ◌↔◌, ℕ, ◌+◌, ◌≤◌, length}
use Rattle.manual.specs.declared.Machine.{Machine}
use Rattle.manual.specs.declared.Stepped.{Stepped}
use Rattle.manual.specs.declared.Ran.{Ran}
use Rattle.manual.specs.TheMachine.{budget_allowed}
use Rattle.manual.specs.Numbers.{number_of}
use Rattle.manual.specs.When.{When, Entered, RunWhen}
use Rattle.manual.specs.Step.{Outcome, SteppedAs}
use Rattle.manual.specs.Run.{RanOutcome, ran_outcome, more, run_of, RanAs}
use Rattle.manual.proofs.WhenEach.{when_exactly}
use Rattle.manual.proofs.RunWhenEach.{run_when_exactly}
use Rattle.manual.proofs.Keeps.{stop_keeps, length_keeps, run_length_keeps, run_as_counted, AsCounted}
use Rattle.manual.proofs.Runs.{Within, then_run, run_within, run_more, run_stays, run_in_two}
use Rattle.manual.proofs.RunStops.{StopsThere, run_stops_there}

module _ (m : Machine) (s : List ℕ) (r : Stepped) (t : List ℕ) (p : SteppedAs m s r t) where
  -- a step answers a number exactly when the table's row for it holds
  pub answers_when : (n : ℕ) → (number_of r.answer ≡ n) ↔ When m s n
  answers_when n = subst (λ (o : Outcome). (number_of o.gave.answer ≡ n) ↔ When m s n) (sym p) (when_exactly m s n)

  -- a step that doesn't answer 0 leaves machine and storage as they were
  pub stop_leaves : (number_of r.answer ≡ 0 → ⊥) → (r.machine ≡ m) × (t ≡ s)
  stop_leaves = subst (λ (o : Outcome). (number_of o.gave.answer ≡ 0 → ⊥) → (o.gave.machine ≡ m) × (o.storage ≡ s)) (sym p) (stop_keeps m s)

  pub step_same_length : length t ≡ length s
  step_same_length = subst (λ (o : Outcome). length o.storage ≡ length s) (sym p) (length_keeps m s)

module _ (m : Machine) (s : List ℕ) (b : ℕ) (r : Ran) (t : List ℕ) (p : RanAs m s b r t) where
  by_run : (P : RanOutcome → Type 0) → P (run_of m s b) → P (ran_outcome r t)
  by_run P h = subst P (sym p) h

  -- a run answers a number exactly when the table's row for it holds
  pub run_answers_when : (n : ℕ) → (number_of r.ended.answer ≡ n) ↔ RunWhen m s b n
  run_answers_when n = by_run (λ o. (number_of o.gave.ended.answer ≡ n) ↔ RunWhen m s b n) (run_when_exactly m s b n)

  -- steps are never above the budget, and the whole budget where the run answers 0
  pub counts : Within b (ran_outcome r t)
  counts = by_run (Within b) (run_within m s b)

  -- what a run leaves is what as many steps as it counted leave
  pub as_counted : AsCounted m s (ran_outcome r t)
  as_counted = by_run (AsCounted m s) (run_as_counted m s b)

  -- a run that stopped stands before the instruction that stops
  pub stops_there : Entered m s b → StopsThere (ran_outcome r t)
  stops_there e = by_run StopsThere (run_stops_there m s b e)

  pub run_same_length : length t ≡ length s
  run_same_length = by_run (λ o. length o.storage ≡ length s) (run_length_keeps m s b)

  -- a run of k + 1 is the run of k and, where that returned 0, one step more
  pub one_step_more : (r' : Ran) (t' : List ℕ) → budget_allowed (b + 1) ≡ true → RanAs m s (b + 1) r' t' → ran_outcome r' t' ≡ more (ran_outcome r t)
  one_step_more r' t' h next = next ∙ run_more m s b h ∙ ap more (sym p)

  -- a run that stopped stays stopped for every larger budget
  pub stays_stopped : (c : ℕ) (r' : Ran) (t' : List ℕ) → b ≤ c → budget_allowed c ≡ true → (number_of r.ended.answer ≡ 0 → ⊥) → RanAs m s c r' t'
      → ran_outcome r' t' ≡ ran_outcome r t
  stays_stopped c r' t' le h z next =
      next ∙ run_stays m s b c le h (λ e. z (ap (λ (o : RanOutcome). number_of o.gave.ended.answer) p ∙ e)) ∙ sym p

  -- a run of j + k is the run of j and, where that returned 0, the run of k from there
  pub in_two : (k : ℕ) (r' : Ran) (t' : List ℕ) → budget_allowed (b + k) ≡ true → RanAs m s (b + k) r' t' → ran_outcome r' t' ≡ then_run (ran_outcome r t) k
  in_two k r' t' h next = next ∙ run_in_two m s b k h ∙ ap (λ (o : RanOutcome). then_run o k) (sym p)
