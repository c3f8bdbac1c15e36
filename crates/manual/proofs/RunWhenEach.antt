-- A run gives a number exactly when the table's row for it holds. What carries it: the first step that doesn't give 0, if there is one below the budget.
use Rattle.std.proofs.Common.{◌≡◌, refl, ap, sym, ◌∙◌, subst, Bool, true, false, List, ◌↔◌, ℕ, zero, suc, ◌<◌, arith, add-one, length, ltb, lt-ltb, below_more}
use Rattle.manual.specs.declared.Machine.{Machine}
use Rattle.manual.specs.declared.Answer.TheVariants.{Executed}
use Rattle.manual.specs.TheMachine.{size_allowed, budget_allowed, status_allowed}
use Rattle.manual.specs.Numbers.{number_of}
use Rattle.manual.specs.Step.{inner_step, step_of}
use Rattle.manual.specs.Run.{RanOutcome, ran, turns_of, run_of}
use Rattle.manual.specs.When.{When, Entered, after_steps, number_after, AllRan, RunWhen}
use Rattle.manual.proofs.Runs.{ran_on, stopped_at, run_entered}
use Rattle.manual.proofs.Bounds.{Bounded}
use Rattle.manual.proofs.Keeps.{inner_bounds, inner_length_keeps}
use Rattle.manual.proofs.WhenEach.{when_exactly}

module _ (m : Machine) (s : List ℕ) where
  -- steps that all gave 0 are a run's turns
  all_turns : (k : ℕ) → AllRan m s k → turns_of m s k ≡ ran (after_steps m s k).gave.machine Executed k (after_steps m s k).storage
  unfolding turns_of after_steps
  all_turns zero h = refl
  all_turns (suc k) h =
      let n = after_steps m s k in
      let o = inner_step n.gave.machine n.storage in
      sym (rw add-one at (ran_on m s k n.gave.machine n.storage o.gave o.storage (sym (all_turns k (λ j l. h j (omega arith)))) refl (h k (omega arith))))

  stops_at : (k b : ℕ) → k < b → AllRan m s k → (number_after m s k ≡ 0 → ⊥) → number_of (turns_of m s b).gave.ended.answer ≡ number_after m s k
  stops_at k b l h ne =
      let n = after_steps m s k in
      let o = inner_step n.gave.machine n.storage in
      ap (λ (r : RanOutcome). number_of r.gave.ended.answer)
      (sym (stopped_at m s k n.gave.machine n.storage o.gave o.storage (sym (all_turns k h)) refl b (omega arith) ne))

  -- ---- the first step below b that doesn't give 0

  data First (b : ℕ) : Type 0 where
    none : AllRan m s b → First b
    at_step : (k : ℕ) → k < b → AllRan m s k → (number_after m s k ≡ 0 → ⊥) → First b

  one_more_ran : (b : ℕ) → AllRan m s b → number_after m s b ≡ 0 → AllRan m s (suc b)
  one_more_ran b h z j l = below_more (λ (k : ℕ). number_after m s k ≡ 0) b h z j (omega arith)

  first : (b : ℕ) → First b
  first zero = none (λ j l. absurd (omega arith))
  first (suc b) = on (first b)
    where
      on : First b → First (suc b)
      on (at_step k l h ne) = at_step k (omega arith) h ne
      on (none h) = next (number_after m s b) refl
        where
          next : (n : ℕ) → number_after m s b ≡ n → First (suc b)
          next zero e = none (one_more_ran b h e)
          next (suc n) e = at_step b (omega arith) h (λ z. omega arith)

  -- ---- some row holds, and a row's number is the run's

  row_entered : (b : ℕ) → Entered m s b → First b → RunWhen m s b (number_of (turns_of m s b).gave.ended.answer)
  row_entered b e (none h) = rw (all_turns b h) (RunWhen.budget_spent e h)
  row_entered b e (at_step k l h ne) = RunWhen.stopped _ k e l h (sym (stops_at k b l h ne)) (rw (stops_at k b l h ne) ne)

  gives_run_when : (b : ℕ) → RunWhen m s b (number_of (run_of m s b).gave.ended.answer)
  unfolding run_of
  gives_run_when b = on (size_allowed (length s)) (budget_allowed b) (status_allowed m.status) refl refl refl
    where
      on : (x y z : Bool) → size_allowed (length s) ≡ x → budget_allowed b ≡ y → status_allowed m.status ≡ z
          → RunWhen m s b (number_of (run_of m s b).gave.ended.answer)
      on true true true h k l = rw (h, k, l) (row_entered b (record { size = h; budget = k; status = l }) (first b))
      on true true false h k l = rw (h, k, l) (RunWhen.status_refused h k l)
      on true false z h k l = rw (h, k) (RunWhen.budget_refused h k)
      on false y z h k l = rw h (RunWhen.size_refused h)

  run_when_gives : (b : ℕ) {n : ℕ} → RunWhen m s b n → number_of (run_of m s b).gave.ended.answer ≡ n
  unfolding run_of
  run_when_gives b (RunWhen.budget_spent e h) = rw (run_entered m s b e, all_turns b h)
  run_when_gives b (RunWhen.size_refused h) = rw h
  run_when_gives b (RunWhen.budget_refused h k) = rw (h, k)
  run_when_gives b (RunWhen.status_refused h k l) = rw (h, k, l)
  run_when_gives b (RunWhen.stopped n k e l h z ne) =
      rw (run_entered m s b e) (stops_at k b l h (λ y. ne (sym z ∙ y)) ∙ z)

  -- a run gives a number if and only if the row of that number holds
  pub run_when_exactly : (b n : ℕ) → (number_of (run_of m s b).gave.ended.answer ≡ n) ↔ RunWhen m s b n
  run_when_exactly b n = (λ e. subst (λ (k : ℕ). RunWhen m s b k) e (gives_run_when b), run_when_gives b)

-- ---- and the number after k steps is the step's table's

module _ (m : Machine) (s : List ℕ) (b : Bounded m s) where
  after_bounds : (k : ℕ) → Bounded (after_steps m s k).gave.machine (after_steps m s k).storage
  unfolding after_steps
  after_bounds zero = b
  after_bounds (suc k) = inner_bounds (after_steps m s k).gave.machine (after_steps m s k).storage (after_bounds k)

  after_length : (k : ℕ) → length (after_steps m s k).storage ≡ length s
  unfolding after_steps
  after_length zero = refl
  after_length (suc k) = inner_length_keeps (after_steps m s k).gave.machine (after_steps m s k).storage ∙ after_length k

  -- over bytes and registers within their bounds, and a size that is allowed
  pub after_when : (k n : ℕ) → size_allowed (length s) ≡ true
      → (number_after m s k ≡ n) ↔ When (after_steps m s k).gave.machine (after_steps m s k).storage n
  unfolding step_of status_allowed
  after_when k n h =
      let a : size_allowed (length (after_steps m s k).storage) ≡ true = rw (after_length k) h in
      let c : ltb (after_steps m s k).gave.machine.status 64 ≡ true = lt-ltb _ _ (after_bounds k).status in
      rw (a, c) at (when_exactly (after_steps m s k).gave.machine (after_steps m s k).storage n)
