-- What a step and a run keep: all where they stop, the storage's length, every number below its limit. What carries it: the step, as one program, keeps the bounds.
use Rattle.std.proofs.Common.{◌≡◌, refl, sym, ap, ◌∙◌, List, ℕ, zero, suc, ◌+◌, ◌<◌, arith, length, length-set, lt-ltb}
use Rattle.std.proofs.lemmas.Bool.{cond_both}
use Rattle.manual.specs.declared.Machine.{Machine}
use Rattle.manual.specs.declared.Refusal.{Refusal}
use Rattle.manual.specs.declared.Refusal.TheVariants.{SizeRefused, BudgetRefused, StatusRefused}
use Rattle.manual.specs.declared.Answer.{Answer}
use Rattle.manual.specs.declared.Answer.TheVariants.{Executed, Refused, Stopped}
use Rattle.manual.specs.Numbers.{number_of, told}
use Rattle.manual.specs.Places.{Place, mem, reg, State, state, look, put}
use Rattle.manual.specs.Programs.{Prog, ret, rd, wr, val, fin, Out, stop, go, Rule}
use Rattle.manual.specs.TheMachine.{size_allowed, status_allowed}
use Rattle.manual.specs.Step.{Outcome, ended, settle, given, did, step, inner_step, step_of}
use Rattle.manual.specs.Run.{RanOutcome, ran, count_after, more_of, more, turns_of, run_of}
use Rattle.manual.specs.When.{Entered}
use Rattle.manual.proofs.Runs.{add_steps, more_steps, one_more, runs_on, budget_below, run_entered, run_by, ended_refused, ended_stopped}
use Rattle.manual.proofs.Bounds.{Bounded, BoundedAnswer, BoundedOut, keeps}
use Rattle.manual.proofs.OperationBounds.{keeps_step}

-- the numbers that a step and a run leave and answer with
pub record BoundedOutcome (m : Machine) (a : Answer) (s : List ℕ) : Type 0 where
  pub left : Bounded m s
  pub answer : BoundedAnswer a

-- the outcome's machine and storage are those after as many steps as it counts
abbrev pub AsCounted : Machine → List ℕ → RanOutcome → Type 0
AsCounted m s o = turns_of m s o.gave.ended.steps ≡ ran o.gave.machine Executed o.gave.ended.steps o.storage

-- ---- a stop keeps all

module _ (m : Machine) (s : List ℕ) where
  settle_keeps : (o : Out) (τ : State) → (number_of (settle m s o τ).gave.answer ≡ 0 → ⊥)
      → ((settle m s o τ).gave.machine ≡ m) × ((settle m s o τ).storage ≡ s)
  settle_keeps (stop x) τ h = (refl, refl)
  settle_keeps (go i x) τ h = absurd (h refl)

  -- any rule that stops leaves machine and storage as they were, IAR included
  pub did_stop_keeps : (rule : Rule) → (number_of (did m s rule).gave.answer ≡ 0 → ⊥)
      → ((did m s rule).gave.machine ≡ m) × ((did m s rule).storage ≡ s)
  unfolding did
  did_stop_keeps rule h = settle_keeps (val (rule (given m s)) (state m s)) (fin (rule (given m s)) (state m s)) h

  pub inner_stop_keeps : (number_of (inner_step m s).gave.answer ≡ 0 → ⊥) → ((inner_step m s).gave.machine ≡ m) × ((inner_step m s).storage ≡ s)
  unfolding inner_step
  inner_stop_keeps h = did_stop_keeps step h

  -- what holds of the step inside a run and of every refusal holds of the step
  pub step_by : (P : Outcome → Type 0) → P (inner_step m s) → ((x : Refusal) → P (ended m (Refused x) s)) → P (step_of m s)
  unfolding step_of
  step_by P t r =
      cond_both (size_allowed (length s)) _ _ P (λ _. cond_both (status_allowed m.status) _ _ P (λ _. t) (λ _. r StatusRefused)) (λ _. r SizeRefused)

  -- a step that stops or is refused leaves machine and storage as they were, IAR included
  pub stop_keeps : (number_of (step_of m s).gave.answer ≡ 0 → ⊥) → ((step_of m s).gave.machine ≡ m) × ((step_of m s).storage ≡ s)
  stop_keeps = step_by (λ o. (number_of o.gave.answer ≡ 0 → ⊥) → (o.gave.machine ≡ m) × (o.storage ≡ s)) inner_stop_keeps (λ x h. (refl, refl))

-- ---- the storage's length

pub put_length : (l : Place) (v : ℕ) (σ : State) → length (put l v σ).bytes ≡ length σ.bytes
put_length (mem a) v σ = length-set σ.bytes a v
put_length (reg r) v σ = refl

-- every program keeps it
pub fin_length : {A : Type 0} (p : Prog A) (σ : State) → length (fin p σ).bytes ≡ length σ.bytes
unfolding fin
fin_length (ret x) σ = refl
fin_length (rd l k) σ = fin_length (k (look l σ)) σ
fin_length (wr l v p) σ = fin_length p (put l v σ) ∙ put_length l v σ

settle_length : (m : Machine) (s : List ℕ) (o : Out) (τ : State) → length τ.bytes ≡ length s → length (settle m s o τ).storage ≡ length s
settle_length m s (stop x) τ h = refl
settle_length m s (go i x) τ h = h

module _ (m : Machine) (s : List ℕ) where
  pub inner_length_keeps : length (inner_step m s).storage ≡ length s
  unfolding inner_step did
  inner_length_keeps =
      settle_length m s (val (step (given m s)) (state m s)) (fin (step (given m s)) (state m s)) (fin_length (step (given m s)) (state m s))

  pub length_keeps : length (step_of m s).storage ≡ length s
  length_keeps = step_by m s (λ o. length o.storage ≡ length s) inner_length_keeps (λ x. refl)

more_length_of : (o : RanOutcome) (a : Answer) → length (more_of a o).storage ≡ length o.storage
more_length_of o Executed = inner_length_keeps o.gave.machine o.storage
more_length_of o (Refused x) = refl
more_length_of o (Stopped x) = refl

module _ (m : Machine) (s : List ℕ) where
  pub turns_length_keeps : (k : ℕ) → length (turns_of m s k).storage ≡ length s
  unfolding turns_of more
  turns_length_keeps zero = refl
  turns_length_keeps (suc k) = more_length_of (turns_of m s k) (turns_of m s k).gave.ended.answer ∙ turns_length_keeps k

  pub run_length_keeps : (b : ℕ) → length (run_of m s b).storage ≡ length s
  run_length_keeps b = run_by m s (λ o. length o.storage ≡ length s) b (turns_length_keeps b) (λ x. refl)

-- ---- what a step and a run leave

refusal_below : (x : Refusal) → BoundedAnswer (Refused x)
refusal_below SizeRefused = omega arith
refusal_below BudgetRefused = omega arith
refusal_below StatusRefused = omega arith

settle_bounds : (m : Machine) (s : List ℕ) (o : Out) (τ : State) → Bounded m s → BoundedOut o → Bounded τ.machine τ.bytes
    → BoundedOutcome (settle m s o τ).gave.machine (settle m s o τ).gave.answer (settle m s o τ).storage
settle_bounds m s (stop x) τ b h k = record { left = b; answer = h }
settle_bounds m s (go i x) τ b h k =
    record {
      left = record { iar = h.0; arr = k.arr; xr1 = k.xr1; xr2 = k.xr2; wr = k.wr; four = k.four; status = h.1; bytes = k.bytes };
      answer = λ j. omega arith;
    }

module _ (m : Machine) (s : List ℕ) (b : Bounded m s) where
  inner_outcome : BoundedOutcome (inner_step m s).gave.machine (inner_step m s).gave.answer (inner_step m s).storage
  unfolding inner_step did
  inner_outcome =
      let k = keeps (keeps_step (given m s) b.status) (state m s) b in
      settle_bounds m s (val (step (given m s)) (state m s)) (fin (step (given m s)) (state m s)) b k.1 k.0

  step_outcome : BoundedOutcome (step_of m s).gave.machine (step_of m s).gave.answer (step_of m s).storage
  step_outcome =
      step_by m s (λ o. BoundedOutcome o.gave.machine o.gave.answer o.storage) inner_outcome (λ x. record { left = b; answer = refusal_below x })

more_bounds_of : (o : RanOutcome) (a : Answer) → BoundedOutcome o.gave.machine o.gave.ended.answer o.storage
    → BoundedOutcome (more_of a o).gave.machine (more_of a o).gave.ended.answer (more_of a o).storage
more_bounds_of o Executed b = inner_outcome o.gave.machine o.storage b.left
more_bounds_of o (Refused x) b = b
more_bounds_of o (Stopped x) b = b

module _ (m : Machine) (s : List ℕ) (b : Bounded m s) where
  turns_outcome : (k : ℕ) → BoundedOutcome (turns_of m s k).gave.machine (turns_of m s k).gave.ended.answer (turns_of m s k).storage
  unfolding turns_of more
  turns_outcome zero = record { left = b; answer = λ j. omega arith }
  turns_outcome (suc k) = more_bounds_of (turns_of m s k) (turns_of m s k).gave.ended.answer (turns_outcome k)

  run_outcome : (k : ℕ) → BoundedOutcome (run_of m s k).gave.machine (run_of m s k).gave.ended.answer (run_of m s k).storage
  run_outcome k =
      run_by m s (λ o. BoundedOutcome o.gave.machine o.gave.ended.answer o.storage) k (turns_outcome k)
      (λ x. record { left = b; answer = refusal_below x })

  -- bytes stay below 256, registers below 65,536, the status below 64
  pub inner_bounds : Bounded (inner_step m s).gave.machine (inner_step m s).storage
  inner_bounds = (inner_outcome m s b).left

  pub step_bounds : Bounded (step_of m s).gave.machine (step_of m s).storage
  step_bounds = (step_outcome m s b).left

  pub turns_bounds : (k : ℕ) → Bounded (turns_of m s k).gave.machine (turns_of m s k).storage
  turns_bounds k = (turns_outcome k).left

  pub run_bounds : (k : ℕ) → Bounded (run_of m s k).gave.machine (run_of m s k).storage
  run_bounds k = (run_outcome k).left

  -- the Q and R bytes that come back are bytes
  pub inner_bytes : BoundedAnswer (inner_step m s).gave.answer
  inner_bytes = (inner_outcome m s b).answer

  pub step_bytes : BoundedAnswer (step_of m s).gave.answer
  step_bytes = (step_outcome m s b).answer

  pub run_bytes : (k : ℕ) → ((told (run_of m s k).gave.ended).q < 256) × ((told (run_of m s k).gave.ended).r < 256)
  run_bytes k = (run_outcome k).answer (run_of m s k).gave.ended.steps

-- ---- a run that stops changes nothing beyond what its earlier steps did

module _ (m : Machine) (s : List ℕ) where
  module _ (j : ℕ) (n : Machine) (l : List ℕ) (at : turns_of m s j ≡ ran n Executed j l) where
    stop_stays : (number_of (inner_step n l).gave.answer ≡ 0 → ⊥) → turns_of m s j ≡ ran (inner_step n l).gave.machine Executed j (inner_step n l).storage
    stop_stays h = rw ((inner_stop_keeps n l h).0, (inner_stop_keeps n l h).1) at

    counted_of : (a : Answer) → (inner_step n l).gave.answer ≡ a
        → turns_of m s (count_after j a) ≡ ran (inner_step n l).gave.machine Executed (count_after j a) (inner_step n l).storage
    counted_of Executed e =
        one_more m s j ∙ ap more at ∙ more_steps (ran n Executed j l) refl
        ∙ ap (λ (a : Answer). ran (inner_step n l).gave.machine a (count_after j a) (inner_step n l).storage) e
    counted_of (Refused x) e = stop_stays (ended_refused e)
    counted_of (Stopped x) e = stop_stays (ended_stopped e)

  as_counted_of : (o : RanOutcome) (a : Answer) → AsCounted m s o → AsCounted m s (more_of a o)
  as_counted_of o Executed h =
      counted_of o.gave.ended.steps o.gave.machine o.storage h (inner_step o.gave.machine o.storage).gave.answer refl
  as_counted_of o (Refused x) h = h
  as_counted_of o (Stopped x) h = h

  pub turns_as_counted : (k : ℕ) → AsCounted m s (turns_of m s k)
  unfolding turns_of more
  turns_as_counted zero = refl
  turns_as_counted (suc k) = as_counted_of (turns_of m s k) (turns_of m s k).gave.ended.answer (turns_as_counted k)

  pub run_as_counted : (b : ℕ) → AsCounted m s (run_of m s b)
  unfolding turns_of
  run_as_counted b = run_by m s (AsCounted m s) b (turns_as_counted b) (λ x. refl)

-- ---- a run in two calls

entered_again : (m : Machine) (s : List ℕ) → Bounded m s → (j k : ℕ) → Entered m s (j + k) → Entered (turns_of m s j).gave.machine (turns_of m s j).storage k
unfolding status_allowed
entered_again m s b j k e =
    record {
      size = rw (turns_length_keeps m s j) e.size;
      budget = budget_below k (j + k) (omega arith) e.budget;
      status = lt-ltb (turns_of m s j).gave.machine.status 64 (turns_bounds m s b j).status;
    }

-- a run of j + k is a run of j and, where that returned 0, a run of k called with what it left
pub run_again : (m : Machine) (s : List ℕ) → Bounded m s → (j k : ℕ) → Entered m s (j + k) → (run_of m s j).gave.ended.answer ≡ Executed
    → run_of m s (j + k) ≡ add_steps j (run_of (run_of m s j).gave.machine (run_of m s j).storage k)
run_again m s b j k e z =
    let r : run_of m s j ≡ turns_of m s j =
    run_entered m s j (record { size = e.size; budget = budget_below j (j + k) (omega arith) e.budget; status = e.status }) in
    rw r
    (run_entered m s (j + k) e ∙ runs_on m s j k (rw r at z)
    ∙ ap (add_steps j) (sym (run_entered (turns_of m s j).gave.machine (turns_of m s j).storage k (entered_again m s b j k e))))
