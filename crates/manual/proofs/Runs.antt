-- Laws on runs: one step more, the count, a run that stopped, a run in two parts. What carries it: induction on the budget, over the answer's three cases.
use Rattle.std.proofs.Common.{◌≡◌, refl, sym, ap, ◌∙◌, true, cond, List, ℕ, zero, suc, ◌+◌, ◌-◌, ◌≤◌, arith, add-zero, add-suc, add-sub_of_le, add-one, length}
use Rattle.std.proofs.lemmas.Bool.Decides.{nat_tests}
use Rattle.std.proofs.lemmas.Bool.{cond_both}
use Rattle.manual.specs.declared.Machine.{Machine}
use Rattle.manual.specs.declared.Refusal.{Refusal}
use Rattle.manual.specs.declared.Refusal.TheVariants.{SizeRefused, BudgetRefused, StatusRefused}
use Rattle.manual.specs.declared.Stop.{Stop}
use Rattle.manual.specs.declared.Stop.TheVariants.{CutShort, OpcodeUnknown, QRefused, OperandOutside, DigitRefused, Supervisor}
use Rattle.manual.specs.declared.Answer.{Answer}
use Rattle.manual.specs.declared.Answer.TheVariants.{Executed, Refused, Stopped}
use Rattle.manual.specs.declared.Stepped.{Stepped}
use Rattle.manual.specs.Numbers.{number_of}
use Rattle.manual.specs.TheMachine.{size_allowed, budget_allowed, status_allowed}
use Rattle.manual.specs.Step.{Outcome, outcome, ended, inner_step}
use Rattle.manual.specs.When.{Entered}
use Rattle.manual.specs.Run.{RanOutcome, ran, count_after, counted, more_of, more, turns_of, run_of}
use Rattle.manual.proofs.Running.{cond_map_2}

-- a run's outcome without its count
abbrev pub uncounted : RanOutcome → Outcome
uncounted o = ended o.gave.machine o.gave.ended.answer o.storage

-- j more steps in the count
abbrev pub add_steps : ℕ → RanOutcome → RanOutcome
add_steps j o = ran o.gave.machine o.gave.ended.answer (j + o.gave.ended.steps) o.storage

-- o and, where that returned 0, the run of k from there
abbrev pub then_run_of : Answer → RanOutcome → ℕ → RanOutcome
then_run_of Executed o k = add_steps o.gave.ended.steps (turns_of o.gave.machine o.storage k)
then_run_of (Refused x) o k = o
then_run_of (Stopped x) o k = o

abbrev pub then_run : RanOutcome → ℕ → RanOutcome
then_run o k = then_run_of o.gave.ended.answer o k

-- at most k steps were executed, and k where the run returned 0
pub record Within (k : ℕ) (o : RanOutcome) : Type 0 where
  pub most : o.gave.ended.steps ≤ k
  pub all : number_of o.gave.ended.answer ≡ 0 → o.gave.ended.steps ≡ k

-- ---- answers

-- 0 has one case
pub not_refused : (x : Refusal) → number_of (Refused x) ≡ 0 → ⊥
not_refused SizeRefused e = omega arith
not_refused BudgetRefused e = omega arith
not_refused StatusRefused e = omega arith

pub not_stopped : (x : Stop) → number_of (Stopped x) ≡ 0 → ⊥
not_stopped CutShort e = omega arith
not_stopped OpcodeUnknown e = omega arith
not_stopped QRefused e = omega arith
not_stopped OperandOutside e = omega arith
not_stopped DigitRefused e = omega arith
not_stopped (Supervisor q r) e = omega arith

pub ended_refused : {a : Answer} {x : Refusal} → a ≡ Refused x → number_of a ≡ 0 → ⊥
ended_refused {x = x} e z = not_refused x (sym (ap number_of e) ∙ z)

pub ended_stopped : {a : Answer} {x : Stop} → a ≡ Stopped x → number_of a ≡ 0 → ⊥
ended_stopped {x = x} e z = not_stopped x (sym (ap number_of e) ∙ z)

pub executed : (a : Answer) → number_of a ≡ 0 → a ≡ Executed
executed Executed e = refl
executed (Refused x) e = absurd (not_refused x e)
executed (Stopped x) e = absurd (not_stopped x e)

-- ---- one step more

module _ (o : RanOutcome) where
  stays_of : (a : Answer) → (number_of a ≡ 0 → ⊥) → more_of a o ≡ o
  stays_of Executed h = absurd (h refl)
  stays_of (Refused x) h = refl
  stays_of (Stopped x) h = refl

  -- a run that has stopped does no more
  pub more_stays : (number_of o.gave.ended.answer ≡ 0 → ⊥) → more o ≡ o
  unfolding more
  more_stays h = stays_of o.gave.ended.answer h

  -- one that returned 0 does a step
  pub more_steps : o.gave.ended.answer ≡ Executed → more o ≡ counted o.gave.ended.steps (inner_step o.gave.machine o.storage)
  unfolding more
  more_steps e = rw e

-- ---- the count

count_most : (k j : ℕ) (a : Answer) → j ≤ k → count_after j a ≤ suc k
count_most k j Executed h = omega arith
count_most k j (Refused x) h = omega arith
count_most k j (Stopped x) h = omega arith

count_all : (k j : ℕ) (a : Answer) → number_of a ≡ 0 → j ≡ k → count_after j a ≡ suc k
count_all k j Executed z e = omega arith
count_all k j (Refused x) z e = absurd (not_refused x z)
count_all k j (Stopped x) z e = absurd (not_stopped x z)

count_stop : (k : ℕ) (a : Answer) → (number_of a ≡ 0 → ⊥) → count_after k a ≡ k
count_stop k Executed h = absurd (h refl)
count_stop k (Refused x) h = refl
count_stop k (Stopped x) h = refl

count_add : (j k : ℕ) (a : Answer) → j + count_after k a ≡ count_after (j + k) a
count_add j k Executed = omega arith
count_add j k (Refused x) = refl
count_add j k (Stopped x) = refl

within_of : (k : ℕ) (o : RanOutcome) (a : Answer) → o.gave.ended.answer ≡ a → Within k o → Within (suc k) (more_of a o)
within_of k o Executed e w =
    record {
      most = count_most k o.gave.ended.steps (inner_step o.gave.machine o.storage).gave.answer w.most;
      all = λ z. count_all k o.gave.ended.steps (inner_step o.gave.machine o.storage).gave.answer z (w.all (ap number_of e));
    }
within_of k o (Refused x) e w = record { most = omega (arith, w.most); all = λ z. absurd (ended_refused e z) }
within_of k o (Stopped x) e w = record { most = omega (arith, w.most); all = λ z. absurd (ended_stopped e z) }

within_more : (k : ℕ) (o : RanOutcome) → Within k o → Within (suc k) (more o)
unfolding more
within_more k o w = within_of k o o.gave.ended.answer refl w

-- ---- a run and another from there

none_of : (o : RanOutcome) (a : Answer) → o.gave.ended.answer ≡ a → then_run_of a o 0 ≡ o
unfolding turns_of
none_of o Executed e = rw (add-zero, ← e)
none_of o (Refused x) e = refl
none_of o (Stopped x) e = refl

then_stays_of : (o : RanOutcome) (k : ℕ) (a : Answer) → (number_of a ≡ 0 → ⊥) → then_run_of a o k ≡ o
then_stays_of o k Executed h = absurd (h refl)
then_stays_of o k (Refused x) h = refl
then_stays_of o k (Stopped x) h = refl

then_stays : (o : RanOutcome) (k : ℕ) → (number_of o.gave.ended.answer ≡ 0 → ⊥) → then_run o k ≡ o
then_stays o k h = then_stays_of o k o.gave.ended.answer h

add_more_of : (j : ℕ) (p : RanOutcome) (a : Answer) → add_steps j (more_of a p) ≡ more_of a (add_steps j p)
add_more_of j p Executed = rw (count_add j p.gave.ended.steps (inner_step p.gave.machine p.storage).gave.answer)
add_more_of j p (Refused x) = refl
add_more_of j p (Stopped x) = refl

add_more : (j : ℕ) (p : RanOutcome) → add_steps j (more p) ≡ more (add_steps j p)
unfolding more
add_more j p = add_more_of j p p.gave.ended.answer

then_more_of : (o : RanOutcome) (k : ℕ) (a : Answer) → o.gave.ended.answer ≡ a → then_run_of a o (suc k) ≡ more (then_run_of a o k)
unfolding turns_of
then_more_of o k Executed e = add_more o.gave.ended.steps (turns_of o.gave.machine o.storage k)
then_more_of o k (Refused x) e = sym (more_stays o (ended_refused e))
then_more_of o k (Stopped x) e = sym (more_stays o (ended_stopped e))

-- ---- turns

module _ (m : Machine) (s : List ℕ) where
  -- a run of budget 0 returns 0 and 0 steps, with machine and storage as they were
  pub run_zero : turns_of m s 0 ≡ ran m Executed 0 s
  unfolding turns_of
  run_zero = refl

  -- a run of k + 1 is the run of k and, where that returned 0, one step more
  pub one_more : (k : ℕ) → turns_of m s (k + 1) ≡ more (turns_of m s k)
  unfolding turns_of
  one_more k = rw add-one

  -- a run of one turn is a step
  pub one_turn : uncounted (turns_of m s 1) ≡ inner_step m s
  unfolding turns_of more
  one_turn = refl

  pub steps_within : (k : ℕ) → Within k (turns_of m s k)
  unfolding turns_of
  steps_within zero = record { most = omega arith; all = λ z. refl }
  steps_within (suc k) = within_more k (turns_of m s k) (steps_within k)

  -- the run of j + k is the run of j and, where that returned 0, the run of k from there
  pub run_split : (j k : ℕ) → turns_of m s (j + k) ≡ then_run (turns_of m s j) k
  unfolding turns_of
  run_split j zero = ap (turns_of m s) (add-zero j) ∙ sym (none_of (turns_of m s j) (turns_of m s j).gave.ended.answer refl)
  run_split j (suc k) =
      ap (turns_of m s) (add-suc j k) ∙ ap more (run_split j k)
      ∙ sym (then_more_of (turns_of m s j) k (turns_of m s j).gave.ended.answer refl)

  -- a run that stopped stays stopped for every larger budget
  pub stays : (k b : ℕ) → k ≤ b → (number_of (turns_of m s k).gave.ended.answer ≡ 0 → ⊥) → turns_of m s b ≡ turns_of m s k
  stays k b le h = ap (turns_of m s) (sym (add-sub_of_le le)) ∙ run_split k (b - k) ∙ then_stays (turns_of m s k) (b - k) h

  -- where the run of j returned 0, it counted j
  pub runs_on : (j k : ℕ) → (turns_of m s j).gave.ended.answer ≡ Executed
      → turns_of m s (j + k) ≡ add_steps j (turns_of (turns_of m s j).gave.machine (turns_of m s j).storage k)
  runs_on j k e =
      let n : (turns_of m s j).gave.ended.steps ≡ j = (steps_within j).all (ap number_of e) in
      run_split j k ∙ ap (λ (a : Answer). then_run_of a (turns_of m s j) k) e
      ∙ ap (λ (i : ℕ). add_steps i (turns_of (turns_of m s j).gave.machine (turns_of m s j).storage k)) n

  module _ (k : ℕ) (n : Machine) (l : List ℕ) (r : Stepped) (t : List ℕ) (at : ran n Executed k l ≡ turns_of m s k) (does : outcome r t ≡ inner_step n l) where
    turn : turns_of m s (k + 1) ≡ counted k (outcome r t)
    turn = one_more k ∙ ap more (sym at) ∙ more_steps (ran n Executed k l) refl ∙ ap (counted k) (sym does)

    -- after k steps that ran, one more step that runs
    pub ran_on : number_of r.answer ≡ 0 → ran r.machine Executed (k + 1) t ≡ turns_of m s (k + 1)
    ran_on z = sym (turn ∙ ap (λ (a : Answer). ran r.machine a (count_after k a) t) (executed r.answer z))

    -- after k steps that ran, one that stops: whatever budget is left
    pub stopped_at : (b : ℕ) → k + 1 ≤ b → (number_of r.answer ≡ 0 → ⊥) → ran r.machine r.answer k t ≡ turns_of m s b
    stopped_at b le h =
        let e : turns_of m s (k + 1) ≡ ran r.machine r.answer k t =
        turn ∙ ap (λ (i : ℕ). ran r.machine r.answer i t) (count_stop k r.answer h) in
        sym (stays (k + 1) b le (rw e h) ∙ e)

-- ---- the run as it is called

-- 1 and 3 at entry
abbrev entering : Machine → List ℕ → RanOutcome → RanOutcome
entering m s o =
    cond (size_allowed (length s)) (cond (status_allowed m.status) o (ran m (Refused StatusRefused) 0 s)) (ran m (Refused SizeRefused) 0 s)

-- every budget below an allowed one is allowed
pub budget_below : (k b : ℕ) → k ≤ b → budget_allowed b ≡ true → budget_allowed k ≡ true
unfolding budget_allowed
budget_below k b le h = grind (arith, nat_tests)

module _ (m : Machine) (s : List ℕ) where
  enter_more : (o : RanOutcome) → entering m s (more o) ≡ more (entering m s o)
  unfolding more
  enter_more o = sym (cond_map_2 more (size_allowed (length s)) (status_allowed m.status) o _ _)

  enter_then : (o : RanOutcome) (k : ℕ) → entering m s (then_run o k) ≡ then_run (entering m s o) k
  enter_then o k = sym (cond_map_2 (λ (r : RanOutcome). then_run r k) (size_allowed (length s)) (status_allowed m.status) o _ _)

  allowed_enters : (b : ℕ) → budget_allowed b ≡ true → run_of m s b ≡ entering m s (turns_of m s b)
  unfolding run_of
  allowed_enters b h = rw h

  -- a run that nothing refuses is its turns
  pub run_entered : (b : ℕ) → Entered m s b → run_of m s b ≡ turns_of m s b
  unfolding run_of
  run_entered b e = rw (e.size, e.budget, e.status)

  -- what holds of the turns and of every refusal holds of the run
  pub run_by : (P : RanOutcome → Type 0) (b : ℕ) → P (turns_of m s b) → ((x : Refusal) → P (ran m (Refused x) 0 s)) → P (run_of m s b)
  unfolding run_of
  run_by P b t r =
      cond_both (size_allowed (length s)) _ _ P
      (λ _. cond_both (budget_allowed b) _ _ P (λ _. cond_both (status_allowed m.status) _ _ P (λ _. t) (λ _. r StatusRefused)) (λ _. r BudgetRefused))
      (λ _. r SizeRefused)

  -- a run of budget 0 that isn't refused returns 0 and 0 steps, with machine and storage as they were
  pub run_of_zero : ((x : Refusal) → (run_of m s 0).gave.ended.answer ≡ Refused x → ⊥) → run_of m s 0 ≡ ran m Executed 0 s
  run_of_zero =
      run_by (λ o. ((x : Refusal) → o.gave.ended.answer ≡ Refused x → ⊥) → o ≡ ran m Executed 0 s) 0 (λ h. run_zero m s) (λ x h. absurd (h x refl))

  -- a run of k + 1 is the run of k and, where that returned 0, one step more
  pub run_more : (k : ℕ) → budget_allowed (k + 1) ≡ true → run_of m s (k + 1) ≡ more (run_of m s k)
  run_more k h =
      allowed_enters (k + 1) h ∙ ap (entering m s) (one_more m s k) ∙ enter_more (turns_of m s k)
      ∙ ap more (sym (allowed_enters k (budget_below k (k + 1) (omega arith) h)))

  -- the run of j + k is the run of j and, where that returned 0, the run of k from there
  pub run_in_two : (j k : ℕ) → budget_allowed (j + k) ≡ true → run_of m s (j + k) ≡ then_run (run_of m s j) k
  run_in_two j k h =
      allowed_enters (j + k) h ∙ ap (entering m s) (run_split m s j k) ∙ enter_then (turns_of m s j) k
      ∙ ap (λ (o : RanOutcome). then_run o k) (sym (allowed_enters j (budget_below j (j + k) (omega arith) h)))

  -- a run that stopped, or was refused, does the same for every larger budget that is allowed
  pub run_stays : (k b : ℕ) → k ≤ b → budget_allowed b ≡ true → (number_of (run_of m s k).gave.ended.answer ≡ 0 → ⊥) → run_of m s b ≡ run_of m s k
  run_stays k b le h n =
      let e : k + (b - k) ≡ b = add-sub_of_le le in
      ap (run_of m s) (sym e) ∙ run_in_two k (b - k) (rw e h) ∙ then_stays (run_of m s k) (b - k) n

  -- at most as many steps as the budget, and all where it returned 0
  pub run_within : (b : ℕ) → Within b (run_of m s b)
  run_within b = run_by (Within b) b (steps_within m s b) (λ x. record { most = omega arith; all = λ z. absurd (not_refused x z) })
