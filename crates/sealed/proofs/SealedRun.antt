-- The run, over places: a run that reads no sealed place doesn't depend on one. What carries it: induction on the turns, one step at a time.
use Rattle.std.proofs.Common.{◌≡◌, refl, ap, sym, ◌∙◌, subst, Bool, true, false, cond, List, ℕ, zero, suc, ◌<◌, ◌≤◌, add-one, arith, length}
use Rattle.manual.specs.declared.Machine.{Machine}
use Rattle.manual.specs.declared.Answer.{Answer}
use Rattle.manual.specs.declared.Answer.TheVariants.{Executed, Refused, Stopped}
use Rattle.manual.specs.declared.Refusal.{Refusal}
use Rattle.manual.specs.declared.Refusal.TheVariants.{SizeRefused, BudgetRefused, StatusRefused}
use Rattle.manual.specs.declared.Ended.{Ended}
use Rattle.manual.specs.Numbers.{number_of}
use Rattle.manual.specs.TheMachine.{size_allowed, budget_allowed, status_allowed}
use Rattle.manual.specs.Places.{Place, state, look}
use Rattle.manual.specs.When.{Entered}
use Rattle.manual.specs.Step.{inner_step}
use Rattle.manual.specs.Reads.{elem, writes_of}
use Rattle.manual.specs.Run.{RanOutcome, ran, count_after, more_of, more, turns_of, run_of}
use Rattle.manual.proofs.Runs.{more_stays, more_steps, steps_within, ended_refused, ended_stopped}
use Rattle.manual.proofs.Keeps.{turns_as_counted}
use Rattle.sealed.specs.Sealed.{reads_at, writes_at, sealed_after, still_sealed, ReadsNoSealed, Agree, state_of, Same, SealHolds}
use Rattle.sealed.proofs.Depends.{less_true}
use Rattle.sealed.proofs.SealedStep.{opens, step_keeps, step_writes, step_same}

abbrev answer_of : RanOutcome → Answer
answer_of u = u.gave.ended.answer

abbrev steps_of : RanOutcome → ℕ
steps_of u = u.gave.ended.steps

-- ---- what is still sealed is kept

module _ (z : Place → Bool) (m : Machine) (s : List ℕ) (x : Place) where
  keep_more_of : (u : RanOutcome) (a : Answer) → elem x (writes_of u.gave.machine u.storage) ≡ false → look x (state_of (more_of a u)) ≡ look x (state_of u)
  keep_more_of u Executed e = step_keeps u.gave.machine u.storage x e
  keep_more_of u (Refused y) e = refl
  keep_more_of u (Stopped y) e = refl

  keep_turns : (k : ℕ) → sealed_after z m s k x ≡ true → look x (state_of (turns_of m s k)) ≡ look x (state m s)
  unfolding sealed_after turns_of more
  keep_turns zero e = refl
  keep_turns (suc k) e =
      let h = less_true (sealed_after z m s k x) (elem x (writes_at m s k)) e in
      keep_more_of (turns_of m s k) (answer_of (turns_of m s k)) h.1 ∙ keep_turns k h.0

  -- in a run that may have stopped, its steps are the executed ones
  keep_run : (k : ℕ) → sealed_after z m s (steps_of (turns_of m s k)) x ≡ true → look x (state_of (turns_of m s k)) ≡ look x (state m s)
  keep_run k e = sym (ap (λ (u : RanOutcome). look x (state_of u)) (turns_as_counted m s k)) ∙ keep_turns (steps_of (turns_of m s k)) e

-- ---- the turns

-- the places still sealed after a step, by its answer
sealed_counted : (z : Place → Bool) (m : Machine) (s : List ℕ) (k : ℕ) (a : Answer) → sealed_after z m s (count_after k a) ≡ opens a (sealed_after z m s k) (writes_at m s k)
unfolding sealed_after
sealed_counted z m s k Executed = rw add-one
sealed_counted z m s k (Refused y) = refl
sealed_counted z m s k (Stopped y) = refl

module _ (z : Place → Bool) (m n : Machine) (s t : List ℕ) where
  -- two outcomes so far, and the seals of both runs
  record Sofar (u v : RanOutcome) : Type 0 where
    same : Same (sealed_after z m s (steps_of u)) u v
    seals : sealed_after z m s (steps_of u) ≡ sealed_after z n t (steps_of u)

  -- a run that has stopped does no more
  stopped : (k : ℕ) → Sofar (turns_of m s k) (turns_of n t k) → (number_of (answer_of (turns_of m s k)) ≡ 0 → ⊥) → Sofar (turns_of m s (suc k)) (turns_of n t (suc k))
  unfolding turns_of
  stopped k i h =
      let g : number_of (answer_of (turns_of n t k)) ≡ 0 → ⊥ = λ e. h (ap (λ (d : Ended). number_of d.answer) i.same.ended ∙ e) in
      rw (more_stays (turns_of m s k) h, more_stays (turns_of n t k) g) i

  -- one that returned 0 does a step
  stepped : (k : ℕ) → Sofar (turns_of m s k) (turns_of n t k) → answer_of (turns_of m s k) ≡ Executed
      → ((x : Place) → elem x (reads_at m s k) ≡ true → sealed_after z m s k x ≡ false) → Sofar (turns_of m s (suc k)) (turns_of n t (suc k))
  unfolding turns_of
  stepped k i e q =
      let u : RanOutcome = turns_of m s k in
      let v : RanOutcome = turns_of n t k in
      let c : steps_of u ≡ k = (steps_within m s k).all (ap number_of e) in
      let d : steps_of v ≡ k = sym (ap (λ (o : Ended). o.steps) i.same.ended) ∙ c in
      let f : answer_of v ≡ Executed = sym (ap (λ (o : Ended). o.answer) i.same.ended) ∙ e in
      let h : Same (sealed_after z m s k) u v = subst (λ (j : ℕ). Same (sealed_after z m s j) u v) c i.same in
      let w : sealed_after z m s k ≡ sealed_after z n t k = subst (λ (j : ℕ). sealed_after z m s j ≡ sealed_after z n t j) c i.seals in
      let a : Answer = (inner_step u.gave.machine u.storage).gave.answer in
      rw (more_steps u e, more_steps v f, c, d)
      (record {
        same =
            rw (sealed_counted z m s k a)
            (step_same (sealed_after z m s k) u.gave.machine v.gave.machine u.storage v.storage h.iar h.status h.agree q k);
        seals =
            sealed_counted z m s k a
            ∙ (rw (w, step_writes (sealed_after z m s k) u.gave.machine v.gave.machine u.storage v.storage h.iar h.status h.agree q))
            ∙ sym (sealed_counted z n t k a);
      })

  module _ (b : ℕ) (h : Same z (ran m Executed 0 s) (ran n Executed 0 t)) (e : Entered m s b) (q : ReadsNoSealed z m s b) where
    sofar_by : (k : ℕ) → k < b → Sofar (turns_of m s k) (turns_of n t k) → (a : Answer) → answer_of (turns_of m s k) ≡ a → Sofar (turns_of m s (suc k)) (turns_of n t (suc k))
    sofar_by k l i Executed f = stepped k i f (q k (record { entered = e; unspent = l; executed = f }))
    sofar_by k l i (Refused x) f = stopped k i (ended_refused f)
    sofar_by k l i (Stopped x) f = stopped k i (ended_stopped f)

    sofar : (k : ℕ) → k ≤ b → Sofar (turns_of m s k) (turns_of n t k)
    unfolding sealed_after turns_of
    sofar zero l = record { same = h; seals = refl }
    sofar (suc k) l = sofar_by k l (sofar k (omega arith)) (answer_of (turns_of m s k)) refl

    turns_hold : SealHolds (sealed_after z m s (steps_of (turns_of m s b))) (state m s) (state n t) (turns_of m s b) (turns_of n t b)
    turns_hold =
        let i : Sofar (turns_of m s b) (turns_of n t b) = sofar b (omega arith) in
        let c : steps_of (turns_of m s b) ≡ steps_of (turns_of n t b) = ap (λ (o : Ended). o.steps) i.same.ended in
        record {
          same = i.same;
          first_keeps = λ x. keep_run z m s x b;
          second_keeps = λ x g. keep_run z n t x b (rw (i.seals, c) at g);
        }

-- ---- the run as it is called

module _ (z : Place → Bool) (m n : Machine) (s t : List ℕ) (b : ℕ) (ei : m.iar ≡ n.iar) (es : m.status ≡ n.status) (a : Agree z (state m s) (state n t)) where
  start : Same z (ran m Executed 0 s) (ran n Executed 0 t)
  start = record { ended = refl; iar = ei; status = es; agree = a }

  -- what is said of the outcome u of the first run and v of the second
  abbrev Said : RanOutcome → RanOutcome → Type 0
  Said u v = SealHolds (sealed_after z m s (steps_of u)) (state m s) (state n t) u v

  -- a refused run takes no step
  refused : (x : Refusal) → Said (ran m (Refused x) 0 s) (ran n (Refused x) 0 t)
  unfolding sealed_after
  refused x = record { same = record { ended = refl; iar = ei; status = es; agree = a }; first_keeps = λ y e. refl; second_keeps = λ y e. refl }

  module _ (q : ReadsNoSealed z m s b) where
    by_entry : (x y w : Bool) → size_allowed (length s) ≡ x → budget_allowed b ≡ y → status_allowed m.status ≡ w
        → Said
        (cond x (cond y (cond w (turns_of m s b) (ran m (Refused StatusRefused) 0 s)) (ran m (Refused BudgetRefused) 0 s)) (ran m (Refused SizeRefused) 0 s))
        (cond x (cond y (cond w (turns_of n t b) (ran n (Refused StatusRefused) 0 t)) (ran n (Refused BudgetRefused) 0 t)) (ran n (Refused SizeRefused) 0 t))
    by_entry true true true e f g = turns_hold z m n s t b start (record { size = e; budget = f; status = g }) q
    by_entry true true false e f g = refused StatusRefused
    by_entry true false w e f g = refused BudgetRefused
    by_entry false y w e f g = refused SizeRefused

    -- two runs that differ in sealed places alone, where no step of the first reads a place still sealed
    pub seal_holds : SealHolds (still_sealed z m s b) (state m s) (state n t) (run_of m s b) (run_of n t b)
    unfolding run_of
    seal_holds = rw (ap size_allowed (sym a.size), ap status_allowed (sym es)) (by_entry (size_allowed (length s)) (budget_allowed b) (status_allowed m.status) refl refl refl)
