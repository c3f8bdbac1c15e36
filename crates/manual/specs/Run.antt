-- The run.
use Rattle.std.specs.Prelude.{◌≡◌, cond, List, ℕ, zero, suc, ◌+◌, length}
use Rattle.std.proofs.Common.{ap, sym, ◌∙◌}
use Rattle.manual.specs.declared.Machine.{Machine}
use Rattle.manual.specs.declared.Answer.{Answer}
use Rattle.manual.specs.declared.Answer.TheVariants.{Executed, Refused, Stopped}
use Rattle.manual.specs.declared.Refusal.TheVariants.{SizeRefused, BudgetRefused, StatusRefused}
use Rattle.manual.specs.declared.Ran.{Ran}
use Rattle.manual.specs.TheMachine.{size_allowed, budget_allowed, status_allowed}
use Rattle.manual.specs.Step.{Outcome, inner_step}

pub record RanOutcome : Type 0 where
  pub gave : Ran
  pub storage : List ℕ

abbrev pub ran_outcome : Ran → List ℕ → RanOutcome
ran_outcome r s = record { gave = r; storage = s }

-- the machine m, the answer a after k executed steps, the storage s
abbrev pub ran : Machine → Answer → ℕ → List ℕ → RanOutcome
ran m a k s = ran_outcome (record { machine = m; ended = record { answer = a; steps = k } }) s

-- the count after a step: a stopped instruction isn't counted
abbrev pub count_after : ℕ → Answer → ℕ
count_after k Executed = k + 1
count_after k (Refused x) = k
count_after k (Stopped x) = k

abbrev pub counted : ℕ → Outcome → RanOutcome
counted k o = ran o.gave.machine o.gave.answer (count_after k o.gave.answer) o.storage

-- o and, where that returned 0, one step more
abbrev pub more_of : Answer → RanOutcome → RanOutcome
more_of Executed o = counted o.gave.ended.steps (inner_step o.gave.machine o.storage)
more_of (Refused x) o = o
more_of (Stopped x) o = o

unfoldable pub more : RanOutcome → RanOutcome
more o = more_of o.gave.ended.answer o

-- a run of k + 1 is the run of k and, where that returned 0, one step more; the budget is tested before each fetch
unfoldable pub turns_of : Machine → List ℕ → ℕ → RanOutcome
turns_of m s zero = ran m Executed 0 s
turns_of m s (suc k) = more (turns_of m s k)

-- 1, 2, 3 at entry
unfoldable pub run_of : Machine → List ℕ → ℕ → RanOutcome
run_of m s budget =
    cond (size_allowed (length s))
    (cond (budget_allowed budget)
    (cond (status_allowed m.status) (turns_of m s budget) (ran m (Refused StatusRefused) 0 s))
    (ran m (Refused BudgetRefused) 0 s))
    (ran m (Refused SizeRefused) 0 s)

-- a run of m over s with that budget gave r and left t
abbrev pub RanAs : Machine → List ℕ → ℕ → Ran → List ℕ → Type 0
RanAs m s budget r t = ran_outcome r t ≡ run_of m s budget

-- two outcomes that it allows coincide
pub ran_once : (m : Machine) (s : List ℕ) (b : ℕ) (r r' : Ran) (t t' : List ℕ) → RanAs m s b r t → RanAs m s b r' t' → (r ≡ r') × (t ≡ t')
ran_once m s b r r' t t' h h' = (ap (λ (o : RanOutcome). o.gave) (h ∙ sym h'), ap (λ (o : RanOutcome). o.storage) (h ∙ sym h'))
