-- The tests at entry: 1, 2, 3, in this order.
use Rattle.std.specs.Prelude.{ℕ, cond, Result, Ok, Err}
use Rattle.manual.specs.declared.Refusal.{Refusal}
use Rattle.manual.specs.declared.Refusal.TheVariants.{SizeRefused, BudgetRefused, StatusRefused}
use Rattle.manual.specs.TheMachine.{size_allowed, budget_allowed, status_allowed}

unfoldable pub admitted : ℕ → ℕ → ℕ → Result (Unit {0}) Refusal
admitted size budget status =
    cond (size_allowed size)
    (cond (budget_allowed budget)
    (cond (status_allowed status) (Ok tt) (Err StatusRefused))
    (Err BudgetRefused))
    (Err SizeRefused)
