-- What an answer tells, field by field: number, Q and R don't depend on the steps. By cases.
use Prim.Native.Nat.{ℕ}
use mathlib.Core.Path.{◌≡◌, refl, sym, ◌∙◌}
use Rattle.manual.specs.declared.Refusal.{Refusal}
use Rattle.manual.specs.declared.Refusal.TheVariants.{SizeRefused, BudgetRefused, StatusRefused}
use Rattle.manual.specs.declared.Stop.{Stop}
use Rattle.manual.specs.declared.Stop.TheVariants.{CutShort, OpcodeUnknown, QRefused, OperandOutside, DigitRefused, Supervisor}
use Rattle.manual.specs.declared.Answer.{Answer}
use Rattle.manual.specs.declared.Answer.TheVariants.{Executed, Refused, Stopped}
use Rattle.manual.specs.Numbers.{Told, refusal_told, stop_told, answer_told}

pub refused_q : (x : Refusal) → (refusal_told x 0).q ≡ 0
refused_q SizeRefused = refl
refused_q BudgetRefused = refl
refused_q StatusRefused = refl

pub refused_r : (x : Refusal) → (refusal_told x 0).r ≡ 0
refused_r SizeRefused = refl
refused_r BudgetRefused = refl
refused_r StatusRefused = refl

-- t, after k steps
abbrev after : Told → ℕ → Told
after t k = record { number = t.number; q = t.q; r = t.r; steps = k }

refusal_told_lem : (x : Refusal) (k : ℕ) → refusal_told x k ≡ after (refusal_told x 0) k
refusal_told_lem SizeRefused k = refl
refusal_told_lem BudgetRefused k = refl
refusal_told_lem StatusRefused k = refl

stop_told_lem : (x : Stop) (k : ℕ) → stop_told x k ≡ after (stop_told x 0) k
stop_told_lem CutShort k = refl
stop_told_lem OpcodeUnknown k = refl
stop_told_lem QRefused k = refl
stop_told_lem OperandOutside k = refl
stop_told_lem DigitRefused k = refl
stop_told_lem (Supervisor q r) k = refl

pub answer_told_lem : (a : Answer) (k : ℕ) → answer_told a k ≡ record { number = (answer_told a 0).number; q = (answer_told a 0).q; r = (answer_told a 0).r; steps = k }
answer_told_lem Executed k = refl
answer_told_lem (Refused x) k = refusal_told_lem x k
answer_told_lem (Stopped x) k = stop_told_lem x k

pub told_of :
    (a : Answer) (k : ℕ) {n q r : ℕ} → n ≡ (answer_told a 0).number → q ≡ (answer_told a 0).q → r ≡ (answer_told a 0).r → record { number = n; q = q; r = r; steps = k } ≡ answer_told a k
told_of a k hn hq hr = (λ i. record { number = hn i; q = hq i; r = hr i; steps = k }) ∙ sym (answer_told_lem a k)
