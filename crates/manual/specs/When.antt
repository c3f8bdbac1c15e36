-- When each number is given by a step and by a run, as tables for a host's programmer: a number is given exactly when its row holds.
use Rattle.std.specs.Prelude.{◌≡◌, true, false, List, ℕ, zero, suc, ◌+◌, ◌-◌, ◌/◌, ◌≤◌, ◌<◌, length, get_or, Ok, Err, Some, None}
use Rattle.manual.specs.declared.Machine.{Machine}
use Rattle.manual.specs.declared.Operation.{Operation}
use Rattle.manual.specs.declared.Operation.TheVariants.{Svc}
use Rattle.manual.specs.declared.Instruction.{Instruction}
use Rattle.manual.specs.declared.Stop.TheVariants.{OperandOutside, DigitRefused}
use Rattle.manual.specs.declared.Answer.TheVariants.{Executed}
use Rattle.manual.specs.TheMachine.{size_allowed, budget_allowed, status_allowed}
use Rattle.manual.specs.Numbers.{number_of}
use Rattle.manual.specs.Formats.{form_of, operation_of, allowed}
use Rattle.manual.specs.Decode.{decode_of}
use Rattle.manual.specs.Step.{Outcome, ended, inner_step}
use Rattle.manual.specs.Stops.{fields_of, barred}

-- the call isn't refused at entry
pub record Taken (m : Machine) (s : List ℕ) : Type 0 where
  pub size : size_allowed (length s) ≡ true
  pub status : status_allowed m.status ≡ true

abbrev pub opcode_at : Machine → List ℕ → ℕ
opcode_at m s = get_or s m.iar 0

abbrev pub length_at : Machine → List ℕ → ℕ
length_at m s = (form_of (opcode_at m s / 16)).length

-- the opcode at IAR names an operation, and the instruction is wholly in storage
pub record Whole (m : Machine) (s : List ℕ) (op : Operation) : Type 0 where
  pub inside : m.iar < length s
  pub named : operation_of (opcode_at m s) ≡ Some op
  pub whole : length_at m s ≤ length s - m.iar

pub data When (m : Machine) (s : List ℕ) : ℕ → Type 0 where
  executed : (i : Instruction) → Taken m s → decode_of s m.iar ≡ Ok i → barred i.operation (fields_of m i) s ≡ Ok tt → When m s 0
  size_refused : size_allowed (length s) ≡ false → When m s 1
  status_refused : size_allowed (length s) ≡ true → status_allowed m.status ≡ false → When m s 3
  past_storage : Taken m s → length s ≤ m.iar → When m s 4
  cut_short : (op : Operation) → Taken m s → m.iar < length s → operation_of (opcode_at m s) ≡ Some op → length s - m.iar < length_at m s → When m s 4
  opcode_unknown : Taken m s → m.iar < length s → operation_of (opcode_at m s) ≡ None → When m s 5
  q_refused : (op : Operation) → Taken m s → Whole m s op → allowed op (get_or s (m.iar + 1) 0) ≡ false → When m s 6
  outside : (i : Instruction) → Taken m s → decode_of s m.iar ≡ Ok i → barred i.operation (fields_of m i) s ≡ Err OperandOutside → When m s 7
  bad_digit : (i : Instruction) → Taken m s → decode_of s m.iar ≡ Ok i → barred i.operation (fields_of m i) s ≡ Err DigitRefused → When m s 8
  called : (i : Instruction) → Taken m s → decode_of s m.iar ≡ Ok i → i.operation ≡ Svc → When m s 9

-- ---- the run

-- nothing refuses the run at entry
pub record Entered (m : Machine) (s : List ℕ) (b : ℕ) : Type 0 where
  pub size : size_allowed (length s) ≡ true
  pub budget : budget_allowed b ≡ true
  pub status : status_allowed m.status ≡ true

-- k steps in a row
unfoldable pub after_steps : Machine → List ℕ → ℕ → Outcome
after_steps m s zero = ended m Executed s
after_steps m s (suc k) = inner_step (after_steps m s k).gave.machine (after_steps m s k).storage

-- the number that the step after k steps gives
abbrev pub number_after : Machine → List ℕ → ℕ → ℕ
number_after m s k = number_of (inner_step (after_steps m s k).gave.machine (after_steps m s k).storage).gave.answer

-- every one of the first k steps gives 0
abbrev pub AllRan : Machine → List ℕ → ℕ → Type 0
AllRan m s k = (j : ℕ) → j < k → number_after m s j ≡ 0

pub data RunWhen (m : Machine) (s : List ℕ) (b : ℕ) : ℕ → Type 0 where
  budget_spent : Entered m s b → AllRan m s b → RunWhen m s b 0
  size_refused : size_allowed (length s) ≡ false → RunWhen m s b 1
  budget_refused : size_allowed (length s) ≡ true → budget_allowed b ≡ false → RunWhen m s b 2
  status_refused : size_allowed (length s) ≡ true → budget_allowed b ≡ true → status_allowed m.status ≡ false → RunWhen m s b 3
  stopped : (n k : ℕ) → Entered m s b → k < b → AllRan m s k → number_after m s k ≡ n → (n ≡ 0 → ⊥) → RunWhen m s b n
