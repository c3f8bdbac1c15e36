-- What the host is told: for each entry the outcome of the function under it, in the numbers of document 01's table, with the record and the lent bytes afterwards.
use Rattle.std.specs.Prelude.{◌≡◌, cond, List, ℕ, length}
use Rattle.std.proofs.Common.{ap, sym, ◌∙◌}
use Rattle.manual.specs.declared.Machine.{Machine}
use Rattle.manual.specs.declared.Answer.{Answer}
use Rattle.manual.specs.declared.Ended.{Ended}
use Rattle.manual.specs.Numbers.{answer_told, told, read_number, write_told, WriteAnswer}
use Rattle.manual.specs.TheMachine.{size_allowed}
use Rattle.manual.specs.Step.{Outcome, step_of}
use Rattle.manual.specs.Run.{RanOutcome, run_of}
use Rattle.manual.specs.Deck.{ReadOutcome, read_of, WriteOutcome, write_of, deck_of}
use Rattle.host.specs.declared.StepNumbers.{StepNumbers}
use Rattle.host.specs.declared.RunNumbers.{RunNumbers}
use Rattle.host.specs.declared.WriteNumbers.{WriteNumbers}

-- ---- answers in numbers

abbrev pub step_numbers : Answer → StepNumbers
step_numbers a = record { number = (answer_told a 0).number; q = (answer_told a 0).q; r = (answer_told a 0).r }

abbrev pub run_numbers : Ended → RunNumbers
run_numbers e = record { number = (told e).number; q = (told e).q; r = (told e).r; steps = (told e).steps }

abbrev pub write_numbers : WriteAnswer → WriteNumbers
write_numbers a = record { number = (write_told a).number; length = (write_told a).length }

-- ---- what a call gives: the record afterwards, and what is told

pub record ToldStep : Type 0 where
  pub machine : Machine
  pub numbers : StepNumbers

pub record ToldRun : Type 0 where
  pub machine : Machine
  pub numbers : RunNumbers

pub record ToldRead : Type 0 where
  pub machine : Machine
  pub number : ℕ

pub record ToldWrite : Type 0 where
  pub machine : Machine
  pub numbers : WriteNumbers

pub record ToldLength : Type 0 where
  pub machine : Machine
  pub length : ℕ

-- ---- what a call leaves: its result, which holds the record and what is told, and the bytes that it was lent to change

pub record Left (R : Type 0) : Type 0 where
  pub result : R
  pub bytes : List ℕ

abbrev pub left : {R : Type 0} → R → List ℕ → Left R
left r t = record { result = r; bytes = t }

abbrev pub step_left : Outcome → Left ToldStep
step_left o = left (record { machine = o.gave.machine; numbers = step_numbers o.gave.answer }) o.storage

abbrev pub run_left : RanOutcome → Left ToldRun
run_left o = left (record { machine = o.gave.machine; numbers = run_numbers o.gave.ended }) o.storage

abbrev pub read_left : ReadOutcome → Left ToldRead
read_left o = left (record { machine = o.gave.machine; number = read_number o.gave.answer }) o.storage

-- the record stays
abbrev pub write_left : Machine → WriteOutcome → Left ToldWrite
write_left m o = left (record { machine = m; numbers = write_numbers o.gave }) o.output

-- ---- a call with the record m gave r and left the lent bytes t

abbrev pub ToldStepAs : Machine → List ℕ → ToldStep → List ℕ → Type 0
ToldStepAs m s r t = left r t ≡ step_left (step_of m s)

abbrev pub ToldRunAs : Machine → List ℕ → ℕ → ToldRun → List ℕ → Type 0
ToldRunAs m s budget r t = left r t ≡ run_left (run_of m s budget)

-- what the record held counts for nothing
abbrev pub ToldReadAs : Machine → List ℕ → List ℕ → ToldRead → List ℕ → Type 0
ToldReadAs m d s r t = left r t ≡ read_left (read_of d s)

abbrev pub ToldWriteAs : Machine → List ℕ → List ℕ → ToldWrite → List ℕ → Type 0
ToldWriteAs m s out r t = left r t ≡ write_left m (write_of m s out)

-- the room that the deck needs, 0 where the size isn't allowed; the record stays, and no bytes are lent to change
abbrev pub ToldLengthAs : Machine → List ℕ → ToldLength → Type 0
ToldLengthAs m s r = r ≡ record { machine = m; length = cond (size_allowed (length s)) (length (deck_of m s)) 0 }

-- ---- two outcomes that a relation allows coincide

left_once : {R : Type 0} (x : Left R) (r r' : R) (t t' : List ℕ) → left r t ≡ x → left r' t' ≡ x → (r ≡ r') × (t ≡ t')
left_once {R} x r r' t t' h h' = (ap (λ (o : Left R). o.result) (h ∙ sym h'), ap (λ (o : Left R). o.bytes) (h ∙ sym h'))

pub told_step_once : (m : Machine) (s : List ℕ) (r r' : ToldStep) (t t' : List ℕ) → ToldStepAs m s r t → ToldStepAs m s r' t' → (r ≡ r') × (t ≡ t')
told_step_once m s r r' t t' h h' = left_once (step_left (step_of m s)) r r' t t' h h'

pub told_run_once : (m : Machine) (s : List ℕ) (b : ℕ) (r r' : ToldRun) (t t' : List ℕ) → ToldRunAs m s b r t → ToldRunAs m s b r' t' → (r ≡ r') × (t ≡ t')
told_run_once m s b r r' t t' h h' = left_once (run_left (run_of m s b)) r r' t t' h h'

pub told_read_once : (m : Machine) (d s : List ℕ) (r r' : ToldRead) (t t' : List ℕ) → ToldReadAs m d s r t → ToldReadAs m d s r' t' → (r ≡ r') × (t ≡ t')
told_read_once m d s r r' t t' h h' = left_once (read_left (read_of d s)) r r' t t' h h'

pub told_write_once : (m : Machine) (s out : List ℕ) (r r' : ToldWrite) (t t' : List ℕ) → ToldWriteAs m s out r t → ToldWriteAs m s out r' t' → (r ≡ r') × (t ≡ t')
told_write_once m s out r r' t t' h h' = left_once (write_left m (write_of m s out)) r r' t t' h h'

pub told_length_once : (m : Machine) (s : List ℕ) (r r' : ToldLength) → ToldLengthAs m s r → ToldLengthAs m s r' → r ≡ r'
told_length_once m s r r' h h' = h ∙ sym h'
