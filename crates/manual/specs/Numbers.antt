-- Numbers that come back: the number of each answer in document 01's table, and the Q and R bytes, steps and length that come with it.
use Rattle.std.specs.Prelude.{ℕ, Result, Ok, Err}
use Rattle.manual.specs.declared.Refusal.{Refusal}
use Rattle.manual.specs.declared.Refusal.TheVariants.{SizeRefused, BudgetRefused, StatusRefused}
use Rattle.manual.specs.declared.Stop.{Stop}
use Rattle.manual.specs.declared.Stop.TheVariants.{CutShort, OpcodeUnknown, QRefused, OperandOutside, DigitRefused, Supervisor}
use Rattle.manual.specs.declared.Answer.{Answer}
use Rattle.manual.specs.declared.Answer.TheVariants.{Executed, Refused, Stopped}
use Rattle.manual.specs.declared.Ended.{Ended}
use Rattle.manual.specs.declared.DeckFault.{DeckFault}
use Rattle.manual.specs.declared.DeckFault.TheVariants.{SizeNotTheDecks, StatusNotAllowed, EndsEarly, KindUnknown, OutOfOrder, PageBeyond, PageOfZeros, BytesAfterEnd}
use Rattle.manual.specs.declared.WriteFault.{WriteFault}
use Rattle.manual.specs.declared.WriteFault.TheVariants.{SizeNotAllowed, StatusNotWritable, OutputShort}

-- what comes back from a step or a run
pub record Told : Type 0 where
  pub number : ℕ
  pub q : ℕ
  pub r : ℕ
  pub steps : ℕ

-- the number alone: all answers but 9 return zero for Q and R
abbrev pub plain : ℕ → ℕ → Told
plain n k = record { number = n; q = 0; r = 0; steps = k }

abbrev pub refusal_told : Refusal → ℕ → Told
refusal_told SizeRefused k = plain 1 k
refusal_told BudgetRefused k = plain 2 k
refusal_told StatusRefused k = plain 3 k

abbrev pub stop_told : Stop → ℕ → Told
stop_told CutShort k = plain 4 k
stop_told OpcodeUnknown k = plain 5 k
stop_told QRefused k = plain 6 k
stop_told OperandOutside k = plain 7 k
stop_told DigitRefused k = plain 8 k
stop_told (Supervisor q r) k = record { number = 9; q = q; r = r; steps = k }

-- an answer after k executed steps
abbrev pub answer_told : Answer → ℕ → Told
answer_told Executed k = plain 0 k
answer_told (Refused x) k = refusal_told x k
answer_told (Stopped x) k = stop_told x k

abbrev pub number_of : Answer → ℕ
number_of a = (answer_told a 0).number

-- what a run tells
abbrev pub told : Ended → Told
told e = answer_told e.answer e.steps

-- ---- decks

abbrev pub fault_number : DeckFault → ℕ
fault_number SizeNotTheDecks = 1
fault_number StatusNotAllowed = 3
fault_number EndsEarly = 11
fault_number KindUnknown = 12
fault_number OutOfOrder = 13
fault_number PageBeyond = 14
fault_number PageOfZeros = 15
fault_number BytesAfterEnd = 16

-- what the reader answers: the deck is read, or why not
abbrev pub ReadAnswer : Type 0
ReadAnswer = Result (Unit {0}) DeckFault

abbrev pub read_number : ReadAnswer → ℕ
read_number (Ok tt) = 0
read_number (Err x) = fault_number x

-- what the writer answers: the deck's length, or why it is not written
abbrev pub WriteAnswer : Type 0
WriteAnswer = Result ℕ WriteFault

-- what comes back from the writer: its number, and the length written, 0 on refusal
pub record WriteTold : Type 0 where
  pub number : ℕ
  pub length : ℕ

abbrev pub write_fault_number : WriteFault → ℕ
write_fault_number SizeNotAllowed = 1
write_fault_number StatusNotWritable = 3
write_fault_number OutputShort = 17

abbrev pub write_told : WriteAnswer → WriteTold
write_told (Ok n) = record { number = 0; length = n }
write_told (Err x) = record { number = write_fault_number x; length = 0 }
