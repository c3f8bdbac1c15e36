-- Three small programs, computed, over old figures that are sealed: one never reads them, one writes over them first, one reads one.
-- What carries it: the definitions compute.
use Rattle.std.proofs.Common.{◌≡◌, refl, ap, sym, ◌∙◌, Bool, true, false, true≢false, List, [], ◌∷◌, ◌++◌, ℕ, ◌-◌, arith, length, replicate, leb}
use Rattle.manual.specs.declared.Machine.{Machine}
use Rattle.manual.specs.declared.Answer.TheVariants.{Stopped}
use Rattle.manual.specs.declared.Stop.TheVariants.{Supervisor}
use Rattle.manual.specs.Places.{mem}
use Rattle.manual.specs.Programs.{val, fin, ◌>>=◌, rightward, unless, and_then}
use Rattle.manual.specs.TheMachine.{size_allowed, budget_allowed, status_allowed, set_order, order_of}
use Rattle.manual.specs.Formats.{form_of, named_of, first_base, allowed, reach}
use Rattle.manual.specs.Decode.{instruction_of, fetch, decode_of}
use Rattle.manual.specs.Logical.{copy, mvc}
use Rattle.manual.specs.Immediate.{mvi, cli}
use Rattle.manual.specs.Branches.{call}
use Rattle.manual.specs.Step.{exec, perform, follow, step, did, inner_step}
use Rattle.manual.specs.Stops.{outside, further}
use Rattle.manual.specs.Reads.{elem, field, span, when, operand_reads, operand_writes, register_reads, instruction_reads, reads_of, writes_of}
use Rattle.manual.specs.Run.{RanOutcome, ran, more, turns_of, run_of}
use Rattle.sealed.specs.Sealed.{Takes, reads_at, sealed_after}
use Rattle.sealed.specs.Demand3.{sealed_byte, still_sealed_byte, ReadsNoSealedByte}
use Rattle.sealed.proofs.Tested.{none_in, quiet, quiet_reads}

-- 256 bytes: the code at 0000, figures from 0080 on
abbrev page : List ℕ → List ℕ → List ℕ
page code figures = code ++ replicate (0x80 - length code) 0 ++ figures ++ replicate (0x80 - length figures) 0

abbrev machine : ℕ → ℕ → Machine
machine iar status = record { iar = iar; arr = 0; xr1 = 0; xr2 = 0; wr = 0 ∷ 0 ∷ 0 ∷ 0 ∷ []; status = status }

-- sealed from this address on
abbrev from : ℕ → ℕ → Bool
from a b = leb a b

-- MVC 0081 from 0080, SVC
abbrev moves : List ℕ
moves = 0x0C ∷ 0x00 ∷ 0x00 ∷ 0x81 ∷ 0x00 ∷ 0x80 ∷ 0xF4 ∷ 0x00 ∷ 0x02 ∷ []

-- MVI F3 to 0080, then the same
abbrev sets : List ℕ
sets = 0x3C ∷ 0xF3 ∷ 0x00 ∷ 0x80 ∷ moves

-- CLI 0080 against F1, SVC
abbrev compares : List ℕ
compares = 0x3D ∷ 0xF1 ∷ 0x00 ∷ 0x80 ∷ 0xF4 ∷ 0x00 ∷ 0x02 ∷ []

-- the storages of the three, with old figures x and y, or x
abbrev moving : ℕ → ℕ → List ℕ
moving x y = page moves (0xF5 ∷ x ∷ y ∷ [])

abbrev setting : ℕ → ℕ → List ℕ
setting x y = page sets (x ∷ y ∷ [])

abbrev comparing : ℕ → List ℕ
comparing x = page compares (x ∷ [])

abbrev start : Machine
start = machine 0 0x01

-- stopped by the call at this address, with that status, after k steps
abbrev called : ℕ → ℕ → ℕ → List ℕ → RanOutcome
called iar status k s = ran (machine iar status) (Stopped (Supervisor 0x00 0x02)) k s

pub record SealedCases : Type 0 where
  -- sealed from 0081 on and never read: 0081 is written and opens, 0082 keeps its own value
  pub moves_quiet : (x y : ℕ) → ReadsNoSealedByte (from 0x81) start (moving x y) 2
  pub moves_gives : (x y : ℕ) → run_of start (moving x y) 2 ≡ called 6 0x01 1 (moving 0xF5 y)
  pub moves_opens : (x y : ℕ) → still_sealed_byte (from 0x81) start (moving x y) 2 0x81 ≡ false
  pub moves_keeps : (x y : ℕ) → still_sealed_byte (from 0x81) start (moving x y) 2 0x82 ≡ true
  -- sealed from 0080 on: 0080 is read once an earlier step has written it
  pub sets_quiet : (x y : ℕ) → ReadsNoSealedByte (from 0x80) start (setting x y) 3
  pub sets_gives : (x y : ℕ) → run_of start (setting x y) 3 ≡ called 10 0x01 2 (setting 0xF3 0xF3)
  -- sealed from 0080 on, and 0080 is read: a blank there ends low, a one equal
  pub compares_reads : (x : ℕ) → ReadsNoSealedByte (from 0x80) start (comparing x) 2 → ⊥
  pub compares_low : run_of start (comparing 0x40) 2 ≡ called 4 0x02 1 (comparing 0x40)
  pub compares_equal : run_of start (comparing 0xF1) 2 ≡ called 4 0x01 1 (comparing 0xF1)
  pub compares_differ : (run_of start (comparing 0x40) 2).gave.machine ≡ (run_of start (comparing 0xF1) 2).gave.machine → ⊥

moves_tested : (x y : ℕ) → quiet (from 0x81) start (moving x y) 2 ≡ true
unfolding quiet none_in sealed_after turns_of more inner_step did step follow perform exec fetch val fin ◌>>=◌ rightward unless and_then form_of named_of first_base allowed reach instruction_of decode_of copy mvc call outside further field span when operand_reads operand_writes register_reads instruction_reads reads_of writes_of
moves_tested x y = refl

sets_tested : (x y : ℕ) → quiet (from 0x80) start (setting x y) 3 ≡ true
unfolding quiet none_in sealed_after turns_of more inner_step did step follow perform exec fetch val fin ◌>>=◌ rightward unless and_then form_of named_of first_base allowed reach instruction_of decode_of copy mvc mvi call outside further field span when operand_reads operand_writes register_reads instruction_reads reads_of writes_of
sets_tested x y = refl

-- the first step takes place, and its list has 0080
compares_taken : (x : ℕ) → Takes start (comparing x) 2 0
unfolding size_allowed budget_allowed status_allowed turns_of
compares_taken x = record { entered = record { size = refl; budget = refl; status = refl }; unspent = omega arith; executed = refl }

compares_listed : (x : ℕ) → elem (mem 0x80) (reads_at start (comparing x) 0) ≡ true
unfolding turns_of form_of named_of first_base allowed reach instruction_of decode_of outside field span when operand_reads register_reads instruction_reads reads_of
compares_listed x = refl

compares_sealed : (x : ℕ) → sealed_byte (from 0x80) start (comparing x) 0 0x80 ≡ true
unfolding sealed_after
compares_sealed x = refl

pub sealed_cases : SealedCases
unfolding sealed_after run_of turns_of more inner_step did step follow perform exec fetch val fin ◌>>=◌ rightward unless and_then size_allowed budget_allowed status_allowed set_order order_of form_of named_of first_base allowed reach instruction_of decode_of copy mvc mvi cli call outside further field when operand_writes writes_of
sealed_cases =
    record {
      moves_quiet = λ x y. quiet_reads (from 0x81) start (moving x y) 2 (moves_tested x y);
      moves_gives = λ x y. refl;
      moves_opens = λ x y. refl;
      moves_keeps = λ x y. refl;
      sets_quiet = λ x y. quiet_reads (from 0x80) start (setting x y) 3 (sets_tested x y);
      sets_gives = λ x y. refl;
      compares_reads = λ x q. true≢false (sym (compares_sealed x) ∙ q 0 (compares_taken x) 0x80 (compares_listed x));
      compares_low = refl;
      compares_equal = refl;
      compares_differ = λ e. omega (arith, ap (λ (m : Machine). m.status) e);
    }
