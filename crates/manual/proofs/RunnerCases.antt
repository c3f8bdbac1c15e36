-- Document 01's example of the deck runner, computed: the whole line. What carries it: the run stops at its second instruction, so a run of 2 is the run of a million.
use Rattle.std.proofs.Common.{Ok, ℕ, arith, ◌≡◌, refl, ◌∙◌, List, [], ◌∷◌, ◌++◌, replicate}
use Rattle.manual.specs.declared.Machine.{Machine}
use Rattle.manual.specs.declared.Answer.TheVariants.{Stopped}
use Rattle.manual.specs.declared.Stop.TheVariants.{Supervisor}
use Rattle.manual.specs.Programs.{val, fin, ◌>>=◌, rightward, unless, and_then}
use Rattle.manual.specs.TheMachine.{size_allowed, budget_allowed, status_allowed}
use Rattle.manual.specs.Formats.{form_of, named_of, first_base, allowed, reach}
use Rattle.manual.specs.Decode.{instruction_of, fetch}
use Rattle.manual.specs.Immediate.{mvi}
use Rattle.manual.specs.Branches.{call}
use Rattle.manual.specs.Step.{exec, perform, follow, step, did, inner_step}
use Rattle.manual.specs.Run.{ran, more, turns_of, run_of}
use Rattle.manual.specs.Deck.{machine_in, all_zero, first_answer, page_answer, later_answer, deck_answer, over, paged, storage_in, read_of}
use Rattle.manual.specs.Runner.{decimal, run_line, number_line, too_large, budget, line_of}
use Rattle.manual.proofs.Runs.{run_stays}

-- one page, IAR 0000, all registers 0000, status 01, page beginning 3C F1 00 10 F4 00 02 then zeros
abbrev code : List ℕ
code = 0x3C ∷ 0xF1 ∷ 0x00 ∷ 0x10 ∷ 0xF4 ∷ 0x00 ∷ 0x02 ∷ []

abbrev page : List ℕ
page = code ++ replicate 249 0

abbrev deck : List ℕ
deck = (0x01 ∷ 0 ∷ replicate 16 0 ++ 0x01 ∷ []) ++ (0x02 ∷ 0 ∷ page) ++ 0x03 ∷ []

abbrev machine : ℕ → Machine
machine iar = record { iar = iar; arr = 0; xr1 = 0; xr2 = 0; wr = 0 ∷ 0 ∷ 0 ∷ 0 ∷ []; status = 1 }

-- MVI has put F1 at 0010
abbrev after : List ℕ
after = code ++ replicate 9 0 ++ 0xF1 ∷ replicate 239 0

reads : read_of deck (replicate 256 0) ≡ record { gave = record { machine = machine 0; answer = (Ok tt) }; storage = page }
unfolding deck_answer first_answer later_answer page_answer all_zero status_allowed over read_of machine_in storage_in paged
reads = refl

runs_two : run_of (machine 0) page 2 ≡ ran (machine 4) (Stopped (Supervisor 0 2)) 1 after
unfolding run_of turns_of more inner_step did step follow perform exec fetch val fin ◌>>=◌ rightward unless and_then size_allowed budget_allowed status_allowed form_of named_of first_base allowed reach instruction_of mvi call
runs_two = refl

runs : run_of (machine 0) page budget ≡ ran (machine 4) (Stopped (Supervisor 0 2)) 1 after
unfolding budget_allowed
runs = run_stays (machine 0) page 2 budget (omega arith) refl (rw runs_two (λ e. omega arith)) ∙ runs_two

-- 9 0004 0000 0000 0000 0000 0000 0000 0000 01 1 00 02
abbrev text : List ℕ
text =
    57 ∷ 32 ∷ 48 ∷ 48 ∷ 48 ∷ 52 ∷ 32 ∷ 48 ∷ 48 ∷ 48 ∷ 48 ∷ 32 ∷ 48 ∷ 48 ∷ 48 ∷ 48 ∷ 32 ∷ 48 ∷ 48 ∷ 48 ∷ 48 ∷ 32 ∷ 48 ∷ 48 ∷ 48 ∷ 48
    ∷ 32 ∷ 48 ∷ 48 ∷ 48 ∷ 48 ∷ 32 ∷ 48 ∷ 48 ∷ 48 ∷ 48 ∷ 32 ∷ 48 ∷ 48 ∷ 48 ∷ 48 ∷ 32 ∷ 48 ∷ 49 ∷ 32 ∷ 49 ∷ 32 ∷ 48 ∷ 48 ∷ 32 ∷ 48 ∷ 50 ∷ 10 ∷ []

pub runner_example : line_of deck ≡ text
unfolding line_of too_large run_line decimal
runner_example = rw (reads, runs)

-- 18 before the deck is looked at, and the number of a refused deck alone
pub runner_too_large : line_of (0x01 ∷ 64 ∷ []) ≡ 49 ∷ 56 ∷ 10 ∷ []
unfolding line_of too_large number_line decimal
runner_too_large = refl

pub runner_refused : line_of [] ≡ 49 ∷ 49 ∷ 10 ∷ []
unfolding line_of too_large number_line decimal deck_answer first_answer read_of
runner_refused = refl
