-- Sealed places, of storage and of registers: which are still sealed after some steps, when no step reads one, and what two runs then have in common.
use Rattle.std.specs.Prelude.{◌≡◌, Bool, true, false, not, ◌&&◌, List, ℕ, zero, suc, ◌<◌, length}
use Rattle.manual.specs.declared.Machine.{Machine}
use Rattle.manual.specs.declared.Answer.TheVariants.{Executed}
use Rattle.manual.specs.Places.{Place, State, state, look}
use Rattle.manual.specs.When.{Entered}
use Rattle.manual.specs.Reads.{elem, reads_of, writes_of}
use Rattle.manual.specs.Run.{RanOutcome, turns_of, run_of}

-- ---- the steps of a run

-- what the step after k executed ones reads and writes, by document 01's list
abbrev pub reads_at : Machine → List ℕ → ℕ → List Place
reads_at m s k = reads_of (turns_of m s k).gave.machine (turns_of m s k).storage

abbrev pub writes_at : Machine → List ℕ → ℕ → List Place
writes_at m s k = writes_of (turns_of m s k).gave.machine (turns_of m s k).storage

-- a run of m over s with budget b takes a step after k executed ones, be it one that stops: it isn't refused, has budget left and hasn't stopped
pub record Takes (m : Machine) (s : List ℕ) (b k : ℕ) : Type 0 where
  pub entered : Entered m s b
  pub unspent : k < b
  pub executed : (turns_of m s k).gave.ended.answer ≡ Executed

-- ---- what is still sealed

-- the places of z that are not in the list
abbrev pub without : (Place → Bool) → List Place → Place → Bool
without z ws x = z x && not (elem x ws)

-- a sealed place opens once an earlier step has written it: the places still sealed after k executed steps
unfoldable pub sealed_after : (Place → Bool) → Machine → List ℕ → ℕ → Place → Bool
sealed_after z m s zero = z
sealed_after z m s (suc k) = without (sealed_after z m s k) (writes_at m s k)

-- and when the run has ended: a run counts the steps that it executed, none where it is refused
abbrev pub still_sealed : (Place → Bool) → Machine → List ℕ → ℕ → Place → Bool
still_sealed z m s b = sealed_after z m s (run_of m s b).gave.ended.steps

-- no step of the run, a stopped one included, reads a place still sealed
abbrev pub ReadsNoSealed : (Place → Bool) → Machine → List ℕ → ℕ → Type 0
ReadsNoSealed z m s b = (k : ℕ) → Takes m s b k → (x : Place) → elem x (reads_at m s k) ≡ true → sealed_after z m s k x ≡ false

-- ---- two runs

-- two states of one size that agree at every place that isn't sealed
pub record Agree (z : Place → Bool) (σ τ : State) : Type 0 where
  pub size : length σ.bytes ≡ length τ.bytes
  pub works : length σ.machine.wr ≡ length τ.machine.wr
  pub rest : (x : Place) → z x ≡ false → look x σ ≡ look x τ

abbrev pub state_of : RanOutcome → State
state_of u = state u.gave.machine u.storage

-- the same stop with its Q and R, step count, IAR and status; every place that isn't sealed agrees
pub record Same (z : Place → Bool) (u v : RanOutcome) : Type 0 where
  pub ended : u.gave.ended ≡ v.gave.ended
  pub iar : u.gave.machine.iar ≡ v.gave.machine.iar
  pub status : u.gave.machine.status ≡ v.gave.machine.status
  pub agree : Agree z (state_of u) (state_of v)

-- what a run from σ and one from τ gave; each place still sealed keeps its own starting value
pub record SealHolds (still : Place → Bool) (σ τ : State) (u v : RanOutcome) : Type 0 where
  pub same : Same still u v
  pub first_keeps : (x : Place) → still x ≡ true → look x (state_of u) ≡ look x σ
  pub second_keeps : (x : Place) → still x ≡ true → look x (state_of v) ≡ look x τ
