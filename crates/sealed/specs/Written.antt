-- Demand 3 for a host: a program that reads only what the host or the run itself has written gives the same morning, whatever the tablet held before.
use Rattle.std.specs.Prelude.{◌≡◌, Bool, true, ◌||◌, List, ℕ, zero, suc, get_or}
use Rattle.manual.specs.declared.Machine.{Machine}
use Rattle.manual.specs.Places.{mem}
use Rattle.manual.specs.Reads.{elem}
use Rattle.manual.specs.Run.{RanOutcome, run_of}
use Rattle.sealed.specs.Sealed.{Takes, reads_at, writes_at}

-- the bytes written by the host, at the addresses h, or by the first k executed steps
unfoldable pub written_after : (ℕ → Bool) → Machine → List ℕ → ℕ → ℕ → Bool
written_after h m s zero a = h a
written_after h m s (suc k) a = written_after h m s k a || elem (mem a) (writes_at m s k)

-- by the host or by the whole run
abbrev pub written : (ℕ → Bool) → Machine → List ℕ → ℕ → ℕ → Bool
written h m s b = written_after h m s (run_of m s b).gave.ended.steps

-- every byte that a step of the run reads was written by the host or by an earlier step
abbrev pub ReadsOnlyWritten : (ℕ → Bool) → Machine → List ℕ → ℕ → Type 0
ReadsOnlyWritten h m s b = (k : ℕ) → Takes m s b k → (a : ℕ) → elem (mem a) (reads_at m s k) ≡ true → written_after h m s k a ≡ true

-- the same answer and machine, and the same bytes at every place that was written
pub record SameMorning (w : ℕ → Bool) (u v : RanOutcome) : Type 0 where
  pub ended : u.gave.ended ≡ v.gave.ended
  pub machine : u.gave.machine ≡ v.gave.machine
  pub bytes : (a : ℕ) → w a ≡ true → get_or u.storage a 0 ≡ get_or v.storage a 0
