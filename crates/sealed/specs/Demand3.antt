-- Demand 3, sentence by sentence. Run twice with equal registers, status, budget and storage size: one machine m and one budget b, over storages s and t.
use Rattle.std.specs.Prelude.{◌≡◌, Bool, true, false, List, ℕ, length, get_or}
use Rattle.manual.specs.declared.Machine.{Machine}
use Rattle.manual.specs.declared.Ran.{Ran}
use Rattle.manual.specs.Places.{Place, mem, reg}
use Rattle.manual.specs.Reads.{elem}
use Rattle.manual.specs.Run.{RanOutcome, ran_outcome, RanAs}
use Rattle.sealed.specs.Sealed.{Takes, reads_at, sealed_after, still_sealed}

-- Call some storage bytes sealed: those of z, and no register
abbrev pub sealing : (ℕ → Bool) → Place → Bool
sealing z (mem a) = z a
sealing z (reg r) = false

-- they may differ between the runs, the rest agree
pub record DifferIn (z : ℕ → Bool) (s t : List ℕ) : Type 0 where
  pub size : length s ≡ length t
  pub rest : (a : ℕ) → z a ≡ false → get_or s a 0 ≡ get_or t a 0

-- A sealed byte opens once an earlier step has written it: the bytes still sealed after k executed steps, and when the first run has ended
abbrev pub sealed_byte : (ℕ → Bool) → Machine → List ℕ → ℕ → ℕ → Bool
sealed_byte z m s k a = sealed_after (sealing z) m s k (mem a)

abbrev pub still_sealed_byte : (ℕ → Bool) → Machine → List ℕ → ℕ → ℕ → Bool
still_sealed_byte z m s b a = still_sealed (sealing z) m s b (mem a)

-- If no step of the first run, a stopped one included, reads a byte still sealed, by document 01's list of what each step reads
abbrev pub ReadsNoSealedByte : (ℕ → Bool) → Machine → List ℕ → ℕ → Type 0
ReadsNoSealedByte z m s b = (k : ℕ) → Takes m s b k → (a : ℕ) → elem (mem a) (reads_at m s k) ≡ true → sealed_byte z m s k a ≡ false

-- then, where u is what the first run gave and v what the second gave,
pub record NoLeak (still : ℕ → Bool) (s t : List ℕ) (u v : RanOutcome) : Type 0 where
  -- both runs give the same stop and step count, and the same call bytes
  pub ended : u.gave.ended ≡ v.gave.ended
  -- the same registers and status
  pub machine : u.gave.machine ≡ v.gave.machine
  -- Their storages end equal at every byte not still sealed
  pub size : length u.storage ≡ length v.storage
  pub opened : (a : ℕ) → still a ≡ false → get_or u.storage a 0 ≡ get_or v.storage a 0
  -- and each byte still sealed keeps its own starting value
  pub first_keeps : (a : ℕ) → still a ≡ true → get_or u.storage a 0 ≡ get_or s a 0
  pub second_keeps : (a : ℕ) → still a ≡ true → get_or v.storage a 0 ≡ get_or t a 0

-- whichever bytes are called sealed
abbrev pub Demand3 : Machine → List ℕ → List ℕ → ℕ → RanOutcome → RanOutcome → Type 0
Demand3 m s t b u v = (z : ℕ → Bool) → DifferIn z s t → ReadsNoSealedByte z m s b → NoLeak (still_sealed_byte z m s b) s t u v

-- ---- two runs of the code

-- r and r' are what a run over s and one over t gave, s' and t' what they left
pub record RanTwice (m : Machine) (s t : List ℕ) (b : ℕ) (r r' : Ran) (s' t' : List ℕ) : Type 0 where
  pub first : RanAs m s b r s'
  pub second : RanAs m t b r' t'
  pub no_leak : Demand3 m s t b (ran_outcome r s') (ran_outcome r' t')
