-- The places that a step reads and writes: bytes of storage, and registers by name. IAR and the status go in and come out by value.
use Rattle.std.specs.Prelude.{Bool, true, false, List, ℕ, get_or, set, eqb}
use Rattle.manual.specs.declared.Machine.{Machine}
use Rattle.manual.specs.declared.Register.{Register}
use Rattle.manual.specs.declared.Register.TheVariants.{Arr, Xr1, Xr2, Work}

pub data Place : Type 0 where
  mem : ℕ → Place
  reg : Register → Place

-- what a program works on: the machine's record and the bytes of storage
pub record State : Type 0 where
  pub machine : Machine
  pub bytes : List ℕ

abbrev pub state : Machine → List ℕ → State
state m s = record { machine = m; bytes = s }

abbrev pub register_of : Machine → Register → ℕ
register_of m Arr = m.arr
register_of m Xr1 = m.xr1
register_of m Xr2 = m.xr2
register_of m (Work i) = get_or m.wr i 0

abbrev pub with_register : Machine → Register → ℕ → Machine
with_register m Arr v = record { iar = m.iar; arr = v; xr1 = m.xr1; xr2 = m.xr2; wr = m.wr; status = m.status }
with_register m Xr1 v = record { iar = m.iar; arr = m.arr; xr1 = v; xr2 = m.xr2; wr = m.wr; status = m.status }
with_register m Xr2 v = record { iar = m.iar; arr = m.arr; xr1 = m.xr1; xr2 = v; wr = m.wr; status = m.status }
with_register m (Work i) v = record { iar = m.iar; arr = m.arr; xr1 = m.xr1; xr2 = m.xr2; wr = set m.wr i v; status = m.status }

abbrev pub look : Place → State → ℕ
look (mem a) σ = get_or σ.bytes a 0
look (reg r) σ = register_of σ.machine r

abbrev pub put : Place → ℕ → State → State
put (mem a) v σ = record { machine = σ.machine; bytes = set σ.bytes a v }
put (reg r) v σ = record { machine = with_register σ.machine r v; bytes = σ.bytes }

-- the same register, the same place
abbrev pub same_register : Register → Register → Bool
same_register Arr Arr = true
same_register Arr Xr1 = false
same_register Arr Xr2 = false
same_register Arr (Work j) = false
same_register Xr1 Arr = false
same_register Xr1 Xr1 = true
same_register Xr1 Xr2 = false
same_register Xr1 (Work j) = false
same_register Xr2 Arr = false
same_register Xr2 Xr1 = false
same_register Xr2 Xr2 = true
same_register Xr2 (Work j) = false
same_register (Work i) Arr = false
same_register (Work i) Xr1 = false
same_register (Work i) Xr2 = false
same_register (Work i) (Work j) = eqb i j

abbrev pub same : Place → Place → Bool
same (mem a) (mem b) = eqb a b
same (mem a) (reg q) = false
same (reg r) (mem b) = false
same (reg r) (reg q) = same_register r q
