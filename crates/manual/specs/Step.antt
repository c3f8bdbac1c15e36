-- One step: what it answers, the machine and the storage after it.
use Rattle.std.specs.Prelude.{◌≡◌, cond, List, ℕ, ◌+◌, ◌-◌, ◌%◌, length, Ok, Err}
use Rattle.std.proofs.Common.{ap, sym, ◌∙◌}
use Rattle.manual.specs.declared.Machine.{Machine}
use Rattle.manual.specs.declared.Register.TheVariants.{Arr, Xr1, Xr2}
use Rattle.manual.specs.declared.Operation.{Operation}
use Rattle.manual.specs.declared.Operation.TheVariants.{Zaz, Az, Sz, Mvx, Ed, Itc, Mvc, Clc, Alc, Slc, St, L, A, S, Tbn, Tbf, Sbn, Sbf, Mvi, Cli, Sli, Bc, Jc, La, Svc}
use Rattle.manual.specs.declared.Base.{Base}
use Rattle.manual.specs.declared.Base.TheVariants.{Absent, Direct, FromXr1, FromXr2, FromArr, Forward, Backward}
use Rattle.manual.specs.declared.Instruction.{Instruction}
use Rattle.manual.specs.declared.Fields.{Fields}
use Rattle.manual.specs.declared.Answer.{Answer}
use Rattle.manual.specs.declared.Answer.TheVariants.{Executed, Refused, Stopped}
use Rattle.manual.specs.declared.Refusal.TheVariants.{SizeRefused, StatusRefused}
use Rattle.manual.specs.declared.Stepped.{Stepped}
use Rattle.manual.specs.Places.{reg, State, state}
use Rattle.manual.specs.Programs.{Prog, ret, rd, val, fin, ◌>>=◌, Out, stop, go, Given, Rule}
use Rattle.manual.specs.TheMachine.{size_allowed, status_allowed}
use Rattle.manual.specs.Decode.{fetch, Decoded}
use Rattle.manual.specs.Zoned.{zaz, az, sz}
use Rattle.manual.specs.Edit.{mvx, ed, itc}
use Rattle.manual.specs.Logical.{mvc, clc, alc, slc}
use Rattle.manual.specs.Registers.{store, load, add, subtract}
use Rattle.manual.specs.Immediate.{tbn, tbf, sbn, sbf, mvi, cli, sli}
use Rattle.manual.specs.Branches.{branch, jump, load_address, call}

-- ---- the rule

unfoldable pub exec : Operation → Fields → Rule
exec Zaz f = zaz f
exec Az f = az f
exec Sz f = sz f
exec Mvx f = mvx f
exec Ed f = ed f
exec Itc f = itc f
exec Mvc f = mvc f
exec Clc f = clc f
exec Alc f = alc f
exec Slc f = slc f
exec St f = store f
exec L f = load f
exec A f = add f
exec S f = subtract f
exec Tbn f = tbn f
exec Tbf f = tbf f
exec Sbn f = sbn f
exec Sbf f = sbf f
exec Mvi f = mvi f
exec Cli f = cli f
exec Sli f = sli f
exec Bc f = branch f
exec Jc f = jump f
exec La f = load_address f
exec Svc f = call f

-- a base plus displacement is taken modulo 65,536
abbrev pub based : ℕ → ℕ → ℕ
based x d = (x + d) % 65536

-- the address of an operand; a jump's target, from the next instruction, is also taken modulo 65,536
abbrev pub addressed : Base → ℕ → ℕ → (ℕ → Prog Out) → Prog Out
addressed Absent next d k = k 0
addressed Direct next d k = k d
addressed FromXr1 next d k = rd (reg Xr1) λ x. k (based x d)
addressed FromXr2 next d k = rd (reg Xr2) λ x. k (based x d)
addressed FromArr next d k = rd (reg Arr) λ x. k (based x d)
addressed Forward next d k = k (based next d)
addressed Backward next d k = k (based next (65536 - d))

abbrev pub fields : Instruction → ℕ → ℕ → Fields
fields i a1 a2 = record { q = i.q; r = i.r; a1 = a1; a2 = a2; next = i.next }

unfoldable pub perform : Instruction → Rule
perform i g =
    addressed i.first.base i.next i.first.number λ a1.
    addressed i.second.base i.next i.second.number λ a2.
    exec i.operation (fields i a1 a2) g

-- the step goes on only with an instruction
unfoldable pub follow : Decoded → Rule
follow (Ok i) g = perform i g
follow (Err x) g = ret (stop x)

unfoldable pub step : Rule
step g = fetch g.size g.iar >>= λ d. follow d g

-- ---- what it leaves

pub record Outcome : Type 0 where
  pub gave : Stepped
  pub storage : List ℕ

abbrev pub outcome : Stepped → List ℕ → Outcome
outcome r s = record { gave = r; storage = s }

abbrev pub ended : Machine → Answer → List ℕ → Outcome
ended m a s = outcome (record { machine = m; answer = a }) s

-- the machine with another IAR and status
abbrev pub moved : Machine → ℕ → ℕ → Machine
moved m i x = record { iar = i; arr = m.arr; xr1 = m.xr1; xr2 = m.xr2; wr = m.wr; status = x }

-- a stop changes no register or byte, and IAR stays at the stopped instruction
abbrev pub settle : Machine → List ℕ → Out → State → Outcome
settle m s (stop x) τ = ended m (Stopped x) s
settle m s (go i x) τ = ended (moved τ.machine i x) Executed τ.bytes

abbrev pub given : Machine → List ℕ → Given
given m s = record { size = length s; iar = m.iar; status = m.status }

-- what the rule makes of the machine m and the storage s
unfoldable pub did : Machine → List ℕ → Rule → Outcome
did m s rule = settle m s (val (rule (given m s)) (state m s)) (fin (rule (given m s)) (state m s))

-- the result r and the storage t afterwards are what the rule makes of m and s
abbrev pub Does : Machine → List ℕ → Rule → Stepped → List ℕ → Type 0
Does m s rule r t = outcome r t ≡ did m s rule

-- a part of a rule, over any machine, gives v and leaves the storage t
abbrev pub Gives : {A : Type 0} → Prog A → List ℕ → A → List ℕ → Type 0
Gives p s v t = (m : Machine) → (val p (state m s) ≡ v) × (fin p (state m s) ≡ state m t)

-- ---- the step: inside a run, and as it is called, with 1 and 3 at entry

unfoldable pub inner_step : Machine → List ℕ → Outcome
inner_step m s = did m s step

unfoldable pub step_of : Machine → List ℕ → Outcome
step_of m s =
    cond (size_allowed (length s))
    (cond (status_allowed m.status) (inner_step m s) (ended m (Refused StatusRefused) s))
    (ended m (Refused SizeRefused) s)

-- a step of m over s gave r and left t
abbrev pub SteppedAs : Machine → List ℕ → Stepped → List ℕ → Type 0
SteppedAs m s r t = outcome r t ≡ step_of m s

-- two outcomes that it allows coincide
pub stepped_once : (m : Machine) (s : List ℕ) (r r' : Stepped) (t t' : List ℕ) → SteppedAs m s r t → SteppedAs m s r' t' → (r ≡ r') × (t ≡ t')
stepped_once m s r r' t t' h h' = (ap (λ (o : Outcome). o.gave) (h ∙ sym h'), ap (λ (o : Outcome). o.storage) (h ∙ sym h'))
