-- A step stops exactly where the order of the stops says, with that stop, and executes where nothing stands in its way.
-- What carries it: how the stop goes through each form of a program, then one line an operation.
use Rattle.std.proofs.Common.{Ok, Err, ◌≡◌, refl, Bool, cond, List, ℕ}
use Rattle.manual.specs.declared.Machine.{Machine}
use Rattle.manual.specs.declared.Stop.{Stop}
use Rattle.manual.specs.declared.Answer.{Answer}
use Rattle.manual.specs.declared.Answer.TheVariants.{Executed, Stopped}
use Rattle.manual.specs.declared.Operation.{Operation}
use Rattle.manual.specs.declared.Operation.TheVariants.{Zaz, Az, Sz, Mvx, Ed, Itc, Mvc, Clc, Alc, Slc, St, L, A, S, Tbn, Tbf, Sbn, Sbf, Mvi, Cli, Sli, Bc, Jc, La, Svc}
use Rattle.manual.specs.declared.Fields.{Fields}
use Rattle.manual.specs.Places.{Place, State, state, look, put}
use Rattle.manual.specs.Programs.{Prog, ret, rd, wr, val, fin, ◌>>=◌, Out, stop, go, Rule, unless, and_then, Way}
use Rattle.manual.specs.Decode.{decode_of, Decoded}
use Rattle.manual.specs.Zoned.{put_result, zaz, combine}
use Rattle.manual.specs.Edit.{mvx, ed, itc}
use Rattle.manual.specs.Logical.{mvc, clc, alc, slc}
use Rattle.manual.specs.Registers.{store, load, add, subtract}
use Rattle.manual.specs.Immediate.{tbn, tbf, sbn, sbf, mvi, cli, sli}
use Rattle.manual.specs.Branches.{branch, jump, load_address, call}
use Rattle.manual.specs.Step.{exec, given, settle, did, inner_step}
use Rattle.manual.specs.Stops.{fields_of, outside, further, barred, barred_in, barred_at}
use Rattle.manual.proofs.Running.{val_bind, val_leftward, fin_leftward, cond_same, cond_map}
use Rattle.manual.proofs.Fetched.{did_step, did_stop, did_perform}

-- the answer where w stands in the way
abbrev pub answer_of : Way → Answer
answer_of (Ok tt) = Executed
answer_of (Err x) = Stopped x

-- what a rule ended on
unfoldable pub way_of : Out → Way
way_of (stop x) = Err x
way_of (go i x) = (Ok tt)

-- ---- the forms of a program

-- what stands in a program's way, from the state σ on
unfoldable pub meets : Prog Out → State → Way
meets p σ = way_of (val p σ)

a_stop : (x : Stop) (σ : State) → meets (ret (stop x)) σ ≡ Err x
unfolding meets way_of val
a_stop x σ = refl

a_go : (i x : ℕ) (σ : State) → meets (ret (go i x)) σ ≡ Ok tt
unfolding meets way_of val
a_go i x σ = refl

a_rd : (l : Place) (k : ℕ → Prog Out) (σ : State) → meets (rd l k) σ ≡ meets (k (look l σ)) σ
unfolding meets val
a_rd l k σ = refl

a_wr : (l : Place) (v : ℕ) (p : Prog Out) (σ : State) → meets (wr l v p) σ ≡ meets p (put l v σ)
unfolding meets val
a_wr l v p σ = refl

a_cond : (b : Bool) (p q : Prog Out) (σ : State) → meets (cond b p q) σ ≡ cond b (meets p σ) (meets q σ)
a_cond b p q σ = cond_map (λ (r : Prog Out). meets r σ) b p q

a_unless : (w : Way) (p : Prog Out) (σ : State) → meets (unless w p) σ ≡ and_then w (meets p σ)
unfolding unless and_then
a_unless (Ok tt) p σ = refl
a_unless (Err x) p σ = a_stop x σ

a_bind : {X : Type 0} (p : Prog X) (f : X → Prog Out) (σ : State) → meets (p >>= f) σ ≡ meets (f (val p σ)) (fin p σ)
unfolding meets
a_bind p f σ = rw (val_bind p f σ)

then_clear : (w : Way) → and_then w (Ok tt) ≡ w
unfolding and_then
then_clear (Ok tt) = refl
then_clear (Err x) = refl

clear_then : (w : Way) → and_then (Ok tt) w ≡ w
unfolding and_then
clear_then w = refl

then_assoc : (u v w : Way) → and_then (and_then u v) w ≡ and_then u (and_then v w)
unfolding and_then
then_assoc (Ok tt) v w = refl
then_assoc (Err x) v w = refl

ruleset answering = (a_stop, a_go, a_rd, a_wr, a_cond, a_unless, a_bind, then_clear, clear_then, then_assoc, cond_same, val_leftward, fin_leftward)

-- ---- the operations

module _ (m : Machine) (s : List ℕ) where
  a_exec : (op : Operation) (f : Fields) → meets (exec op f (given m s)) (state m s) ≡ barred op f s
  unfolding exec outside further zaz combine put_result mvx ed itc mvc clc alc slc store load add subtract tbn tbf sbn sbf mvi cli sli branch jump load_address call
  a_exec Zaz f = simp answering
  a_exec Az f = simp answering
  a_exec Sz f = simp answering
  a_exec Mvx f = simp answering
  a_exec Ed f = simp answering
  a_exec Itc f = simp answering
  a_exec Mvc f = simp answering
  a_exec Clc f = simp answering
  a_exec Alc f = simp answering
  a_exec Slc f = simp answering
  a_exec St f = simp answering
  a_exec L f = simp answering
  a_exec A f = simp answering
  a_exec S f = simp answering
  a_exec Tbn f = simp answering
  a_exec Tbf f = simp answering
  a_exec Sbn f = simp answering
  a_exec Sbf f = simp answering
  a_exec Mvi f = simp answering
  a_exec Cli f = simp answering
  a_exec Sli f = simp answering
  a_exec Bc f = simp answering
  a_exec Jc f = simp answering
  a_exec La f = simp answering
  a_exec Svc f = simp answering

  answer_settled : (o : Out) (τ : State) → (settle m s o τ).gave.answer ≡ answer_of (way_of o)
  unfolding way_of
  answer_settled (stop x) τ = refl
  answer_settled (go i x) τ = refl

  answer_did : (rule : Rule) → (did m s rule).gave.answer ≡ answer_of (meets (rule (given m s)) (state m s))
  unfolding did meets
  answer_did rule = answer_settled _ _

  answer_in : (d : Decoded) → decode_of s m.iar ≡ d → (inner_step m s).gave.answer ≡ answer_of (barred_in m s d)
  answer_in (Err x) e = rw (did_step, e, did_stop)
  answer_in (Ok i) e = rw (did_step, e, did_perform, answer_did, a_exec i.operation (fields_of m i))

  -- a step's answer, by the order of the stops
  pub step_answer : (inner_step m s).gave.answer ≡ answer_of (barred_at m s)
  unfolding barred_at
  step_answer = answer_in (decode_of s m.iar) refl
