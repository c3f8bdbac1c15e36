-- One step, from two machines and storages that agree at every place that isn't sealed. What carries it: a step is a program, and its lists are exact.
use Rattle.std.proofs.Common.{◌≡◌, refl, ap, sym, ◌∙◌, Bool, true, false, List, ℕ}
use Rattle.manual.specs.declared.Machine.{Machine}
use Rattle.manual.specs.declared.Register.TheVariants.{Arr, Xr1, Xr2, Work}
use Rattle.manual.specs.declared.Answer.{Answer}
use Rattle.manual.specs.declared.Answer.TheVariants.{Executed, Refused, Stopped}
use Rattle.manual.specs.Places.{Place, mem, reg, State, state, look}
use Rattle.manual.specs.Programs.{val, fin, wrote, Out, stop, go, Given}
use Rattle.manual.specs.Step.{moved, settle, given, did, step, inner_step}
use Rattle.manual.specs.Reads.{elem, reads_of, writes_of}
use Rattle.manual.specs.Run.{counted}
use Rattle.manual.proofs.Exact.{reads_exact}
use Rattle.manual.proofs.Wrote.{writes_exact}
use Rattle.sealed.specs.Sealed.{without, Agree, Same}
use Rattle.sealed.proofs.Depends.{Alike, alike, kept}

-- a step that doesn't stop opens what it writes
abbrev pub opens : Answer → (Place → Bool) → List Place → Place → Bool
opens Executed z ws = without z ws
opens (Refused x) z ws = z
opens (Stopped x) z ws = z

-- IAR and the status are no places
look_moved : (x : Place) (σ : State) (i y : ℕ) → look x (state (moved σ.machine i y) σ.bytes) ≡ look x σ
look_moved (mem a) σ i y = refl
look_moved (reg Arr) σ i y = refl
look_moved (reg Xr1) σ i y = refl
look_moved (reg Xr2) σ i y = refl
look_moved (reg (Work j)) σ i y = refl

agree_moved : (z : Place → Bool) (σ τ : State) (i y : ℕ) → Agree z σ τ → Agree z (state (moved σ.machine i y) σ.bytes) (state (moved τ.machine i y) τ.bytes)
agree_moved z σ τ i y h = record { size = h.size; works = h.works; rest = λ x e. look_moved x σ i y ∙ h.rest x e ∙ sym (look_moved x τ i y) }

-- ---- what is kept

module _ (m : Machine) (s : List ℕ) (x : Place) where
  keep_settled : (o : Out) (τ : State) → look x τ ≡ look x (state m s) → look x (state (settle m s o τ).gave.machine (settle m s o τ).storage) ≡ look x (state m s)
  keep_settled (stop y) τ h = refl
  keep_settled (go i y) τ h = look_moved x τ i y ∙ h

  -- a place that a step's list of writes doesn't have keeps its value
  pub step_keeps : elem x (writes_of m s) ≡ false → look x (state (inner_step m s).gave.machine (inner_step m s).storage) ≡ look x (state m s)
  unfolding inner_step did
  step_keeps e =
      keep_settled (val (step (given m s)) (state m s)) (fin (step (given m s)) (state m s))
      (kept (step (given m s)) (state m s) x (ap (elem x) (writes_exact m s) ∙ e))

-- ---- what two steps have in common

module _ (z : Place → Bool) (m n : Machine) (s t : List ℕ) (ei : m.iar ≡ n.iar) (es : m.status ≡ n.status) (a : Agree z (state m s) (state n t)) where
  -- the outcomes of one program
  settled : (j : ℕ) (o : Out) (ws : List Place) (σ τ : State) → Agree (without z ws) σ τ
      → Same (opens (settle m s o σ).gave.answer z ws) (counted j (settle m s o σ)) (counted j (settle n t o τ))
  settled j (stop y) ws σ τ h = record { ended = refl; iar = ei; status = es; agree = a }
  settled j (go i y) ws σ τ h = record { ended = refl; iar = refl; status = refl; agree = agree_moved (without z ws) σ τ i y h }

  same_given : given n t ≡ given m s
  same_given = rw (ei, es, a.size)

  module _ (q : (x : Place) → elem x (reads_of m s) ≡ true → z x ≡ false) where
    both : Alike z (step (given m s)) (state m s) (state n t)
    both = alike z (step (given m s)) (state m s) (state n t) a (λ x e. q x (sym (reads_exact m s x) ∙ e))

    -- both steps write the same places
    pub step_writes : writes_of m s ≡ writes_of n t
    step_writes = sym (writes_exact m s) ∙ both.writes ∙ ap (λ (g : Given). wrote (step g) (state n t)) (sym same_given) ∙ writes_exact n t

    -- a step that reads no sealed place
    pub step_same : (j : ℕ) → Same (opens (inner_step m s).gave.answer z (writes_of m s)) (counted j (inner_step m s)) (counted j (inner_step n t))
    unfolding inner_step did
    step_same j =
        rw (same_given, ← both.gives, ← writes_exact m s)
        (settled j (val (step (given m s)) (state m s)) (wrote (step (given m s)) (state m s)) (fin (step (given m s)) (state m s)) (fin (step (given m s)) (state n t)) both.agree)
