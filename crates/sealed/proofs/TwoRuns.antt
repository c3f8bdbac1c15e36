-- Demand 3, of the manual's run and of what `run` and `step` answer. What carries it: the law over places, where no register is sealed.
use Rattle.std.proofs.Common.{◌≡◌, refl, ap, sym, ◌∙◌, subst, Bool, true, false, List, ℕ, zero, suc, arith, length, ext_get_or}
use Rattle.manual.specs.declared.Machine.{Machine}
use Rattle.manual.specs.declared.Register.{Register}
use Rattle.manual.specs.declared.Register.TheVariants.{Arr, Xr1, Xr2, Work}
use Rattle.manual.specs.declared.Stepped.{Stepped}
use Rattle.manual.specs.declared.Ran.{Ran}
use Rattle.manual.specs.TheMachine.{size_allowed, budget_allowed, status_allowed}
use Rattle.manual.specs.Places.{Place, mem, reg, state, look}
use Rattle.manual.specs.Step.{outcome, inner_step, step_of, SteppedAs}
use Rattle.manual.specs.Reads.{elem, reads_of}
use Rattle.manual.specs.Run.{RanOutcome, ran_outcome, counted, more, turns_of, run_of, RanAs}
use Rattle.sealed.specs.Sealed.{sealed_after, ReadsNoSealed, Agree, SealHolds}
use Rattle.sealed.specs.Demand3.{sealing, DifferIn, ReadsNoSealedByte, NoLeak, Demand3}
use Rattle.sealed.proofs.SealedRun.{seal_holds}
use Rattle.manual.proofs.Running.{cond_map_2}

-- ---- no register is sealed

never : (z : ℕ → Bool) (m : Machine) (s : List ℕ) (k : ℕ) (r : Register) → sealed_after (sealing z) m s k (reg r) ≡ false
unfolding sealed_after
never z m s zero r = refl
never z m s (suc k) r = rw (never z m s k r)

reads_no_place : (z : ℕ → Bool) (m : Machine) (s : List ℕ) (b : ℕ) → ReadsNoSealedByte z m s b → ReadsNoSealed (sealing z) m s b
reads_no_place z m s b q k h (mem a) e = q k h a e
reads_no_place z m s b q k h (reg r) e = never z m s k r

agree_bytes : (z : ℕ → Bool) (m : Machine) (s t : List ℕ) → DifferIn z s t → Agree (sealing z) (state m s) (state m t)
agree_bytes z m s t d = record { size = d.size; works = refl; rest = on }
  where
    on : (x : Place) → sealing z x ≡ false → look x (state m s) ≡ look x (state m t)
    on (mem a) e = d.rest a e
    on (reg r) e = refl

-- a machine is its fields
same_machine : (m n : Machine) → m.iar ≡ n.iar → m.arr ≡ n.arr → m.xr1 ≡ n.xr1 → m.xr2 ≡ n.xr2 → m.wr ≡ n.wr → m.status ≡ n.status → m ≡ n
same_machine m n a b c d e f = λ i. record { iar = a i; arr = b i; xr1 = c i; xr2 = d i; wr = e i; status = f i }

-- a law over places, where no register is sealed, read for bytes
of_bytes : (still : Place → Bool) (m n : Machine) (s t : List ℕ) (u v : RanOutcome)
    → ((r : Register) → still (reg r) ≡ false) → SealHolds still (state m s) (state n t) u v → NoLeak (λ a. still (mem a)) s t u v
of_bytes still m n s t u v o h =
    let c = h.same.agree.rest in
    record {
      ended = h.same.ended;
      machine =
          same_machine u.gave.machine v.gave.machine h.same.iar (c (reg Arr) (o Arr)) (c (reg Xr1) (o Xr1)) (c (reg Xr2) (o Xr2))
          (ext_get_or 0 _ _ h.same.agree.works (λ i l. c (reg (Work i)) (o (Work i)))) h.same.status;
      size = h.same.agree.size;
      opened = λ a. c (mem a);
      first_keeps = λ a. h.first_keeps (mem a);
      second_keeps = λ a. h.second_keeps (mem a);
    }

-- ---- demand 3, for every machine, storage, budget and set of sealed bytes

pub demand_3 : (m : Machine) (s t : List ℕ) (b : ℕ) → Demand3 m s t b (run_of m s b) (run_of m t b)
demand_3 m s t b z d q =
    of_bytes _ m m s t _ _ (never z m s (run_of m s b).gave.ended.steps) (seal_holds (sealing z) m m s t b refl refl (agree_bytes z m s t d) (reads_no_place z m s b q))

-- of any two results that the statement of `run` allows
pub run_demand_3 : (m : Machine) (s t : List ℕ) (b : ℕ) (r r' : Ran) (s' t' : List ℕ)
    → RanAs m s b r s' → RanAs m t b r' t' → Demand3 m s t b (ran_outcome r s') (ran_outcome r' t')
run_demand_3 m s t b r r' s' t' e f z d q = rw (e, f) (demand_3 m s t b z d q)

-- ---- one step is the run of budget 1

run_of_one : (m : Machine) (s : List ℕ) → run_of m s 1 ≡ counted 0 (step_of m s)
unfolding run_of step_of turns_of more budget_allowed
run_of_one m s = sym (cond_map_2 (counted 0) (size_allowed (length s)) (status_allowed m.status) (inner_step m s) _ _)

-- of any two results that the statement of `step` allows, counted as a run counts them
pub step_demand_3 : (m : Machine) (s t : List ℕ) (r r' : Stepped) (s' t' : List ℕ)
    → SteppedAs m s r s' → SteppedAs m t r' t' → Demand3 m s t 1 (counted 0 (outcome r s')) (counted 0 (outcome r' t'))
step_demand_3 m s t r r' s' t' e f =
    subst (λ (u : RanOutcome). Demand3 m s t 1 u (counted 0 (outcome r' t'))) (run_of_one m s ∙ ap (counted 0) (sym e))
    (subst (λ (v : RanOutcome). Demand3 m s t 1 (run_of m s 1) v) (run_of_one m t ∙ ap (counted 0) (sym f)) (demand_3 m s t 1))

-- what has to be shown of one step: nothing on its list is sealed
pub one_step_reads : (z : ℕ → Bool) (m : Machine) (s : List ℕ) → ((a : ℕ) → elem (mem a) (reads_of m s) ≡ true → z a ≡ false) → ReadsNoSealedByte z m s 1
unfolding sealed_after turns_of
one_step_reads z m s q zero h a e = q a e
one_step_reads z m s q (suc k) h a e = absurd (omega (arith, h.unspent))
