-- The inner step and the turns of the run's loop, over plain variables. What carries it: a step is what decoding finds, performed.
use Rattle.std.proofs.Common.{Ok, Err, ◌≡◌, refl, ap, sym, ◌∙◌, Bool, false, cond, List, length, ℕ, ◌+◌, ◌≤◌}
use Rattle.manual.specs.declared.Machine.{Machine}
use Rattle.manual.specs.declared.Operation.{Operation}
use Rattle.manual.specs.declared.Fields.{Fields}
use Rattle.manual.specs.declared.Answer.TheVariants.{Executed, Refused, Stopped}
use Rattle.manual.specs.declared.Refusal.TheVariants.{SizeRefused, StatusRefused}
use Rattle.manual.specs.declared.Ran.{Ran}
use Rattle.manual.specs.declared.Stop.{Stop}
use Rattle.manual.specs.declared.Stop.TheVariants.{CutShort, OpcodeUnknown, QRefused, OperandOutside, DigitRefused, Supervisor}
use Rattle.manual.specs.Decode.{decode_of, Decoded}
use Rattle.manual.specs.TheMachine.{size_allowed, budget_allowed, status_allowed}
use Rattle.manual.specs.Step.{ended, exec, did, follow, inner_step, step_of, SteppedAs}
use Rattle.manual.specs.Stops.{fields_of}
use Rattle.manual.specs.Run.{ran, turns_of, run_of, RanAs}
use Rattle.manual.proofs.Decoding.{DecodedAt, decoded_at}
use Rattle.manual.proofs.Fetched.{did_step, did_stop, did_perform}
use Rattle.manual.proofs.Runs.{uncounted, one_turn, ran_on, stopped_at, not_stopped}
use Rattle.decode.specs.declared.Fetched.{Fetched}
use Rattle.decode.specs.declared.Fetched.TheVariants.{Go}
use Rattle.decode.specs.Fetching.{fetched_of}
use Rattle.processor.specs.Ending.{fetch_stop, is_go}
use Rattle.manual.proofs.Running.{cond_map_2}

module _ (m : Machine) (s : List ℕ) where
  -- an instruction that decoding found, executed
  module _ (op : Operation) (q r a1 a2 next : ℕ) where
    follows : (d : Decoded) → fetched_of m d ≡ Go op q r a1 a2 next → did m s (exec op (record { q = q; r = r; a1 = a1; a2 = a2; next = next })) ≡ did m s (follow d)
    follows (Ok i) e =
        let o : op ≡ i.operation = cc in
        let f : ◌≡◌ {A = Fields} (record { q = q; r = r; a1 = a1; a2 = a2; next = next }) (fields_of m i) = cc in
        rw (o, f) (sym (did_perform m s i))
    follows (Err CutShort) e = cc
    follows (Err OpcodeUnknown) e = cc
    follows (Err QRefused) e = cc
    follows (Err OperandOutside) e = cc
    follows (Err DigitRefused) e = cc
    follows (Err (Supervisor a b)) e = cc

    pub executes : fetched_of m (decode_of s m.iar) ≡ Go op q r a1 a2 next → did m s (exec op (record { q = q; r = r; a1 = a1; a2 = a2; next = next })) ≡ inner_step m s
    executes e = follows (decode_of s m.iar) e ∙ sym (did_step m s)

  -- no instruction: the step stops where decoding did
  ends_as : (d : Decoded) → DecodedAt s m.iar d → is_go (fetched_of m d) ≡ false → ended m (Stopped (fetch_stop (fetched_of m d))) s ≡ did m s (follow d)
  ends_as (Ok i) h g = cc
  ends_as (Err CutShort) h g = sym (did_stop m s CutShort)
  ends_as (Err OpcodeUnknown) h g = sym (did_stop m s OpcodeUnknown)
  ends_as (Err QRefused) h g = sym (did_stop m s QRefused)
  ends_as (Err OperandOutside) h g = absurd h
  ends_as (Err DigitRefused) h g = absurd h
  ends_as (Err (Supervisor a b)) h g = absurd h

  pub ends : (d : Fetched) → d ≡ fetched_of m (decode_of s m.iar) → is_go d ≡ false → ended m (Stopped (fetch_stop d)) s ≡ inner_step m s
  ends d e g = rw e (ends_as (decode_of s m.iar) (decoded_at s m.iar) (rw e at g) ∙ sym (did_step m s))

-- ---- the loop's turns

module _ (m : Machine) (s₀ : List ℕ) (k : ℕ) (n : Machine) (s : List ℕ) (at : ran n Executed k s ≡ turns_of m s₀ k) (n' : Machine) (t : List ℕ) where
  -- one more step that ran
  pub goes_on : ended n' Executed t ≡ inner_step n s → ran n' Executed (k + 1) t ≡ turns_of m s₀ (k + 1)
  goes_on does = ran_on m s₀ k n s _ t at does refl

  -- one that stopped
  pub stops_at : (x : Stop) (b : ℕ) → k + 1 ≤ b → ended n' (Stopped x) t ≡ inner_step n s → ran n' (Stopped x) k t ≡ turns_of m s₀ b
  stops_at x b le does = stopped_at m s₀ k n s _ t at does b le (not_stopped x)

-- ---- a step is a run of one turn

module _ (m : Machine) (s : List ℕ) where
  by_entry : (a b : Bool) → cond a (cond b (uncounted (turns_of m s 1)) (ended m (Refused StatusRefused) s)) (ended m (Refused SizeRefused) s)
      ≡ cond a (cond b (inner_step m s) (ended m (Refused StatusRefused) s)) (ended m (Refused SizeRefused) s)
  by_entry a b = rw (one_turn m s) refl

  run_once : uncounted (run_of m s 1) ≡ step_of m s
  unfolding run_of step_of budget_allowed
  run_once =
      cond_map_2 uncounted (size_allowed (length s)) (status_allowed m.status) (turns_of m s 1) (ran m (Refused StatusRefused) 0 s) (ran m (Refused SizeRefused) 0 s)
      ∙ by_entry (size_allowed (length s)) (status_allowed m.status)

  pub one_step : (r : Ran) (t : List ℕ) → RanAs m s 1 r t → SteppedAs m s (record { machine = r.machine; answer = r.ended.answer }) t
  one_step r t h = ap uncounted h ∙ run_once
