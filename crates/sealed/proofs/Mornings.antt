-- A program that reads only what the host or the run has written gives the same morning. What carries it: demand 3, with every other byte sealed.
use Rattle.std.proofs.Common.{◌≡◌, refl, ap, ◌∙◌, Bool, true, not, ◌&&◌, ◌||◌, List, ℕ, zero, suc, length, get_or, arith}
use Rattle.std.proofs.lemmas.Bool.Decides.{nat_tests}
use Rattle.std.proofs.lemmas.Bool.{not-false}
use Rattle.manual.specs.declared.Machine.{Machine}
use Rattle.manual.specs.declared.Ran.{Ran}
use Rattle.manual.specs.Places.{mem}
use Rattle.manual.specs.Reads.{elem}
use Rattle.manual.specs.Run.{ran_outcome, run_of, RanAs}
use Rattle.sealed.specs.Sealed.{writes_at, sealed_after}
use Rattle.sealed.specs.Demand3.{sealed_byte, NoLeak}
use Rattle.sealed.specs.Written.{written_after, written, ReadsOnlyWritten, SameMorning}
use Rattle.sealed.proofs.TwoRuns.{demand_3}

-- what the host hasn't written is sealed
abbrev others : (ℕ → Bool) → ℕ → Bool
others h a = not (h a)

not_or : (x y : Bool) → (not x && not y) ≡ not (x || y)
not_or x y = grind (arith, nat_tests)

-- a byte is still sealed while nothing has written it
sealed_unwritten : (h : ℕ → Bool) (m : Machine) (s : List ℕ) (k a : ℕ) → sealed_byte (others h) m s k a ≡ not (written_after h m s k a)
unfolding sealed_after written_after
sealed_unwritten h m s zero a = refl
sealed_unwritten h m s (suc k) a =
    ap (λ (x : Bool). x && not (elem (mem a) (writes_at m s k))) (sealed_unwritten h m s k a) ∙ not_or (written_after h m s k a) (elem (mem a) (writes_at m s k))

module _ (h : ℕ → Bool) (m : Machine) (s t : List ℕ) (b : ℕ)
    (size : length s ≡ length t) (hosts : (a : ℕ) → h a ≡ true → get_or s a 0 ≡ get_or t a 0) (q : ReadsOnlyWritten h m s b) where
  sealed_rest : NoLeak (λ a. sealed_byte (others h) m s (run_of m s b).gave.ended.steps a) s t (run_of m s b) (run_of m t b)
  sealed_rest =
      demand_3 m s t b (others h) (record { size = size; rest = λ a e. hosts a (not-false (h a) e) })
      (λ k x a e. sealed_unwritten h m s k a ∙ ap not (q k x a e))

  -- whatever the tablet held at the bytes that the host hasn't written
  pub same_morning : SameMorning (written h m s b) (run_of m s b) (run_of m t b)
  same_morning =
      record {
        ended = sealed_rest.ended;
        machine = sealed_rest.machine;
        bytes = λ a e. sealed_rest.opened a (sealed_unwritten h m s (run_of m s b).gave.ended.steps a ∙ ap not e);
      }

  -- of any two results that the statement of `run` allows
  pub run_same_morning : (r r' : Ran) (s' t' : List ℕ) → RanAs m s b r s' → RanAs m t b r' t' → SameMorning (written h m s b) (ran_outcome r s') (ran_outcome r' t')
  run_same_morning r r' s' t' e f = rw (e, f) same_morning
