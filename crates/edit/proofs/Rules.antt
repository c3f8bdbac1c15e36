-- What ED and ITC make of a machine, way by way, by the calls' promises. What carries it: a way that is clear goes on, one that isn't ends with its stop.
use mathlib.Core.Path.{◌≡◌, refl, ap, sym, ◌∙◌}
use mathlib.Core.Bool.{true}
use mathlib.Core.List.{List}
use Prim.Native.Nat.{ℕ, zero, suc, ◌+◌, ◌%◌, ◌≤◌, ◌<◌}
use native.Mathlib.Omega.{arith}
use lib.ListN.{length, get_or, take}
use Rattle.std.proofs.lemmas.List.{length-take, length-take-le}
use lib.Dec.{eqb-suc-zero}
use Rattle.std.specs.Prelude.{Result, Ok, Err}
use Rattle.manual.specs.declared.Machine.{Machine}
use Rattle.manual.specs.declared.Fields.{Fields}
use Rattle.manual.specs.declared.Register.TheVariants.{Arr}
use Rattle.manual.specs.declared.Answer.TheVariants.{Stopped}
use Rattle.manual.specs.declared.Stop.{Stop}
use Rattle.manual.specs.Places.{State, state, with_register}
use Rattle.manual.specs.Programs.{Prog, Out, go, ret, ◌>>=◌, ◌>>◌, leftward, clear, and_then, unless, Way}
use Rattle.manual.specs.TheMachine.{set_order}
use Rattle.manual.specs.Formats.{reach, reach_right}
use Rattle.manual.specs.Values.{bytes_of, digits_of, value, sign_order}
use Rattle.manual.specs.Edit.{count20, source_reach, put_edited, ed, scan, itc}
use Rattle.manual.specs.Stops.{pattern_of, source_of}
use Rattle.manual.specs.Step.{ended, moved, did, Gives}
use Rattle.manual.proofs.Running.{from, doing, did_from, from_bind, from_clear, from_barred, val_leftward, fin_leftward, reach_clear}
use Rattle.parts.specs.Leaf.{Does}

-- ---- what is reached lies in storage

way_clear : (w : Way) → Ok tt ≡ w → clear w ≡ true
way_clear (Ok tt) e = refl
way_clear (Err x) e = cc

pub reach_in : (size n a : ℕ) → Ok tt ≡ (reach size n a) → (a < size) × (n ≤ a + 1)
reach_in size n a e = reach_clear size n a (way_clear (reach size n a) e)

source_some : (size n a : ℕ) → source_reach size (suc n) a ≡ reach size (suc n) a
unfolding source_reach
source_some size n a = rw (eqb-suc-zero n)

source_clear : (size n a : ℕ) → clear (source_reach size n a) ≡ true → (n ≤ a + 1) × (0 < n → a < size)
source_clear size zero a e = (omega arith, λ h. absurd (omega arith))
source_clear size (suc n) a e = let h = reach_clear size (suc n) a (ap clear (sym (source_some size n a)) ∙ e) in (h.1, λ _. h.0)

pub source_in : (size n a : ℕ) → Ok tt ≡ (source_reach size n a) → (n ≤ a + 1) × (0 < n → a < size)
source_in size n a e = source_clear size n a (way_clear (source_reach size n a) e)

-- operand 2's copy has room in a buffer l
pub lent_in : (l s : List ℕ) (n a : ℕ) → Ok tt ≡ (source_reach (length s) n a) → (length (take n l) ≤ a + 1) × (0 < length (take n l) → a < length s)
lent_in l s n a e =
    let h = source_in (length s) n a e in
    let k : length (take n l) ≤ n = omega (arith, length-take n l) in
    (omega arith, λ p. h.1 (omega arith))

pub lent_full : (l d : List ℕ) (n : ℕ) → length d ≡ length (take n l) → n ≤ length l → length d ≡ n
lent_full l d n e h = e ∙ length-take-le n l h

both : (v w : Way) → Ok tt ≡ v → Ok tt ≡ w → Ok tt ≡ (and_then v w)
unfolding and_then
both (Ok tt) w e h = h
both (Err x) w e h = cc

module _ (m : Machine) (s : List ℕ) where
  clears : (w : Way) (p : Prog Out) (σ : State) → Ok tt ≡ w → from m s (unless w p) σ ≡ from m s p σ
  clears (Ok tt) p σ h = from_clear m s p σ
  clears (Err x) p σ h = cc

  bars : (w : Way) (p : Prog Out) (σ : State) (y : Stop) → Err y ≡ w → from m s (unless w p) σ ≡ ended m (Stopped y) s
  bars (Ok tt) p σ y h = cc
  bars (Err x) p σ y h = let e : x ≡ y = cc in rw e (from_barred m s y p σ)

module _ (m : Machine) (s : List ℕ) (f : Fields) where
  -- ---- ED

  -- its rule once operand 2's bytes ys are read, and once the pattern ps is
  abbrev with_source : List ℕ → List ℕ → Prog Out
  with_source ps ys = unless (digits_of ys) (put_edited ps ys f.a1 >> ret (go f.next (set_order (sign_order (value ys)) m.status)))

  abbrev with_pattern : List ℕ → Prog Out
  with_pattern ps = unless (source_reach (length s) (count20 ps) f.a2) (leftward (count20 ps) f.a2 >>= with_source ps)

  module _ (h : Ok tt ≡ (reach (length s) (f.q + 1) f.a1)) where
    reached : did m s (ed f) ≡ from m s (with_pattern (pattern_of s f)) (state m s)
    unfolding ed
    reached = did_from m s (ed f) ∙ clears m s _ _ _ h ∙ (simp (from_bind, val_leftward, fin_leftward))

    module _ (n : ℕ) (counted : n ≡ count20 (pattern_of s f)) where
      pub source_stops : (y : Stop) (r : Result (Unit {0}) Stop) → Err y ≡ (source_reach (length s) n f.a2) → r ≡ Err y → Does (ed f) m s r m s
      source_stops y r k e = let j = rw counted at k in rw e (sym (reached ∙ bars m s _ _ _ y j))

      module _ (k : Ok tt ≡ (source_reach (length s) n f.a2)) (d : List ℕ) (copied : d ≡ bytes_of s n f.a2) where
        same_source : source_of s f ≡ d
        same_source = ap (λ (c : ℕ). bytes_of s c f.a2) (sym counted) ∙ sym copied

        sourced : did m s (ed f) ≡ from m s (with_source (pattern_of s f) d) (state m s)
        sourced =
            let j = rw counted at k in
            reached ∙ clears m s _ _ _ j ∙ (simp (from_bind, val_leftward, fin_leftward)) ∙
            ap (λ (ys : List ℕ). from m s (with_source (pattern_of s f) ys) (state m s)) same_source

        pub digit_stops : (y : Stop) (r : Result (Unit {0}) Stop) → Err y ≡ (digits_of d) → r ≡ Err y → Does (ed f) m s r m s
        digit_stops y r a e = rw e (sym (sourced ∙ bars m s _ _ _ y a))

        pub ed_goes : (t : List ℕ) → Ok tt ≡ (digits_of d) → Gives (put_edited (pattern_of s f) d f.a1) s tt t
            → Does (ed f) m s (Ok tt) (moved m f.next (set_order (sign_order (value d)) m.status)) t
        ed_goes t a p = sym (sourced ∙ clears m s _ _ _ a ∙ (simp (doing, (p m).1)))

  -- ---- ITC

  pub itc_goes : (at : ℕ) (t : List ℕ) → Ok tt ≡ (reach_right (length s) (f.q + 1) f.a1) → Ok tt ≡ (reach (length s) 1 f.a2)
      → Gives (scan (f.q + 1) f.a1 (get_or s f.a2 0)) s at t → Does (itc f) m s (Ok tt) (moved (with_register m Arr (at % 65536)) f.next m.status) t
  unfolding itc
  itc_goes at t h g p = sym (did_from m s (itc f) ∙ clears m s _ _ _ (both _ _ h g) ∙ (simp (doing, (p m).0, (p m).1)))
