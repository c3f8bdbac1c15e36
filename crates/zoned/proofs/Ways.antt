-- What stands in the way of ZAZ, AZ and SZ, as the code tests it, and their rules behind it. What carries it: reading changes nothing, so that the tests stand first.
use mathlib.Core.Path.{◌≡◌, refl, sym, ap, ◌∙◌}
use mathlib.Core.Bool.{Bool, true, false, cond, false≢true}
use mathlib.Core.List.{List}
use Prim.Native.Nat.{ℕ, ◌+◌, ◌≤◌, ◌<◌}
use lib.IntN.{ℤ, ◌+ℤ◌, ◌-ℤ◌}
use lib.ListN.{length}
use Rattle.std.specs.Prelude.{Result, Ok, Err}
use Rattle.manual.specs.declared.Machine.{Machine}
use Rattle.manual.specs.declared.Fields.{Fields}
use Rattle.manual.specs.declared.Answer.TheVariants.{Executed, Stopped}
use Rattle.manual.specs.declared.Stop.{Stop}
use Rattle.manual.specs.declared.Stop.TheVariants.{DigitRefused}
use Rattle.manual.specs.Places.{State, state}
use Rattle.manual.specs.Programs.{Prog, Out, Rule, clear, unless, and_then, Way}
use Rattle.manual.specs.Formats.{reach}
use Rattle.manual.specs.Values.{bytes_of, value, all_digits, digits_of}
use Rattle.manual.specs.Zoned.{l1, l2, zoned_reach, put_result, zaz, combine, az, sz}
use Rattle.manual.specs.Step.{ended, moved, given, did}
use Rattle.manual.proofs.Running.{from, did_from, from_bind, from_barred, val_leftward, fin_leftward, unless_clear, both_clear, reach_clear}
use Rattle.manual.proofs.ZonedRead.{put_left}
use Rattle.parts.specs.Leaf.{Does}
use Rattle.zoned.specs.Working.{zaz_way, combine_way, Ready, Left}

-- ---- what a clear way tells

way_clear : (w : Way) → Ok tt ≡ w → clear w ≡ true
way_clear (Ok tt) e = refl
way_clear (Err x) e = cc

way_barred : (w : Way) (x : Stop) → Err x ≡ w → w ≡ Err x
way_barred (Ok tt) x e = cc
way_barred (Err y) x e = cc

good : (b : Bool) → clear (cond b (Ok tt) (Err DigitRefused)) ≡ true → b ≡ true
good true e = refl
good false e = absurd (false≢true e)

digits_good : (bs : List ℕ) → clear (digits_of bs) ≡ true → all_digits bs ≡ true
unfolding digits_of
digits_good bs e = good (all_digits bs) e

lies : (size n1 a1 n2 a2 : ℕ) → clear (and_then (reach size n1 a1) (reach size n2 a2)) ≡ true
    → ((a1 < size) × (n1 ≤ a1 + 1)) × ((a2 < size) × (n2 ≤ a2 + 1))
lies size n1 a1 n2 a2 e =
    let k = both_clear (reach size n1 a1) (reach size n2 a2) e in
    (reach_clear size n1 a1 k.0, reach_clear size n2 a2 k.1)

ready : (s : List ℕ) (q a1 a2 : ℕ) → clear (zaz_way s q a1 a2) ≡ true → Ready s q a1 a2
ready s q a1 a2 e =
    let k = both_clear _ (digits_of (bytes_of s (l2 q) a2)) e in
    let l = lies (length s) (l1 q) a1 (l2 q) a2 k.0 in
    record {
      inside_one = l.0.0;
      fits_one = l.0.1;
      inside_two = l.1.0;
      fits_two = l.1.1;
      digits_two = digits_good (bytes_of s (l2 q) a2) k.1;
    }

-- the premises stand as the calls' promises
module _ (s : List ℕ) (q a1 a2 : ℕ) where
  pub zaz_ready : Ok tt ≡ (zaz_way s q a1 a2) → Ready s q a1 a2
  zaz_ready h = ready s q a1 a2 (way_clear (zaz_way s q a1 a2) h)

  combine_clear : Ok tt ≡ (combine_way s q a1 a2) → (clear (zaz_way s q a1 a2) ≡ true) × (clear (digits_of (bytes_of s (l1 q) a1)) ≡ true)
  combine_clear h = both_clear (zaz_way s q a1 a2) (digits_of (bytes_of s (l1 q) a1)) (way_clear (combine_way s q a1 a2) h)

  pub combine_ready : Ok tt ≡ (combine_way s q a1 a2) → Ready s q a1 a2
  combine_ready h = ready s q a1 a2 (combine_clear h).0

  pub combine_digits : Ok tt ≡ (combine_way s q a1 a2) → all_digits (bytes_of s (l1 q) a1) ≡ true
  combine_digits h = digits_good (bytes_of s (l1 q) a1) (combine_clear h).1

-- ---- the rules, with all that stands in their way in front

and_assoc : (u v w : Way) → and_then u (and_then v w) ≡ and_then (and_then u v) w
unfolding and_then
and_assoc (Ok tt) v w = refl
and_assoc (Err x) v w = refl

module _ (m : Machine) (s : List ℕ) where
  then_from : (v w : Way) (p q : Prog Out) (σ : State) → from m s p σ ≡ from m s (unless w q) σ
      → from m s (unless v p) σ ≡ from m s (unless (and_then v w) q) σ
  unfolding unless and_then
  then_from (Ok tt) w p q σ e = e
  then_from (Err x) w p q σ e = refl

  module _ (f : Fields) where
    pub zaz_behind : did m s (zaz f)
        ≡ from m s (unless (zaz_way s f.q f.a1 f.a2) (put_result f (value (bytes_of s (l2 f.q) f.a2)) (given m s))) (state m s)
    unfolding zaz
    zaz_behind =
        did_from m s (zaz f) ∙ then_from (zoned_reach f (length s)) (digits_of (bytes_of s (l2 f.q) f.a2)) _ _ (state m s) (simp (from_bind, val_leftward, fin_leftward))

    pub combine_behind : (op : ℤ → ℤ → ℤ) → did m s (combine op f)
        ≡ from m s (unless (combine_way s f.q f.a1 f.a2)
        (put_result f (op (value (bytes_of s (l1 f.q) f.a1)) (value (bytes_of s (l2 f.q) f.a2))) (given m s))) (state m s)
    unfolding combine
    combine_behind op =
        let xs = bytes_of s (l1 f.q) f.a1 in
        let ys = bytes_of s (l2 f.q) f.a2 in
        did_from m s (combine op f) ∙
        then_from (zoned_reach f (length s)) (and_then (digits_of ys) (digits_of xs)) _ _ (state m s) (simp (from_bind, val_leftward, fin_leftward)) ∙
        ap (λ (w : Way). from m s (unless w (put_result f (op (value xs) (value ys)) (given m s))) (state m s)) (and_assoc (zoned_reach f (length s)) (digits_of ys) (digits_of xs))

-- ---- how the leaves end, with the calls' promises for premises

module _ (m : Machine) (s : List ℕ) (f : Fields) where
  module _ (rule : Rule) (w : Way) (x : ℤ) (behind : did m s rule ≡ from m s (unless w (put_result f x (given m s))) (state m s)) where
    leaf_stops : (y : Stop) → Err y ≡ w → ended m (Stopped y) s ≡ did m s rule
    leaf_stops y h = sym (behind ∙ (rw (way_barred w y h) (from_barred m s y (put_result f x (given m s)) (state m s))))

    leaf_goes : Ok tt ≡ w → (k : ℕ) (t : List ℕ) → Left s (l1 f.q) f.a1 m.status x k t → ended (moved m f.next k) Executed t ≡ did m s rule
    leaf_goes h k t l =
        rw (l.storage, l.status_after)
        (sym (behind ∙ ap (λ (p : Prog Out). from m s p (state m s)) (unless_clear w (put_result f x (given m s)) (way_clear w h)) ∙ put_left m s f x))

  pub zaz_stops : (y : Stop) (r : Result (Unit {0}) Stop) → Err y ≡ (zaz_way s f.q f.a1 f.a2) → r ≡ Err y → Does (zaz f) m s r m s
  zaz_stops y r h e = rw e (leaf_stops (zaz f) _ _ (zaz_behind m s f) y h)

  pub zaz_goes : Ok tt ≡ (zaz_way s f.q f.a1 f.a2)
      → (k : ℕ) (t : List ℕ) → Left s (l1 f.q) f.a1 m.status (value (bytes_of s (l2 f.q) f.a2)) k t → Does (zaz f) m s (Ok tt) (moved m f.next k) t
  zaz_goes = leaf_goes (zaz f) _ _ (zaz_behind m s f)

  module _ (op : ℤ → ℤ → ℤ) where
    stops : (y : Stop) (r : Result (Unit {0}) Stop) → Err y ≡ (combine_way s f.q f.a1 f.a2) → r ≡ Err y → Does (combine op f) m s r m s
    stops y r h e = rw e (leaf_stops (combine op f) _ _ (combine_behind m s f op) y h)

    goes : Ok tt ≡ (combine_way s f.q f.a1 f.a2)
        → (k : ℕ) (t : List ℕ) → Left s (l1 f.q) f.a1 m.status (op (value (bytes_of s (l1 f.q) f.a1)) (value (bytes_of s (l2 f.q) f.a2))) k t
        → Does (combine op f) m s (Ok tt) (moved m f.next k) t
    goes = leaf_goes (combine op f) _ _ (combine_behind m s f op)

  -- of AZ, and where less of SZ
  pub combine_stops : (less : Bool) (y : Stop) (r : Result (Unit {0}) Stop) → Err y ≡ (combine_way s f.q f.a1 f.a2) → r ≡ Err y → Does (cond less sz az f) m s r m s
  combine_stops true = stops ◌-ℤ◌
  combine_stops false = stops ◌+ℤ◌

  pub combine_goes : (less : Bool) → Ok tt ≡ (combine_way s f.q f.a1 f.a2)
      → (k : ℕ) (t : List ℕ) → Left s (l1 f.q) f.a1 m.status (cond less ◌-ℤ◌ ◌+ℤ◌ (value (bytes_of s (l1 f.q) f.a1)) (value (bytes_of s (l2 f.q) f.a2))) k t
      → Does (cond less sz az f) m s (Ok tt) (moved m f.next k) t
  combine_goes true = goes ◌-ℤ◌
  combine_goes false = goes ◌+ℤ◌
