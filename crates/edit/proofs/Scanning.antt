-- The rule's scan, turn by turn of a loop that goes by an address. What carries it: the scan of what is left gives what the whole gives.
use mathlib.Core.Path.{◌≡◌, refl, ◌∙◌}
use mathlib.Core.Bool.{true, false}
use mathlib.Core.List.{List}
use Prim.Native.Nat.{ℕ, suc, ◌+◌, ◌-◌, ◌<◌}
use native.Mathlib.Omega.{arith}
use lib.ListN.{length, get_or, set, length-set}
use Rattle.manual.specs.declared.Machine.{Machine}
use Rattle.manual.specs.Places.{State, state}
use Rattle.manual.specs.Programs.{Prog, val, fin}
use Rattle.manual.specs.Edit.{ends_scan, scan}
use Rattle.manual.specs.Step.{Gives}

-- two programs give and leave the same
abbrev Same : Prog ℕ → State → Prog ℕ → State → Type 0
Same p σ q τ = (val p σ ≡ val q τ) × (fin p σ ≡ fin q τ)

-- the storage t, with the scan from a come to `at`: the scan of what is left gives and leaves what the whole does
abbrev pub Scanned : List ℕ → ℕ → ℕ → ℕ → List ℕ → ℕ → Type 0
Scanned s a n v t at = (length t ≡ length s) × ((m : Machine) → Same (scan n a v) (state m s) (scan (a + n - at) at v) (state m t))

module _ (m : Machine) (v at : ℕ) (t : List ℕ) where
  none : (val (scan 0 at v) (state m t) ≡ at) × (fin (scan 0 at v) (state m t) ≡ state m t)
  unfolding val fin scan
  none = (refl, refl)

  one_ends : (k : ℕ) → ends_scan (get_or t at 0) ≡ true → (val (scan (suc k) at v) (state m t) ≡ at) × (fin (scan (suc k) at v) (state m t) ≡ state m t)
  unfolding val fin scan
  one_ends k e = (rw (e, val), rw (e, fin))

  one_goes : (k : ℕ) → ends_scan (get_or t at 0) ≡ false → Same (scan (suc k) at v) (state m t) (scan k (at + 1) v) (state m (set t at v))
  unfolding val fin scan
  one_goes k e = (rw (e, val), rw (e, fin))

module _ (s : List ℕ) (a n v : ℕ) where
  pub start : Scanned s a n v s a
  start = let e : a + n - a ≡ n = omega arith in rw e (refl, λ m. (refl, refl))

  pub goes_on : (t u : List ℕ) (at : ℕ) → at < a + n → ends_scan (get_or t at 0) ≡ false → u ≡ set t at v → Scanned s a n v t at → Scanned s a n v u (at + 1)
  goes_on t u at l e f (same, whole) =
      let g : a + n - at ≡ suc (a + n - (at + 1)) = omega arith in
      let h : (m : Machine) → Same (scan (a + n - at) at v) (state m t) (scan (a + n - (at + 1)) (at + 1) v) (state m (set t at v)) = λ m. rw g (one_goes m v at t (a + n - (at + 1)) e) in
      rw (f, length-set t at v) (same, λ m. ((whole m).0 ∙ (h m).0, (whole m).1 ∙ (h m).1))

  -- one of F1 to F9 is met
  pub found : (t : List ℕ) (at : ℕ) → at < a + n → ends_scan (get_or t at 0) ≡ true → Scanned s a n v t at → Gives (scan n a v) s at t
  found t at l e (same, whole) m =
      let g : a + n - at ≡ suc (a + n - (at + 1)) = omega arith in
      let h = one_ends m v at t (a + n - (at + 1)) e in
      ((whole m).0 ∙ (rw g h.0), (whole m).1 ∙ (rw g h.1))

  -- the end of the field is met
  pub ends : (t : List ℕ) (at : ℕ) → at ≡ a + n → Scanned s a n v t at → Gives (scan n a v) s (a + n) t
  ends t at e (same, whole) m =
      let g : a + n - at ≡ 0 = omega arith in
      let h = none m v at t in
      ((whole m).0 ∙ (rw g h.0) ∙ e, (whole m).1 ∙ (rw g h.1))
