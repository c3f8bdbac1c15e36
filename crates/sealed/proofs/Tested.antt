-- That no step of a run reads a sealed byte, as a test that computes. What carries it: only the listed places have to be looked at, step by step.
use Rattle.std.proofs.Common.{◌≡◌, ap, sym, ◌∙◌, Bool, true, false, not, ◌&&◌, List, [], ◌∷◌, ℕ, zero, suc, ◌<◌, arith, eqb-true, ⊎_elim, below_more}
use Rattle.std.proofs.lemmas.Bool.{false≢true, not-true, and_parts, or_cases}
use Rattle.manual.specs.declared.Machine.{Machine}
use Rattle.manual.specs.Places.{Place, mem, reg, same}
use Rattle.manual.specs.Reads.{elem}
use Rattle.sealed.specs.Sealed.{reads_at, sealed_after}
use Rattle.sealed.specs.Demand3.{sealing, ReadsNoSealedByte}

unfoldable pub none_in : (Place → Bool) → List Place → Bool
none_in z [] = true
none_in z (x ∷ xs) = not (z x) && none_in z xs

-- none of the first b steps reads a byte still sealed
unfoldable pub quiet : (ℕ → Bool) → Machine → List ℕ → ℕ → Bool
quiet z m s zero = true
quiet z m s (suc b) = quiet z m s b && none_in (sealed_after (sealing z) m s b) (reads_at m s b)

same_byte : (z : Place → Bool) (l : Place) (a : ℕ) → same l (mem a) ≡ true → z (mem a) ≡ z l
same_byte z (mem b) a e = ap (λ (c : ℕ). z (mem c)) (sym (eqb-true b a e))
same_byte z (reg r) a e = absurd (false≢true e)

none_listed : (z : Place → Bool) (xs : List Place) (a : ℕ) → none_in z xs ≡ true → elem (mem a) xs ≡ true → z (mem a) ≡ false
unfolding none_in
none_listed z [] a n e = absurd (false≢true e)
none_listed z (l ∷ xs) a n e =
    let h = and_parts (not (z l)) (none_in z xs) n in
    ⊎_elim (λ q. same_byte z l a q ∙ not-true (z l) h.0) (none_listed z xs a h.1) (or_cases (same l (mem a)) (elem (mem a) xs) e)

module _ (z : ℕ → Bool) (m : Machine) (s : List ℕ) where
  abbrev QuietAt : ℕ → Type 0
  QuietAt k = none_in (sealed_after (sealing z) m s k) (reads_at m s k) ≡ true

  quiet_at : (b : ℕ) → quiet z m s b ≡ true → (k : ℕ) → k < b → QuietAt k
  unfolding quiet
  quiet_at zero e k l = absurd (omega arith)
  quiet_at (suc b) e k l = let h = and_parts (quiet z m s b) _ e in below_more QuietAt b (quiet_at b h.0) h.1 k (omega arith)

  -- the test, for a run of this budget
  pub quiet_reads : (b : ℕ) → quiet z m s b ≡ true → ReadsNoSealedByte z m s b
  quiet_reads b e k h a f = none_listed (sealed_after (sealing z) m s k) (reads_at m s k) a (quiet_at b e k h.unspent) f
