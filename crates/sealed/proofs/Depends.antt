-- A program depends on what it reads alone, and keeps what it doesn't write. What carries it: three clauses, one for each form of a program.
use Rattle.std.proofs.Common.{◌≡◌, refl, sym, ◌∙◌, Bool, true, false, not, ◌&&◌, ◌||◌, true≢false, List, [], ◌∷◌, ℕ, zero, suc, arith, length, get_or, set, length-set, eqb-true, eq-eqb, get_or-set_other}
use Rattle.std.proofs.lemmas.Grind.{common_steps}
use Rattle.std.proofs.lemmas.Bool.Decides.{nat_tests}
use Rattle.std.proofs.lemmas.Bool.{false≢true, eqb-false, or_right, or_parts}
use Rattle.std.proofs.Math.Bool.{and-true}
use Rattle.manual.specs.declared.Register.{Register}
use Rattle.manual.specs.declared.Register.TheVariants.{Arr, Xr1, Xr2, Work}
use Rattle.manual.specs.Places.{Place, mem, reg, same, same_register, State, look, put}
use Rattle.manual.specs.Programs.{Prog, ret, rd, wr, val, fin, reads, wrote}
use Rattle.manual.specs.Reads.{elem}
use Rattle.sealed.specs.Sealed.{without, Agree}
use Rattle.manual.proofs.Keeps.{put_length}

-- ---- places

same_refl : (l : Place) → same l l ≡ true
same_refl (mem a) = eq-eqb a a refl
same_refl (reg Arr) = refl
same_refl (reg Xr1) = refl
same_refl (reg Xr2) = refl
same_refl (reg (Work i)) = eq-eqb i i refl

set_same : (s t : List ℕ) (a v : ℕ) → length s ≡ length t → get_or (set s a v) a 0 ≡ get_or (set t a v) a 0
set_same s t a v n = grind (arith, common_steps)

-- a written place holds the same in both
module _ (v : ℕ) (σ τ : State) (n : length σ.bytes ≡ length τ.bytes) (w : length σ.machine.wr ≡ length τ.machine.wr) where
  put_same_reg : (r q : Register) → same_register r q ≡ true → look (reg q) (put (reg r) v σ) ≡ look (reg q) (put (reg r) v τ)
  put_same_reg Arr Arr e = refl
  put_same_reg Arr Xr1 e = absurd (false≢true e)
  put_same_reg Arr Xr2 e = absurd (false≢true e)
  put_same_reg Arr (Work j) e = absurd (false≢true e)
  put_same_reg Xr1 Arr e = absurd (false≢true e)
  put_same_reg Xr1 Xr1 e = refl
  put_same_reg Xr1 Xr2 e = absurd (false≢true e)
  put_same_reg Xr1 (Work j) e = absurd (false≢true e)
  put_same_reg Xr2 Arr e = absurd (false≢true e)
  put_same_reg Xr2 Xr1 e = absurd (false≢true e)
  put_same_reg Xr2 Xr2 e = refl
  put_same_reg Xr2 (Work j) e = absurd (false≢true e)
  put_same_reg (Work i) Arr e = absurd (false≢true e)
  put_same_reg (Work i) Xr1 e = absurd (false≢true e)
  put_same_reg (Work i) Xr2 e = absurd (false≢true e)
  put_same_reg (Work i) (Work j) e = rw (← eqb-true i j e) (set_same σ.machine.wr τ.machine.wr i v w)

  put_same : (l x : Place) → same l x ≡ true → look x (put l v σ) ≡ look x (put l v τ)
  put_same (mem a) (mem b) e = rw (← eqb-true a b e) (set_same σ.bytes τ.bytes a v n)
  put_same (mem a) (reg q) e = absurd (false≢true e)
  put_same (reg r) (mem b) e = absurd (false≢true e)
  put_same (reg r) (reg q) e = put_same_reg r q e

-- any other place is kept
module _ (v : ℕ) (σ : State) where
  put_other_reg : (r q : Register) → same_register r q ≡ false → look (reg q) (put (reg r) v σ) ≡ look (reg q) σ
  put_other_reg Arr Arr e = absurd (true≢false e)
  put_other_reg Arr Xr1 e = refl
  put_other_reg Arr Xr2 e = refl
  put_other_reg Arr (Work j) e = refl
  put_other_reg Xr1 Arr e = refl
  put_other_reg Xr1 Xr1 e = absurd (true≢false e)
  put_other_reg Xr1 Xr2 e = refl
  put_other_reg Xr1 (Work j) e = refl
  put_other_reg Xr2 Arr e = refl
  put_other_reg Xr2 Xr1 e = refl
  put_other_reg Xr2 Xr2 e = absurd (true≢false e)
  put_other_reg Xr2 (Work j) e = refl
  put_other_reg (Work i) Arr e = refl
  put_other_reg (Work i) Xr1 e = refl
  put_other_reg (Work i) Xr2 e = refl
  put_other_reg (Work i) (Work j) e = get_or-set_other σ.machine.wr i j v 0 (λ q. eqb-false i j e (sym q))

  put_other : (l x : Place) → same l x ≡ false → look x (put l v σ) ≡ look x σ
  put_other (mem a) (mem b) e = get_or-set_other σ.bytes a b v 0 (λ q. eqb-false a b e (sym q))
  put_other (mem a) (reg q) e = refl
  put_other (reg r) (mem b) e = refl
  put_other (reg r) (reg q) e = put_other_reg r q e

  put_works : (l : Place) → length (put l v σ).machine.wr ≡ length σ.machine.wr
  put_works (mem a) = refl
  put_works (reg Arr) = refl
  put_works (reg Xr1) = refl
  put_works (reg Xr2) = refl
  put_works (reg (Work i)) = length-set σ.machine.wr i v

-- ---- Bool

less_false : (x y : Bool) → (x && not y) ≡ false → y ≡ false → x ≡ false
less_false x y e q = grind (arith, nat_tests)

pub less_true : (x y : Bool) → (x && not y) ≡ true → (x ≡ true) × (y ≡ false)
less_true x y e = grind (arith, nat_tests)

less_twice : (x y w : Bool) → ((x && not y) && not w) ≡ (x && not (y || w))
less_twice x y w = grind (arith, nat_tests)

-- ---- agreement

-- states that agree outside z agree outside any larger set
weaken : (z z' : Place → Bool) (σ τ : State) → ((x : Place) → z' x ≡ false → z x ≡ false) → Agree z σ τ → Agree z' σ τ
weaken z z' σ τ f a = record { size = a.size; works = a.works; rest = λ x e. a.rest x (f x e) }

abbrev unseal : Place → (Place → Bool) → Place → Bool
unseal l z x = z x && not (same l x)

agree_put : (z : Place → Bool) (l : Place) (v : ℕ) (σ τ : State) → Agree z σ τ → Agree (unseal l z) (put l v σ) (put l v τ)
agree_put z l v σ τ h =
    record {
      size = put_length l v σ ∙ h.size ∙ sym (put_length l v τ);
      works = put_works v σ l ∙ h.works ∙ sym (put_works v τ l);
      rest = λ x e. at x (same l x) refl e;
    }
  where
    at : (x : Place) (b : Bool) → same l x ≡ b → (z x && not (same l x)) ≡ false → look x (put l v σ) ≡ look x (put l v τ)
    at x true q e = put_same v σ τ h.size h.works l x q
    at x false q e = put_other v σ l x q ∙ h.rest x (less_false (z x) (same l x) e q) ∙ sym (put_other v τ l x q)

module _ {A : Type 0} where
  -- what a program gives, writes and leaves, from σ and from τ
  pub record Alike (z : Place → Bool) (p : Prog A) (σ τ : State) : Type 0 where
    pub gives : val p σ ≡ val p τ
    pub writes : wrote p σ ≡ wrote p τ
    pub agree : Agree (without z (wrote p σ)) (fin p σ) (fin p τ)

  -- a program that reads no sealed place
  pub alike : (z : Place → Bool) (p : Prog A) (σ τ : State) → Agree z σ τ → ((x : Place) → reads p σ x ≡ true → z x ≡ false) → Alike z p σ τ
  unfolding val fin wrote reads
  alike z (ret x) σ τ h r = record { gives = refl; writes = refl; agree = weaken z _ σ τ (λ l e. sym (and-true (z l)) ∙ e) h }
  alike z (rd l k) σ τ h r =
      let e : look l τ ≡ look l σ = sym (h.rest l (r l (rw (same_refl l)))) in
      let i = alike z (k (look l σ)) σ τ h (λ x q. r x (or_right (same l x) _ q)) in
      record { gives = rw e i.gives; writes = rw e i.writes; agree = rw e i.agree }
  alike z (wr l v p) σ τ h r =
      let i = alike (unseal l z) p (put l v σ) (put l v τ) (agree_put z l v σ τ h) (λ x q. rw (r x q)) in
      record {
        gives = i.gives;
        writes = rw i.writes;
        agree = weaken _ _ _ _ (λ x e. less_twice (z x) (same l x) (elem x (wrote p (put l v σ))) ∙ e) i.agree;
      }

  -- a place that isn't written keeps its value
  pub kept : (p : Prog A) (σ : State) (x : Place) → elem x (wrote p σ) ≡ false → look x (fin p σ) ≡ look x σ
  unfolding fin wrote
  kept (ret v) σ x e = refl
  kept (rd l k) σ x e = kept (k (look l σ)) σ x e
  kept (wr l v p) σ x e =
      let n = or_parts (same l x) (elem x (wrote p (put l v σ))) e in
      kept p (put l v σ) x n.1 ∙ put_other v σ l x n.0
