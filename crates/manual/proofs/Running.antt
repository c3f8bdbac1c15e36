-- How a program runs, form by form: equations for `simp`, with `val`, `fin` and `did` kept shut. What carries it: induction on the program, once.
use Rattle.std.proofs.Common.{Ok, Err, ◌≡◌, refl, sym, ◌∙◌, ap, Bool, true, false, cond, ◌&&◌, List, ◌∷◌, ℕ, zero, suc, ◌+◌, ◌-◌, ◌≤◌, ◌<◌, arith, add-zero, le_of_suc-le-suc, not-suc-le-zero, get_or}
use Rattle.std.proofs.lemmas.Bool.Decides.{nat_tests}
use Rattle.std.proofs.lemmas.Bool.{false≢true, and_parts}
use Rattle.manual.specs.declared.Machine.{Machine}
use Rattle.manual.specs.declared.Answer.TheVariants.{Executed, Stopped}
use Rattle.manual.specs.declared.Stop.{Stop}
use Rattle.manual.specs.Places.{Place, State, state, look, put}
use Rattle.manual.specs.Programs.{Prog, ret, rd, wr, val, fin, ◌>>=◌, rightward, leftward, Out, stop, go, Rule, clear, unless, and_then, Way}
use Rattle.manual.specs.Formats.{reach, reach_right}
use Rattle.manual.specs.Values.{bytes_of}
use Rattle.manual.specs.Step.{Outcome, ended, moved, settle, given, did}

-- ---- one of two, by a test

pub cond_same : {A : Type 0} (b : Bool) (x : A) → cond b x x ≡ x
cond_same true x = refl
cond_same false x = refl

-- what is made of the one that is picked
pub cond_map : {A B : Type 0} (f : A → B) (b : Bool) (x y : A) → f (cond b x y) ≡ cond b (f x) (f y)
cond_map f true x y = refl
cond_map f false x y = refl

-- the same of three, by two tests
pub cond_map_2 : {A B : Type 0} (f : A → B) (b c : Bool) (x y z : A) → f (cond b (cond c x y) z) ≡ cond b (cond c (f x) (f y)) (f z)
cond_map_2 f true c x y z = cond_map f c x y
cond_map_2 f false c x y z = refl

-- ---- one program after another

module _ {A B : Type 0} where
  pub val_bind : (p : Prog A) (f : A → Prog B) (σ : State) → val (p >>= f) σ ≡ val (f (val p σ)) (fin p σ)
  unfolding val fin ◌>>=◌
  val_bind (ret x) f σ = refl
  val_bind (rd l k) f σ = val_bind (k (look l σ)) f σ
  val_bind (wr l v p) f σ = val_bind p f (put l v σ)

  pub fin_bind : (p : Prog A) (f : A → Prog B) (σ : State) → fin (p >>= f) σ ≡ fin (f (val p σ)) (fin p σ)
  unfolding fin val ◌>>=◌
  fin_bind (ret x) f σ = refl
  fin_bind (rd l k) f σ = fin_bind (k (look l σ)) f σ
  fin_bind (wr l v p) f σ = fin_bind p f (put l v σ)

-- ---- bytes read in a row

pub fin_rightward : (n a : ℕ) (σ : State) → fin (rightward n a) σ ≡ σ
unfolding fin rightward
fin_rightward zero a σ = refl
fin_rightward (suc n) a σ = fin_bind (rightward n (a + 1)) _ σ ∙ fin_rightward n (a + 1) σ

rightward_cons : (n a : ℕ) (σ : State) → val (rightward (suc n) a) σ ≡ get_or σ.bytes a 0 ∷ val (rightward n (a + 1)) σ
unfolding val rightward
rightward_cons n a σ = val_bind (rightward n (a + 1)) _ σ

pub rightward_at : (n a k : ℕ) (σ : State) → k < n → get_or (val (rightward n a) σ) k 0 ≡ get_or σ.bytes (a + k) 0
rightward_at zero a k σ h = absurd (not-suc-le-zero h)
rightward_at (suc n) a zero σ h = rw (rightward_cons n a σ, add-zero a)
rightward_at (suc n) a (suc k) σ h =
    let e : a + 1 + k ≡ a + suc k = omega arith in
    rw (rightward_cons n a σ, rightward_at n (a + 1) k σ (le_of_suc-le-suc h), e)

pub fin_leftward : (n a : ℕ) (σ : State) → fin (leftward n a) σ ≡ σ
unfolding fin leftward
fin_leftward zero a σ = refl
fin_leftward (suc n) a σ = fin_bind (leftward n (a - 1)) _ σ ∙ fin_leftward n (a - 1) σ

pub val_leftward : (n a : ℕ) (σ : State) → val (leftward n a) σ ≡ bytes_of σ.bytes n a
unfolding val leftward bytes_of
val_leftward zero a σ = refl
val_leftward (suc n) a σ = val_bind (leftward n (a - 1)) _ σ ∙ ap (λ (l : List ℕ). get_or σ.bytes a 0 ∷ l) (val_leftward n (a - 1) σ)

-- ---- a rule

-- what a program makes of the machine m and the storage s, from the state σ on
unfoldable pub from : Machine → List ℕ → Prog Out → State → Outcome
from m s p σ = settle m s (val p σ) (fin p σ)

module _ (m : Machine) (s : List ℕ) where
  pub did_from : (rule : Rule) → did m s rule ≡ from m s (rule (given m s)) (state m s)
  unfolding did from
  did_from rule = refl

  pub from_stop : (x : Stop) (σ : State) → from m s (ret (stop x)) σ ≡ ended m (Stopped x) s
  unfolding from val
  from_stop x σ = refl

  pub from_go : (i x : ℕ) (σ : State) → from m s (ret (go i x)) σ ≡ ended (moved σ.machine i x) Executed σ.bytes
  unfolding from val fin
  from_go i x σ = refl

  pub from_rd : (l : Place) (k : ℕ → Prog Out) (σ : State) → from m s (rd l k) σ ≡ from m s (k (look l σ)) σ
  unfolding from val fin
  from_rd l k σ = refl

  pub from_wr : (l : Place) (v : ℕ) (p : Prog Out) (σ : State) → from m s (wr l v p) σ ≡ from m s p (put l v σ)
  unfolding from val fin
  from_wr l v p σ = refl

  pub from_cond : (b : Bool) (p q : Prog Out) (σ : State) → from m s (cond b p q) σ ≡ cond b (from m s p σ) (from m s q σ)
  from_cond b p q σ = cond_map (λ (r : Prog Out). from m s r σ) b p q

  pub from_clear : (p : Prog Out) (σ : State) → from m s (unless (Ok tt) p) σ ≡ from m s p σ
  unfolding unless
  from_clear p σ = refl

  pub from_barred : (x : Stop) (p : Prog Out) (σ : State) → from m s (unless (Err x) p) σ ≡ ended m (Stopped x) s
  unfolding unless
  from_barred x p σ = from_stop x σ

  pub from_bind : {A : Type 0} (p : Prog A) (f : A → Prog Out) (σ : State) → from m s (p >>= f) σ ≡ from m s (f (val p σ)) (fin p σ)
  unfolding from
  from_bind p f σ = rw (val_bind p f σ, fin_bind p f σ)

pub ruleset doing = (did_from, from_stop, from_go, from_rd, from_wr, from_cond, from_clear, from_barred, from_bind, val_leftward, fin_leftward)

-- ---- what stands in the way

-- a rule that nothing stands in the way of goes on
pub unless_clear : (w : Way) (p : Prog Out) → clear w ≡ true → unless w p ≡ p
unfolding unless
unless_clear (Ok tt) p e = refl
unless_clear (Err x) p e = absurd (false≢true e)

-- what holds of two ways holds of the one and then the other
pub both_hold : (P : Way → Type 0) (v w : Way) → P v → P w → P (and_then v w)
unfolding and_then
both_hold P (Ok tt) w h k = k
both_hold P (Err x) w h k = h

pub clear_both : (v w : Way) → clear (and_then v w) ≡ (clear v && clear w)
unfolding and_then
clear_both (Ok tt) w = refl
clear_both (Err x) w = refl

pub both_clear : (v w : Way) → clear (and_then v w) ≡ true → (clear v ≡ true) × (clear w ≡ true)
both_clear v w e = and_parts (clear v) (clear w) (sym (clear_both v w) ∙ e)

-- an operand that is clear to be reached lies in storage
pub reach_clear : (size n a : ℕ) → clear (reach size n a) ≡ true → (a < size) × (n ≤ a + 1)
unfolding reach
reach_clear size n a e = grind (arith, nat_tests)

pub reach_right_clear : (size n a : ℕ) → clear (reach_right size n a) ≡ true → a + n ≤ size
unfolding reach_right
reach_right_clear size n a e = grind (arith, nat_tests)
