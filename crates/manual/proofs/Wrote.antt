-- A step's rule writes exactly the places that document 01's list has, in that order; a step that stops writes none.
-- What carries it: how writing goes through each form of a program, then one line an operation.
use Rattle.std.proofs.Common.{Ok, Err, Option, Some, None, ◌≡◌, refl, ap, ◌∙◌, Bool, true, false, cond, ◌&&◌, List, [], ◌∷◌, ◌++◌, ℕ, zero, suc, ◌+◌, ◌-◌, ◌/◌, arith, length, get_or, set, append-nil, sym}
use Rattle.manual.specs.declared.Machine.{Machine}
use Rattle.manual.specs.declared.Operation.{Operation}
use Rattle.manual.specs.declared.Operation.TheVariants.{Zaz, Az, Sz, Mvx, Ed, Itc, Mvc, Clc, Alc, Slc, St, L, A, S, Tbn, Tbf, Sbn, Sbf, Mvi, Cli, Sli, Bc, Jc, La, Svc}
use Rattle.manual.specs.declared.Base.{Base}
use Rattle.manual.specs.declared.Base.TheVariants.{Absent, Direct, FromXr1, FromXr2, FromArr, Forward, Backward}
use Rattle.manual.specs.declared.Form.{Form}
use Rattle.manual.specs.declared.Fields.{Fields}
use Rattle.manual.specs.declared.Columns.{Columns}
use Rattle.manual.specs.Places.{Place, mem, State, state, look, put}
use Rattle.manual.specs.Programs.{Prog, ret, rd, wr, val, fin, wrote, ◌>>=◌, rightward, leftward, Out, clear, unless, Way}
use Rattle.manual.specs.Decode.{decode_of, fetch_named, fetch, Decoded}
use Rattle.manual.specs.Zoned.{put_digits, put_zoned, put_result, zaz, combine}
use Rattle.manual.specs.Edit.{takes_digit, put_edited, ends_scan, scan, mvx, ed, itc}
use Rattle.manual.specs.Logical.{Column, copy, mvc, clc, columns, alc, slc}
use Rattle.manual.specs.Registers.{store, load, add, subtract}
use Rattle.manual.specs.Immediate.{tbn, tbf, sbn, sbf, mvi, cli, sli}
use Rattle.manual.specs.Branches.{branch, jump, load_address, call}
use Rattle.manual.specs.Step.{exec, addressed, perform, follow, step, given}
use Rattle.manual.specs.Stops.{address_of, fields_of, outside, further, barred}
use Rattle.manual.specs.Reads.{field, span, when, the20s, before, operand_writes, further_writes, writes_of}
use Rattle.manual.proofs.Running.{val_leftward, fin_leftward, clear_both, cond_same, cond_map}
use Rattle.manual.proofs.Fetched.{val_fetch, fin_fetch}
use Rattle.manual.proofs.Exact.{before_set, setting}

-- ---- the forms of a program

module _ {X : Type 0} where
  pub w_ret : (x : X) (σ : State) → wrote (ret x) σ ≡ []
  unfolding wrote
  w_ret x σ = refl

  pub w_rd : (l : Place) (k : ℕ → Prog X) (σ : State) → wrote (rd l k) σ ≡ wrote (k (look l σ)) σ
  unfolding wrote
  w_rd l k σ = refl

  pub w_wr : (l : Place) (v : ℕ) (p : Prog X) (σ : State) → wrote (wr l v p) σ ≡ l ∷ wrote p (put l v σ)
  unfolding wrote
  w_wr l v p σ = refl

  pub w_cond : (b : Bool) (p q : Prog X) (σ : State) → wrote (cond b p q) σ ≡ cond b (wrote p σ) (wrote q σ)
  w_cond b p q σ = cond_map (λ (r : Prog X). wrote r σ) b p q

pub w_unless : (w : Way) (p : Prog Out) (σ : State) → wrote (unless w p) σ ≡ cond (clear w) (wrote p σ) []
unfolding unless wrote
w_unless (Ok tt) p σ = refl
w_unless (Err x) p σ = refl

pub w_bind : {X Y : Type 0} (p : Prog X) (f : X → Prog Y) (σ : State) → wrote (p >>= f) σ ≡ wrote p σ ++ wrote (f (val p σ)) (fin p σ)
unfolding wrote fin val ◌>>=◌
w_bind (ret x) f σ = refl
w_bind (rd l k) f σ = w_bind (k (look l σ)) f σ
w_bind (wr l v p) f σ = rw (w_bind p f (put l v σ))

-- ---- the lists

-- what stands behind two tests
pub cond_and : (b c : Bool) (xs : List Place) → cond (b && c) xs [] ≡ cond b (cond c xs []) []
cond_and true c xs = refl
cond_and false c xs = refl

-- ---- the parts of the rules

w_rightward : (n a : ℕ) (σ : State) → wrote (rightward n a) σ ≡ []
unfolding wrote rightward
w_rightward zero a σ = refl
w_rightward (suc n) a σ = w_bind (rightward n (a + 1)) _ σ ∙ simp (w_rightward n (a + 1) σ, w_ret)

pub w_leftward : (n a : ℕ) (σ : State) → wrote (leftward n a) σ ≡ []
unfolding wrote leftward
w_leftward zero a σ = refl
w_leftward (suc n) a σ = w_bind (leftward n (a - 1)) _ σ ∙ simp (w_leftward n (a - 1) σ, w_ret)

pub w_copy : (n a b : ℕ) (σ : State) → wrote (copy n a b) σ ≡ field n a
unfolding wrote copy field
w_copy zero a b σ = refl
w_copy (suc n) a b σ = ap (λ (l : List Place). mem a ∷ l) (w_copy n (a - 1) (b - 1) _)

pub w_columns : (column : ℕ → ℕ → ℕ → Column) (n a b : ℕ) (c : Columns) (σ : State) → wrote (columns column n a b c) σ ≡ field n a
unfolding wrote columns field
w_columns column zero a b c σ = refl
w_columns column (suc n) a b c σ = ap (λ (l : List Place). mem a ∷ l) (w_columns column n (a - 1) (b - 1) _ _)

pub w_put_digits : (n a m : ℕ) (σ : State) → wrote (put_digits n a m) σ ≡ field n a
unfolding wrote put_digits field
w_put_digits zero a m σ = refl
w_put_digits (suc n) a m σ = ap (λ (l : List Place). mem a ∷ l) (w_put_digits n (a - 1) (m / 10) _)

pub w_put_zoned : (n a : ℕ) (sign : Bool) (m : ℕ) (σ : State) → wrote (put_zoned n a sign m) σ ≡ field n a
unfolding wrote put_zoned field
w_put_zoned zero a sign m σ = refl
w_put_zoned (suc n) a sign m σ = ap (λ (l : List Place). mem a ∷ l) (w_put_digits n (a - 1) (m / 10) _)

pub w_put_edited : (ps ys : List ℕ) (a : ℕ) (σ : State) → wrote (put_edited ps ys a) σ ≡ the20s ps a
unfolding put_edited the20s when
w_put_edited [] ys a σ = w_ret _ σ
w_put_edited (p ∷ ps) ys a σ = w_cond (takes_digit p) _ _ σ ∙ simp (w_wr, w_put_edited ps) (sym (cond_map (λ (l : List Place). l ++ the20s ps (a - 1)) (takes_digit p) (mem a ∷ []) []))

pub w_scan : (n a v : ℕ) (σ : State) → wrote (scan n a v) σ ≡ span (before σ.bytes n a) a
unfolding wrote scan before span
w_scan zero a v σ = refl
w_scan (suc n) a v σ =
    on (ends_scan (get_or σ.bytes a 0)) (w_scan n (a + 1) v (put (mem a) v σ)) (before_set n a (a + 1) v σ.bytes (omega arith))
  where
    on : (b : Bool) → wrote (scan n (a + 1) v) (put (mem a) v σ) ≡ span (before (set σ.bytes a v) n (a + 1)) (a + 1)
        → before (set σ.bytes a v) n (a + 1) ≡ before σ.bytes n (a + 1)
        → wrote (cond b (ret a) (wr (mem a) v (scan n (a + 1) v))) σ ≡ span (cond b 0 (suc (before σ.bytes n (a + 1)))) a
    on true h k = refl
    on false h k = rw (h, k)

pub ruleset writing = (w_ret, w_rd, w_wr, w_cond, w_unless, w_bind, w_leftward, w_copy, w_columns, w_put_zoned, w_put_edited, w_scan, append-nil, cond_same, cond_and, clear_both, val_leftward, fin_leftward)

-- ---- the operations

abbrev listed : Operation → Fields → State → List Place
listed op f σ = when (clear (barred op f σ.bytes)) (operand_writes op f σ.bytes)

w_exec : (op : Operation) (f : Fields) (iar status : ℕ) (σ : State) → wrote (exec op f (setting σ iar status)) σ ≡ listed op f σ
unfolding operand_writes outside further exec when field zaz combine put_result mvx ed itc mvc clc alc slc store load add subtract tbn tbf sbn sbf mvi cli sli branch jump load_address call
w_exec Zaz f iar status σ = simp writing
w_exec Az f iar status σ = simp writing
w_exec Sz f iar status σ = simp writing
w_exec Mvx f iar status σ = simp writing
w_exec Ed f iar status σ = simp writing
w_exec Itc f iar status σ = simp writing
w_exec Mvc f iar status σ = simp writing
w_exec Clc f iar status σ = simp writing
w_exec Alc f iar status σ = simp writing
w_exec Slc f iar status σ = simp writing
w_exec St f iar status σ = simp writing
w_exec L f iar status σ = simp writing
w_exec A f iar status σ = simp writing
w_exec S f iar status σ = simp writing
w_exec Tbn f iar status σ = simp writing
w_exec Tbf f iar status σ = simp writing
w_exec Sbn f iar status σ = simp writing
w_exec Sbf f iar status σ = simp writing
w_exec Mvi f iar status σ = simp writing
w_exec Cli f iar status σ = simp writing
w_exec Sli f iar status σ = simp writing
w_exec Bc f iar status σ = simp writing
w_exec Jc f iar status σ = simp writing
w_exec La f iar status σ = simp writing
w_exec Svc f iar status σ = simp writing

module _ (m : Machine) (s : List ℕ) where
  w_addressed : (b : Base) (next d : ℕ) (k : ℕ → Prog Out) → wrote (addressed b next d k) (state m s) ≡ wrote (k (address_of m b next d)) (state m s)
  w_addressed Absent next d k = refl
  w_addressed Direct next d k = refl
  w_addressed FromXr1 next d k = simp w_rd
  w_addressed FromXr2 next d k = simp w_rd
  w_addressed FromArr next d k = simp w_rd
  w_addressed Forward next d k = refl
  w_addressed Backward next d k = refl

  w_follow : (d : Decoded) → wrote (follow d (given m s)) (state m s) ≡ further_writes m s d
  unfolding follow perform
  w_follow (Err x) = w_ret _ _
  w_follow (Ok i) = simp (w_addressed, w_exec i.operation (fields_of m i) m.iar m.status (state m s))

module _ (size iar : ℕ) (σ : State) where
  w_named : (code : ℕ) (f : Form) (n : Option Operation) → wrote (fetch_named size iar code f n) σ ≡ []
  w_named code f None = w_ret _ σ
  w_named code f (Some op) = simp (writing, w_rightward)

  w_fetch : wrote (fetch size iar) σ ≡ []
  unfolding fetch
  w_fetch = simp (w_cond, w_ret, w_rd, w_named, cond_same)

-- a step writes what document 01's list has
pub writes_exact : (m : Machine) (s : List ℕ) → wrote (step (given m s)) (state m s) ≡ writes_of m s
unfolding writes_of step
writes_exact m s = simp (w_bind, w_fetch, val_fetch m.iar (state m s), fin_fetch m.iar (state m s) (length s), w_follow m s (decode_of s m.iar))
