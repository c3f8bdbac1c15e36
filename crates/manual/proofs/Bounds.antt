-- The limits of the numbers that a machine, a storage and an instruction hold, and programs that keep them. What carries it: one induction on such a program.
use Rattle.std.proofs.Common.{Ok, Err, ◌≡◌, ◌∙◌, Bool, cond, ◌&&◌, List, ℕ, ◌+◌, ◌<◌, arith, length, get_or, length-set, eqb, ltb, leb}
use Rattle.std.proofs.lemmas.Bool.{cond_both}
use Rattle.manual.specs.declared.Machine.{Machine}
use Rattle.manual.specs.declared.Register.TheVariants.{Arr, Xr1, Xr2, Work}
use Rattle.manual.specs.declared.Stop.{Stop}
use Rattle.manual.specs.declared.Stop.TheVariants.{OperandOutside, DigitRefused}
use Rattle.manual.specs.declared.Answer.{Answer}
use Rattle.manual.specs.declared.Instruction.{Instruction}
use Rattle.manual.specs.declared.Fields.{Fields}
use Rattle.manual.specs.Numbers.{stop_told, answer_told}
use Rattle.manual.specs.Places.{Place, mem, reg, State, look, put}
use Rattle.manual.specs.Programs.{Prog, ret, rd, wr, val, fin, ◌>>=◌, Out, stop, go, unless, Way}
use Rattle.manual.specs.Formats.{reach, reach_right}
use Rattle.manual.specs.Values.{digits_of, all_digits}
use Rattle.manual.specs.Edit.{source_reach}
use Rattle.manual.proofs.FieldBytes.{set_below}
use Rattle.manual.specs.Decode.{Decoded}

-- registers below 65,536, the work registers four, the status below 64, bytes below 256
pub record Bounded (m : Machine) (s : List ℕ) : Type 0 where
  pub iar : m.iar < 65536
  pub arr : m.arr < 65536
  pub xr1 : m.xr1 < 65536
  pub xr2 : m.xr2 < 65536
  pub wr : (i : ℕ) → get_or m.wr i 0 < 65536
  pub four : length m.wr ≡ 4
  pub status : m.status < 64
  pub bytes : (i : ℕ) → get_or s i 0 < 256

-- what a place's number stays below
abbrev pub limit : Place → ℕ
limit (mem a) = 256
limit (reg r) = 65536

-- the Q and R bytes that come back with a stop, after k steps
abbrev pub BoundedStop : Stop → Type 0
BoundedStop x = (k : ℕ) → ((stop_told x k).q < 256) × ((stop_told x k).r < 256)

-- those that come back with an answer
abbrev pub BoundedAnswer : Answer → Type 0
BoundedAnswer a = (k : ℕ) → ((answer_told a k).q < 256) × ((answer_told a k).r < 256)

-- the address and the status that a rule goes on with
abbrev pub BoundedOut : Out → Type 0
BoundedOut (stop x) = BoundedStop x
BoundedOut (go i x) = (i < 65536) × (x < 64)

-- the numbers of an instruction's fields
pub record BoundedFields (f : Fields) : Type 0 where
  pub q : f.q < 256
  pub r : f.r < 256
  pub a1 : f.a1 < 65536
  pub a2 : f.a2 < 65536
  pub next : f.next < 65536

-- the numbers of an instruction as its bytes say it
pub record BoundedInstruction (i : Instruction) : Type 0 where
  pub q : i.q < 256
  pub r : i.r < 256
  pub first : i.first.number < 65536
  pub second : i.second.number < 65536
  pub next : i.next < 65536

-- the numbers of what decoding answers
abbrev pub BoundedDecoded : Decoded → Type 0
BoundedDecoded (Ok i) = BoundedInstruction i
BoundedDecoded (Err x) = BoundedStop x

-- from numbers below their limits, the program writes numbers below their limits and gives what P says
pub data Keeps {A : Type 0} (P : A → Type 0) : Prog A → Type 0 where
  giving : {x : A} → P x → Keeps P (ret x)
  reading : {l : Place} {k : ℕ → Prog A} → ((v : ℕ) → v < limit l → Keeps P (k v)) → Keeps P (rd l k)
  writing : {l : Place} {v : ℕ} {p : Prog A} → v < limit l → Keeps P p → Keeps P (wr l v p)

-- ---- one program's bounds

look_below : (l : Place) (σ : State) → Bounded σ.machine σ.bytes → look l σ < limit l
look_below (mem a) σ b = b.bytes a
look_below (reg Arr) σ b = b.arr
look_below (reg Xr1) σ b = b.xr1
look_below (reg Xr2) σ b = b.xr2
look_below (reg (Work i)) σ b = b.wr i

put_keeps : (l : Place) (v : ℕ) (σ : State) → v < limit l → Bounded σ.machine σ.bytes → Bounded (put l v σ).machine (put l v σ).bytes
put_keeps (mem a) v σ h b =
    record { iar = b.iar; arr = b.arr; xr1 = b.xr1; xr2 = b.xr2; wr = b.wr; four = b.four; status = b.status; bytes = set_below 256 σ.bytes a v h b.bytes }
put_keeps (reg Arr) v σ h b =
    record { iar = b.iar; arr = h; xr1 = b.xr1; xr2 = b.xr2; wr = b.wr; four = b.four; status = b.status; bytes = b.bytes }
put_keeps (reg Xr1) v σ h b =
    record { iar = b.iar; arr = b.arr; xr1 = h; xr2 = b.xr2; wr = b.wr; four = b.four; status = b.status; bytes = b.bytes }
put_keeps (reg Xr2) v σ h b =
    record { iar = b.iar; arr = b.arr; xr1 = b.xr1; xr2 = h; wr = b.wr; four = b.four; status = b.status; bytes = b.bytes }
put_keeps (reg (Work i)) v σ h b =
    record {
      iar = b.iar;
      arr = b.arr;
      xr1 = b.xr1;
      xr2 = b.xr2;
      status = b.status;
      bytes = b.bytes;
      wr = set_below 65536 σ.machine.wr i v h b.wr;
      four = length-set σ.machine.wr i v ∙ b.four;
    }

module _ {A : Type 0} {P : A → Type 0} where
  -- a program that keeps bounds leaves numbers below their limits and gives what P says
  pub keeps : {p : Prog A} → Keeps P p → (σ : State) → Bounded σ.machine σ.bytes → Bounded (fin p σ).machine (fin p σ).bytes × P (val p σ)
  unfolding fin val
  keeps (giving h) σ b = (b, h)
  keeps (reading {l = l} h) σ b = keeps (h (look l σ) (look_below l σ b)) σ b
  keeps (writing {l = l} {v = v} h t) σ b = keeps t (put l v σ) (put_keeps l v σ h b)

  -- one program, and then another of what it gave
  pub keeps_bind : {B : Type 0} {Q : B → Type 0} {p : Prog B} {f : B → Prog A} → Keeps Q p → ((x : B) → Q x → Keeps P (f x)) → Keeps P (p >>= f)
  unfolding ◌>>=◌
  keeps_bind (giving h) t = t _ h
  keeps_bind (reading h) t = reading (λ v hv. keeps_bind (h v hv) t)
  keeps_bind (writing h k) t = writing h (keeps_bind k t)

  pub keeps_cond : (b : Bool) {p q : Prog A} → Keeps P p → Keeps P q → Keeps P (cond b p q)
  keeps_cond b h k = cond_both b _ _ (Keeps P) (λ _. h) (λ _. k)

-- ---- what stands in the way carries no byte

abbrev pub BoundedWay : Way → Type 0
BoundedWay (Ok tt) = Unit
BoundedWay (Err x) = BoundedStop x

pub way_reach : (size n a : ℕ) → BoundedWay (reach size n a)
unfolding reach
way_reach size n a = cond_both (ltb a size && leb n (a + 1)) (Ok tt) (Err OperandOutside) BoundedWay (λ _. tt) (λ _. omega arith)

pub way_reach_right : (size n a : ℕ) → BoundedWay (reach_right size n a)
unfolding reach_right
way_reach_right size n a = cond_both (leb (a + n) size) (Ok tt) (Err OperandOutside) BoundedWay (λ _. tt) (λ _. omega arith)

pub way_source : (size n a : ℕ) → BoundedWay (source_reach size n a)
unfolding source_reach
way_source size n a = cond_both (eqb n 0) (Ok tt) (reach size n a) BoundedWay (λ _. tt) (λ _. way_reach size n a)

pub way_digits : (bs : List ℕ) → BoundedWay (digits_of bs)
unfolding digits_of
way_digits bs = cond_both (all_digits bs) (Ok tt) (Err DigitRefused) BoundedWay (λ _. tt) (λ _. omega arith)

pub keeps_unless : (w : Way) {p : Prog Out} → BoundedWay w → Keeps BoundedOut p → Keeps BoundedOut (unless w p)
unfolding unless
keeps_unless (Ok tt) h k = k
keeps_unless (Err x) h k = giving h
