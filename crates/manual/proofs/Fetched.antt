-- Fetching as a program finds what decoding finds, and changes nothing; so a step is what decoding finds, performed.
-- What carries it: the bytes read one by one are the storage's, and a form's length holds its operands.
use Rattle.std.proofs.Common.{Ok, Err, Option, Some, None, ◌≡◌, refl, sym, ◌∙◌, Bool, true, false, cond, List, ◌∷◌, ℕ, zero, suc, ◌+◌, ◌-◌, ◌/◌, ◌%◌, ◌≤◌, ◌<◌, arith, add-zero, length, get_or, leb, ltb, leb-false}
use Rattle.manual.specs.declared.Machine.{Machine}
use Rattle.manual.specs.declared.Base.{Base}
use Rattle.manual.specs.declared.Base.TheVariants.{Absent, Direct, FromXr1, FromXr2, FromArr, Forward, Backward}
use Rattle.manual.specs.declared.Group.{Group}
use Rattle.manual.specs.declared.Group.TheVariants.{TwoAddress, OneAddress, Branch, Jump}
use Rattle.manual.specs.declared.Form.{Form}
use Rattle.manual.specs.declared.Stop.{Stop}
use Rattle.manual.specs.declared.Stop.TheVariants.{CutShort}
use Rattle.manual.specs.declared.Operation.{Operation}
use Rattle.manual.specs.declared.Answer.TheVariants.{Stopped}
use Rattle.manual.specs.declared.Instruction.{Instruction}
use Rattle.manual.specs.Places.{mem, State, state}
use Rattle.manual.specs.Programs.{Prog, ret, rd, val, fin, ◌>>=◌, rightward, Out}
use Rattle.manual.specs.Formats.{base_of, width_of, length_of, form_of, operation_of, first_base, jump_bases}
use Rattle.manual.specs.Decode.{number_at, instruction_of, with_q, decode_named, decode_opcode, decode_of, fetch_named, fetch_opcode, fetch}
use Rattle.manual.specs.Step.{did, step, follow, perform, exec, addressed, ended, inner_step}
use Rattle.manual.specs.Stops.{address_of, fields_of}
use Rattle.manual.proofs.Running.{val_bind, fin_bind, from, did_from, from_bind, from_rd, doing, rightward_at, fin_rightward}

-- ---- the instruction's bytes hold its operands

pub record Sound (f : Form) : Type 0 where
  pub least : 3 ≤ f.length
  pub most : f.length < 7
  pub holds : 2 + width_of f.first + width_of f.second ≤ f.length

-- a base named by two bits that aren't 3 takes one byte or two
named_width : (b : ℕ) → b < 3 → (1 ≤ width_of (base_of b)) × (width_of (base_of b) ≤ 2)
named_width zero h = (omega arith, omega arith)
named_width (suc zero) h = (omega arith, omega arith)
named_width (suc (suc zero)) h = (omega arith, omega arith)
named_width (suc (suc (suc b))) h = absurd (omega arith)

pub form_sound : (d : ℕ) → Sound (form_of d)
unfolding form_of
form_sound d = on (leb 3 (d / 4)) (leb 3 (d % 4)) refl refl
  where
    on : (b c : Bool) → leb 3 (d / 4) ≡ b → leb 3 (d % 4) ≡ c
        → Sound
        (cond b
        (cond c
        (record { length = 3; first = Absent; second = Absent; group = Jump })
        (record { length = length_of (base_of (d % 4)) Absent; first = base_of (d % 4); second = Absent; group = Branch }))
        (cond c
        (record { length = length_of (base_of (d / 4)) Absent; first = base_of (d / 4); second = Absent; group = OneAddress })
        (record { length = length_of (base_of (d / 4)) (base_of (d % 4)); first = base_of (d / 4); second = base_of (d % 4); group = TwoAddress })))
    on true true e g = record { least = omega arith; most = omega arith; holds = omega arith }
    on true false e g =
        let h = named_width (d % 4) (leb-false 3 (d % 4) g) in
        record { least = omega arith; most = omega arith; holds = omega arith }
    on false true e g =
        let h = named_width (d / 4) (leb-false 3 (d / 4) e) in
        record { least = omega arith; most = omega arith; holds = omega arith }
    on false false e g =
        let h = named_width (d / 4) (leb-false 3 (d / 4) e) in
        let k = named_width (d % 4) (leb-false 3 (d % 4) g) in
        record { least = omega arith; most = omega arith; holds = omega arith }

-- a jump's third byte is within its three bytes too
jump_width : (r : ℕ) → width_of (get_or jump_bases r Absent) ≤ 1
jump_width zero = omega arith
jump_width (suc zero) = omega arith
jump_width (suc (suc zero)) = omega arith
jump_width (suc (suc (suc r))) = omega arith

pub first_holds : (f : Form) (r : ℕ) → Sound f → 2 + width_of (first_base f.group f.first r) ≤ f.length
unfolding first_base
first_holds f r h = on f.group
  where
    on : (g : Group) → 2 + width_of (first_base g f.first r) ≤ f.length
    on TwoAddress = omega arith
    on OneAddress = omega arith
    on Branch = omega arith
    on Jump = omega (arith, jump_width r)

-- ---- the instruction is the same, read or decoded

module _ (s : List ℕ) (iar n : ℕ) (read : ℕ → ℕ) (same : (k : ℕ) → k < n → read k ≡ get_or s (iar + k) 0) where
  same_number : (b : Base) (k : ℕ) → k + width_of b ≤ n → number_at b read k ≡ number_at b (λ i. get_or s (iar + i) 0) k
  same_number Absent k h = refl
  same_number Direct k h = rw (same k (omega arith), same (k + 1) (omega arith))
  same_number FromXr1 k h = same k (omega arith)
  same_number FromXr2 k h = same k (omega arith)
  same_number FromArr k h = same k (omega arith)
  same_number Forward k h = same k (omega arith)
  same_number Backward k h = same k (omega arith)

  same_q : (f : Form) (op : Operation) → Sound f → f.length ≡ n → with_q iar f op read ≡ with_q iar f op (λ i. get_or s (iar + i) 0)
  unfolding instruction_of
  same_q f op h e =
      let r : ℕ = get_or s (iar + 0) 0 % 16 in
      let b : Base = first_base f.group f.first r in
      let fits : 2 + width_of b ≤ f.length = first_holds f r h in
      rw (
        same 0 (omega arith),
        same 1 (omega arith),
        same 2 (omega arith),
        same_number b 2 (omega arith),
        same_number f.second (2 + width_of f.first) (omega arith),
      )

-- ---- fetching

module _ (iar : ℕ) (σ : State) where
  -- the opcode byte and those after it are the bytes from IAR on
  read_byte : (n k : ℕ) → k < n → get_or (get_or σ.bytes iar 0 ∷ val (rightward (n - 1) (iar + 1)) σ) k 0 ≡ get_or σ.bytes (iar + k) 0
  read_byte n zero h = rw (add-zero iar)
  read_byte n (suc k) h =
      let e : iar + 1 + k ≡ iar + suc k = omega arith in
      rw (rightward_at (n - 1) (iar + 1) k σ (omega arith), e)

  fetched_whole : (b : Bool) (f : Form) (op : Operation) → Sound f
      → val (cond b (ret (Err CutShort)) (rightward (f.length - 1) (iar + 1) >>= λ later. ret (with_q iar f op (λ k. get_or (get_or σ.bytes iar 0 ∷ later) k 0)))) σ
      ≡ cond b (Err CutShort) (with_q iar f op (λ k. get_or σ.bytes (iar + k) 0))
  unfolding val
  fetched_whole true f op h = refl
  fetched_whole false f op h =
      val_bind (rightward (f.length - 1) (iar + 1)) _ σ ∙
      same_q σ.bytes iar f.length (λ k. get_or (get_or σ.bytes iar 0 ∷ val (rightward (f.length - 1) (iar + 1)) σ) k 0) (read_byte f.length) f op h refl

  fetched_named : (f : Form) (n : Option Operation) → Sound f → val (fetch_named (length σ.bytes) iar (get_or σ.bytes iar 0) f n) σ ≡ decode_named σ.bytes iar f n
  fetched_named f None h = unfold val in refl
  fetched_named f (Some op) h = fetched_whole (ltb (length σ.bytes - iar) f.length) f op h

  fetched_from : (b : Bool)
      → val (cond b (ret (Err CutShort)) (rd (mem iar) λ c. fetch_opcode (length σ.bytes) iar c)) σ
      ≡ cond b (Err CutShort) (decode_opcode σ.bytes iar (get_or σ.bytes iar 0))
  unfolding val
  fetched_from true = refl
  fetched_from false = fetched_named (form_of (get_or σ.bytes iar 0 / 16)) (operation_of (get_or σ.bytes iar 0)) (form_sound (get_or σ.bytes iar 0 / 16))

  pub val_fetch : val (fetch (length σ.bytes) iar) σ ≡ decode_of σ.bytes iar
  unfolding fetch decode_of
  val_fetch = fetched_from (leb (length σ.bytes) iar)

  kept_whole : (b : Bool) (code : ℕ) (f : Form) (op : Operation)
      → fin (cond b (ret (Err CutShort)) (rightward (f.length - 1) (iar + 1) >>= λ later. ret (with_q iar f op (λ k. get_or (code ∷ later) k 0)))) σ ≡ σ
  unfolding fin
  kept_whole true code f op = refl
  kept_whole false code f op = fin_bind (rightward (f.length - 1) (iar + 1)) _ σ ∙ fin_rightward _ _ σ

  kept_named : (size code : ℕ) (f : Form) (n : Option Operation) → fin (fetch_named size iar code f n) σ ≡ σ
  kept_named size code f None = unfold fin in refl
  kept_named size code f (Some op) = kept_whole (ltb (size - iar) f.length) code f op

  kept_from : (b : Bool) (size : ℕ) → fin (cond b (ret (Err CutShort)) (rd (mem iar) λ c. fetch_opcode size iar c)) σ ≡ σ
  unfolding fin
  kept_from true size = refl
  kept_from false size = kept_named size (get_or σ.bytes iar 0) (form_of (get_or σ.bytes iar 0 / 16)) (operation_of (get_or σ.bytes iar 0))

  pub fin_fetch : (size : ℕ) → fin (fetch size iar) σ ≡ σ
  unfolding fetch
  fin_fetch size = kept_from (leb size iar) size

-- ---- a step is what decoding finds, performed

module _ (m : Machine) (s : List ℕ) where
  pub did_step : inner_step m s ≡ did m s (follow (decode_of s m.iar))
  unfolding inner_step step
  did_step = simp (did_from, from_bind, val_fetch m.iar (state m s), fin_fetch)

  -- how decoding ended, where it found no instruction
  pub did_stop : (x : Stop) → did m s (follow (Err x)) ≡ ended m (Stopped x) s
  unfolding follow
  did_stop x = simp doing

  pub from_addressed : (b : Base) (next d : ℕ) (k : ℕ → Prog Out) (σ : State) → σ.machine ≡ m → from m s (addressed b next d k) σ ≡ from m s (k (address_of m b next d)) σ
  from_addressed Absent next d k σ e = refl
  from_addressed Direct next d k σ e = refl
  from_addressed FromXr1 next d k σ e = rw from_rd (rw e)
  from_addressed FromXr2 next d k σ e = rw from_rd (rw e)
  from_addressed FromArr next d k σ e = rw from_rd (rw e)
  from_addressed Forward next d k σ e = refl
  from_addressed Backward next d k σ e = refl

  pub did_perform : (i : Instruction) → did m s (follow (Ok i)) ≡ did m s (exec i.operation (fields_of m i))
  unfolding follow perform
  did_perform i =
      did_from m s (perform i) ∙
      from_addressed i.first.base _ _ _ (state m s) refl ∙
      from_addressed i.second.base _ _ _ (state m s) refl ∙
      sym (did_from m s (exec i.operation (fields_of m i)))
