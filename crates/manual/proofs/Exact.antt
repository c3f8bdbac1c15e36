-- A step's rule reads a place if and only if document 01's list has it: no more, no less, for every instruction and stop.
-- What carries it: how reading goes through each form of a program, then one line an operation.
use Rattle.std.proofs.Common.{Ok, Err, Option, Some, None, ◌≡◌, refl, ap, sym, ◌∙◌, Bool, true, false, cond, ◌||◌, List, [], ◌∷◌, ◌++◌, ℕ, zero, suc, ◌+◌, ◌-◌, ◌/◌, ◌<◌, min, arith, length, get_or, set, get_or-set_other, leb, ltb}
use Rattle.std.proofs.lemmas.Bool.{cond_both}
use Rattle.std.proofs.lemmas.Bool.Decides.{nat_tests}
use Rattle.std.proofs.Math.Bool.{or-false, or_assoc}
use Rattle.manual.specs.declared.Machine.{Machine}
use Rattle.manual.specs.declared.Stop.TheVariants.{CutShort, QRefused}
use Rattle.manual.specs.declared.Operation.{Operation}
use Rattle.manual.specs.declared.Operation.TheVariants.{Zaz, Az, Sz, Mvx, Ed, Itc, Mvc, Clc, Alc, Slc, St, L, A, S, Tbn, Tbf, Sbn, Sbf, Mvi, Cli, Sli, Bc, Jc, La, Svc}
use Rattle.manual.specs.declared.Base.{Base}
use Rattle.manual.specs.declared.Base.TheVariants.{Absent, Direct, FromXr1, FromXr2, FromArr, Forward, Backward}
use Rattle.manual.specs.declared.Form.{Form}
use Rattle.manual.specs.declared.Fields.{Fields}
use Rattle.manual.specs.declared.Columns.{Columns}
use Rattle.manual.specs.Places.{Place, mem, same, State, state, look, put}
use Rattle.manual.specs.Programs.{Prog, ret, rd, wr, val, fin, reads, ◌>>=◌, rightward, leftward, Out, Given, clear, unless, Way}
use Rattle.manual.specs.Formats.{form_of, operation_of, allowed}
use Rattle.manual.specs.Decode.{instruction_of, with_q, decode_named, decode_opcode, decode_of, fetch_named, fetch_opcode, fetch, Decoded}
use Rattle.manual.specs.Zoned.{put_digits, put_zoned, put_result, zaz, combine}
use Rattle.manual.specs.Edit.{takes_digit, put_edited, ends_scan, scan, mvx, ed, itc}
use Rattle.manual.specs.Logical.{Column, copy, mvc, clc, columns, alc, slc}
use Rattle.manual.specs.Registers.{store, load, add, subtract}
use Rattle.manual.specs.Immediate.{tbn, tbf, sbn, sbf, mvi, cli, sli}
use Rattle.manual.specs.Branches.{branch, jump, load_address, call}
use Rattle.manual.specs.Step.{exec, addressed, perform, follow, step, given}
use Rattle.manual.specs.Stops.{address_of, fields_of, outside}
use Rattle.manual.specs.Reads.{elem, field, span, when, before, operand_reads, register_reads, base_reads, whole, instruction_reads, further_reads, reads_of}
use Rattle.manual.proofs.Running.{val_leftward, fin_leftward, cond_same, cond_map}
use Rattle.manual.proofs.Fetched.{Sound, form_sound, val_fetch, fin_fetch}

-- ---- the forms of a program

module _ {X : Type 0} where
  pub e_ret : (v : X) (σ : State) (x : Place) → reads (ret v) σ x ≡ false
  unfolding reads
  e_ret v σ x = refl

  pub e_rd : (l : Place) (k : ℕ → Prog X) (σ : State) (x : Place) → reads (rd l k) σ x ≡ (same l x || reads (k (look l σ)) σ x)
  unfolding reads
  e_rd l k σ x = refl

  pub e_wr : (l : Place) (v : ℕ) (p : Prog X) (σ : State) (x : Place) → reads (wr l v p) σ x ≡ reads p (put l v σ) x
  unfolding reads
  e_wr l v p σ x = refl

  pub e_cond : (b : Bool) (p q : Prog X) (σ : State) (x : Place) → reads (cond b p q) σ x ≡ cond b (reads p σ x) (reads q σ x)
  e_cond b p q σ x = cond_map (λ (r : Prog X). reads r σ x) b p q

pub e_unless : (w : Way) (p : Prog Out) (σ : State) (x : Place) → reads (unless w p) σ x ≡ cond (clear w) (reads p σ x) false
unfolding unless reads
e_unless (Ok tt) p σ x = refl
e_unless (Err y) p σ x = refl

pub e_bind : {X Y : Type 0} (p : Prog X) (f : X → Prog Y) (σ : State) (x : Place) → reads (p >>= f) σ x ≡ (reads p σ x || reads (f (val p σ)) (fin p σ) x)
unfolding reads val fin ◌>>=◌
e_bind (ret v) f σ x = refl
e_bind (rd l k) f σ x = rw (e_bind (k (look l σ)) f σ x) (sym (or_assoc (same l x) _ _))
e_bind (wr l v p) f σ x = e_bind p f (put l v σ) x

-- ---- the lists

pub elem_append : (x : Place) (xs ys : List Place) → elem x (xs ++ ys) ≡ (elem x xs || elem x ys)
elem_append x [] ys = refl
elem_append x (a ∷ xs) ys = rw (elem_append x xs ys) (sym (or_assoc (same a x) _ _))

pub elem_cond : (x : Place) (b : Bool) (xs ys : List Place) → elem x (cond b xs ys) ≡ cond b (elem x xs) (elem x ys)
elem_cond x b xs ys = cond_map (elem x) b xs ys

-- ---- the parts of the rules

pub e_rightward : (n a : ℕ) (σ : State) (x : Place) → reads (rightward n a) σ x ≡ elem x (span n a)
unfolding reads rightward span
e_rightward zero a σ x = refl
e_rightward (suc n) a σ x = ap (λ (b : Bool). same (mem a) x || b) (e_bind (rightward n (a + 1)) _ σ x ∙ simp (e_rightward n (a + 1) σ x, e_ret, or-false))

pub e_leftward : (n a : ℕ) (σ : State) (x : Place) → reads (leftward n a) σ x ≡ elem x (field n a)
unfolding reads leftward field
e_leftward zero a σ x = refl
e_leftward (suc n) a σ x = ap (λ (b : Bool). same (mem a) x || b) (e_bind (leftward n (a - 1)) _ σ x ∙ simp (e_leftward n (a - 1) σ x, e_ret, or-false))

pub e_copy : (n a b : ℕ) (σ : State) (x : Place) → reads (copy n a b) σ x ≡ elem x (field n b)
unfolding reads copy field
e_copy zero a b σ x = refl
e_copy (suc n) a b σ x = ap (λ (c : Bool). same (mem b) x || c) (e_copy n (a - 1) (b - 1) _ x)

mix : (p q r s : Bool) → (p || (q || (r || s))) ≡ ((p || r) || (q || s))
mix p q r s = grind (arith, nat_tests)

pub e_columns : (column : ℕ → ℕ → ℕ → Column) (n a b : ℕ) (c : Columns) (σ : State) (x : Place)
    → reads (columns column n a b c) σ x ≡ (elem x (field n a) || elem x (field n b))
unfolding reads columns field
e_columns column zero a b c σ x = refl
e_columns column (suc n) a b c σ x =
    ap (λ (v : Bool). same (mem a) x || (same (mem b) x || v)) (e_columns column n (a - 1) (b - 1) _ _ x) ∙ mix (same (mem a) x) (same (mem b) x) _ _

-- what is written to a field from its bytes on reads nothing
pub e_put_digits : (n a m : ℕ) (σ : State) (x : Place) → reads (put_digits n a m) σ x ≡ false
unfolding reads put_digits
e_put_digits zero a m σ x = refl
e_put_digits (suc n) a m σ x = e_put_digits n (a - 1) (m / 10) _ x

pub e_put_zoned : (n a : ℕ) (sign : Bool) (m : ℕ) (σ : State) (x : Place) → reads (put_zoned n a sign m) σ x ≡ false
unfolding reads put_zoned
e_put_zoned zero a sign m σ x = refl
e_put_zoned (suc n) a sign m σ x = e_put_digits n (a - 1) (m / 10) _ x

pub e_put_edited : (ps ys : List ℕ) (a : ℕ) (σ : State) (x : Place) → reads (put_edited ps ys a) σ x ≡ false
unfolding put_edited
e_put_edited [] ys a σ x = e_ret _ σ x
e_put_edited (p ∷ ps) ys a σ x =
    e_cond (takes_digit p) _ _ σ x ∙ simp (e_wr, e_put_edited ps, cond_same)

-- ITC: a byte written leaves the ones right of it
pub before_set : (n i a v : ℕ) (s : List ℕ) → i < a → before (set s i v) n a ≡ before s n a
unfolding before
before_set zero i a v s h = refl
before_set (suc n) i a v s h =
    let e : get_or (set s i v) a 0 ≡ get_or s a 0 = get_or-set_other s i a v 0 (λ q. omega arith) in
    rw (e, before_set n i (a + 1) v s (omega arith))

pub e_scan : (n a v : ℕ) (σ : State) (x : Place) → reads (scan n a v) σ x ≡ elem x (span (min (before σ.bytes n a + 1) n) a)
unfolding reads scan before span
e_scan zero a v σ x = ap (λ (k : ℕ). elem x (span k a)) (min-zero (before σ.bytes 0 a + 1))
  where
    min-zero : (k : ℕ) → 0 ≡ min k 0
    min-zero k = omega arith
e_scan (suc n) a v σ x =
    on (ends_scan (get_or σ.bytes a 0)) (e_scan n (a + 1) v (put (mem a) v σ) x) (before_set n a (a + 1) v σ.bytes (omega arith))
  where
    one : (n : ℕ) → min (0 + 1) (suc n) ≡ 1
    one n = omega arith

    next : (k n : ℕ) → min (suc k + 1) (suc n) ≡ suc (min (k + 1) n)
    next k n = omega arith

    on : (b : Bool) → reads (scan n (a + 1) v) (put (mem a) v σ) x ≡ elem x (span (min (before (set σ.bytes a v) n (a + 1) + 1) n) (a + 1))
        → before (set σ.bytes a v) n (a + 1) ≡ before σ.bytes n (a + 1)
        → (same (mem a) x || reads (cond b (ret a) (wr (mem a) v (scan n (a + 1) v))) σ x)
        ≡ elem x (span (min (cond b 0 (suc (before σ.bytes n (a + 1))) + 1) (suc n)) a)
    on true h k = rw (one n)
    on false h k = rw (next (before σ.bytes n (a + 1)) n, h, k)

pub ruleset exactly = (e_ret, e_rd, e_wr, e_cond, e_unless, e_bind, e_leftward, e_copy, e_columns, e_put_zoned, e_put_edited, e_scan, elem_append, elem_cond, cond_same, or-false, val_leftward, fin_leftward)

-- ---- the operations

-- what a step is given in a state
abbrev pub setting : State → ℕ → ℕ → Given
setting σ iar status = record { size = length σ.bytes; iar = iar; status = status }

abbrev listed : Operation → Fields → State → List Place
listed op f σ = register_reads op f ++ when (clear (outside op f (length σ.bytes))) (operand_reads op f σ.bytes)

e_exec : (op : Operation) (f : Fields) (iar status : ℕ) (σ : State) (x : Place) → reads (exec op f (setting σ iar status)) σ x ≡ elem x (listed op f σ)
unfolding operand_reads register_reads outside exec when field zaz combine put_result mvx ed itc mvc clc alc slc store load add subtract tbn tbf sbn sbf mvi cli sli branch jump load_address call
e_exec Zaz f iar status σ x = simp exactly
e_exec Az f iar status σ x = simp exactly
e_exec Sz f iar status σ x = simp exactly
e_exec Mvx f iar status σ x = simp exactly
e_exec Ed f iar status σ x = simp exactly
e_exec Itc f iar status σ x = simp exactly
e_exec Mvc f iar status σ x = simp exactly
e_exec Clc f iar status σ x = simp exactly
e_exec Alc f iar status σ x = simp exactly
e_exec Slc f iar status σ x = simp exactly
e_exec St f iar status σ x = simp exactly
e_exec L f iar status σ x = simp exactly
e_exec A f iar status σ x = simp exactly
e_exec S f iar status σ x = simp exactly
e_exec Tbn f iar status σ x = simp exactly
e_exec Tbf f iar status σ x = simp exactly
e_exec Sbn f iar status σ x = simp exactly
e_exec Sbf f iar status σ x = simp exactly
e_exec Mvi f iar status σ x = simp exactly
e_exec Cli f iar status σ x = simp exactly
e_exec Sli f iar status σ x = simp exactly
e_exec Bc f iar status σ x = simp exactly
e_exec Jc f iar status σ x = simp exactly
e_exec La f iar status σ x = simp exactly
e_exec Svc f iar status σ x = simp exactly

-- ---- the addresses: a base is read, and no byte

module _ (m : Machine) (s : List ℕ) (x : Place) where
  e_addressed : (b : Base) (next d : ℕ) (k : ℕ → Prog Out)
      → reads (addressed b next d k) (state m s) x ≡ (elem x (base_reads b) || reads (k (address_of m b next d)) (state m s) x)
  e_addressed Absent next d k = refl
  e_addressed Direct next d k = refl
  e_addressed FromXr1 next d k = simp (e_rd, or-false)
  e_addressed FromXr2 next d k = simp (e_rd, or-false)
  e_addressed FromArr next d k = simp (e_rd, or-false)
  e_addressed Forward next d k = refl
  e_addressed Backward next d k = refl

  e_follow : (d : Decoded) → reads (follow d (given m s)) (state m s) x ≡ elem x (further_reads m s d)
  unfolding follow perform
  e_follow (Err y) = e_ret _ _ x
  e_follow (Ok i) = simp (e_addressed, e_exec i.operation (fields_of m i) m.iar m.status (state m s) x, elem_append)

-- ---- fetching

module _ (m : Machine) (s : List ℕ) (iar : ℕ) (x : Place) where
  whole_q : (f : Form) (op : Operation) (byte : ℕ → ℕ) → whole (with_q iar f op byte) ≡ true
  whole_q f op byte = cond_both (allowed op (byte 1)) (Ok (instruction_of iar f op byte)) (Err QRefused) (λ (d : Decoded). whole d ≡ true) (λ _. refl) (λ _. refl)

  -- the opcode byte and the later bytes of a form are its length of bytes
  all_bytes : (f : Form) → Sound f → (same (mem iar) x || elem x (span (f.length - 1) (iar + 1))) ≡ elem x (span f.length iar)
  unfolding span
  all_bytes f h =
      let e : f.length ≡ suc (f.length - 1) = omega arith in
      ap (λ (n : ℕ). elem x (span n iar)) (sym e)

  e_known : (b : Bool) (code : ℕ) (f : Form) (op : Operation) (byte : ℕ → ℕ) → Sound f
      → (same (mem iar) x || reads (cond b (ret (Err CutShort)) (rightward (f.length - 1) (iar + 1) >>= λ later. ret (with_q iar f op (λ k. get_or (code ∷ later) k 0)))) (state m s) x)
      ≡ elem x (cond (whole (cond b (Err CutShort) (with_q iar f op byte))) (span f.length iar) (span 1 iar))
  unfolding span
  e_known true code f op byte h = simp (e_ret, or-false)
  e_known false code f op byte h = rw (whole_q f op byte) (simp (e_bind, e_rightward, e_ret, or-false) (all_bytes f h))

  e_named : (code : ℕ) (f : Form) (n : Option Operation) → Sound f
      → (same (mem iar) x || reads (fetch_named (length s) iar code f n) (state m s) x) ≡ elem x (cond (whole (decode_named s iar f n)) (span f.length iar) (span 1 iar))
  unfolding span
  e_named code f None h = simp (e_ret, or-false)
  e_named code f (Some op) h = e_known (ltb (length s - iar) f.length) code f op (λ k. get_or s (iar + k) 0) h

  e_from : (b : Bool)
      → reads (cond b (ret (Err CutShort)) (rd (mem iar) λ c. fetch_opcode (length s) iar c)) (state m s) x
      ≡ elem x
      (cond b []
      (cond (whole (cond b (Err CutShort) (decode_opcode s iar (get_or s iar 0)))) (span (form_of (get_or s iar 0 / 16)).length iar) (span 1 iar)))
  e_from true = e_ret _ (state m s) x
  e_from false =
      let c : ℕ = get_or s iar 0 in
      rw e_rd (e_named c (form_of (c / 16)) (operation_of c) (form_sound (c / 16)))

  e_fetch : reads (fetch (length s) iar) (state m s) x ≡ elem x (instruction_reads s iar)
  unfolding fetch instruction_reads decode_of
  e_fetch = e_from (leb (length s) iar)

-- a step reads a place if and only if document 01's list has it
pub reads_exact : (m : Machine) (s : List ℕ) (x : Place) → reads (step (given m s)) (state m s) x ≡ elem x (reads_of m s)
unfolding reads_of step
reads_exact m s x =
    simp (
      e_bind,
      e_fetch m s m.iar x,
      val_fetch m.iar (state m s),
      fin_fetch m.iar (state m s) (length s),
      e_follow m s x (decode_of s m.iar),
      elem_append,
    )
