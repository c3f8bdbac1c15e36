-- Every operation, and the step as a whole, keeps the numbers below their limits. What carries it: `Keeps` through each part of a rule, then one operation a time.
use Rattle.std.proofs.Common.{Ok, Err, Option, Some, None, Bool, List, [], ◌∷◌, ℕ, zero, suc, ◌+◌, ◌-◌, ◌/◌, ◌%◌, ◌<◌, arith, lt_of_le_of_lt, get_or, drop, ltb, leb, lit<, ℤ, ◌+ℤ◌, ◌-ℤ◌}
use Rattle.std.proofs.lemmas.Bool.Decides.{nat_tests}
use Rattle.std.proofs.lemmas.Bool.{cond_both}
use Rattle.std.proofs.lemmas.Nat.{or_lt, and_le_l}
use Rattle.manual.specs.declared.Stop.TheVariants.{CutShort, OpcodeUnknown, QRefused, Supervisor}
use Rattle.manual.specs.declared.Operation.{Operation}
use Rattle.manual.specs.declared.Operation.TheVariants.{Zaz, Az, Sz, Mvx, Ed, Itc, Mvc, Clc, Alc, Slc, St, L, A, S, Tbn, Tbf, Sbn, Sbf, Mvi, Cli, Sli, Bc, Jc, La, Svc}
use Rattle.manual.specs.declared.Base.{Base}
use Rattle.manual.specs.declared.Base.TheVariants.{Absent, Direct, FromXr1, FromXr2, FromArr, Forward, Backward}
use Rattle.manual.specs.declared.Form.{Form}
use Rattle.manual.specs.declared.Instruction.{Instruction}
use Rattle.manual.specs.declared.Fields.{Fields}
use Rattle.manual.specs.declared.Columns.{Columns}
use Rattle.manual.specs.Programs.{Prog, ret, rightward, leftward, Out, stop, go, Given}
use Rattle.manual.specs.TheMachine.{order_of}
use Rattle.manual.specs.Formats.{form_of, named_of, first_base, width_of, allowed, reach, reach_right}
use Rattle.manual.specs.Values.{value, digits_of, sign_order}
use Rattle.manual.specs.Decode.{number_at, instruction_of, fetch_named, fetch, Decoded}
use Rattle.manual.specs.Zoned.{l1, l2, zoned_reach, put_digits, put_zoned, put_result, zaz, combine}
use Rattle.manual.specs.Edit.{takes_digit, count20, put_edited, ed, half_moved, mvx, ends_scan, scan, itc}
use Rattle.manual.specs.Logical.{reach_both, copy, mvc, clc, Column, added, subtracted, columns, fresh, onward, alc, slc}
use Rattle.manual.specs.Registers.{is_status, store, load, add, subtract}
use Rattle.manual.specs.Immediate.{tested, changed, tbn, tbf, sbn, sbf, mvi, cli, sli}
use Rattle.manual.specs.Branches.{taken, after_test, branch, jump, load_address, call}
use Rattle.manual.specs.Step.{exec, based, addressed, fields, perform, follow, step}
use Rattle.manual.proofs.Status.{sign_small, order_below, test_below, sum_below, difference_below, zoned_below, loaded_below, after_below}
use Rattle.manual.proofs.FieldBytes.{Bytes, cons_below}
use Rattle.manual.proofs.Compared.{order_small}
use Rattle.manual.proofs.Sums.{byte_added, byte_subtracted}
use Rattle.manual.proofs.Bounds.{BoundedOut, BoundedFields, BoundedInstruction, BoundedDecoded, Keeps, giving, reading, writing, keeps_bind, keeps_cond, BoundedWay, way_reach, way_reach_right, way_source, way_digits, keeps_unless}
use Rattle.manual.proofs.Running.{both_hold}

-- ---- the parts of the rules

abbrev Any : {A : Type 0} → A → Type 0
Any x = Unit

no_bytes : Bytes []
no_bytes i = omega arith

keeps_rightward : (n a : ℕ) → Keeps Bytes (rightward n a)
unfolding rightward
keeps_rightward zero a = giving no_bytes
keeps_rightward (suc n) a = reading λ v h. keeps_bind (keeps_rightward n (a + 1)) λ vs hs. giving (cons_below 256 v vs h hs)

keeps_leftward : (n a : ℕ) → Keeps Bytes (leftward n a)
unfolding leftward
keeps_leftward zero a = giving no_bytes
keeps_leftward (suc n) a = reading λ v h. keeps_bind (keeps_leftward n (a - 1)) λ vs hs. giving (cons_below 256 v vs h hs)

keeps_copy : (n a b : ℕ) → Keeps Any (copy n a b)
unfolding copy
keeps_copy zero a b = giving tt
keeps_copy (suc n) a b = reading λ v h. writing h (keeps_copy n (a - 1) (b - 1))

keeps_columns : (column : ℕ → ℕ → ℕ → Column) → ((x y c : ℕ) → (column x y c).byte < 256)
    → (n a b : ℕ) (c : Columns) → Keeps Any (columns column n a b c)
unfolding columns
keeps_columns column h zero a b c = giving tt
keeps_columns column h (suc n) a b c =
    reading λ x hx. reading λ y hy. writing (h x y c.over) (keeps_columns column h n (a - 1) (b - 1) (onward c (column x y c.over)))

keeps_digits : (n a m : ℕ) → Keeps Any (put_digits n a m)
unfolding put_digits
keeps_digits zero a m = giving tt
keeps_digits (suc n) a m = writing (omega arith) (keeps_digits n (a - 1) (m / 10))

keeps_zoned : (n a : ℕ) (sign : Bool) (m : ℕ) → Keeps Any (put_zoned n a sign m)
unfolding put_zoned
keeps_zoned zero a sign m = giving tt
keeps_zoned (suc n) a sign m = writing (grind (arith, nat_tests)) (keeps_digits n (a - 1) (m / 10))

keeps_edited : (ps ys : List ℕ) (a : ℕ) → Keeps Any (put_edited ps ys a)
unfolding put_edited
keeps_edited [] ys a = giving tt
keeps_edited (p ∷ ps) ys a = keeps_cond (takes_digit p) (writing (omega arith) (keeps_edited ps (drop 1 ys) (a - 1))) (keeps_edited ps ys (a - 1))

keeps_scan : (n a v : ℕ) → v < 256 → Keeps Any (scan n a v)
unfolding scan
keeps_scan zero a v h = giving tt
keeps_scan (suc n) a v h = reading λ b hb. keeps_cond (ends_scan b) (giving tt) (writing h (keeps_scan n (a + 1) v h))

half_below : (q x y : ℕ) → x < 256 → y < 256 → half_moved q x y < 256
unfolding half_moved
half_below q x y h k = grind (arith, nat_tests)

going : {i x : ℕ} → i < 65536 → x < 64 → Keeps BoundedOut (ret (go i x))
going {i} {x} h k = giving {x = go i x} (h, k)

-- ---- the operations

module _ (f : Fields) (g : Given) (b : BoundedFields f) (h : g.status < 64) where
  -- on to the next instruction with the status as it was
  goes : Keeps BoundedOut (ret (go f.next g.status))
  goes = going b.next h

  way_zoned : BoundedWay (zoned_reach f g.size)
  way_zoned = both_hold BoundedWay (reach g.size (l1 f.q) f.a1) (reach g.size (l2 f.q) f.a2) (way_reach _ _ _) (way_reach _ _ _)

  way_fields : BoundedWay (reach_both f g.size)
  way_fields = both_hold BoundedWay (reach g.size (f.q + 1) f.a1) (reach g.size (f.q + 1) f.a2) (way_reach _ _ _) (way_reach _ _ _)

  keeps_result : (x : ℤ) → Keeps BoundedOut (put_result f x g)
  unfolding put_result
  keeps_result x = keeps_bind (keeps_zoned _ _ _ _) λ u t. going b.next (zoned_below _ g.status x h)

  keeps_zaz : Keeps BoundedOut (zaz f g)
  unfolding zaz
  keeps_zaz = keeps_unless _ way_zoned (keeps_bind (keeps_leftward _ _) λ ys hs. keeps_unless _ (way_digits ys) (keeps_result (value ys)))

  keeps_combine : (op : ℤ → ℤ → ℤ) → Keeps BoundedOut (combine op f g)
  unfolding combine
  keeps_combine op =
      keeps_unless _ way_zoned
      (keeps_bind (keeps_leftward _ _) λ ys hy. keeps_bind (keeps_leftward _ _) λ xs hx.
      keeps_unless _ (both_hold BoundedWay (digits_of ys) (digits_of xs) (way_digits ys) (way_digits xs)) (keeps_result (op (value xs) (value ys))))

  keeps_mvx : Keeps BoundedOut (mvx f g)
  unfolding mvx
  keeps_mvx =
      keeps_unless _ (both_hold BoundedWay (reach g.size 1 f.a1) (reach g.size 1 f.a2) (way_reach _ _ _) (way_reach _ _ _))
      (reading λ y hy. reading λ x hx. writing (half_below f.q x y hx hy) goes)

  keeps_ed : Keeps BoundedOut (ed f g)
  unfolding ed
  keeps_ed =
      keeps_unless _ (way_reach _ _ _)
      (keeps_bind (keeps_leftward _ _) λ ps hp. keeps_unless _ (way_source g.size (count20 ps) f.a2)
      (keeps_bind (keeps_leftward _ _) λ ys hy. keeps_unless _ (way_digits ys)
      (keeps_bind (keeps_edited ps ys f.a1) λ u t. going b.next (order_below (sign_order (value ys)) g.status (sign_small (value ys)) h))))

  keeps_itc : Keeps BoundedOut (itc f g)
  unfolding itc
  keeps_itc =
      keeps_unless _ (both_hold BoundedWay (reach_right g.size (f.q + 1) f.a1) (reach g.size 1 f.a2) (way_reach_right _ _ _) (way_reach _ _ _))
      (reading λ v hv. keeps_bind (keeps_scan _ _ v hv) λ end t. writing (omega arith) goes)

  keeps_mvc : Keeps BoundedOut (mvc f g)
  unfolding mvc
  keeps_mvc = keeps_unless _ way_fields (keeps_bind (keeps_copy _ _ _) λ u t. goes)

  keeps_clc : Keeps BoundedOut (clc f g)
  unfolding clc
  keeps_clc =
      keeps_unless _ way_fields
      (keeps_bind (keeps_leftward _ _) λ xs hx. keeps_bind (keeps_leftward _ _) λ ys hy.
      going b.next (order_below _ g.status (order_small _ _) h))

  keeps_alc : Keeps BoundedOut (alc f g)
  unfolding alc
  keeps_alc = keeps_unless _ way_fields (keeps_bind (keeps_columns added byte_added _ _ _ _) λ c t. going b.next (sum_below g.status c h))

  keeps_slc : Keeps BoundedOut (slc f g)
  unfolding slc
  keeps_slc = keeps_unless _ way_fields (keeps_bind (keeps_columns subtracted byte_subtracted _ _ _ _) λ c t. going b.next (difference_below g.status c h))

  keeps_store : Keeps BoundedOut (store f g)
  unfolding store
  keeps_store =
      keeps_cond (is_status f.q)
      (keeps_unless _ (way_reach _ _ _) (writing (omega arith) (writing (lit< tt) goes)))
      (reading λ v hv. keeps_unless _ (way_reach _ _ _) (writing (omega arith) (writing (omega arith) goes)))

  keeps_load : Keeps BoundedOut (load f g)
  unfolding load
  keeps_load =
      keeps_unless _ (way_reach _ _ _)
      (reading λ right hr. reading λ left hl.
      keeps_cond (is_status f.q) (going b.next (loaded_below right)) (writing (omega arith) goes))

  keeps_add : Keeps BoundedOut (add f g)
  unfolding add
  keeps_add =
      reading λ v hv. keeps_unless _ (way_reach _ _ _)
      (reading λ right hr. reading λ left hl. writing (omega arith) (going b.next (sum_below g.status _ h)))

  keeps_subtract : Keeps BoundedOut (subtract f g)
  unfolding subtract
  keeps_subtract =
      reading λ v hv. keeps_unless _ (way_reach _ _ _)
      (reading λ right hr. reading λ left hl. writing (omega arith) (going b.next (difference_below g.status _ h)))

  -- the tests: each status is below 64
  keeps_tested : (status : ℕ → ℕ) → ((x : ℕ) → status x < 64) → Keeps BoundedOut (tested status f g)
  keeps_tested status k = keeps_unless _ (way_reach _ _ _) (reading λ x hx. going b.next (k x))

  keeps_tbn : Keeps BoundedOut (tbn f g)
  unfolding tbn
  keeps_tbn = keeps_tested _ (λ x. grind (arith, nat_tests, test_below g.status h))

  keeps_tbf : Keeps BoundedOut (tbf f g)
  unfolding tbf
  keeps_tbf = keeps_tested _ (λ x. grind (arith, nat_tests, test_below g.status h))

  keeps_cli : Keeps BoundedOut (cli f g)
  unfolding cli
  keeps_cli = keeps_tested _ (λ x. order_below (order_of x f.q) g.status (order_small x f.q) h)

  -- the changes: each byte is below 256
  keeps_changed : (byte : ℕ → ℕ) → ((x : ℕ) → x < 256 → byte x < 256) → Keeps BoundedOut (changed byte f g)
  keeps_changed byte k = keeps_unless _ (way_reach _ _ _) (reading λ x hx. writing (k x hx) goes)

  keeps_sbn : Keeps BoundedOut (sbn f g)
  unfolding sbn
  keeps_sbn = keeps_changed _ (λ x hx. or_lt 8 x f.q hx b.q)

  keeps_sbf : Keeps BoundedOut (sbf f g)
  unfolding sbf
  keeps_sbf = keeps_changed _ (λ x hx. lt_of_le_of_lt (and_le_l x (255 - f.q)) hx)

  keeps_mvi : Keeps BoundedOut (mvi f g)
  unfolding mvi
  keeps_mvi = keeps_unless _ (way_reach _ _ _) (writing b.q goes)

  keeps_sli : Keeps BoundedOut (sli f g)
  unfolding sli
  keeps_sli =
      keeps_unless _ (way_reach _ _ _)
      (reading λ x hx. writing (byte_subtracted x f.q 0) (going b.next (difference_below g.status (onward fresh (subtracted x f.q 0)) h)))

  keeps_branch : Keeps BoundedOut (branch f g)
  unfolding branch
  keeps_branch =
      let k : after_test f.q g.status < 64 = after_below f.q g.status h in
      keeps_cond (taken f.q g.status) (writing b.next (going b.a1 k)) (writing b.a1 (going b.next k))

  keeps_jump : Keeps BoundedOut (jump f g)
  unfolding jump
  keeps_jump = going (grind (arith, nat_tests)) (after_below f.q g.status h)

  keeps_load_address : Keeps BoundedOut (load_address f g)
  unfolding load_address
  keeps_load_address = writing b.a1 goes

  keeps_call : Keeps BoundedOut (call f g)
  unfolding call
  keeps_call = giving {x = stop (Supervisor f.q f.r)} (λ k. (b.q, b.r))

  pub keeps_exec : (op : Operation) → Keeps BoundedOut (exec op f g)
  unfolding exec
  keeps_exec Zaz = keeps_zaz
  keeps_exec Az = keeps_combine ◌+ℤ◌
  keeps_exec Sz = keeps_combine ◌-ℤ◌
  keeps_exec Mvx = keeps_mvx
  keeps_exec Ed = keeps_ed
  keeps_exec Itc = keeps_itc
  keeps_exec Mvc = keeps_mvc
  keeps_exec Clc = keeps_clc
  keeps_exec Alc = keeps_alc
  keeps_exec Slc = keeps_slc
  keeps_exec St = keeps_store
  keeps_exec L = keeps_load
  keeps_exec A = keeps_add
  keeps_exec S = keeps_subtract
  keeps_exec Tbn = keeps_tbn
  keeps_exec Tbf = keeps_tbf
  keeps_exec Sbn = keeps_sbn
  keeps_exec Sbf = keeps_sbf
  keeps_exec Mvi = keeps_mvi
  keeps_exec Cli = keeps_cli
  keeps_exec Sli = keeps_sli
  keeps_exec Bc = keeps_branch
  keeps_exec Jc = keeps_jump
  keeps_exec La = keeps_load_address
  keeps_exec Svc = keeps_call

-- ---- the step

number_at_below : (base : Base) (byte : ℕ → ℕ) → ((k : ℕ) → byte k < 256) → (k : ℕ) → number_at base byte k < 65536
number_at_below Absent byte h k = omega arith
number_at_below Direct byte h k = omega (arith, h k, h (k + 1))
number_at_below FromXr1 byte h k = omega (arith, h k)
number_at_below FromXr2 byte h k = omega (arith, h k)
number_at_below FromArr byte h k = omega (arith, h k)
number_at_below Forward byte h k = omega (arith, h k)
number_at_below Backward byte h k = omega (arith, h k)

instruction_below : (iar : ℕ) (f : Form) (op : Operation) (byte : ℕ → ℕ) → ((k : ℕ) → byte k < 256) → BoundedInstruction (instruction_of iar f op byte)
unfolding instruction_of
instruction_below iar f op byte h =
    record {
      q = h 1;
      r = h 2;
      first = number_at_below (first_base f.group f.first (byte 0 % 16)) byte h 2;
      second = number_at_below f.second byte h (2 + width_of f.first);
      next = omega arith;
    }

keeps_named : (size iar opcode : ℕ) (f : Form) (n : Option Operation) → opcode < 256 → Keeps BoundedDecoded (fetch_named size iar opcode f n)
keeps_named size iar opcode f None h = giving {x = Err OpcodeUnknown} (omega arith)
keeps_named size iar opcode f (Some op) h =
    keeps_cond (ltb (size - iar) f.length) (giving {x = Err CutShort} (omega arith))
    (keeps_bind (keeps_rightward (f.length - 1) (iar + 1)) λ later hs.
    giving (cond_both (allowed op (get_or (opcode ∷ later) 1 0)) (Ok (instruction_of iar f op (λ k. get_or (opcode ∷ later) k 0))) (Err QRefused) BoundedDecoded
    (λ _. instruction_below iar f op (λ k. get_or (opcode ∷ later) k 0) (cons_below 256 opcode later h hs)) (λ _. omega arith)))

keeps_fetch : (size iar : ℕ) → Keeps BoundedDecoded (fetch size iar)
unfolding fetch
keeps_fetch size iar =
    keeps_cond (leb size iar) (giving {x = Err CutShort} (omega arith))
    (reading λ opcode h. keeps_named size iar opcode (form_of (opcode / 16)) (named_of (form_of (opcode / 16)).group (opcode % 16)) h)

keeps_addressed : (base : Base) (next d : ℕ) (k : ℕ → Prog Out) → d < 65536
    → ((a : ℕ) → a < 65536 → Keeps BoundedOut (k a)) → Keeps BoundedOut (addressed base next d k)
keeps_addressed Absent next d k h t = t 0 (lit< tt)
keeps_addressed Direct next d k h t = t d h
keeps_addressed FromXr1 next d k h t = reading λ x hx. t (based x d) (omega arith)
keeps_addressed FromXr2 next d k h t = reading λ x hx. t (based x d) (omega arith)
keeps_addressed FromArr next d k h t = reading λ x hx. t (based x d) (omega arith)
keeps_addressed Forward next d k h t = t (based next d) (omega arith)
keeps_addressed Backward next d k h t = t (based next (65536 - d)) (omega arith)

module _ (g : Given) (h : g.status < 64) where
  keeps_perform : (i : Instruction) → BoundedInstruction i → Keeps BoundedOut (perform i g)
  unfolding perform
  keeps_perform i b =
      keeps_addressed i.first.base i.next i.first.number _ b.first λ a1 h1.
      keeps_addressed i.second.base i.next i.second.number _ b.second λ a2 h2.
      keeps_exec (fields i a1 a2) g (record { q = b.q; r = b.r; a1 = h1; a2 = h2; next = b.next }) h i.operation

  keeps_follow : (d : Decoded) → BoundedDecoded d → Keeps BoundedOut (follow d g)
  unfolding follow
  keeps_follow (Ok i) b = keeps_perform i b
  keeps_follow (Err x) b = giving b

  pub keeps_step : Keeps BoundedOut (step g)
  unfolding step
  keeps_step = keeps_bind (keeps_fetch g.size g.iar) keeps_follow
