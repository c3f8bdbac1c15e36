-- A step gives a number exactly when the table's row for it holds. What carries it: a step's answer is that of the order of the stops, and decoding's tests one by one.
use Rattle.std.proofs.Common.{Ok, Err, Option, Some, None, ◌≡◌, refl, ap, ◌∙◌, subst, Bool, true, false, cond, ◌&&◌, List, ◌↔◌, ℕ, ◌+◌, ◌-◌, ◌/◌, ◌<◌, length, get_or, leb, ltb, eqb, leb-true, leb-false, ltb-true, ltb-false, le-leb, lt-ltb, le-ltb}
use Rattle.std.proofs.lemmas.Bool.{lt-leb, cond_both}
use Rattle.manual.specs.declared.Machine.{Machine}
use Rattle.manual.specs.declared.Operation.{Operation}
use Rattle.manual.specs.declared.Operation.TheVariants.{Zaz, Az, Sz, Mvx, Ed, Itc, Mvc, Clc, Alc, Slc, St, L, A, S, Tbn, Tbf, Sbn, Sbf, Mvi, Cli, Sli, Bc, Jc, La, Svc}
use Rattle.manual.specs.declared.Instruction.{Instruction}
use Rattle.manual.specs.declared.Fields.{Fields}
use Rattle.manual.specs.declared.Stop.{Stop}
use Rattle.manual.specs.declared.Stop.TheVariants.{CutShort, OpcodeUnknown, QRefused, OperandOutside, DigitRefused, Supervisor}
use Rattle.manual.specs.Programs.{and_then, Way}
use Rattle.manual.specs.TheMachine.{size_allowed, status_allowed}
use Rattle.manual.specs.Numbers.{number_of}
use Rattle.manual.specs.Formats.{form_of, operation_of, allowed, reach, reach_right}
use Rattle.manual.specs.Decode.{instruction_of, with_q, decode_named, decode_opcode, decode_of, Decoded}
use Rattle.manual.specs.Values.{all_digits, digits_of}
use Rattle.manual.specs.Edit.{source_reach}
use Rattle.manual.specs.Step.{step_of}
use Rattle.manual.specs.Stops.{fields_of, outside, further, barred, barred_in, barred_at}
use Rattle.manual.specs.When.{Taken, opcode_at, length_at, Whole, When}
use Rattle.manual.proofs.Answered.{answer_of, step_answer}
use Rattle.manual.proofs.Running.{both_hold}

-- ---- what may stand in an operation's way: 7, 8, or a call of SVC

data Kind (op : Operation) : Way → Type 0 where
  is_clear : Kind op (Ok tt)
  is_outside : Kind op (Err OperandOutside)
  is_digit : Kind op (Err DigitRefused)
  is_call : (q r : ℕ) → op ≡ Svc → Kind op (Err (Supervisor q r))

kind_range : (op : Operation) (b : Bool) → Kind op (cond b (Ok tt) (Err OperandOutside))
kind_range op b = cond_both b _ _ (Kind op) (λ _. is_clear) (λ _. is_outside)

kind_digits : (op : Operation) (b : Bool) → Kind op (cond b (Ok tt) (Err DigitRefused))
kind_digits op b = cond_both b _ _ (Kind op) (λ _. is_clear) (λ _. is_digit)

module _ (op : Operation) where
  k_reach : (size n a : ℕ) → Kind op (reach size n a)
  unfolding reach
  k_reach size n a = kind_range op (ltb a size && leb n (a + 1))

  k_right : (size n a : ℕ) → Kind op (reach_right size n a)
  unfolding reach_right
  k_right size n a = kind_range op (leb (a + n) size)

  k_digits : (bs : List ℕ) → Kind op (digits_of bs)
  unfolding digits_of
  k_digits bs = kind_digits op (all_digits bs)

  k_source : (size n a : ℕ) → Kind op (source_reach size n a)
  unfolding source_reach
  k_source size n a = cond_both (eqb n 0) (Ok tt) (reach size n a) (Kind op) (λ _. is_clear) (λ _. k_reach size n a)

k_outside : (op : Operation) (f : Fields) (size : ℕ) → Kind op (outside op f size)
unfolding outside
k_outside Zaz f size = both_hold (Kind Zaz) _ _ (k_reach Zaz _ _ _) (k_reach Zaz _ _ _)
k_outside Az f size = both_hold (Kind Az) _ _ (k_reach Az _ _ _) (k_reach Az _ _ _)
k_outside Sz f size = both_hold (Kind Sz) _ _ (k_reach Sz _ _ _) (k_reach Sz _ _ _)
k_outside Mvx f size = both_hold (Kind Mvx) _ _ (k_reach Mvx _ _ _) (k_reach Mvx _ _ _)
k_outside Ed f size = k_reach Ed _ _ _
k_outside Itc f size = both_hold (Kind Itc) _ _ (k_right Itc _ _ _) (k_reach Itc _ _ _)
k_outside Mvc f size = both_hold (Kind Mvc) _ _ (k_reach Mvc _ _ _) (k_reach Mvc _ _ _)
k_outside Clc f size = both_hold (Kind Clc) _ _ (k_reach Clc _ _ _) (k_reach Clc _ _ _)
k_outside Alc f size = both_hold (Kind Alc) _ _ (k_reach Alc _ _ _) (k_reach Alc _ _ _)
k_outside Slc f size = both_hold (Kind Slc) _ _ (k_reach Slc _ _ _) (k_reach Slc _ _ _)
k_outside St f size = k_reach St _ _ _
k_outside L f size = k_reach L _ _ _
k_outside A f size = k_reach A _ _ _
k_outside S f size = k_reach S _ _ _
k_outside Tbn f size = k_reach Tbn _ _ _
k_outside Tbf f size = k_reach Tbf _ _ _
k_outside Sbn f size = k_reach Sbn _ _ _
k_outside Sbf f size = k_reach Sbf _ _ _
k_outside Mvi f size = k_reach Mvi _ _ _
k_outside Cli f size = k_reach Cli _ _ _
k_outside Sli f size = k_reach Sli _ _ _
k_outside Bc f size = is_clear
k_outside Jc f size = is_clear
k_outside La f size = is_clear
k_outside Svc f size = is_clear

k_further : (op : Operation) (f : Fields) (s : List ℕ) → Kind op (further op f s)
unfolding further
k_further Zaz f s = k_digits Zaz _
k_further Az f s = both_hold (Kind Az) _ _ (k_digits Az _) (k_digits Az _)
k_further Sz f s = both_hold (Kind Sz) _ _ (k_digits Sz _) (k_digits Sz _)
k_further Mvx f s = is_clear
k_further Ed f s = both_hold (Kind Ed) _ _ (k_source Ed _ _ _) (k_digits Ed _)
k_further Itc f s = is_clear
k_further Mvc f s = is_clear
k_further Clc f s = is_clear
k_further Alc f s = is_clear
k_further Slc f s = is_clear
k_further St f s = is_clear
k_further L f s = is_clear
k_further A f s = is_clear
k_further S f s = is_clear
k_further Tbn f s = is_clear
k_further Tbf f s = is_clear
k_further Sbn f s = is_clear
k_further Sbf f s = is_clear
k_further Mvi f s = is_clear
k_further Cli f s = is_clear
k_further Sli f s = is_clear
k_further Bc f s = is_clear
k_further Jc f s = is_clear
k_further La f s = is_clear
k_further Svc f s = is_call _ _ refl

k_barred : (op : Operation) (f : Fields) (s : List ℕ) → Kind op (barred op f s)
k_barred op f s = both_hold (Kind op) _ _ (k_outside op f (length s)) (k_further op f s)

-- SVC is barred by its own call, and by nothing else
svc_barred : (op : Operation) (f : Fields) (s : List ℕ) → op ≡ Svc → barred op f s ≡ Err (Supervisor f.q f.r)
unfolding and_then outside further
svc_barred op f s e = rw e

-- ---- the number of what stands in the way

abbrev way_number : Way → ℕ
way_number w = number_of (answer_of w)

module _ (m : Machine) (s : List ℕ) (t : Taken m s) where
  entered : number_of (step_of m s).gave.answer ≡ way_number (barred_at m s)
  unfolding step_of
  entered = rw (t.size, t.status, step_answer m s)

  found : (i : Instruction) → decode_of s m.iar ≡ Ok i → barred_at m s ≡ barred i.operation (fields_of m i) s
  unfolding barred_at
  found i e = rw e

  not_found : (x : Stop) → decode_of s m.iar ≡ Err x → barred_at m s ≡ Err x
  unfolding barred_at
  not_found x e = rw e

-- ---- each row gives its number

pub when_gives : (m : Machine) (s : List ℕ) {n : ℕ} → When m s n → number_of (step_of m s).gave.answer ≡ n
unfolding step_of decode_of
when_gives m s (When.executed i t e h) = entered m s t ∙ ap way_number (found m s t i e ∙ h)
when_gives m s (When.size_refused h) = rw h
when_gives m s (When.status_refused h k) = rw (h, k)
when_gives m s (When.past_storage t h) = entered m s t ∙ ap way_number (not_found m s t CutShort (rw (le-leb _ _ h)))
when_gives m s (When.cut_short op t h k l) = entered m s t ∙ ap way_number (not_found m s t CutShort (rw (lt-leb _ _ h, k, lt-ltb _ _ l)))
when_gives m s (When.opcode_unknown t h k) = entered m s t ∙ ap way_number (not_found m s t OpcodeUnknown (rw (lt-leb _ _ h, k)))
when_gives m s (When.q_refused op t w k) =
    entered m s t ∙ ap way_number (not_found m s t QRefused (rw (lt-leb _ _ w.inside, w.named, le-ltb _ _ w.whole, k)))
when_gives m s (When.outside i t e h) = entered m s t ∙ ap way_number (found m s t i e ∙ h)
when_gives m s (When.bad_digit i t e h) = entered m s t ∙ ap way_number (found m s t i e ∙ h)
when_gives m s (When.called i t e h) = entered m s t ∙ ap way_number (found m s t i e ∙ svc_barred i.operation (fields_of m i) s h)

-- ---- some row holds

module _ (m : Machine) (s : List ℕ) where
  row_found : Taken m s → (i : Instruction) → decode_of s m.iar ≡ Ok i → (w : Way) → barred i.operation (fields_of m i) s ≡ w → Kind i.operation w
      → When m s (way_number w)
  row_found t i e w h is_clear = When.executed i t e h
  row_found t i e w h is_outside = When.outside i t e h
  row_found t i e w h is_digit = When.bad_digit i t e h
  row_found t i e w h (is_call q r k) = When.called i t e k

  row_q : Taken m s → (op : Operation) → Whole m s op → (b : Bool) → allowed op (get_or s (m.iar + 1) 0) ≡ b → (d : Decoded)
      → d ≡ cond b (Ok (instruction_of m.iar (form_of (opcode_at m s / 16)) op (λ k. get_or s (m.iar + k) 0))) (Err QRefused) → decode_of s m.iar ≡ d
      → When m s (way_number (barred_in m s d))
  row_q t op w true h d g e =
      rw g
      (row_found t (instruction_of m.iar (form_of (opcode_at m s / 16)) op (λ k. get_or s (m.iar + k) 0)) (e ∙ g) _ refl (k_barred _ _ s))
  row_q t op w false h d g e = rw g (When.q_refused op t w h)

  row_length : Taken m s → (op : Operation) → m.iar < length s → operation_of (opcode_at m s) ≡ Some op → (b : Bool) → ltb (length s - m.iar) (length_at m s) ≡ b
      → decode_of s m.iar ≡ cond b (Err CutShort) (with_q m.iar (form_of (opcode_at m s / 16)) op (λ k. get_or s (m.iar + k) 0))
      → When m s (way_number (barred_in m s (cond b (Err CutShort) (with_q m.iar (form_of (opcode_at m s / 16)) op (λ k. get_or s (m.iar + k) 0)))))
  row_length t op h n true l e = When.cut_short op t h n (ltb-true _ _ l)
  row_length t op h n false l e =
      row_q t op (record { inside = h; named = n; whole = ltb-false _ _ l }) (allowed op (get_or s (m.iar + 1) 0)) refl _ refl e

  row_name : Taken m s → m.iar < length s → (n : Option Operation) → operation_of (opcode_at m s) ≡ n → decode_of s m.iar ≡ decode_named s m.iar (form_of (opcode_at m s / 16)) n
      → When m s (way_number (barred_in m s (decode_named s m.iar (form_of (opcode_at m s / 16)) n)))
  row_name t h None g e = When.opcode_unknown t h g
  row_name t h (Some op) g e = row_length t op h g (ltb (length s - m.iar) (length_at m s)) refl e

  row_size : Taken m s → (b : Bool) → leb (length s) m.iar ≡ b → decode_of s m.iar ≡ cond b (Err CutShort) (decode_opcode s m.iar (opcode_at m s))
      → When m s (way_number (barred_in m s (cond b (Err CutShort) (decode_opcode s m.iar (opcode_at m s)))))
  row_size t true h e = When.past_storage t (leb-true _ _ h)
  row_size t false h e = row_name t (leb-false _ _ h) (operation_of (opcode_at m s)) refl e

  row_taken : Taken m s → When m s (way_number (barred_at m s))
  unfolding barred_at decode_of
  row_taken t = row_size t (leb (length s) m.iar) refl refl

  -- the row of the number that a step gives holds
  pub gives_when : When m s (number_of (step_of m s).gave.answer)
  unfolding step_of
  gives_when = on (size_allowed (length s)) (status_allowed m.status) refl refl
    where
      on : (b c : Bool) → size_allowed (length s) ≡ b → status_allowed m.status ≡ c → When m s (number_of (step_of m s).gave.answer)
      on true true h k =
          let t : Taken m s = record { size = h; status = k } in
          rw (entered m s t) (row_taken t)
      on true false h k = rw (h, k) (When.status_refused h k)
      on false c h k = rw h (When.size_refused h)

-- a step gives a number if and only if the row of that number holds
pub when_exactly : (m : Machine) (s : List ℕ) (n : ℕ) → (number_of (step_of m s).gave.answer ≡ n) ↔ When m s n
when_exactly m s n = (λ e. subst (λ (k : ℕ). When m s k) e (gives_when m s), when_gives m s)
