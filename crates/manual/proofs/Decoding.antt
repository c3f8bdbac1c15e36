-- What decoding finds: an instruction's Q and R bytes are those after its opcode, and a stop is 4, 5 or 6. What carries it: the tests of decoding, one by one.
use Rattle.std.proofs.Common.{Ok, Err, Option, Some, None, ◌≡◌, refl, Bool, true, false, cond, List, ℕ, ◌+◌, ◌-◌, length, get_or, leb, ltb}
use Rattle.manual.specs.declared.Form.{Form}
use Rattle.manual.specs.declared.Operation.{Operation}
use Rattle.manual.specs.declared.Stop.TheVariants.{CutShort, OpcodeUnknown, QRefused, OperandOutside, DigitRefused, Supervisor}
use Rattle.manual.specs.Formats.{form_of, operation_of, allowed}
use Rattle.manual.specs.Decode.{instruction_of, with_q, decode_named, decode_opcode, decode_of, Decoded}

-- what decoding at IAR may find
abbrev pub DecodedAt : List ℕ → ℕ → Decoded → Type 0
DecodedAt s iar (Ok i) = (i.q ≡ get_or s (iar + 1) 0) × (i.r ≡ get_or s (iar + 2) 0)
DecodedAt s iar (Err CutShort) = Unit {0}
DecodedAt s iar (Err OpcodeUnknown) = Unit {0}
DecodedAt s iar (Err QRefused) = Unit {0}
DecodedAt s iar (Err OperandOutside) = ⊥
DecodedAt s iar (Err DigitRefused) = ⊥
DecodedAt s iar (Err (Supervisor q r)) = ⊥

module _ (s : List ℕ) (iar : ℕ) where
  by_q : (b : Bool) (f : Form) (op : Operation) → DecodedAt s iar (cond b (Ok (instruction_of iar f op (λ k. get_or s (iar + k) 0))) (Err QRefused))
  unfolding instruction_of
  by_q true f op = (refl, refl)
  by_q false f op = tt

  by_length : (b : Bool) (f : Form) (op : Operation) → DecodedAt s iar (cond b (Err CutShort) (with_q iar f op (λ k. get_or s (iar + k) 0)))
  by_length true f op = tt
  by_length false f op = by_q (allowed op (get_or s (iar + 1) 0)) f op

  by_name : (f : Form) (n : Option Operation) → DecodedAt s iar (decode_named s iar f n)
  by_name f None = tt
  by_name f (Some op) = by_length (ltb (length s - iar) f.length) f op

  by_size : (b : Bool) (opcode : ℕ) → DecodedAt s iar (cond b (Err CutShort) (decode_opcode s iar opcode))
  by_size true opcode = tt
  by_size false opcode = by_name (form_of _) (operation_of opcode)

  pub decoded_at : DecodedAt s iar (decode_of s iar)
  unfolding decode_of
  decoded_at = by_size (leb (length s) iar) (get_or s iar 0)
