-- Decoding answers either an instruction or a stop.
use Rattle.std.specs.Prelude.{ℕ, ◌+◌, ◌-◌, ◌*◌, ◌/◌, ◌%◌, cond, List, ◌∷◌, length, get_or, ltb, leb, Result, Ok, Err, Option, Some, None}
use Rattle.manual.specs.declared.Operation.{Operation}
use Rattle.manual.specs.declared.Base.{Base}
use Rattle.manual.specs.declared.Base.TheVariants.{Absent, Direct, FromXr1, FromXr2, FromArr, Forward, Backward}
use Rattle.manual.specs.declared.Form.{Form}
use Rattle.manual.specs.declared.Operand.{Operand}
use Rattle.manual.specs.declared.Instruction.{Instruction}
use Rattle.manual.specs.declared.Stop.{Stop}
use Rattle.manual.specs.declared.Stop.TheVariants.{CutShort, OpcodeUnknown, QRefused}
use Rattle.manual.specs.Places.{mem}
use Rattle.manual.specs.Programs.{Prog, ret, rd, ◌>>=◌, rightward}
use Rattle.manual.specs.Formats.{form_of, operation_of, first_base, width_of, allowed}

-- what an operand's bytes say, where byte is the instruction's k-th byte: a direct address is two bytes, high first; a displacement is one
abbrev pub number_at : Base → (ℕ → ℕ) → ℕ → ℕ
number_at Absent byte k = 0
number_at Direct byte k = byte k * 256 + byte (k + 1)
number_at FromXr1 byte k = byte k
number_at FromXr2 byte k = byte k
number_at FromArr byte k = byte k
number_at Forward byte k = byte k
number_at Backward byte k = byte k

abbrev pub operand_at : Base → (ℕ → ℕ) → ℕ → Operand
operand_at b byte k = record { base = b; number = number_at b byte k }

-- the instruction at the address iar, by its bytes alone; the address after it is taken modulo 65,536
unfoldable pub instruction_of : ℕ → Form → Operation → (ℕ → ℕ) → Instruction
instruction_of iar f op byte =
    record {
      operation = op;
      q = byte 1;
      r = byte 2;
      first = operand_at (first_base f.group f.first (byte 0 % 16)) byte 2;
      second = operand_at f.second byte (2 + width_of f.first);
      next = (iar + f.length) % 65536;
    }

abbrev pub Decoded : Type 0
Decoded = Result Instruction Stop

-- the Q byte is looked at last: 6
abbrev pub with_q : ℕ → Form → Operation → (ℕ → ℕ) → Decoded
with_q iar f op byte = cond (allowed op (byte 1)) (Ok (instruction_of iar f op byte)) (Err QRefused)

-- ---- over storage

-- an unknown opcode 5; later instruction bytes 4
abbrev pub decode_named : List ℕ → ℕ → Form → Option Operation → Decoded
decode_named s iar f None = Err OpcodeUnknown
decode_named s iar f (Some op) = cond (ltb (length s - iar) f.length) (Err CutShort) (with_q iar f op (λ k. get_or s (iar + k) 0))

abbrev pub decode_opcode : List ℕ → ℕ → ℕ → Decoded
decode_opcode s iar opcode = decode_named s iar (form_of (opcode / 16)) (operation_of opcode)

-- what stands at IAR: at or past the storage size 4
unfoldable pub decode_of : List ℕ → ℕ → Decoded
decode_of s iar = cond (leb (length s) iar) (Err CutShort) (decode_opcode s iar (get_or s iar 0))

-- ---- the same as a program: it reads the opcode byte, and all bytes where the instruction is wholly in storage

abbrev pub fetch_named : ℕ → ℕ → ℕ → Form → Option Operation → Prog Decoded
fetch_named size iar opcode f None = ret (Err OpcodeUnknown)
fetch_named size iar opcode f (Some op) =
    cond (ltb (size - iar) f.length) (ret (Err CutShort))
    (rightward (f.length - 1) (iar + 1) >>= λ later. ret (with_q iar f op (λ k. get_or (opcode ∷ later) k 0)))

abbrev pub fetch_opcode : ℕ → ℕ → ℕ → Prog Decoded
fetch_opcode size iar opcode = fetch_named size iar opcode (form_of (opcode / 16)) (operation_of opcode)

unfoldable pub fetch : ℕ → ℕ → Prog Decoded
fetch size iar = cond (leb size iar) (ret (Err CutShort)) (rd (mem iar) λ opcode. fetch_opcode size iar opcode)
