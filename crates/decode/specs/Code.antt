-- Decoding over the code alone: the bytes from the instruction's first to the end of storage.
use Rattle.std.specs.Prelude.{ℕ, ◌+◌, ◌/◌, ◌<◌, ◌≤◌, cond, List, length, get_or, ltb, Ok, Err, Option, Some, None}
use Rattle.manual.specs.declared.Operation.{Operation}
use Rattle.manual.specs.declared.Form.{Form}
use Rattle.manual.specs.declared.Stop.TheVariants.{CutShort, OpcodeUnknown}
use Rattle.manual.specs.Formats.{form_of, operation_of, width_of}
use Rattle.manual.specs.Decode.{Decoded, with_q}

-- the operands lie in the instruction, which has three to six bytes
abbrev pub Sound : Form → Type 0
Sound f = (2 + width_of f.first + width_of f.second ≤ f.length) × (3 ≤ f.length) × (f.length < 7)

abbrev pub code_named : ℕ → Form → Option Operation → List ℕ → Decoded
code_named iar f None code = Err OpcodeUnknown
code_named iar f (Some op) code = cond (ltb (length code) f.length) (Err CutShort) (with_q iar f op (λ k. get_or code k 0))

abbrev pub code_opcode : ℕ → List ℕ → ℕ → Decoded
code_opcode iar code opcode = code_named iar (form_of (opcode / 16)) (operation_of opcode) code
