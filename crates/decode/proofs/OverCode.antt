-- Decoding over the code is decoding over storage. What carries it: the k-th byte from IAR is the code's k-th.
use Rattle.std.proofs.Common.{◌≡◌, ℕ, ◌+◌, ◌-◌, ◌/◌, cond, ltb, List, length, get_or, drop, refl, ap, Err, Option, Some, None, get_or-drop, length-drop}
use Rattle.std.proofs.Math.Path.{fun_ext}
use Rattle.manual.specs.declared.Operation.{Operation}
use Rattle.manual.specs.declared.Form.{Form}
use Rattle.manual.specs.Formats.{form_of, operation_of}
use Rattle.manual.specs.declared.Stop.TheVariants.{CutShort}
use Rattle.manual.specs.Decode.{with_q, decode_named, decode_opcode}
use Rattle.decode.specs.Code.{code_named, code_opcode}

module _ (s : List ℕ) (iar : ℕ) where
  bytes : ◌≡◌ {A = ℕ → ℕ} (λ k. get_or (drop iar s) k 0) (λ k. get_or s (iar + k) 0)
  bytes = fun_ext (λ k. get_or-drop iar s k 0)

  named : (f : Form) (o : Option Operation) → code_named iar f o (drop iar s) ≡ decode_named s iar f o
  named f None = refl
  named f (Some op) = rw (length-drop iar s) (ap (λ (byte : ℕ → ℕ). cond (ltb (length s - iar) f.length) (Err CutShort) (with_q iar f op byte)) bytes)

  pub over_code : code_opcode iar (drop iar s) (get_or s iar 0) ≡ decode_opcode s iar (get_or s iar 0)
  over_code = named (form_of (get_or s iar 0 / 16)) (operation_of (get_or s iar 0))
