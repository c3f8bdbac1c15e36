-- The table of the morning check, as one theorem: each row is a whole step, from the instruction bytes in storage to every register and byte after it.
use Rattle.std.specs.Prelude.{◌≡◌, refl, List, [], ◌∷◌, ◌++◌, ℕ, ◌-◌, length, replicate}
use Rattle.manual.specs.declared.Machine.{Machine}
use Rattle.manual.specs.declared.Answer.TheVariants.{Executed, Stopped}
use Rattle.manual.specs.declared.Stop.TheVariants.{OperandOutside}
use Rattle.manual.specs.Programs.{val, fin, ◌>>=◌, rightward, leftward, unless, and_then}
use Rattle.manual.specs.TheMachine.{size_allowed, status_allowed, turn_on, turn_off, set_order, order_of}
use Rattle.manual.specs.Formats.{form_of, named_of, first_base, allowed, reach, reach_right}
use Rattle.manual.specs.Decode.{instruction_of, fetch}
use Rattle.manual.specs.Values.{size, minus, value, all_digits, digits_of, cut, overflows, left_minus, sign_order}
use Rattle.manual.specs.Zoned.{put_digits, put_zoned, zoned_status, put_result, zaz, combine}
use Rattle.manual.specs.Edit.{count20, source_reach, put_edited, ed, scan, itc}
use Rattle.manual.specs.Logical.{copy, mvc, columns, sum_status, alc}
use Rattle.manual.specs.Registers.{register_named, load}
use Rattle.manual.specs.Immediate.{cli}
use Rattle.manual.specs.Step.{ended, exec, perform, follow, step, did, inner_step, step_of}

-- zeros up to the address at, where the bytes come next, and zeros up to the size
abbrev at : ℕ → ℕ → List ℕ → List ℕ → List ℕ
at size a front bytes = front ++ (replicate (a - length front) 0 ++ (bytes ++ replicate (size - a - length bytes) 0))

-- the instruction at 0000, the operands from 0100 on, two pages
abbrev page : List ℕ → List ℕ → List ℕ
page code bytes = at 512 0x100 code bytes

abbrev machine : ℕ → ℕ → ℕ → ℕ → Machine
machine iar arr xr1 status = record { iar = iar; arr = arr; xr1 = xr1; xr2 = 0; wr = 0 ∷ 0 ∷ 0 ∷ 0 ∷ []; status = status }

-- the code over the bytes, with status 01, runs: the next address, the status and the bytes after it
abbrev Row : List ℕ → List ℕ → ℕ → ℕ → List ℕ → Type 0
Row code bytes next status after = step_of (machine 0 0 0 0x01) (page code bytes) ≡ ended (machine next 0 0 status) Executed (page code after)

-- row 1's operands stand where 001's page 3-6 has them
abbrev sum : List ℕ → List ℕ
sum operand1 = at 0xE00 0xCBD (0x5E ∷ 0x03 ∷ 0x00 ∷ 0x10 ∷ []) (operand1 ++ replicate 12 0 ++ 0x5B ∷ 0x55 ∷ 0x78 ∷ 0xCD ∷ [])

-- row 10's field stands at 0200, the byte 5C after it
abbrev field : List ℕ → List ℕ
field operand1 = at 0x300 0x200 (0x0B ∷ 0x03 ∷ 0x02 ∷ 0x00 ∷ 0x02 ∷ 0x04 ∷ []) (operand1 ++ 0x5C ∷ [])

-- row 12: L of XR1 from 0000 and from 0001, whose bytes are those of the instruction itself
abbrev loads : ℕ → List ℕ
loads a = at 512 0x100 (0x35 ∷ 0x01 ∷ 0x00 ∷ a ∷ []) []

pub record Morning : Type 0 where
  pub row_1 : step_of (machine 0 0 0x0CC0 0x01) (sum (0x35 ∷ 0xCB ∷ 0xED ∷ 0x64 ∷ [])) ≡ ended (machine 4 0 0x0CC0 0x02) Executed (sum (0x91 ∷ 0x21 ∷ 0x66 ∷ 0x31 ∷ []))
  pub row_2 : Row (0x06 ∷ 0x00 ∷ 0x01 ∷ 0x00 ∷ 0x01 ∷ 0x01 ∷ []) (0xF5 ∷ 0xD7 ∷ []) 6 0x02 (0xD2 ∷ 0xD7 ∷ [])
  pub row_3 : Row (0x06 ∷ 0x10 ∷ 0x01 ∷ 0x01 ∷ 0x01 ∷ 0x02 ∷ []) (0xF9 ∷ 0xF9 ∷ 0xF1 ∷ []) 6 0x09 (0xF0 ∷ 0xF0 ∷ 0xF1 ∷ [])
  pub row_4 : Row (0x06 ∷ 0x00 ∷ 0x01 ∷ 0x00 ∷ 0x01 ∷ 0x01 ∷ []) (0xD5 ∷ 0xD5 ∷ []) 6 0x09 (0xF0 ∷ 0xD5 ∷ [])
  pub row_5 : Row (0x04 ∷ 0x21 ∷ 0x01 ∷ 0x03 ∷ 0x01 ∷ 0x05 ∷ []) (0x11 ∷ 0x22 ∷ 0x33 ∷ 0x44 ∷ 0xF1 ∷ 0xD2 ∷ []) 6 0x02 (0xF0 ∷ 0xF0 ∷ 0xF1 ∷ 0xD2 ∷ 0xF1 ∷ 0xD2 ∷ [])
  pub row_6 : Row (0x04 ∷ 0x00 ∷ 0x01 ∷ 0x00 ∷ 0x01 ∷ 0x01 ∷ []) (0x11 ∷ 0xD0 ∷ []) 6 0x01 (0xF0 ∷ 0xD0 ∷ [])
  pub row_7 : Row (0x0C ∷ 0x02 ∷ 0x01 ∷ 0x02 ∷ 0x01 ∷ 0x03 ∷ []) (0x11 ∷ 0x22 ∷ 0x33 ∷ 0x44 ∷ []) 6 0x01 (0x44 ∷ 0x44 ∷ 0x44 ∷ 0x44 ∷ [])
  pub row_8 : Row (0x0C ∷ 0x02 ∷ 0x01 ∷ 0x03 ∷ 0x01 ∷ 0x02 ∷ []) (0x11 ∷ 0x22 ∷ 0x33 ∷ 0x44 ∷ []) 6 0x01 (0x11 ∷ 0x11 ∷ 0x22 ∷ 0x33 ∷ [])
  pub row_9 : Row (0x0A ∷ 0x04 ∷ 0x01 ∷ 0x04 ∷ 0x01 ∷ 0x08 ∷ []) (0x20 ∷ 0x20 ∷ 0x4B ∷ 0x20 ∷ 0x20 ∷ 0xF0 ∷ 0xF1 ∷ 0xF2 ∷ 0xD3 ∷ []) 6 0x02 (0xF0 ∷ 0xF1 ∷ 0x4B ∷ 0xF2 ∷ 0xF3 ∷ 0xF0 ∷ 0xF1 ∷ 0xF2 ∷ 0xD3 ∷ [])
  pub row_10 : step_of (machine 0 0 0 0x01) (field (0xF0 ∷ 0xF0 ∷ 0xF4 ∷ 0xF0 ∷ [])) ≡ ended (machine 6 0x0202 0 0x01) Executed (field (0x5C ∷ 0x5C ∷ 0xF4 ∷ 0xF0 ∷ []))
  pub row_11 : Row (0x3D ∷ 0xF1 ∷ 0x01 ∷ 0x00 ∷ []) (0x40 ∷ []) 4 0x02 (0x40 ∷ [])
  pub row_12_outside : step_of (machine 0 0 0 0x01) (loads 0x00) ≡ ended (machine 0 0 0 0x01) (Stopped OperandOutside) (loads 0x00)
  pub row_12_inside : step_of (machine 0 0 0 0x01) (loads 0x01) ≡ ended (machine 4 0 0x3501 0x01) Executed (loads 0x01)

pub morning : Morning
unfolding val fin ◌>>=◌ rightward leftward unless and_then size_allowed status_allowed turn_on turn_off set_order order_of form_of named_of first_base allowed reach reach_right instruction_of fetch size minus value all_digits digits_of cut overflows left_minus sign_order put_digits put_zoned zoned_status put_result zaz combine count20 source_reach put_edited ed scan itc copy mvc columns sum_status alc register_named load cli exec perform follow step did inner_step step_of
morning = record { row_1 = refl; row_2 = refl; row_3 = refl; row_4 = refl; row_5 = refl; row_6 = refl; row_7 = refl; row_8 = refl; row_9 = refl; row_10 = refl; row_11 = refl; row_12_outside = refl; row_12_inside = refl }
