-- The order of the stops in a step: 4, 5, 4, 6 in decoding, then 7, 8, 9 as listed here. Each can be read without the programs.
use Rattle.std.specs.Prelude.{List, ℕ, ◌+◌, ◌-◌, length, Ok, Err}
use Rattle.manual.specs.declared.Machine.{Machine}
use Rattle.manual.specs.declared.Operation.{Operation}
use Rattle.manual.specs.declared.Operation.TheVariants.{Zaz, Az, Sz, Mvx, Ed, Itc, Mvc, Clc, Alc, Slc, St, L, A, S, Tbn, Tbf, Sbn, Sbf, Mvi, Cli, Sli, Bc, Jc, La, Svc}
use Rattle.manual.specs.declared.Base.{Base}
use Rattle.manual.specs.declared.Base.TheVariants.{Absent, Direct, FromXr1, FromXr2, FromArr, Forward, Backward}
use Rattle.manual.specs.declared.Instruction.{Instruction}
use Rattle.manual.specs.declared.Fields.{Fields}
use Rattle.manual.specs.declared.Stop.TheVariants.{Supervisor}
use Rattle.manual.specs.Programs.{and_then, Way}
use Rattle.manual.specs.Formats.{reach, reach_right}
use Rattle.manual.specs.Decode.{decode_of, Decoded}
use Rattle.manual.specs.Values.{bytes_of, digits_of}
use Rattle.manual.specs.Zoned.{l1, l2, zoned_reach}
use Rattle.manual.specs.Edit.{count20, source_reach}
use Rattle.manual.specs.Logical.{reach_both}
use Rattle.manual.specs.Step.{based, fields}

-- ---- the addresses

abbrev pub address_of : Machine → Base → ℕ → ℕ → ℕ
address_of m Absent next d = 0
address_of m Direct next d = d
address_of m FromXr1 next d = based m.xr1 d
address_of m FromXr2 next d = based m.xr2 d
address_of m FromArr next d = based m.arr d
address_of m Forward next d = based next d
address_of m Backward next d = based next (65536 - d)

abbrev pub fields_of : Machine → Instruction → Fields
fields_of m i = fields i (address_of m i.first.base i.next i.first.number) (address_of m i.second.base i.next i.second.number)

-- ---- 7

-- the bytes of ED's pattern
abbrev pub pattern_of : List ℕ → Fields → List ℕ
pattern_of s f = bytes_of s (f.q + 1) f.a1

-- a stop with 7 before any operand byte is read
unfoldable pub outside : Operation → Fields → ℕ → Way
outside Zaz f size = zoned_reach f size
outside Az f size = zoned_reach f size
outside Sz f size = zoned_reach f size
outside Mvx f size = and_then (reach size 1 f.a1) (reach size 1 f.a2)
outside Ed f size = reach size (f.q + 1) f.a1
outside Itc f size = and_then (reach_right size (f.q + 1) f.a1) (reach size 1 f.a2)
outside Mvc f size = reach_both f size
outside Clc f size = reach_both f size
outside Alc f size = reach_both f size
outside Slc f size = reach_both f size
outside St f size = reach size 2 f.a1
outside L f size = reach size 2 f.a1
outside A f size = reach size 2 f.a1
outside S f size = reach size 2 f.a1
outside Tbn f size = reach size 1 f.a1
outside Tbf f size = reach size 1 f.a1
outside Sbn f size = reach size 1 f.a1
outside Sbf f size = reach size 1 f.a1
outside Mvi f size = reach size 1 f.a1
outside Cli f size = reach size 1 f.a1
outside Sli f size = reach size 1 f.a1
outside Bc f size = (Ok tt)
outside Jc f size = (Ok tt)
outside La f size = (Ok tt)
outside Svc f size = (Ok tt)

-- ED's operand 2, once the pattern is read
abbrev pub source_outside : Fields → List ℕ → Way
source_outside f s = source_reach (length s) (count20 (pattern_of s f)) f.a2

-- ---- 8

-- the bytes of a zoned operand 2, of a zoned operand 1, and of ED's operand 2
abbrev pub zoned2 : List ℕ → Fields → List ℕ
zoned2 s f = bytes_of s (l2 f.q) f.a2

abbrev pub zoned1 : List ℕ → Fields → List ℕ
zoned1 s f = bytes_of s (l1 f.q) f.a1

abbrev pub source_of : List ℕ → Fields → List ℕ
source_of s f = bytes_of s (count20 (pattern_of s f)) f.a2

-- ---- 8 and 9, and 7 of ED's operand 2: what stands in the way once the operands are reached

unfoldable pub further : Operation → Fields → List ℕ → Way
further Zaz f s = digits_of (zoned2 s f)
further Az f s = and_then (digits_of (zoned2 s f)) (digits_of (zoned1 s f))
further Sz f s = and_then (digits_of (zoned2 s f)) (digits_of (zoned1 s f))
further Mvx f s = (Ok tt)
further Ed f s = and_then (source_outside f s) (digits_of (source_of s f))
further Itc f s = (Ok tt)
further Mvc f s = (Ok tt)
further Clc f s = (Ok tt)
further Alc f s = (Ok tt)
further Slc f s = (Ok tt)
further St f s = (Ok tt)
further L f s = (Ok tt)
further A f s = (Ok tt)
further S f s = (Ok tt)
further Tbn f s = (Ok tt)
further Tbf f s = (Ok tt)
further Sbn f s = (Ok tt)
further Sbf f s = (Ok tt)
further Mvi f s = (Ok tt)
further Cli f s = (Ok tt)
further Sli f s = (Ok tt)
further Bc f s = (Ok tt)
further Jc f s = (Ok tt)
further La f s = (Ok tt)
further Svc f s = Err (Supervisor f.q f.r)

-- what stops an operation, if anything
abbrev pub barred : Operation → Fields → List ℕ → Way
barred op f s = and_then (outside op f (length s)) (further op f s)

-- what stops a step, if anything
abbrev pub barred_in : Machine → List ℕ → Decoded → Way
barred_in m s (Err x) = Err x
barred_in m s (Ok i) = barred i.operation (fields_of m i) s

unfoldable pub barred_at : Machine → List ℕ → Way
barred_at m s = barred_in m s (decode_of s m.iar)
