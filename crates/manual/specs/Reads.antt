-- What a step reads, and what it writes. A register is a place too: it is read as a base and by ST, A and S, and written by L, A, S, LA, ITC and BC.
use Rattle.std.specs.Prelude.{Bool, true, false, cond, ◌||◌, List, [], ◌∷◌, ◌++◌, ℕ, zero, suc, ◌+◌, ◌-◌, ◌/◌, min, length, get_or, leb, Ok, Err}
use Rattle.manual.specs.declared.Machine.{Machine}
use Rattle.manual.specs.declared.Register.TheVariants.{Arr, Xr1, Xr2}
use Rattle.manual.specs.declared.Operation.{Operation}
use Rattle.manual.specs.declared.Operation.TheVariants.{Zaz, Az, Sz, Mvx, Ed, Itc, Mvc, Clc, Alc, Slc, St, L, A, S, Tbn, Tbf, Sbn, Sbf, Mvi, Cli, Sli, Bc, Jc, La, Svc}
use Rattle.manual.specs.declared.Base.{Base}
use Rattle.manual.specs.declared.Base.TheVariants.{Absent, Direct, FromXr1, FromXr2, FromArr, Forward, Backward}
use Rattle.manual.specs.declared.Fields.{Fields}
use Rattle.manual.specs.declared.Stop.TheVariants.{CutShort, OpcodeUnknown, QRefused, OperandOutside, DigitRefused, Supervisor}
use Rattle.manual.specs.Places.{Place, mem, reg, same}
use Rattle.manual.specs.Programs.{clear}
use Rattle.manual.specs.Formats.{form_of}
use Rattle.manual.specs.Decode.{decode_of, Decoded}
use Rattle.manual.specs.Zoned.{l1, l2}
use Rattle.manual.specs.Edit.{takes_digit, count20, ends_scan}
use Rattle.manual.specs.Registers.{is_status, register_named}
use Rattle.manual.specs.Stops.{fields_of, pattern_of, outside, source_outside, barred}

-- ---- lists of places

abbrev pub elem : Place → List Place → Bool
elem x [] = false
elem x (l ∷ ls) = same l x || elem x ls

-- n bytes whose rightmost is at a
unfoldable pub field : ℕ → ℕ → List Place
field zero a = []
field (suc n) a = mem a ∷ field n (a - 1)

-- n bytes from a to the right
unfoldable pub span : ℕ → ℕ → List Place
span zero a = []
span (suc n) a = mem a ∷ span n (a + 1)

unfoldable pub when : Bool → List Place → List Place
when b xs = cond b xs []

-- of a field whose bytes are given from the right, the 20s
unfoldable pub the20s : List ℕ → ℕ → List Place
the20s [] a = []
the20s (p ∷ ps) a = when (takes_digit p) (mem a ∷ []) ++ the20s ps (a - 1)

-- how many of the n bytes from a on come before the one that ends ITC's scan
unfoldable pub before : List ℕ → ℕ → ℕ → ℕ
before s zero a = 0
before s (suc n) a = cond (ends_scan (get_or s a 0)) 0 (suc (before s n (a + 1)))

-- ---- the operand bytes that are read: every one, except those of MVI and ST, operand 1 of ZAZ and of MVC,
-- and of ITC's operand 1 the bytes right of the one that ended the scan

unfoldable pub operand_reads : Operation → Fields → List ℕ → List Place
operand_reads Zaz f s = field (l2 f.q) f.a2
operand_reads Az f s = field (l2 f.q) f.a2 ++ field (l1 f.q) f.a1
operand_reads Sz f s = field (l2 f.q) f.a2 ++ field (l1 f.q) f.a1
operand_reads Mvx f s = field 1 f.a2 ++ field 1 f.a1
-- ED stopped with 7 on operand 2 has read the pattern
operand_reads Ed f s = field (f.q + 1) f.a1 ++ when (clear (source_outside f s)) (field (count20 (pattern_of s f)) f.a2)
operand_reads Itc f s = field 1 f.a2 ++ span (min (before s (f.q + 1) f.a1 + 1) (f.q + 1)) f.a1
operand_reads Mvc f s = field (f.q + 1) f.a2
operand_reads Clc f s = field (f.q + 1) f.a1 ++ field (f.q + 1) f.a2
operand_reads Alc f s = field (f.q + 1) f.a1 ++ field (f.q + 1) f.a2
operand_reads Slc f s = field (f.q + 1) f.a1 ++ field (f.q + 1) f.a2
operand_reads St f s = []
operand_reads L f s = field 2 f.a1
operand_reads A f s = field 2 f.a1
operand_reads S f s = field 2 f.a1
operand_reads Tbn f s = field 1 f.a1
operand_reads Tbf f s = field 1 f.a1
operand_reads Sbn f s = field 1 f.a1
operand_reads Sbf f s = field 1 f.a1
operand_reads Mvi f s = []
operand_reads Cli f s = field 1 f.a1
operand_reads Sli f s = field 1 f.a1
operand_reads Bc f s = []
operand_reads Jc f s = []
operand_reads La f s = []
operand_reads Svc f s = []

-- the register of Q, read or written
abbrev pub named : Fields → List Place
named f = cond (is_status f.q) [] (reg (register_named f.q) ∷ [])

-- the registers that are read beside the bases
unfoldable pub register_reads : Operation → Fields → List Place
register_reads Zaz f = []
register_reads Az f = []
register_reads Sz f = []
register_reads Mvx f = []
register_reads Ed f = []
register_reads Itc f = []
register_reads Mvc f = []
register_reads Clc f = []
register_reads Alc f = []
register_reads Slc f = []
register_reads St f = named f
register_reads L f = []
register_reads A f = reg (register_named f.q) ∷ []
register_reads S f = reg (register_named f.q) ∷ []
register_reads Tbn f = []
register_reads Tbf f = []
register_reads Sbn f = []
register_reads Sbf f = []
register_reads Mvi f = []
register_reads Cli f = []
register_reads Sli f = []
register_reads Bc f = []
register_reads Jc f = []
register_reads La f = []
register_reads Svc f = []

-- ---- what a step that doesn't stop writes: each byte the rules put a value in, even the value it had;
-- in ED the 20s only, in ITC the bytes before the one that ended the scan. Registers are written as L, A, S, LA, ITC and BC name them

unfoldable pub operand_writes : Operation → Fields → List ℕ → List Place
operand_writes Zaz f s = field (l1 f.q) f.a1
operand_writes Az f s = field (l1 f.q) f.a1
operand_writes Sz f s = field (l1 f.q) f.a1
operand_writes Mvx f s = field 1 f.a1
operand_writes Ed f s = the20s (pattern_of s f) f.a1
operand_writes Itc f s = span (before s (f.q + 1) f.a1) f.a1 ++ reg Arr ∷ []
operand_writes Mvc f s = field (f.q + 1) f.a1
operand_writes Clc f s = []
operand_writes Alc f s = field (f.q + 1) f.a1
operand_writes Slc f s = field (f.q + 1) f.a1
operand_writes St f s = field 2 f.a1
operand_writes L f s = named f
operand_writes A f s = reg (register_named f.q) ∷ []
operand_writes S f s = reg (register_named f.q) ∷ []
operand_writes Tbn f s = []
operand_writes Tbf f s = []
operand_writes Sbn f s = field 1 f.a1
operand_writes Sbf f s = field 1 f.a1
operand_writes Mvi f s = field 1 f.a1
operand_writes Cli f s = []
operand_writes Sli f s = field 1 f.a1
operand_writes Bc f s = reg Arr ∷ []
operand_writes Jc f s = []
operand_writes La f s = reg (register_named f.q) ∷ []
operand_writes Svc f s = []

-- ---- a whole step

-- a register that is a base is read
abbrev pub base_reads : Base → List Place
base_reads Absent = []
base_reads Direct = []
base_reads FromXr1 = reg Xr1 ∷ []
base_reads FromXr2 = reg Xr2 ∷ []
base_reads FromArr = reg Arr ∷ []
base_reads Forward = []
base_reads Backward = []

-- the instruction was wholly in storage and its opcode known: not after 5, nor 4
abbrev pub whole : Decoded → Bool
whole (Ok i) = true
whole (Err CutShort) = false
whole (Err OpcodeUnknown) = false
whole (Err QRefused) = true
whole (Err OperandOutside) = true
whole (Err DigitRefused) = true
whole (Err (Supervisor q r)) = true

-- with IAR outside storage: nothing. After 5, or 4 on later bytes: the opcode byte. Otherwise all instruction bytes
unfoldable pub instruction_reads : List ℕ → ℕ → List Place
instruction_reads s iar =
    cond (leb (length s) iar) []
    (cond (whole (decode_of s iar)) (span (form_of (get_or s iar 0 / 16)).length iar) (span 1 iar))

-- and operand bytes unless it stopped with 6 or 7
abbrev pub further_reads : Machine → List ℕ → Decoded → List Place
further_reads m s (Err x) = []
further_reads m s (Ok i) =
    base_reads i.first.base
    ++ (base_reads i.second.base
    ++ (register_reads i.operation (fields_of m i)
    ++ when (clear (outside i.operation (fields_of m i) (length s))) (operand_reads i.operation (fields_of m i) s)))

unfoldable pub reads_of : Machine → List ℕ → List Place
reads_of m s = instruction_reads s m.iar ++ further_reads m s (decode_of s m.iar)

abbrev pub further_writes : Machine → List ℕ → Decoded → List Place
further_writes m s (Err x) = []
further_writes m s (Ok i) = when (clear (barred i.operation (fields_of m i) s)) (operand_writes i.operation (fields_of m i) s)

unfoldable pub writes_of : Machine → List ℕ → List Place
writes_of m s = further_writes m s (decode_of s m.iar)
