-- Addresses and lengths: what the left digit of an opcode gives, what the right digit names, which Q bytes an operation allows, and where an operand may lie.
use Rattle.std.specs.Prelude.{ℕ, ◌+◌, ◌/◌, ◌%◌, Bool, true, cond, ◌&&◌, ◌||◌, List, [], ◌∷◌, get_or, eqb, leb, ltb, Ok, Err, Option, Some, None}
use Rattle.manual.specs.declared.Operation.{Operation}
use Rattle.manual.specs.declared.Operation.TheVariants.{Zaz, Az, Sz, Mvx, Ed, Itc, Mvc, Clc, Alc, Slc, St, L, A, S, Tbn, Tbf, Sbn, Sbf, Mvi, Cli, Sli, Bc, Jc, La, Svc}
use Rattle.manual.specs.declared.Base.{Base}
use Rattle.manual.specs.declared.Base.TheVariants.{Absent, Direct, FromXr1, FromXr2, FromArr, Forward, Backward}
use Rattle.manual.specs.declared.Group.{Group}
use Rattle.manual.specs.declared.Group.TheVariants.{TwoAddress, OneAddress, Branch, Jump}
use Rattle.manual.specs.declared.Form.{Form}
use Rattle.manual.specs.declared.Stop.TheVariants.{OperandOutside}
use Rattle.manual.specs.Programs.{Way}

-- ---- the left digit: its left two bits are operand 1's base, its right two operand 2's

abbrev pub base_of : ℕ → Base
base_of b = cond (eqb b 0) Direct (cond (eqb b 1) FromXr1 (cond (eqb b 2) FromXr2 Absent))

-- the bytes that an operand takes in the instruction: a direct address two, a displacement one
abbrev pub width_of : Base → ℕ
width_of Absent = 0
width_of Direct = 2
width_of FromXr1 = 1
width_of FromXr2 = 1
width_of FromArr = 1
width_of Forward = 1
width_of Backward = 1

-- opcode, Q byte and operands
abbrev pub length_of : Base → Base → ℕ
length_of first second = 2 + width_of first + width_of second

-- 0 to 2, 4 to 6, 8 to A have two operands; 3, 7, B one, the first; C, D, E one address; F none, but a third byte
unfoldable pub form_of : ℕ → Form
form_of d =
    let first : Base = base_of (d / 4) in
    let second : Base = base_of (d % 4) in
    cond (leb 3 (d / 4))
    (cond (leb 3 (d % 4))
    (record { length = 3; first = Absent; second = Absent; group = Jump })
    (record { length = length_of second Absent; first = second; second = Absent; group = Branch }))
    (cond (leb 3 (d % 4))
    (record { length = length_of first Absent; first = first; second = Absent; group = OneAddress })
    (record { length = length_of first second; first = first; second = second; group = TwoAddress }))

-- ---- the right digit

-- 4 ZAZ, 6 AZ, 7 SZ, 8 MVX, A ED, B ITC, C MVC, D CLC, E ALC, F SLC
abbrev pub two_address : List (Option Operation)
two_address =
    None ∷ None ∷ None ∷ None
    ∷ Some Zaz ∷ None ∷ Some Az ∷ Some Sz
    ∷ Some Mvx ∷ None ∷ Some Ed ∷ Some Itc
    ∷ Some Mvc ∷ Some Clc ∷ Some Alc ∷ Some Slc ∷ []

-- 4 ST, 5 L, 6 A, 7 S, 8 TBN, 9 TBF, A SBN, B SBF, C MVI, D CLI, F SLI
abbrev pub one_address : List (Option Operation)
one_address =
    None ∷ None ∷ None ∷ None
    ∷ Some St ∷ Some L ∷ Some A ∷ Some S
    ∷ Some Tbn ∷ Some Tbf ∷ Some Sbn ∷ Some Sbf
    ∷ Some Mvi ∷ Some Cli ∷ None ∷ Some Sli ∷ []

-- 0 BC, 2 LA
abbrev pub branches : List (Option Operation)
branches = Some Bc ∷ None ∷ Some La ∷ []

-- F0 BC, F1 and F2 JC, F4 SVC
abbrev pub jumps : List (Option Operation)
jumps = Some Bc ∷ Some Jc ∷ Some Jc ∷ None ∷ Some Svc ∷ []

unfoldable pub named_of : Group → ℕ → Option Operation
named_of TwoAddress r = get_or two_address r None
named_of OneAddress r = get_or one_address r None
named_of Branch r = get_or branches r None
named_of Jump r = get_or jumps r None

-- the operation that an opcode names
abbrev pub operation_of : ℕ → Option Operation
operation_of opcode = named_of (form_of (opcode / 16)).group (opcode % 16)

-- what byte 3 of F0, F1 and F2 counts from: ARR, backward and forward from the next instruction
abbrev pub jump_bases : List Base
jump_bases = FromArr ∷ Backward ∷ Forward ∷ []

-- the base of the first address: the left digit's, and for F by the right digit
unfoldable pub first_base : Group → Base → ℕ → Base
first_base TwoAddress b r = b
first_base OneAddress b r = b
first_base Branch b r = b
first_base Jump b r = get_or jump_bases r Absent

-- ---- the Q byte

-- 01 XR1, 02 XR2, 44 to 47 WR4 to WR7
abbrev pub is_index_or_work : ℕ → Bool
is_index_or_work q = eqb q 0x01 || (eqb q 0x02 || (leb 0x44 q && leb q 0x47))

-- 08 ARR besides
abbrev pub is_sum_register : ℕ → Bool
is_sum_register q = eqb q 0x08 || is_index_or_work q

-- 04 status besides
abbrev pub is_register : ℕ → Bool
is_register q = eqb q 0x04 || is_sum_register q

-- other codes stop with 6
unfoldable pub allowed : Operation → ℕ → Bool
allowed Zaz q = true
allowed Az q = true
allowed Sz q = true
allowed Mvx q = leb q 0x03
allowed Ed q = true
allowed Itc q = true
allowed Mvc q = true
allowed Clc q = true
allowed Alc q = true
allowed Slc q = true
allowed St q = is_register q
allowed L q = is_register q
allowed A q = is_sum_register q
allowed S q = is_sum_register q
allowed Tbn q = true
allowed Tbf q = true
allowed Sbn q = true
allowed Sbf q = true
allowed Mvi q = true
allowed Cli q = true
allowed Sli q = true
allowed Bc q = true
allowed Jc q = true
allowed La q = is_index_or_work q
allowed Svc q = true

-- ---- where an operand may lie

-- n bytes whose rightmost is at a: one that would pass below 0000 or reach the storage size stops with 7
unfoldable pub reach : ℕ → ℕ → ℕ → Way
reach size n a = cond (ltb a size && leb n (a + 1)) (Ok tt) (Err OperandOutside)

-- n bytes whose leftmost is at a
unfoldable pub reach_right : ℕ → ℕ → ℕ → Way
reach_right size n a = cond (leb (a + n) size) (Ok tt) (Err OperandOutside)
