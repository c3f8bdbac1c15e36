-- What the decoder answers: the manual's decoding, with the addresses reckoned from the machine.
use Rattle.std.specs.Prelude.{Bool, true, false, ℕ, ◌/◌, Ok, Err, Option, Some, None}
use Rattle.manual.specs.declared.Stop.TheVariants.{CutShort, OpcodeUnknown, QRefused, OperandOutside, DigitRefused, Supervisor}
use Rattle.manual.specs.declared.Machine.{Machine}
use Rattle.manual.specs.declared.Group.{Group}
use Rattle.manual.specs.declared.Group.TheVariants.{TwoAddress, OneAddress, Branch, Jump}
use Rattle.manual.specs.Formats.{form_of, operation_of, allowed}
use Rattle.manual.specs.Stops.{address_of}
use Rattle.decode.specs.declared.Fetched.{Fetched}
use Rattle.decode.specs.declared.Fetched.TheVariants.{Go, PastStorage, Unnamed, QNotAllowed}
use Rattle.manual.specs.Decode.{Decoded}
use Rattle.manual.specs.declared.Operation.{Operation}

-- decoding stops with 4, 5 or 6 alone; the other stops have no decoding of their own
abbrev pub fetched_of : Machine → Decoded → Fetched
fetched_of m (Ok i) = Go i.operation i.q i.r (address_of m i.first.base i.next i.first.number) (address_of m i.second.base i.next i.second.number) i.next
fetched_of m (Err CutShort) = PastStorage
fetched_of m (Err OpcodeUnknown) = Unnamed
fetched_of m (Err QRefused) = QNotAllowed
fetched_of m (Err OperandOutside) = QNotAllowed
fetched_of m (Err DigitRefused) = QNotAllowed
fetched_of m (Err (Supervisor q r)) = QNotAllowed

-- whether the operation that is named, if any, allows the Q byte
abbrev pub allows_named : Option Operation → ℕ → Bool
allows_named None q = true
allows_named (Some op) q = allowed op q

-- ---- the opcodes that are two-address ones or name nothing

abbrev pub is_unknown : Option Operation → Bool
is_unknown None = true
is_unknown (Some op) = false

abbrev pub is_pair_or : Group → Bool → Bool
is_pair_or TwoAddress b = true
is_pair_or OneAddress b = b
is_pair_or Branch b = b
is_pair_or Jump b = b

unfoldable pub unlisted : ℕ → Bool
unlisted o = is_pair_or (form_of (o / 16)).group (is_unknown (operation_of o))
