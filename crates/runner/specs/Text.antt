-- The text that a line holds, at the front of its 64 bytes with zeros behind it, and what appending to it does.
use Rattle.std.specs.Prelude.{ℕ, ◌+◌, ◌-◌, ◌≤◌, ◌≡◌, List, ◌++◌, length, take, drop, replicate}
use Rattle.runner.specs.declared.Printed.{Printed}

-- the text t as a line
abbrev pub printed : List ℕ → Printed
printed t = record { bytes = t ++ replicate (64 - length t) 0; length = length t }

abbrev pub text : Printed → List ℕ
text l = take l.length l.bytes

-- zeros stand behind the text
abbrev pub Behind : Printed → Type 0
Behind l = drop l.length l.bytes ≡ replicate (64 - l.length) 0

-- n more bytes have room
abbrev pub Room : Printed → ℕ → Type 0
Room l n = (length l.bytes ≡ 64) × (l.length + n ≤ 64)

-- r is l with t appended, n bytes
abbrev pub Adds : Printed → List ℕ → ℕ → Printed → Type 0
Adds l t n r = (text r ≡ text l ++ t) × (r.length ≡ l.length + n) × (length r.bytes ≡ 64) × (Behind l → Behind r)
