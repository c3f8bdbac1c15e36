-- The operands of MVC, CLC, ALC and SLC, and where they may lie.
use Rattle.std.specs.Prelude.{ℕ, ◌+◌, ◌<◌, ◌≤◌}
use Rattle.manual.specs.declared.Fields.{Fields}
use Rattle.logical.specs.declared.fields.Operands.{Operands}

abbrev pub operands_of : Fields → Operands
operands_of f = record { a = f.a1; b = f.a2; n = f.q + 1 }

-- both lie in a storage of that size
abbrev pub Within : Operands → ℕ → Type 0
Within p size = ((p.a < size) × (p.n ≤ p.a + 1)) × ((p.b < size) × (p.n ≤ p.b + 1))
