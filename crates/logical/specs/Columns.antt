-- ALC and SLC as one: a difference is the sum with what operand 2 lacks of all ones, where a carry of 1 tells that nothing is borrowed.
use Rattle.std.specs.Prelude.{ℕ, ◌-◌, Bool, true, false}
use Rattle.manual.specs.Logical.{Column, added, subtracted}

abbrev pub column_of : Bool → ℕ → ℕ → ℕ → Column
column_of true = subtracted
column_of false = added

-- what is added for operand 2's y
abbrev pub taken : Bool → ℕ → ℕ → ℕ
taken true ones y = ones - y
taken false ones y = y

-- the borrow, or the carry itself; and the other way
abbrev pub over_of : Bool → ℕ → ℕ
over_of true carry = 1 - carry
over_of false carry = carry
