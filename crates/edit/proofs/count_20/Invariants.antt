-- The 20s counted and those of what is left are those of the whole.
use Rattle.std.proofs.Common.{◌≡◌, ◌+◌, ◌-◌, ◌≤◌}
use Rattle.manual.specs.Values.{bytes_of}
use Rattle.manual.specs.Edit.{count20}
use Rattle.edit.proofs.count_20.Given as goal

abbrev pub invariant-loop-i : goal.invariant-loop-i
invariant-loop-i l = record { few : l.count ≤ l.i; counted : count20 (bytes_of l.s l.n l.a) ≡ l.count + count20 (bytes_of l.s (l.n - l.i) (l.a - l.i)) }
