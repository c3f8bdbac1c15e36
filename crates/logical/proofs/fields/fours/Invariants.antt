use Rattle.std.proofs.Common.{◌-◌, ◌*◌, ◌≤◌}
use denote.Param.{number}
use Rattle.manual.specs.Logical.{columns, fresh}
use Rattle.manual.proofs.FieldBytes.{Bytes}
use Rattle.logical.specs.Columns.{column_of}
use Rattle.logical.specs.contracts.fields.fours.{LESS-type}
use Rattle.logical.proofs.Turns.{Leads, so_far}
use Rattle.logical.proofs.fields.fours.Given as goal

-- what is left to do gives what the whole gives
abbrev pub invariant-loop-i : goal.invariant-loop-i
invariant-loop-i g l =
    let less = LESS-type (number g.row.LESS) in
    record {
      carry : l.carry ≤ 1;
      bytes : Bytes l.s;
      leads : Leads (columns (column_of less) (4 * l.k) l.p.a l.p.b fresh) l.fn.s
          (columns (column_of less) (4 * l.k - 4 * l.i) (l.p.a - 4 * l.i) (l.p.b - 4 * l.i) (so_far less l.carry l.clear)) l.s;
    }
