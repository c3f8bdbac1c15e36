use Rattle.std.proofs.Common.{◌-◌, ◌≤◌}
use denote.Param.{number}
use Rattle.manual.specs.Logical.{columns}
use Rattle.logical.specs.Columns.{column_of}
use Rattle.logical.specs.contracts.fields.ones.{LESS-type}
use Rattle.logical.proofs.Turns.{Leads, so_far}
use Rattle.logical.proofs.fields.ones.Given as goal

-- what is left to do gives what the whole gives
abbrev pub invariant-loop-i : goal.invariant-loop-i
invariant-loop-i g l =
    let less = LESS-type (number g.row.LESS) in
    record {
      carry : l.carry ≤ 1;
      leads : Leads (columns (column_of less) (l.p.n - l.from) (l.p.a - l.from) (l.p.b - l.from) l.fn.c) l.fn.s
          (columns (column_of less) (l.p.n - l.i) (l.p.a - l.i) (l.p.b - l.i) (so_far less l.carry l.clear)) l.s;
    }
