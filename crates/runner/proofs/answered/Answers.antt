-- `answered`: a refused deck's number, or the line of its run.
use Rattle.std.proofs.Common.{rules}
use Rattle.runner.proofs.Decided.{refused_line, ran_line}
use Rattle.runner.proofs.answered.Goals as goal

pub returns-in-Err : goal.returns-in-Err
returns-in-Err c = (search (rules, refused_line), search rules)

pub returns-in-Ok : goal.returns-in-Ok
returns-in-Ok c = (search (rules, ran_line), search rules)
