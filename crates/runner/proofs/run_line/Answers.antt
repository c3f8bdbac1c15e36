-- `run_line`: the pieces, one after the other.
use Rattle.std.proofs.Common.{◌≡◌, ◌≤◌, ap, ◌∙◌, arith, length, rules}
use Rattle.manual.specs.Numbers.{told}
use Rattle.manual.specs.Runner.{run_line}
use Rattle.told.proofs.Telling.{told_of}
use Rattle.runner.specs.Text.{text}
use Rattle.runner.proofs.Lines.{run_text, as_printed}
use Rattle.runner.proofs.run_line.Goals as goal

pub returns : goal.returns
returns c =
    let shows : text c.with_byte-2.result ≡ run_line c.args.m (told c.args.e) =
    run_text c.args.m c.number_of.result c.args.e.steps c.q_of.result c.r_of.result c.number_of.ensures.1 c.nothing.ensures.0
    c.with_digit-number.ensures.0 c.with_registers-registers.ensures.0 c.with_field-status.ensures.0 c.with_byte.ensures.0
    c.with_decimal-steps.ensures.0 c.with_field-q.ensures.0 c.with_field-r.ensures.0 c.with_byte-2.ensures.0
    ∙ ap (run_line c.args.m) (told_of c.args.e.answer c.args.e.steps c.number_of.ensures.0 c.q_of.ensures c.r_of.ensures) in
    let fits : c.with_byte-2.result.length ≤ length c.with_byte-2.result.bytes = omega arith in
    (as_printed _ _ shows fits (search rules), fits)
