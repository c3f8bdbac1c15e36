-- `{:02X}` writes a byte's two digits (`hex_byte`).
use Rattle.std.proofs.Common.{true, arith, rules}
use Rattle.std.proofs.Output.{has_written_of_eq}
use Rattle.std.proofs.lemmas.Fmt.{hex_byte}
use Rattle.runner.proofs.registers.HexByteDisplay.fmt.Goals as goal

pub returns-clause-writes : goal.returns-clause-writes
returns-clause-writes g c = λ plain ok. has_written_of_eq _ _ _ _ _ (hex_byte true c.args.self.now.0 (omega arith)) (search rules)
