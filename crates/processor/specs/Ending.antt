-- How decoding that found no instruction ends a step.
use Rattle.std.specs.Prelude.{Bool, true, false}
use Rattle.decode.specs.declared.Fetched.{Fetched}
use Rattle.decode.specs.declared.Fetched.TheVariants.{Go, PastStorage, Unnamed, QNotAllowed}
use Rattle.manual.specs.declared.Stop.{Stop}
use Rattle.manual.specs.declared.Stop.TheVariants.{CutShort, OpcodeUnknown, QRefused}

abbrev pub fetch_stop : Fetched → Stop
fetch_stop (Go op q r a1 a2 next) = CutShort
fetch_stop PastStorage = CutShort
fetch_stop Unnamed = OpcodeUnknown
fetch_stop QNotAllowed = QRefused

abbrev pub is_go : Fetched → Bool
is_go (Go op q r a1 a2 next) = true
is_go PastStorage = false
is_go Unnamed = false
is_go QNotAllowed = false
