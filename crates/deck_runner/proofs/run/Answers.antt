-- The line of what the buffer holds is the line of all the input's bytes (`line_of_filled`).
use Rattle.std.proofs.Common.{◌≡◌, List, ℕ, Option, None, Some, IfSome, Result, Ok, Err, OnOk, subst, arith}
use Rattle.std.specs.Io.KnownBytes.{Appends}
use Rattle.manual.specs.Runner.{line_of}
use Rattle.deck_runner.proofs.Limits.{line_of_filled}
use Rattle.deck_runner.proofs.run.Goals as goal

of_all : {E : Type 0} (r : Result (Unit {0}) E) (known old new : Option (List ℕ)) (deck : List ℕ) → IfSome known (λ bytes. line_of deck ≡ line_of bytes)
    → OnOk r (Appends old new (line_of deck)) → OnOk r (IfSome known (λ bytes. Appends old new (line_of bytes)))
of_all (Ok x) None old new deck same h = tt
of_all (Ok x) (Some bytes) old new deck same h = subst (Appends old new) same h
of_all (Err e) known old new deck same h = tt

pub returns : goal.returns
returns g c =
    let filled = c.in_ok-n.ensures in
    of_all c.answer.result _ _ _ _ (line_of_filled _ _ c.fill.new.buffer c.in_ok-n.n (omega arith) filled.within filled.bytes filled.end) c.answer.ensures
