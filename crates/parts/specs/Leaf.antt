-- What a leaf does to the machine and storage that it is lent, against the rules of the book.
use Rattle.std.specs.Prelude.{◌≡◌, List, ℕ, Ok, Err}
use Rattle.manual.specs.declared.Machine.{Machine}
use Rattle.manual.specs.declared.Answer.{Answer}
use Rattle.manual.specs.declared.Answer.TheVariants.{Executed, Stopped}
use Rattle.manual.specs.Programs.{Rule, Way}
use Rattle.manual.specs.Step.{ended, did}

-- what is answered where nothing, or a stop, stood in the way
abbrev pub answer : Way → Answer
answer (Ok tt) = Executed
answer (Err x) = Stopped x

-- the result, the machine and the storage afterwards are what the rule makes of those before
abbrev pub Does : Rule → Machine → List ℕ → Way → Machine → List ℕ → Type 0
Does rule m s r n t = ended n (answer r) t ≡ did m s rule
