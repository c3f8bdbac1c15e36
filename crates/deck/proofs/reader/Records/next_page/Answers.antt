-- The parts of a page's record.
use Rattle.std.proofs.Common.{◌≡◌, get_or, refl}
use Rattle.std.proofs.lemmas.List.{take_rest}
use Rattle.deck.proofs.reader.Records.next_page.Goals as goal

pub returns-in-Page-clause-page : goal.returns-in-Page-clause-page
returns-in-Page-clause-page c =
    let k : get_or c.args.self.now.rest.now 0 0 ≡ 2 = rw c.in-Page.is at c.in_ok-asked.ensures.kind in
    record { kind = k; whole = rw k at c.in_ok-asked.ensures.ok.whole; number = c.from.ensures; bytes = refl; behind = take_rest c.args.self.now.rest.now 258 }
