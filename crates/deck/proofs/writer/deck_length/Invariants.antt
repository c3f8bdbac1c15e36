-- The total and the length of the records of what is left are the length of the deck.
use Rattle.std.proofs.Common.{◌≡◌, ◌+◌, ◌/◌, length}
use Rattle.std.specs.Slice.Iter.{chunks_exact_rest, chunks_exact_size}
use Rattle.manual.specs.Deck.{page_records}
use Rattle.deck.proofs.writer.deck_length.Given as goal

abbrev pub invariant-loop-page : goal.invariant-loop-page
invariant-loop-page l =
    let rest = chunks_exact_rest l.page-iterator in
    record {
      size : chunks_exact_size l.page-iterator ≡ 256;
      is : l.total + length (page_records (length rest / 256) 0 rest) ≡ 20 + length (page_records (length l.s / 256) 0 l.s);
    }
