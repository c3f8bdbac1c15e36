-- The records of what is left, put at `at` over the output as it is now, give the whole.
use Rattle.std.proofs.Common.{◌≡◌, ◌+◌, ◌*◌, ◌/◌, length}
use Rattle.std.specs.Slice.Iter.{chunks_exact_rest, chunks_exact_size}
use Rattle.std.specs.Iterator.Adapters.{enumerate_count, enumerate_source}
use Rattle.manual.specs.Deck.{over, page_records}
use Rattle.deck.proofs.writer.write_pages.Given as goal

abbrev pub invariant-loop-number : goal.invariant-loop-number
invariant-loop-number l =
    let number = enumerate_count l.number-iterator in
    let rest = chunks_exact_rest (enumerate_source l.number-iterator) in
    let records = page_records (length l.s / 256) 0 l.s in
    record {
      can : goal.iterator-loop-number.can_next l.number-iterator;
      size : chunks_exact_size (enumerate_source l.number-iterator) ≡ 256;
      small : number * 256 + length rest ≡ length l.s;
      place : l.at + length (page_records (length rest / 256) number rest) ≡ 19 + length records;
      is : over l.out l.at (page_records (length rest / 256) number rest) ≡ over l.fn.out 19 records;
    }
