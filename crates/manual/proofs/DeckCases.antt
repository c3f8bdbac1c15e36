-- Small decks, computed: each number of the reader occurs, and each of the writer; and a deck written and read again.
-- What carries it: the definitions compute.
use Rattle.std.proofs.Common.{Ok, ℕ, ◌≡◌, refl, List, [], ◌∷◌, ◌++◌, replicate, length}
use Rattle.manual.specs.declared.Machine.{Machine}
use Rattle.manual.specs.Numbers.{read_number, write_told}
use Rattle.manual.specs.TheMachine.{size_allowed, status_allowed}
use Rattle.manual.specs.Deck.{machine_record, machine_in, all_zero, page_records, deck_of, first_answer, page_answer, later_answer, deck_answer, over, paged, storage_in, read_of, write_of}

-- a record 01 of one page, with this status
abbrev first : ℕ → List ℕ
first status = 0x01 ∷ 0 ∷ replicate 16 0 ++ status ∷ []

-- a record 02 whose page begins with this byte
abbrev page : ℕ → ℕ → List ℕ
page number byte = 0x02 ∷ number ∷ byte ∷ replicate 255 0

-- the number for a storage of 256 bytes
abbrev number : List ℕ → ℕ
number d = read_number (deck_answer d 256)

abbrev example : Machine
example = record { iar = 0x0123; arr = 0x4567; xr1 = 0x89AB; xr2 = 0xCDEF; wr = 1 ∷ 2 ∷ 3 ∷ 0xFFFF ∷ []; status = 0x3F }

-- two pages, the first of them all zero
abbrev storage : List ℕ
storage = replicate 256 0 ++ 0xF1 ∷ replicate 255 0

abbrev written : ℕ → List ℕ → ℕ → ℕ
written status s room = (write_told (write_of (record { iar = 0; arr = 0; xr1 = 0; xr2 = 0; wr = 0 ∷ 0 ∷ 0 ∷ 0 ∷ []; status = status }) s (replicate room 0xAA)).gave).number

pub record DeckCases : Type 0 where
  pub read : number (first 1 ++ page 0 60 ++ 0x03 ∷ []) ≡ 0
  pub not_the_decks_size : read_number (deck_answer (first 1) 512) ≡ 1
  pub size_never_allowed : read_number (deck_answer (first 1) 100) ≡ 1
  pub status : number (first 0x40) ≡ 3
  pub status_before_size : read_number (deck_answer (first 0x80) 512) ≡ 3
  pub empty : number [] ≡ 11
  pub short_first : number (0x01 ∷ 0 ∷ []) ≡ 11
  pub no_end : number (first 1) ≡ 11
  pub short_page : number (first 1 ++ 0x02 ∷ 9 ∷ []) ≡ 11
  pub kind : number (0x04 ∷ []) ≡ 12
  pub later_kind : number (first 1 ++ 0x00 ∷ []) ≡ 12
  pub not_first : number (0x03 ∷ []) ≡ 13
  pub second_first : number (first 1 ++ 0x01 ∷ []) ≡ 13
  pub page_again : number (first 1 ++ page 0 60 ++ page 0 60 ++ 0x03 ∷ []) ≡ 13
  pub page_beyond : number (first 1 ++ page 1 60 ++ 0x03 ∷ []) ≡ 14
  pub page_of_zeros : number (first 1 ++ page 0 0 ++ 0x03 ∷ []) ≡ 15
  pub bytes_after : number (first 1 ++ 0x03 ∷ 0x03 ∷ []) ≡ 16
  pub not_written_size : written 0x00 (replicate 100 0) 300 ≡ 1
  pub not_written_status : written 0x40 (replicate 256 0) 300 ≡ 3
  pub not_written_short : written 0x00 (replicate 256 0) 19 ≡ 17
  pub written_just : written 0x00 (replicate 256 0) 20 ≡ 0
  -- 20 bytes, and 258 for the one page that isn't all zero
  pub length_278 : length (deck_of example storage) ≡ 278
  pub read_again : read_of (deck_of example storage) (replicate 512 0x77) ≡ record { gave = record { machine = example; answer = (Ok tt) }; storage = storage }

pub deck_cases : DeckCases
unfolding deck_answer first_answer later_answer page_answer all_zero status_allowed size_allowed write_of deck_of machine_record page_records over read_of machine_in storage_in paged
deck_cases =
    record {
      read = refl;
      not_the_decks_size = refl;
      size_never_allowed = refl;
      status = refl;
      status_before_size = refl;
      empty = refl;
      short_first = refl;
      no_end = refl;
      short_page = refl;
      kind = refl;
      later_kind = refl;
      not_first = refl;
      second_first = refl;
      page_again = refl;
      page_beyond = refl;
      page_of_zeros = refl;
      bytes_after = refl;
      not_written_size = refl;
      not_written_status = refl;
      not_written_short = refl;
      written_just = refl;
      length_278 = refl;
      read_again = refl;
    }
