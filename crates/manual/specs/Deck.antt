-- The deck: records of one byte of kind, then a body whose length the kind fixes. The reader and the writer as functions on lists of bytes.
use Rattle.std.specs.Prelude.{ℕ, zero, suc, ◌+◌, ◌-◌, ◌*◌, ◌/◌, ◌%◌, ◌≡◌, Bool, true, false, cond, not, ◌&&◌, List, [], ◌∷◌, ◌++◌, eqb, leb, ltb, length, get_or, take, drop, replicate, Ok, Err}
use Rattle.std.proofs.Common.{ap, sym, ◌∙◌}
use Rattle.manual.specs.declared.Machine.{Machine}
use Rattle.manual.specs.declared.DeckFault.{DeckFault}
use Rattle.manual.specs.declared.DeckFault.TheVariants.{SizeNotTheDecks, StatusNotAllowed, EndsEarly, KindUnknown, OutOfOrder, PageBeyond, PageOfZeros, BytesAfterEnd}
use Rattle.manual.specs.declared.DeckOut.{DeckOut}
use Rattle.manual.specs.declared.WriteFault.TheVariants.{SizeNotAllowed, StatusNotWritable, OutputShort}
use Rattle.manual.specs.TheMachine.{size_allowed, status_allowed}
use Rattle.manual.specs.Numbers.{ReadAnswer, WriteAnswer}

-- ---- records

-- a page has 256 bytes
abbrev pub page_size : ℕ
page_size = 256

-- kind 01, 18 bytes; kind 02, 257 bytes; kind 03, no body; with the byte of kind
abbrev pub record_length : ℕ → ℕ
record_length kind = cond (eqb kind 0x01) 19 (cond (eqb kind 0x02) 258 1)

abbrev pub kind_known : ℕ → Bool
kind_known kind = leb 0x01 kind && leb kind 0x03

-- 16 bits, high byte first
abbrev pub word : ℕ → List ℕ
word v = (v / 256) ∷ (v % 256) ∷ []

abbrev pub word_at : List ℕ → ℕ → ℕ
word_at d i = get_or d i 0 * 256 + get_or d (i + 1) 0

-- kind 01: page count less 1; IAR, ARR, XR1, XR2, WR4 to WR7, high byte first; status
unfoldable pub machine_record : ℕ → Machine → List ℕ
machine_record pages m =
    0x01 ∷ (pages - 1) ∷ word m.iar ++ word m.arr ++ word m.xr1 ++ word m.xr2
    ++ word (get_or m.wr 0 0) ++ word (get_or m.wr 1 0) ++ word (get_or m.wr 2 0) ++ word (get_or m.wr 3 0)
    ++ m.status ∷ []

-- the machine of a record 01
unfoldable pub machine_in : List ℕ → Machine
machine_in d =
    record {
      iar = word_at d 2;
      arr = word_at d 4;
      xr1 = word_at d 6;
      xr2 = word_at d 8;
      wr = word_at d 10 ∷ word_at d 12 ∷ word_at d 14 ∷ word_at d 16 ∷ [];
      status = get_or d 18 0;
    }

-- whether every byte is zero
unfoldable pub all_zero : List ℕ → Bool
all_zero [] = true
all_zero (b ∷ bs) = eqb b 0 && all_zero bs

-- kind 02: page number, 256 bytes; only for a page that isn't all zero
abbrev pub page_record : ℕ → List ℕ → List ℕ
page_record page bytes = cond (all_zero bytes) [] (0x02 ∷ page ∷ bytes)

-- the records 02 of n pages, the first of them numbered page
unfoldable pub page_records : ℕ → ℕ → List ℕ → List ℕ
page_records zero page s = []
page_records (suc n) page s = page_record page (take page_size s) ++ page_records n (page + 1) (drop page_size s)

-- one 01 first, then 02 in rising page order for exactly the pages that aren't all zero, then 03
unfoldable pub deck_of : Machine → List ℕ → List ℕ
deck_of m s = machine_record (length s / page_size) m ++ (page_records (length s / page_size) 0 s ++ 0x03 ∷ [])

-- ---- the reader

-- more where the test holds, else refused
abbrev pub provided : Bool → DeckFault → ReadAnswer → ReadAnswer
provided true fault more = more
provided false fault more = Err fault

-- what each record is asked first, at the front of d: none left 11; kind 12; a first record not 01, or a later 01, 13; body short 11
abbrev pub record_answer : Bool → List ℕ → ReadAnswer → ReadAnswer
record_answer inOrder d more =
    provided (ltb 0 (length d)) EndsEarly
    (provided (kind_known (get_or d 0 0)) KindUnknown
    (provided inOrder OutOfOrder
    (provided (leb (record_length (get_or d 0 0)) (length d)) EndsEarly more)))

-- the first record: 3, then 1
unfoldable pub first_answer : List ℕ → ℕ → ReadAnswer → ReadAnswer
first_answer d size more =
    record_answer (eqb (get_or d 0 0) 0x01) d
    (provided (status_allowed (get_or d 18 0)) StatusNotAllowed
    (provided (eqb ((get_or d 1 0 + 1) * page_size) size) SizeNotTheDecks more))

-- a record 02, where next is the page above the last one: 14, then 13 if not above the last page, then 15
unfoldable pub page_answer : List ℕ → ℕ → ℕ → ReadAnswer → ReadAnswer
page_answer d pages next more =
    provided (ltb (get_or d 1 0) pages) PageBeyond
    (provided (leb next (get_or d 1 0)) OutOfOrder
    (provided (not (all_zero (take page_size (drop 2 d)))) PageOfZeros more))

-- the records after the first. Each has a byte or more, so that n need not be above the count of bytes left
unfoldable pub later_answer : ℕ → List ℕ → ℕ → ℕ → ReadAnswer
later_answer zero d pages next = Err EndsEarly
later_answer (suc n) d pages next =
    let more : ReadAnswer = later_answer n (drop 258 d) pages (get_or d 1 0 + 1) in
    record_answer (not (eqb (get_or d 0 0) 0x01)) d
    (cond (eqb (get_or d 0 0) 0x02) (page_answer d pages next more) (provided (eqb (length d) 1) BytesAfterEnd (Ok tt)))

-- the deck d for a storage of this size
unfoldable pub deck_answer : List ℕ → ℕ → ReadAnswer
deck_answer d size = first_answer d size (later_answer (length d) (drop 19 d) (size / page_size) 0)

-- bytes in place of as many bytes of s from the place at on
unfoldable pub over : List ℕ → ℕ → List ℕ → List ℕ
over s at bytes = take at s ++ (bytes ++ drop (at + length bytes) s)

-- the pages of the records d laid over s
unfoldable pub paged : ℕ → List ℕ → List ℕ → List ℕ
paged zero d s = s
paged (suc n) d s = cond (eqb (get_or d 0 0) 0x02) (paged n (drop 258 d) (over s (get_or d 1 0 * page_size) (take page_size (drop 2 d)))) s

-- pages not in the deck are zeroed
unfoldable pub storage_in : List ℕ → ℕ → List ℕ
storage_in d size = paged (length d) (drop 19 d) (replicate size 0)

pub record ReadOutcome : Type 0 where
  pub gave : DeckOut
  pub storage : List ℕ

abbrev pub read_outcome : DeckOut → List ℕ → ReadOutcome
read_outcome r s = record { gave = r; storage = s }

abbrev pub zeroed : Machine
zeroed = record { iar = 0; arr = 0; xr1 = 0; xr2 = 0; wr = 0 ∷ 0 ∷ 0 ∷ 0 ∷ []; status = 0 }

-- a refusal returns a zeroed machine and leaves storage as lent
abbrev pub read_with : ReadAnswer → List ℕ → List ℕ → ReadOutcome
read_with (Ok tt) d s = read_outcome (record { machine = machine_in d; answer = (Ok tt) }) (storage_in d (length s))
read_with (Err x) d s = read_outcome (record { machine = zeroed; answer = Err x }) s

unfoldable pub read_of : List ℕ → List ℕ → ReadOutcome
read_of d s = read_with (deck_answer d (length s)) d s

-- reading d into s gave r and left t
abbrev pub ReadAs : List ℕ → List ℕ → DeckOut → List ℕ → Type 0
ReadAs d s r t = read_outcome r t ≡ read_of d s

-- two outcomes that it allows coincide
pub read_once : (d s : List ℕ) (r r' : DeckOut) (t t' : List ℕ) → ReadAs d s r t → ReadAs d s r' t' → (r ≡ r') × (t ≡ t')
read_once d s r r' t t' h h' = (ap (λ (o : ReadOutcome). o.gave) (h ∙ sym h'), ap (λ (o : ReadOutcome). o.storage) (h ∙ sym h'))

-- ---- the writer

pub record WriteOutcome : Type 0 where
  pub gave : WriteAnswer
  pub output : List ℕ

abbrev pub write_outcome : WriteAnswer → List ℕ → WriteOutcome
write_outcome r t = record { gave = r; output = t }

-- 1, 3, 17; a refusal leaves the output; on success bytes after the written length stay
unfoldable pub write_of : Machine → List ℕ → List ℕ → WriteOutcome
write_of m s out =
    cond (size_allowed (length s))
    (cond (status_allowed m.status)
    (cond (leb (length (deck_of m s)) (length out))
    (write_outcome (Ok (length (deck_of m s))) (over out 0 (deck_of m s)))
    (write_outcome (Err OutputShort) out))
    (write_outcome (Err StatusNotWritable) out))
    (write_outcome (Err SizeNotAllowed) out)

-- writing m and s into out gave r and left t
abbrev pub WroteAs : Machine → List ℕ → List ℕ → WriteAnswer → List ℕ → Type 0
WroteAs m s out r t = write_outcome r t ≡ write_of m s out

-- two outcomes that it allows coincide
pub wrote_once : (m : Machine) (s out : List ℕ) (r r' : WriteAnswer) (t t' : List ℕ) → WroteAs m s out r t → WroteAs m s out r' t' → (r ≡ r') × (t ≡ t')
wrote_once m s out r r' t t' h h' = (ap (λ (o : WriteOutcome). o.gave) (h ∙ sym h'), ap (λ (o : WriteOutcome). o.output) (h ∙ sym h'))
