-- A machine written as a deck and read again is that machine; an accepted deck read and written again is that deck; and how long a deck is.
-- What carries it: one induction on the pages of a storage, and one on the records of an accepted deck.
use Rattle.std.proofs.Common.{Ok, Err, ℕ, zero, suc, ◌+◌, ◌≤◌, ◌<◌, ◌-◌, ◌*◌, ◌/◌, ◌%◌, pred, Bool, true, false, cond, List, [], ◌∷◌, ◌++◌, append_assoc, ⊎_elim, ◌≡◌, refl, ap, sym, ◌∙◌, add-zero, zero-add, div-add-mod', arith, leb-true, le-leb, ltb-true, lt-ltb, eqb, leb, lit<, length, get_or, take, drop, length-append, length-drop, take-append-drop, replicate, length-take-le, take_at, drop_at, drop-cons, get_or-drop}
use Rattle.std.proofs.lemmas.Grind.{common_steps}
use Rattle.std.proofs.lemmas.Bool.Decides.{nat_tests}
use Rattle.std.proofs.lemmas.List.{nil_from_length}
use Rattle.std.proofs.lemmas.Bool.{cases_Bool, cond_both}
use Rattle.std.proofs.Math.Seq.{take-append_seam, drop-append_seam}
use Rattle.manual.specs.declared.Machine.{Machine}
use Rattle.manual.specs.declared.DeckFault.{DeckFault}
use Rattle.manual.specs.declared.WriteFault.{WriteFault}
use Rattle.manual.specs.TheMachine.{size_allowed, status_allowed}
use Rattle.manual.specs.Deck.{machine_record, machine_in, all_zero, page_records, deck_of, later_answer, deck_answer, over, paged, storage_in, read_outcome, zeroed, read_of, WriteOutcome, write_outcome, write_of}
use Rattle.manual.proofs.FieldBytes.{Bytes}
use Rattle.manual.proofs.Bounds.{Bounded}
use Rattle.manual.proofs.Pages.{zeros, length_zeros, zeros_add, zeros_page, zero_page, over_zeros, front_length, rest_length, records_none, records_some, skip_zeros, only_zeros}
use Rattle.manual.proofs.DeckRecords.{FirstAt, first_good, PageAt, EndAt, later_is, page_good, end_good, accepted, later_cases, not_none}

-- ---- how long a deck is

-- how many of n pages aren't all zero
unfoldable pub used_pages : ℕ → List ℕ → ℕ
used_pages zero s = 0
used_pages (suc n) s = cond (all_zero (take 256 s)) 0 1 + used_pages n (drop 256 s)

used_length : (n k : ℕ) (s : List ℕ) → n * 256 ≤ length s → length (page_records n k s) ≡ 258 * used_pages n s
unfolding page_records used_pages
used_length zero k s h = refl
used_length (suc n) k s h =
    let l : length (take 256 s) ≡ 256 = length-take-le 256 s (omega arith) in
    let i : n * 256 ≤ length (drop 256 s) = simp length-drop (omega arith) in
    let more = used_length n (k + 1) (drop 256 s) i in
    ⊎_elim (λ b. rw b (rw zero-add more)) (λ b. rw b (simp length-append (omega arith))) (cases_Bool (all_zero (take 256 s)))

pub length_parts : (m : Machine) (s : List ℕ) → length (deck_of m s) ≡ 20 + length (page_records (length s / 256) 0 s)
unfolding deck_of machine_record
length_parts m s = simp length-append (omega arith)

-- 20 bytes, and 258 for each page that isn't all zero
pub deck_length : (m : Machine) (s : List ℕ) → length (deck_of m s) ≡ 20 + 258 * used_pages (length s / 256) s
deck_length m s = length_parts m s ∙ ap (λ (n : ℕ). 20 + n) (used_length (length s / 256) 0 s (omega arith))

-- ---- sizes

-- an allowed size is 1 to 256 pages
pub size_pages : (size : ℕ) → size_allowed size ≡ true → (size ≡ size / 256 * 256) × (1 ≤ size / 256) × (size / 256 ≤ 256)
unfolding size_allowed
size_pages size e = grind (arith, nat_tests)

-- the size that a deck names is allowed
pub named_allowed : (last : ℕ) → last < 256 → size_allowed ((last + 1) * 256) ≡ true
unfolding size_allowed
named_allowed last h = grind (arith, nat_tests)

-- ---- written, and read again

-- a page's record at the front
later_page : (f k pages next : ℕ) (page more : List ℕ) → length page ≡ 256 → all_zero page ≡ false → k < pages → next ≤ k
    → later_answer (suc f) (0x02 ∷ k ∷ page ++ more) pages next ≡ later_answer f more pages (k + 1)
later_page f k pages next page more l b h o =
    let p : PageAt (0x02 ∷ k ∷ page ++ more) pages next =
    record { kind = refl; whole = simp length-append (omega arith); below = h; rising = o; used = rw (take_at page more 256 l) b } in
    later_is f (0x02 ∷ k ∷ page ++ more) pages next
    ∙ page_good (0x02 ∷ k ∷ page ++ more) pages next _ p
    ∙ ap (λ (d : List ℕ). later_answer f d pages (k + 1)) (drop_at page more 256 l)

later_written : (n f k next pages : ℕ) (s : List ℕ) → length s ≡ n * 256 → k + n ≡ pages → next ≤ k → length (page_records n k s) ≤ f
    → later_answer (suc f) (page_records n k s ++ 0x03 ∷ []) pages next ≡ Ok tt
later_written zero f k next pages s l e o h =
    unfold page_records in later_is f (0x03 ∷ []) pages next ∙ end_good (0x03 ∷ []) pages next _ (record { kind = refl; last = refl })
later_written (suc n) f k next pages s l e o h =
    ⊎_elim
    (λ b.
    rw (records_none n k s b)
    (later_written n f (k + 1) next pages (drop 256 s) (rest_length n s l) (omega arith) (omega arith) (rw (records_none n k s b) at h)))
    (λ b.
    let g = simp length-append at (rw (records_some n k s b) at h) in
    let z : f ≡ suc (pred f) = omega arith in
    rw (records_some n k s b, append_assoc)
    (later_page f k pages next _ _ (front_length n s l) b (omega arith) o
    ∙ rw z (later_written n (pred f) (k + 1) (k + 1) pages (drop 256 s) (rest_length n s l) (omega arith) (omega arith) (omega arith))))
    (cases_Bool (all_zero (take 256 s)))

paged_page : (f k : ℕ) (page more s : List ℕ) → length page ≡ 256 → paged (suc f) (0x02 ∷ k ∷ page ++ more) s ≡ paged f more (over s (k * 256) page)
unfolding paged
paged_page f k page more s l = rw (take_at page more 256 l, drop_at page more 256 l)

paged_end : (f : ℕ) (d s : List ℕ) → get_or d 0 0 ≡ 3 → paged f d s ≡ s
unfolding paged
paged_end zero d s k = refl
paged_end (suc f) d s k = rw k

-- one page more is done
page_done : (n k : ℕ) (done s : List ℕ) → length done ≡ k * 256 → length s ≡ suc n * 256
    → (length (done ++ take 256 s) ≡ (k + 1) * 256) × (done ++ take 256 s ++ drop 256 s ≡ done ++ s)
page_done n k done s d l = (
  simp length-append (omega (arith, front_length n s l)),
  append_assoc done (take 256 s) (drop 256 s) ∙ ap (λ (r : List ℕ). done ++ r) (take-append-drop 256 s),
)

paged_written : (n f k : ℕ) (done s : List ℕ) → length done ≡ k * 256 → length s ≡ n * 256 → length (page_records n k s) ≤ f
    → paged f (page_records n k s ++ 0x03 ∷ []) (done ++ zeros (n * 256)) ≡ done ++ s
paged_written zero f k done s d l h =
    unfold page_records in paged_end f (0x03 ∷ []) _ refl ∙ ap (λ (r : List ℕ). done ++ r) (nil_from_length (zeros 0) (length_zeros 0) ∙ sym (nil_from_length s l))
paged_written (suc n) f k done s d l h =
    let page = take 256 s in
    let whole = front_length n s l in
    let more = page_done n k done s d l in
    ⊎_elim
    (λ b.
    rw (records_none n k s b, zeros_page n, ← (zero_page page whole b), ← append_assoc)
    (paged_written n f (k + 1) (done ++ page) (drop 256 s) more.0 (rest_length n s l) (rw (records_none n k s b) at h) ∙ more.1))
    (λ b.
    let g = simp length-append at (rw (records_some n k s b) at h) in
    let z : f ≡ suc (pred f) = omega arith in
    rw (records_some n k s b, append_assoc, z)
    (paged_page (pred f) k page _ _ whole
    ∙ rw (over_zeros done page (k * 256) n d whole)
    (paged_written n (pred f) (k + 1) (done ++ page) (drop 256 s) more.0 (rest_length n s l) (omega arith) ∙ more.1)))
    (cases_Bool (all_zero page))

four_listed : (w : List ℕ) → length w ≡ 4 → get_or w 0 0 ∷ get_or w 1 0 ∷ get_or w 2 0 ∷ get_or w 3 0 ∷ [] ≡ w
four_listed [] l = absurd (omega arith)
four_listed (a ∷ []) l = absurd (omega arith)
four_listed (a ∷ b ∷ []) l = absurd (omega arith)
four_listed (a ∷ b ∷ c ∷ []) l = absurd (omega arith)
four_listed (a ∷ b ∷ c ∷ d ∷ []) l = refl
four_listed (a ∷ b ∷ c ∷ d ∷ e ∷ w) l = absurd (omega arith)

machine_written : (m : Machine) (s : List ℕ) → length m.wr ≡ 4 → machine_in (deck_of m s) ≡ m
unfolding machine_in deck_of machine_record
machine_written m s l = simp (div-add-mod', four_listed m.wr l)

behind_first : (m : Machine) (s : List ℕ) → drop 19 (deck_of m s) ≡ page_records (length s / 256) 0 s ++ 0x03 ∷ []
unfolding deck_of machine_record
behind_first m s = refl

module _ (m : Machine) (s : List ℕ) (allowed : size_allowed (length s) ≡ true) where
  pages : (length s ≡ length s / 256 * 256) × (1 ≤ length s / 256) × (length s / 256 ≤ 256)
  pages = size_pages (length s) allowed

  storage_written : storage_in (deck_of m s) (length s) ≡ s
  unfolding storage_in deck_of machine_record zeros
  storage_written =
      let p = pages in
      rw (← p.0) at (paged_written (length s / 256) (length (deck_of m s)) 0 [] s refl p.0 (omega (arith, length_parts m s)))

  module _ (status : status_allowed m.status ≡ true) where
    first_written : FirstAt (deck_of m s) (length s)
    unfolding deck_of machine_record status_allowed
    first_written =
        let p = pages in
        record { kind = refl; whole = omega (arith, length_parts m s); status = ltb-true m.status 64 status; size_is = omega arith }

    -- the deck of what the writer takes is always accepted by the reader
    pub written_accepted : deck_answer (deck_of m s) (length s) ≡ Ok tt
    unfolding deck_answer
    written_accepted =
        let p = pages in
        let z : length (deck_of m s) ≡ suc (19 + length (page_records (length s / 256) 0 s)) = omega (arith, length_parts m s) in
        first_good (deck_of m s) (length s) _ first_written
        ∙ rw (z, behind_first m s) (later_written (length s / 256) _ 0 0 _ s p.0 (zero-add _) (omega arith) (omega arith))

    -- read again it is that machine and that storage, whatever the lent one held; registers of any size, if four of them are work registers
    pub deck_reads : length m.wr ≡ 4 → (t : List ℕ) → length t ≡ length s → read_of (deck_of m s) t ≡ read_outcome (record { machine = m; answer = (Ok tt) }) s
    unfolding read_of
    deck_reads four t l = simp (l, written_accepted, machine_written m s four, storage_written)

-- a machine within its bounds written as a deck and read again is that machine
pub written_reads : (m : Machine) (s : List ℕ) → Bounded m s → size_allowed (length s) ≡ true → (t : List ℕ) → length t ≡ length s
    → read_of (deck_of m s) t ≡ read_outcome (record { machine = m; answer = (Ok tt) }) s
unfolding status_allowed
written_reads m s b allowed t l = deck_reads m s allowed (lt-ltb _ _ b.status) b.four t l

-- what the writer wrote, up to the length that it gave, is the deck
pub written_front : (m : Machine) (s out : List ℕ) → take (length (deck_of m s)) (over out 0 (deck_of m s)) ≡ deck_of m s
unfolding over
written_front m s out = take-append_seam (deck_of m s) _

-- and bytes after that length stay
pub written_stays : (m : Machine) (s out : List ℕ) → drop (length (deck_of m s)) (over out 0 (deck_of m s)) ≡ drop (length (deck_of m s)) out
unfolding over
written_stays m s out = drop-append_seam (deck_of m s) _ ∙ (rw zero-add)

-- ---- what the writer answers

-- where the writer answers 0
pub record Wrote (m : Machine) (s out : List ℕ) (n : ℕ) : Type 0 where
  pub size : size_allowed (length s) ≡ true
  pub status : status_allowed m.status ≡ true
  pub room : length (deck_of m s) ≤ length out
  pub long : n ≡ length (deck_of m s)
  pub output : (write_of m s out).output ≡ over out 0 (deck_of m s)

not_wrote : (b : Bool) (x y : WriteOutcome) (n : ℕ) → (cond b x y).gave ≡ Ok n → (y.gave ≡ Ok n → ⊥) → (b ≡ true) × (x.gave ≡ Ok n)
not_wrote true x y n e h = (refl, e)
not_wrote false x y n e h = absurd (h e)

refused_wrote : {x : WriteFault} {n : ℕ} → Err x ≡ Ok n → ⊥
refused_wrote e = cc

pub wrote : (m : Machine) (s out : List ℕ) (n : ℕ) → (write_of m s out).gave ≡ Ok n → Wrote m s out n
unfolding write_of
wrote m s out n e =
    let e1 = not_wrote (size_allowed (length s)) _ _ n e refused_wrote in
    let e2 = not_wrote (status_allowed m.status) _ _ n e1.1 refused_wrote in
    let e3 = not_wrote (leb (length (deck_of m s)) (length out)) _ _ n e2.1 refused_wrote in
    record {
      size = e1.0;
      status = e2.0;
      room = leb-true _ _ e3.0;
      long = cc e3.1;
      output = rw (e1.0, e2.0, e3.0);
    }

-- what was written, read again, is the machine and the storage that were written
pub write_then_read : (m : Machine) (s out t : List ℕ) (n : ℕ) → length m.wr ≡ 4 → (write_of m s out).gave ≡ Ok n → length t ≡ length s
    → read_of (take n (write_of m s out).output) t ≡ read_outcome (record { machine = m; answer = (Ok tt) }) s
write_then_read m s out t n four e l =
    let w = wrote m s out n e in
    rw (w.output, w.long, written_front m s out) (deck_reads m s w.size w.status four t l)

-- ---- read, and written again

-- n bytes of a list from the place i on, one by one
bytes_from : ℕ → ℕ → List ℕ → List ℕ
bytes_from i zero d = []
bytes_from i (suc n) d = get_or d i 0 ∷ bytes_from (suc i) n d

drop_bytes : (n i : ℕ) (d : List ℕ) → i + n ≤ length d → drop i d ≡ bytes_from i n d ++ drop (i + n) d
unfolding bytes_from
drop_bytes zero i d h = rw add-zero
drop_bytes (suc n) i d h =
    let z : i + suc n ≡ suc i + n = omega arith in
    rw (drop-cons d i 0 (omega arith), z) (ap (λ (r : List ℕ). get_or d i 0 ∷ r) (drop_bytes n (suc i) d (omega arith)))

high_byte : (h l : ℕ) → l < 256 → (h * 256 + l) / 256 ≡ h
high_byte h l b = omega arith

low_byte : (h l : ℕ) → l < 256 → (h * 256 + l) % 256 ≡ l
low_byte h l b = omega arith

machine_read : (d : List ℕ) → Bytes d → get_or d 0 0 ≡ 1 → machine_record (get_or d 1 0 + 1) (machine_in d) ≡ bytes_from 0 19 d
unfolding machine_record machine_in bytes_from
machine_read d b k = let z : get_or d 1 0 + 1 - 1 ≡ get_or d 1 0 = omega arith in simp (high_byte, low_byte, b, k, z)

-- The pages from `next` on, n of them, as the accepted records d give them: laid over zeros behind `done`, and written again.
record Reread (f : ℕ) (d done : List ℕ) (next n : ℕ) : Type 0 where
  pages_of : List ℕ
  size : length pages_of ≡ n * 256
  laid : paged f d (done ++ zeros (n * 256)) ≡ done ++ pages_of
  again : page_records n next pages_of ++ 0x03 ∷ [] ≡ d

one_byte : (d : List ℕ) → EndAt d → d ≡ 0x03 ∷ []
one_byte [] e = absurd (omega (arith, e.last))
one_byte (x ∷ []) e = rw e.kind
one_byte (x ∷ y ∷ d) e = absurd (omega (arith, e.last))

reread_end : (f : ℕ) (d done : List ℕ) (next n : ℕ) → EndAt d → Reread f d done next n
reread_end f d done next n e =
    record {
      pages_of = zeros (n * 256);
      size = length_zeros (n * 256);
      laid = paged_end f d _ e.kind;
      again = rw (only_zeros n next) (sym (one_byte d e));
    }

-- a whole page record is its kind, its number, its page and the rest
page_parts : (d : List ℕ) → get_or d 0 0 ≡ 2 → 258 ≤ length d → d ≡ 0x02 ∷ get_or d 1 0 ∷ take 256 (drop 2 d) ++ drop 258 d
page_parts [] k l = absurd (omega arith)
page_parts (x ∷ []) k l = absurd (omega arith)
page_parts (x ∷ y ∷ d) k l = rw (k, take-append-drop 256 d)

-- a page that stands j pages of zeros further on, and what was reread behind it
module _ (f count next j n : ℕ) (d done : List ℕ) (l : length done ≡ next * 256) (p : PageAt d count next) (at_j : get_or d 1 0 ≡ next + j) where
  page : List ℕ
  page = take 256 (drop 2 d)

  page_length : length page ≡ 256
  unfolding page
  page_length = length-take-le 256 (drop 2 d) (simp length-drop (omega (arith, p.whole)))

  done_page : List ℕ
  done_page = done ++ zeros (j * 256) ++ page

  done_length : length done_page ≡ (get_or d 1 0 + 1) * 256
  unfolding done_page
  done_length = simp (length-append, length_zeros) (omega (arith, page_length, at_j))

  laid_behind : paged (suc f) d (done ++ zeros ((j + suc n) * 256)) ≡ paged f (drop 258 d) (done_page ++ zeros (n * 256))
  unfolding paged done_page page
  laid_behind =
      let z : (j + suc n) * 256 ≡ j * 256 + suc n * 256 = omega arith in
      let b : length (done ++ zeros (j * 256)) ≡ get_or d 1 0 * 256 = simp (length-append, length_zeros) (omega (arith, at_j)) in
      rw p.kind (rw (z, zeros_add, ← append_assoc) (ap (paged f (drop 258 d)) (over_zeros (done ++ zeros (j * 256)) page (get_or d 1 0 * 256) n b page_length)))

  written_behind : (s : List ℕ) → page_records (j + suc n) next (zeros (j * 256) ++ (page ++ s)) ≡ 0x02 ∷ get_or d 1 0 ∷ page ++ page_records n (get_or d 1 0 + 1) s
  unfolding page
  written_behind s =
      let t : take 256 (page ++ s) ≡ page = take_at page s 256 page_length in
      let u : drop 256 (page ++ s) ≡ s = drop_at page s 256 page_length in
      skip_zeros j next (suc n) (page ++ s)
      ∙ rw (← at_j, records_some n (get_or d 1 0) (page ++ s) (rw t p.used), t, u)

  reread_page : Reread f (drop 258 d) done_page (get_or d 1 0 + 1) n → Reread (suc f) d done next (j + suc n)
  unfolding done_page page
  reread_page r =
      record {
        pages_of = zeros (j * 256) ++ (page ++ r.pages_of);
        size = simp (length-append, length_zeros) (omega (arith, page_length, r.size));
        laid = laid_behind ∙ r.laid ∙ simp append_assoc;
        again = rw (written_behind r.pages_of, append_assoc, r.again) (sym (page_parts d p.kind p.whole));
      }

-- a turn, where `more` rereads the rest
reread_turn : (f count next n : ℕ) (d done : List ℕ) → next + n ≡ count → length done ≡ next * 256 → PageAt d count next
    → ((m : ℕ) (Done-more : List ℕ) → get_or d 1 0 + 1 + m ≡ count → length Done-more ≡ (get_or d 1 0 + 1) * 256 → Reread f (drop 258 d) Done-more (get_or d 1 0 + 1) m)
    → Reread (suc f) d done next n
reread_turn f count next n d done e l p more =
    let j = get_or d 1 0 - next in
    let m = count - (get_or d 1 0 + 1) in
    let at_j : get_or d 1 0 ≡ next + j = omega (arith, p.rising) in
    let at-m : get_or d 1 0 + 1 + m ≡ count = omega (arith, p.below) in
    let at_n : n ≡ j + suc m = omega (arith, p.rising, p.below) in
    rw at_n (reread_page f count next j m d done l p at_j (more m _ at-m (done_length f count next j m d done l p at_j)))

reread : (f count next n : ℕ) (d done : List ℕ) → next + n ≡ count → length done ≡ next * 256 → later_answer f d count next ≡ Ok tt → Reread f d done next n
reread zero count next n d done e l a = absurd (not_none d count next a)
reread (suc f) count next n d done e l a =
    ⊎_elim
    (λ w. reread_turn f count next n d done e l w.page (λ m more e' l'. reread f count (get_or d 1 0 + 1) m (drop 258 d) more e' l' w.more))
    (λ w. reread_end (suc f) d done next n w)
    (later_cases f d count next a)

-- ---- bytes stay bytes

bytes_append : (xs ys : List ℕ) → Bytes xs → Bytes ys → Bytes (xs ++ ys)
bytes_append xs ys h k i = grind (arith, common_steps, h i, k (i - length xs))

bytes_take : (n : ℕ) (xs : List ℕ) → Bytes xs → Bytes (take n xs)
bytes_take n xs h i = grind (arith, common_steps, h i)

bytes_drop : (n : ℕ) (xs : List ℕ) → Bytes xs → Bytes (drop n xs)
bytes_drop n xs h i = rw get_or-drop (h (n + i))

bytes_zeros : (n : ℕ) → Bytes (replicate n 0)
bytes_zeros n i = grind (arith, common_steps)

bytes_over : (s : List ℕ) (at : ℕ) (xs : List ℕ) → Bytes s → Bytes xs → Bytes (over s at xs)
unfolding over
bytes_over s at xs h k =
    bytes_append (take at s) _ (bytes_take at s h) (bytes_append xs _ k (bytes_drop (at + length xs) s h))

bytes_paged : (f : ℕ) (d s : List ℕ) → Bytes d → Bytes s → Bytes (paged f d s)
unfolding paged
bytes_paged zero d s h k = k
bytes_paged (suc f) d s h k =
    let page = take 256 (drop 2 d) in
    cond_both (eqb (get_or d 0 0) 0x02) _ s Bytes
    (λ _. bytes_paged f (drop 258 d) _ (bytes_drop 258 d h) (bytes_over s (get_or d 1 0 * 256) page k (bytes_take 256 (drop 2 d) (bytes_drop 2 d h)))) (λ _. k)

module _ (d : List ℕ) (size : ℕ) (bytes : Bytes d) (good : deck_answer d size ≡ Ok tt) where
  first_read : FirstAt d size
  first_read = (accepted d size good).0

  count_read : size / 256 ≡ get_or d 1 0 + 1
  count_read = omega (arith, first_read.size_is)

  all_read : Reread (length d) (drop 19 d) [] 0 (get_or d 1 0 + 1)
  all_read = reread (length d) (get_or d 1 0 + 1) 0 (get_or d 1 0 + 1) (drop 19 d) [] (zero-add _) refl (rw count_read at (accepted d size good).1)

  storage_read : storage_in d size ≡ all_read.pages_of
  unfolding storage_in zeros
  storage_read = ap (λ (n : ℕ). paged (length d) (drop 19 d) (zeros n)) (sym first_read.size_is) ∙ all_read.laid

  pub storage_size : length (storage_in d size) ≡ size
  storage_size = rw storage_read (all_read.size ∙ first_read.size_is)

  -- an accepted deck is the deck of what it says, byte for byte
  pub accepted_deck : deck_of (machine_in d) (storage_in d size) ≡ d
  unfolding deck_of
  accepted_deck =
      let c : length all_read.pages_of / 256 ≡ get_or d 1 0 + 1 = omega (arith, all_read.size) in
      rw (storage_read, c, machine_read d bytes first_read.kind, all_read.again)
      (sym (drop_bytes 19 0 d first_read.whole))

  pub status_read : status_allowed (machine_in d).status ≡ true
  unfolding machine_in status_allowed
  status_read = lt-ltb _ _ first_read.status

  pub size_read : size_allowed size ≡ true
  size_read = rw (← first_read.size_is) (named_allowed (get_or d 1 0) (bytes 1))

  -- and so it is written, where there is room for it
  pub accepted_written : (out : List ℕ) → length d ≤ length out → write_of (machine_in d) (storage_in d size) out ≡ write_outcome (Ok (length d)) (over out 0 d)
  unfolding write_of
  accepted_written out room = rw (storage_size, size_read, status_read, accepted_deck, le-leb _ _ room)

  words_below : (i : ℕ) → get_or (machine_in d).wr i 0 < 65536
  unfolding machine_in
  words_below zero = omega (arith, bytes 10, bytes 11)
  words_below (suc zero) = omega (arith, bytes 12, bytes 13)
  words_below (suc (suc zero)) = omega (arith, bytes 14, bytes 15)
  words_below (suc (suc (suc zero))) = omega (arith, bytes 16, bytes 17)
  words_below (suc (suc (suc (suc i)))) = lit< tt

  -- what was read is within its bounds
  pub read_bounded : Bounded (machine_in d) (storage_in d size)
  unfolding machine_in storage_in
  read_bounded =
      record {
        iar = omega (arith, bytes 2, bytes 3);
        arr = omega (arith, bytes 4, bytes 5);
        xr1 = omega (arith, bytes 6, bytes 7);
        xr2 = omega (arith, bytes 8, bytes 9);
        wr = words_below;
        four = refl;
        status = first_read.status;
        bytes = bytes_paged (length d) (drop 19 d) (replicate size 0) (bytes_drop 19 d bytes) (bytes_zeros size);
      }

-- ---- what the reader answers

module _ (d s : List ℕ) where
  -- an accepted deck, read and written again, is that deck byte for byte
  pub read_writes : Bytes d → deck_answer d (length s) ≡ Ok tt → deck_of (read_of d s).gave.machine (read_of d s).storage ≡ d
  unfolding read_of
  read_writes b e = rw e (accepted_deck d (length s) b e)

  -- a refused deck gives a zeroed machine and leaves the storage
  pub refused_leaves : (x : DeckFault) → deck_answer d (length s) ≡ Err x → read_of d s ≡ read_outcome (record { machine = zeroed; answer = Err x }) s
  unfolding read_of
  refused_leaves x e = rw e

-- a machine and its storage have one deck: two that are accepted and read the same are the same
pub one_deck : (d d' : List ℕ) (size : ℕ) → Bytes d → Bytes d' → deck_answer d size ≡ Ok tt → deck_answer d' size ≡ Ok tt
    → machine_in d ≡ machine_in d' → storage_in d size ≡ storage_in d' size → d ≡ d'
one_deck d d' size b b' e e' m s = sym (accepted_deck d size b e) ∙ rw (m, s) (accepted_deck d' size b' e')
