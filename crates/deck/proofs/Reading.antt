-- The invariants of the reader's two passes, and what one record does to each. What carries it: a record and then more (`later_is`).
use Rattle.std.specs.Prelude.{Ok, Err}
use Rattle.std.proofs.Common.{◌≡◌, ℕ, suc, ◌+◌, ◌*◌, ◌/◌, ◌<◌, ◌≤◌, List, length, get_or, drop, not, eqb, refl, ap, sym, ◌∙◌, arith, length-drop, length-take}
use Prim.Native.Nat.{pred}
use mathlib.Core.Logic.{⊎_elim}
use Rattle.manual.specs.declared.DeckFault.{DeckFault}
use Rattle.manual.specs.Numbers.{ReadAnswer}
use Rattle.manual.specs.Deck.{first_answer, page_answer, later_answer, deck_answer, over, paged}
use Rattle.manual.proofs.Pages.{length_over}
use Rattle.manual.proofs.DeckRecords.{Asked, asked_good, EndAt, later_record, later_is, end_good, accepted, refused_read, later_cases, PageThen}
use Rattle.deck.specs.declared.reader.Page.{Page}
use Rattle.deck.specs.Records.{IsPage}

-- ---- a page's record

module _ {d t : List ℕ} {p : Page} (r : IsPage d p t) where
  pub page_shorter : length t < length d
  page_shorter = let w = r.whole in rw r.behind (simp length-drop (omega arith))

  page_length : length p.bytes.now ≡ 256
  page_length = let w = r.whole in rw r.bytes (omega (arith, length-take {A = ℕ} 256 (drop 2 d), length-drop {A = ℕ} 2 d))

  page_taken : (pages next : ℕ) (more : ReadAnswer) → later_record d pages next more ≡ page_answer d pages next more
  unfolding later_record
  page_taken pages next more =
      let k = r.kind in
      let w = r.whole in
      let a : Asked (not (eqb (get_or d 0 0) 0x01)) d = record { some = omega arith; least = omega arith; most = omega arith; order = rw k; whole = rw k w } in
      asked_good _ d _ a ∙ rw k

-- ---- the pass that checks

-- What is left of the deck gives the whole.
pub record Reading (d : List ℕ) (pages next : ℕ) (whole : ReadAnswer) : Type 0 where
  pub turns : ℕ
  pub enough : length d < turns
  pub gives : whole ≡ later_answer turns d pages next

pub reading_starts : (rest : List ℕ) (pages : ℕ) → Reading rest pages 0 (later_answer (19 + length rest) rest pages 0)
reading_starts rest pages = record { turns = 19 + length rest; enough = omega arith; gives = refl }

-- a deck whose first record is not refused is what the records after it are
pub deck_rest : (deck : List ℕ) (size : ℕ) → ((more : ReadAnswer) → first_answer deck size more ≡ more) → 19 ≤ length deck
    → later_answer (19 + length (drop 19 deck)) (drop 19 deck) (size / 256) 0 ≡ deck_answer deck size
unfolding deck_answer
deck_rest deck size f h =
    let n : 19 + length (drop 19 deck) ≡ length deck = simp length-drop (omega arith) in
    rw n (sym (f _))

module _ {d : List ℕ} {pages next : ℕ} {whole : ReadAnswer} (l : Reading d pages next whole) where
  -- the record at the front, and what comes after a page
  here : whole ≡ later_record d pages next (later_answer (pred l.turns) (drop 258 d) pages (get_or d 1 0 + 1))
  here =
      let z : l.turns ≡ suc (pred l.turns) = omega (arith, l.enough) in
      l.gives ∙ ap (λ (n : ℕ). later_answer n d pages next) z ∙ later_is (pred l.turns) d pages next

  pub reading_refused : {x : DeckFault} → ((pages next : ℕ) (more : ReadAnswer) → later_record d pages next more ≡ Err x) → (r : ReadAnswer) → r ≡ Err x → r ≡ whole
  reading_refused h r e = e ∙ sym (here ∙ h _ _ _)

  pub reading_end : EndAt d → Ok tt ≡ whole
  reading_end h = sym (here ∙ end_good d pages next _ h)

  module _ {t : List ℕ} {p : Page} (r : IsPage d p t) where
    pub page_refused : {x : DeckFault} → ((d t : List ℕ) (more : ReadAnswer) → IsPage d p t → page_answer d pages next more ≡ Err x) → (a : ReadAnswer) → a ≡ Err x → a ≡ whole
    page_refused h a e = e ∙ sym (here ∙ page_taken r _ _ _ ∙ h _ _ _ r)

    pub reading_page : ((d t : List ℕ) (more : ReadAnswer) → IsPage d p t → page_answer d pages next more ≡ more) → Reading t pages (p.number + 1) whole
    reading_page h =
        record {
          turns = pred l.turns;
          enough = omega (arith, page_shorter r, l.enough);
          gives = here ∙ page_taken r _ _ _ ∙ h _ _ _ r ∙ rw (r.behind, r.number);
        }

-- ---- the pass that lays the pages

-- What is left of the deck, laid over the storage as it is now, gives the whole.
pub record Laying (d s whole : List ℕ) : Type 0 where
  pub turns : ℕ
  pub next : ℕ
  pub enough : length d < turns
  pub good : later_answer turns d (length s / 256) next ≡ Ok tt
  pub gives : whole ≡ paged turns d s

pub deck_head : (deck : List ℕ) (size : ℕ) → deck_answer deck size ≡ Ok tt → 19 ≤ length deck
deck_head deck size e = (accepted deck size e).0.whole

pub laying_starts : (deck s : List ℕ) → deck_answer deck (length s) ≡ Ok tt → Laying (drop 19 deck) s (paged (length deck) (drop 19 deck) s)
laying_starts deck s e =
    let a = accepted deck (length s) e in
    record { turns = length deck; next = 0; enough = simp length-drop (omega (arith, a.0.whole)); good = a.1; gives = refl }

module _ {d s whole : List ℕ} (l : Laying d s whole) where
  one_more : l.turns ≡ suc (pred l.turns)
  one_more = omega (arith, l.enough)

  pub laying_refused : {x : DeckFault} → ((pages next : ℕ) (more : ReadAnswer) → later_record d pages next more ≡ Err x) → s ≡ whole
  laying_refused h = absurd (refused_read (sym (later_is _ d _ _ ∙ h _ _ _) ∙ rw one_more at l.good))

  pub laying_end : EndAt d → s ≡ whole
  unfolding paged
  laying_end h = sym (l.gives ∙ rw (one_more, h.kind))

  module _ {t : List ℕ} {p : Page} (r : IsPage d p t) where
    page_here : PageThen (pred l.turns) d (length s / 256) l.next
    page_here = ⊎_elim (λ w. w) (λ w. absurd (omega (arith, w.kind, r.kind))) (later_cases (pred l.turns) d (length s / 256) l.next (rw one_more at l.good))

    pub laying_fits : p.number * 256 + length p.bytes.now ≤ length s
    laying_fits = rw (page_length r) (omega (arith, rw (← r.number) at page_here.page.below))

    pub laying_page : Laying t (over s (p.number * 256) p.bytes.now) whole
    unfolding paged
    laying_page =
        record {
          turns = pred l.turns;
          next = get_or d 1 0 + 1;
          enough = omega (arith, page_shorter r, l.enough);
          good = rw (length_over s (p.number * 256) p.bytes.now laying_fits, r.behind) page_here.more;
          gives = l.gives ∙ rw (one_more, r.kind, r.behind, r.bytes, r.number);
        }
