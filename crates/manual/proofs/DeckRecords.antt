-- What is known of a record that was not refused, and that such a record is not refused. What carries it: the tests, one by one.
use Rattle.std.proofs.Common.{Ok, Err, ℕ, suc, ◌+◌, ◌≤◌, ◌<◌, ◌*◌, ◌/◌, Bool, true, false, cond, not, List, ◌⊎◌, inl, inr, ⊎_elim, ◌≡◌, refl, sym, ◌∙◌, arith, eq-eqb, eqb-true, leb-true, le-leb, ltb-true, lt-ltb, eqb, leb, ltb, length, get_or, take, drop}
use Rattle.std.proofs.lemmas.Bool.{eqb-false, not-true, and_parts, cases_Bool}
use Rattle.manual.specs.declared.DeckFault.{DeckFault}
use Rattle.manual.specs.declared.DeckFault.TheVariants.{BytesAfterEnd}
use Rattle.manual.specs.TheMachine.{status_allowed}
use Rattle.manual.specs.Deck.{all_zero, kind_known, record_length, provided, record_answer, first_answer, page_answer, later_answer, deck_answer}
use Rattle.manual.specs.Numbers.{ReadAnswer}

-- ---- tests

pub refused_read : {x : DeckFault} → ◌≡◌ {A = ReadAnswer} (Err x) (Ok tt) → ⊥
refused_read e = cc

-- a test that did not refuse held
passed : (b : Bool) (x : DeckFault) (more : ReadAnswer) → provided b x more ≡ Ok tt → (b ≡ true) × (more ≡ Ok tt)
passed true x more e = (refl, e)
passed false x more e = absurd (refused_read e)

-- ---- what each record is asked first

pub record Asked (inOrder : Bool) (d : List ℕ) : Type 0 where
  pub some : 0 < length d
  pub least : 1 ≤ get_or d 0 0
  pub most : get_or d 0 0 ≤ 3
  pub order : inOrder ≡ true
  pub whole : record_length (get_or d 0 0) ≤ length d

pub asked : (b : Bool) (d : List ℕ) (more : ReadAnswer) → record_answer b d more ≡ Ok tt → Asked b d × (more ≡ Ok tt)
asked b d more e =
    let kind = get_or d 0 0 in
    let e1 = passed (ltb 0 (length d)) _ _ e in
    let e2 = passed (kind_known kind) _ _ e1.1 in
    let e3 = passed b _ _ e2.1 in
    let e4 = passed (leb (record_length kind) (length d)) _ _ e3.1 in
    let k = and_parts (leb 1 kind) (leb kind 3) e2.0 in
    (record { some = ltb-true 0 (length d) e1.0; least = leb-true 1 kind k.0; most = leb-true kind 3 k.1; order = e3.0; whole = leb-true _ _ e4.0 }, e4.1)

-- such a record is not refused
pub asked_good : (b : Bool) (d : List ℕ) (more : ReadAnswer) → Asked b d → record_answer b d more ≡ more
asked_good b d more a =
    rw (lt-ltb 0 (length d) a.some, le-leb 1 (get_or d 0 0) a.least, le-leb (get_or d 0 0) 3 a.most, a.order, le-leb _ (length d) a.whole)

-- ---- the first record

pub record FirstAt (d : List ℕ) (size : ℕ) : Type 0 where
  pub kind : get_or d 0 0 ≡ 1
  pub whole : 19 ≤ length d
  pub status : get_or d 18 0 < 64
  pub size_is : (get_or d 1 0 + 1) * 256 ≡ size

module _ (d : List ℕ) (size : ℕ) (more : ReadAnswer) where
  pub first_at : first_answer d size more ≡ Ok tt → FirstAt d size × (more ≡ Ok tt)
  unfolding first_answer status_allowed
  first_at e =
      let a = asked (eqb (get_or d 0 0) 0x01) d _ e in
      let e5 = passed (status_allowed (get_or d 18 0)) _ _ a.1 in
      let e6 = passed (eqb ((get_or d 1 0 + 1) * 256) size) _ _ e5.1 in (
        record {
          kind = eqb-true (get_or d 0 0) 1 a.0.order;
          whole = rw a.0.order at a.0.whole;
          status = ltb-true (get_or d 18 0) 64 e5.0;
          size_is = eqb-true ((get_or d 1 0 + 1) * 256) size e6.0;
        },
        e6.1,
      )

  pub first_good : FirstAt d size → first_answer d size more ≡ more
  unfolding first_answer status_allowed
  first_good f =
      let k = f.kind in
      let w = f.whole in
      let a : Asked (eqb (get_or d 0 0) 0x01) d = record { some = omega arith; least = omega arith; most = omega arith; order = rw k; whole = rw k w } in
      asked_good _ d _ a ∙ (rw (lt-ltb (get_or d 18 0) 64 f.status, eq-eqb _ size f.size_is))

-- ---- a later record

-- a record 02 at the front of d that is not refused
pub record PageAt (d : List ℕ) (pages next : ℕ) : Type 0 where
  pub kind : get_or d 0 0 ≡ 2
  pub whole : 258 ≤ length d
  pub below : get_or d 1 0 < pages
  pub rising : next ≤ get_or d 1 0
  pub used : all_zero (take 256 (drop 2 d)) ≡ false

-- a record 03 at the end of a deck
pub record EndAt (d : List ℕ) : Type 0 where
  pub kind : get_or d 0 0 ≡ 3
  pub last : length d ≡ 1

-- a later record at the front of d, and more after a page
unfoldable pub later_record : List ℕ → ℕ → ℕ → ReadAnswer → ReadAnswer
later_record d pages next more =
    record_answer (not (eqb (get_or d 0 0) 0x01)) d
    (cond (eqb (get_or d 0 0) 0x02) (page_answer d pages next more) (provided (eqb (length d) 1) BytesAfterEnd (Ok tt)))

pub later_is : (n : ℕ) (d : List ℕ) (pages next : ℕ)
    → later_answer (suc n) d pages next ≡ later_record d pages next (later_answer n (drop 258 d) pages (get_or d 1 0 + 1))
unfolding later_answer later_record
later_is n d pages next = refl

module _ (d : List ℕ) (pages next : ℕ) (more : ReadAnswer) where
  page_at_lem : page_answer d pages next more ≡ Ok tt → get_or d 0 0 ≡ 2 → 258 ≤ length d → PageAt d pages next × (more ≡ Ok tt)
  unfolding page_answer
  page_at_lem e k w =
      let e1 = passed (ltb (get_or d 1 0) pages) _ _ e in
      let e2 = passed (leb next (get_or d 1 0)) _ _ e1.1 in
      let e3 = passed (not (all_zero (take 256 (drop 2 d)))) _ _ e2.1 in (
        record {
          kind = k;
          whole = w;
          below = ltb-true (get_or d 1 0) pages e1.0;
          rising = leb-true next (get_or d 1 0) e2.0;
          used = not-true (all_zero (take 256 (drop 2 d))) e3.0;
        },
        e3.1,
      )

  -- a record that is not refused is a page, and more was not refused, or it is the end
  pub later_at : later_record d pages next more ≡ Ok tt → (PageAt d pages next × (more ≡ Ok tt)) ⊎ EndAt d
  unfolding later_record
  later_at e =
      let a = asked (not (eqb (get_or d 0 0) 0x01)) d _ e in
      let one = not-true (eqb (get_or d 0 0) 1) a.0.order in
      ⊎_elim
      (λ b. inl (page_at_lem (rw b at a.1) (eqb-true _ _ b) (rw (one, b) at a.0.whole)))
      (λ b.
      let last = passed (eqb (length d) 1) _ _ (rw b at a.1) in
      inr (record { kind = omega (arith, a.0.least, a.0.most, eqb-false (get_or d 0 0) 1 one, eqb-false (get_or d 0 0) 2 b); last = eqb-true _ _ last.0 }))
      (cases_Bool (eqb (get_or d 0 0) 2))

  pub page_good : PageAt d pages next → later_record d pages next more ≡ more
  unfolding later_record page_answer
  page_good p =
      let k = p.kind in
      let w = p.whole in
      let a : Asked (not (eqb (get_or d 0 0) 0x01)) d = record { some = omega arith; least = omega arith; most = omega arith; order = rw k; whole = rw k w } in
      asked_good _ d _ a ∙ (rw (k, lt-ltb _ _ p.below, le-leb _ _ p.rising, p.used))

  pub end_good : EndAt d → later_record d pages next more ≡ Ok tt
  unfolding later_record
  end_good p =
      let k = p.kind in
      let l = p.last in
      let a : Asked (not (eqb (get_or d 0 0) 0x01)) d = record { some = omega arith; least = omega arith; most = omega arith; order = rw k; whole = rw k (omega arith) } in
      asked_good _ d _ a ∙ (rw (k, l))

-- ---- records one after the other

-- what one record answers, and then more where it is not refused
abbrev pub and_more : ReadAnswer → ReadAnswer → ReadAnswer
and_more (Ok tt) more = more
and_more (Err x) more = Err x

more_provided : (b : Bool) (x : DeckFault) (y more : ReadAnswer) → and_more (provided b x y) more ≡ provided b x (and_more y more)
more_provided true x y more = refl
more_provided false x y more = refl

pub asked_more : (b : Bool) (d : List ℕ) (more : ReadAnswer) → record_answer b d more ≡ and_more (record_answer b d (Ok tt)) more
asked_more b d more = sym (simp more_provided)

pub first_more : (d : List ℕ) (size : ℕ) (more : ReadAnswer) → first_answer d size more ≡ and_more (first_answer d size (Ok tt)) more
unfolding first_answer
first_more d size more = sym (simp more_provided)

more_page : (d : List ℕ) (pages next : ℕ) (more : ReadAnswer) → page_answer d pages next more ≡ and_more (page_answer d pages next (Ok tt)) more
unfolding page_answer
more_page d pages next more = sym (simp more_provided)

module _ (d : List ℕ) (pages next : ℕ) (more : ReadAnswer) where
  more_kind : (b : Bool)
      → and_more (cond b (page_answer d pages next (Ok tt)) (provided (eqb (length d) 1) BytesAfterEnd (Ok tt))) (cond b more (Ok tt))
      ≡ cond b (page_answer d pages next more) (provided (eqb (length d) 1) BytesAfterEnd (Ok tt))
  more_kind true = sym (more_page d pages next more)
  more_kind false = more_provided (eqb (length d) 1) BytesAfterEnd (Ok tt) (Ok tt)

  pub later_more : later_record d pages next more ≡ and_more (later_record d pages next (Ok tt)) (cond (eqb (get_or d 0 0) 0x02) more (Ok tt))
  unfolding later_record
  later_more = sym (simp (more_provided, more_kind (eqb (get_or d 0 0) 0x02)))

-- ---- an accepted deck: its first record, and the rest

pub accepted : (d : List ℕ) (size : ℕ) → deck_answer d size ≡ Ok tt → FirstAt d size × (later_answer (length d) (drop 19 d) (size / 256) 0 ≡ Ok tt)
unfolding deck_answer
accepted d size e = first_at d size _ e

-- a page, and at most n accepted records after it
pub record PageThen (n : ℕ) (d : List ℕ) (pages next : ℕ) : Type 0 where
  pub page : PageAt d pages next
  pub more : later_answer n (drop 258 d) pages (get_or d 1 0 + 1) ≡ Ok tt

pub later_cases : (n : ℕ) (d : List ℕ) (pages next : ℕ) → later_answer (suc n) d pages next ≡ Ok tt → PageThen n d pages next ⊎ EndAt d
later_cases n d pages next e =
    ⊎_elim (λ w. inl (record { page = w.0; more = w.1 })) inr (later_at d pages next _ (rw (later_is n d pages next) at e))

-- none is left to be accepted
pub not_none : (d : List ℕ) (pages next : ℕ) → later_answer 0 d pages next ≡ Ok tt → ⊥
unfolding later_answer
not_none d pages next e = refused_read e
