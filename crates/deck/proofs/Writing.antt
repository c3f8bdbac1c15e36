-- The turns of the writer's loops, and the parts of a deck put one behind the other. What carries it: bytes put right behind others (`over_over`).
use Rattle.std.proofs.Common.{◌≡◌, ℕ, zero, suc, ◌+◌, ◌*◌, ◌/◌, ◌<◌, ◌≤◌, List, [], ◌∷◌, ◌++◌, length, take, drop, Bool, true, false, cond, refl, ap, ◌∙◌, arith, length-append, length-take}
use lib.ListN.{set}
use lib.Seq.{take_at, drop_at}
use borrow.Rule.Slice.PartMut.{put_mid}
use Rattle.std.proofs.lemmas.Slice.{put_mid-paste}
use Rattle.manual.specs.declared.Machine.{Machine}
use Rattle.manual.specs.Deck.{all_zero, machine_record, page_record, page_records, deck_of, over}
use Rattle.manual.proofs.Pages.{length_over, over_over, over_one, paste_all, record_length_lem}
use Rattle.manual.proofs.Decks.{length_parts}

-- a part of a list, written over
pub put_over : (at n : ℕ) (s t bytes : List ℕ) → t ≡ bytes → n ≡ length bytes → put_mid at n s t ≡ over s at bytes
put_over at n s t bytes e l = put_mid-paste at n s t bytes n e refl l ∙ rw l (paste_all s at bytes)

-- where a page's record fits, its bytes do
pub record_room : (k at n : ℕ) (page : List ℕ) → all_zero page ≡ false → at + length (page_record k page) ≤ n → at + 2 + length page ≤ n
record_room k at n page b h = let f = rw b at h in omega arith

-- ---- a page, and the pages behind it

records_turn : (s page rest : List ℕ) (k : ℕ) → s ≡ page ++ rest → length page ≡ 256
    → page_records (length s / 256) k s ≡ page_record k page ++ page_records (length rest / 256) (k + 1) rest
unfolding page_records
records_turn s page rest k e l =
    let z : length s / 256 ≡ suc (length rest / 256) = omega (arith, simp length-append at (ap length e)) in
    rw (z, e, take_at page rest 256 l, drop_at page rest 256 l)

pub length_turn : (s page rest : List ℕ) (k : ℕ) → s ≡ page ++ rest → length page ≡ 256
    → length (page_records (length s / 256) k s) ≡ length (page_record k page) + length (page_records (length rest / 256) (k + 1) rest)
length_turn s page rest k e l = rw (records_turn s page rest k e l) (length-append (page_record k page) _)

pub records_done : (s : List ℕ) (k : ℕ) → length s < 256 → page_records (length s / 256) k s ≡ []
unfolding page_records
records_done s k h = let z : length s / 256 ≡ 0 = omega arith in rw z

-- a page's record has at most 258 bytes
page_most : (k : ℕ) (s : List ℕ) → length (page_record k (take 256 s)) ≤ 258
page_most k s = go (all_zero (take 256 s)) where
  go : (b : Bool) → length (cond b [] (0x02 ∷ k ∷ take 256 s)) ≤ 258
  go true = omega arith
  go false = omega (arith, length-take {A = ℕ} 256 s)

pub records_most : (n k : ℕ) (s : List ℕ) → length (page_records n k s) ≤ 258 * n
unfolding page_records
records_most zero k s = omega arith
records_most (suc n) k s = let a = page_most k s in simp length-append (omega (arith, records_most n (k + 1) (drop 256 s)))

-- a page's number doesn't count for the length
same_length : (n k j : ℕ) (s : List ℕ) → length (page_records n k s) ≡ length (page_records n j s)
unfolding page_records
same_length zero k j s = refl
same_length (suc n) k j s =
    let a = record_length_lem k (take 256 s) in
    let b = record_length_lem j (take 256 s) in
    simp length-append (omega (arith, same_length n (k + 1) (j + 1) (drop 256 s)))

pub length_next : (s page rest : List ℕ) → s ≡ page ++ rest → length page ≡ 256
    → length (page_records (length s / 256) 0 s) ≡ length (page_record 0 page) + length (page_records (length rest / 256) 0 rest)
length_next s page rest e l = omega (arith, length_turn s page rest 0 e l, same_length (length rest / 256) 1 0 rest)

pub length_done : (s : List ℕ) → length s < 256 → length (page_records (length s / 256) 0 s) ≡ 0
length_done s h = ap length (records_done s 0 h)

-- a page's record and then the others are all the records from that page on
pub over_turn : (s page rest : List ℕ) (k : ℕ) (out : List ℕ) (at : ℕ) → s ≡ page ++ rest → length page ≡ 256 → at + length (page_records (length s / 256) k s) ≤ length out
    → over (over out at (page_record k page)) (at + length (page_record k page)) (page_records (length rest / 256) (k + 1) rest) ≡ over out at (page_records (length s / 256) k s)
over_turn s page rest k out at e l fits =
    let t = length_turn s page rest k e l in
    over_over out at (page_record k page) (omega arith) _ ∙ rw (← (records_turn s page rest k e l))

-- the three parts of a deck, put one behind the other
pub deck_over : (m : Machine) (s out head paged : List ℕ) (end : ℕ) → length (deck_of m s) ≤ length out
    → head ≡ machine_record (length s / 256) m
    → paged ≡ over (head ++ drop 19 out) 19 (page_records (length s / 256) 0 s)
    → end ≡ 19 + length (page_records (length s / 256) 0 s)
    → set paged end 0x03 ≡ over out 0 (deck_of m s)
unfolding deck_of machine_record
deck_over m s out head paged end h a b c =
    let r = machine_record (length s / 256) m in
    let p = page_records (length s / 256) 0 s in
    let l = length_parts m s in
    let g : 0 + length (r ++ p) ≤ length out = omega arith in
    let z : 0 + length (r ++ p) ≡ 19 + length p = omega arith in
    let k = length_over out 0 (r ++ p) g in
    let d : head ++ drop 19 out ≡ over out 0 r = unfold over in ap (λ (x : List ℕ). x ++ drop 19 out) a in
    let e : over (over out 0 r) 19 p ≡ over out 0 (r ++ p) = over_over out 0 r (omega arith) p in
    rw (b, c, d, e) (over_one (over out 0 (r ++ p)) (19 + length p) 0x03 (omega arith) ∙ rw z at (over_over out 0 (r ++ p) g (0x03 ∷ [])))
