-- Bytes put over others, zeros, and the pages of a storage with their records. What carries it: lists are cut where one of their parts ends.
use Rattle.std.proofs.Common.{ℕ, zero, suc, ◌+◌, ◌≤◌, ◌<◌, ◌*◌, true, false, List, [], ◌∷◌, ◌++◌, append_assoc, append-nil, ◌≡◌, refl, ap, sym, ◌∙◌, add-zero, zero-add, add_assoc, add-one, arith, eqb-true, eqb, length, set, take, drop, length-append, length-drop, take-append-drop, replicate, length-take-le, take_at, drop-drop, drop_at}
use Rattle.std.proofs.lemmas.Bool.{and_parts}
use Rattle.std.proofs.lemmas.List.{length-replicate, replicate-append-replicate, set_split, nil_from_length}
use Rattle.std.proofs.Math.Seq.{take-length, drop-append-add, paste}
use Rattle.manual.specs.Deck.{all_zero, page_record, page_records, over}
use Rattle.manual.proofs.Running.{cond_map}

-- ---- bytes put over others

-- what stands before the end of the bytes that were put
front : List ℕ → ℕ → List ℕ → List ℕ
front s at bytes = take at s ++ bytes

-- bytes put where a part of the list ends
over_seam : (p q ys : List ℕ) (n : ℕ) → length p ≡ n → over (p ++ q) n ys ≡ p ++ (ys ++ drop (length ys) q)
unfolding over
over_seam p q ys n e = rw (take_at p q n e, ← e, drop-append-add)

module _ (s : List ℕ) (at : ℕ) (xs : List ℕ) where
  over_front : over s at xs ≡ front s at xs ++ drop (at + length xs) s
  unfolding over front
  over_front = sym (append_assoc (take at s) xs _)

  module _ (h : at + length xs ≤ length s) where
    length_front : length (front s at xs) ≡ at + length xs
    unfolding front
    length_front = let e : at ≤ length s = omega arith in simp (length-append, length-take-le at s e)

    pub length_over : length (over s at xs) ≡ length s
    length_over = rw over_front (simp (length-append, length_front, length-drop) (omega arith))

    -- bytes put right behind others
    pub over_over : (ys : List ℕ) → over (over s at xs) (at + length xs) ys ≡ over s at (xs ++ ys)
    unfolding over front
    over_over ys =
        ap (λ (t : List ℕ). over t (at + length xs) ys) over_front
        ∙ over_seam (front s at xs) (drop (at + length xs) s) ys _ length_front
        ∙ simp (append_assoc, length-append, drop-drop, add_assoc)

pub over_none : (s : List ℕ) (at : ℕ) → over s at [] ≡ s
unfolding over
over_none s at = rw add-zero (take-append-drop at s)

pub over_one : (s : List ℕ) (at x : ℕ) → at < length s → set s at x ≡ over s at (x ∷ [])
unfolding over
over_one s at x h = rw add-one (set_split s at x h)

-- two bytes stored, and more put right behind them
pub over_two : (s : List ℕ) (at x y : ℕ) (more : List ℕ) → at + 2 + length more ≤ length s
    → over (set (set s at x) (at + 1) y) (at + 2) more ≡ over s at (x ∷ y ∷ more)
over_two s at x y more h =
    let one : at < length s = omega arith in
    let l1 = length_over s at (x ∷ []) (omega arith) in
    let e1 : set s at x ≡ over s at (x ∷ []) = over_one s at x one in
    let e2 : set (over s at (x ∷ [])) (at + 1) y ≡ over s at (x ∷ y ∷ []) =
    over_one (over s at (x ∷ [])) (at + 1) y (omega arith) ∙ over_over s at (x ∷ []) (omega arith) (y ∷ []) in
    rw (e1, e2) (over_over s at (x ∷ y ∷ []) (omega arith) more)

-- all of xs is pasted
pub paste_all : (s : List ℕ) (at : ℕ) (xs : List ℕ) → paste s at xs (length xs) ≡ over s at xs
unfolding over
paste_all s at xs = rw (take-length, append_assoc)

-- ---- zeros

unfoldable pub zeros : ℕ → List ℕ
zeros n = replicate n 0

pub length_zeros : (n : ℕ) → length (zeros n) ≡ n
unfolding zeros
length_zeros n = length-replicate n 0

pub zeros_add : (a b : ℕ) → zeros (a + b) ≡ zeros a ++ zeros b
unfolding zeros
zeros_add a b = sym (replicate-append-replicate {A = ℕ} a b 0)

pub zeros_page : (n : ℕ) → zeros (suc n * 256) ≡ zeros 256 ++ zeros (n * 256)
zeros_page n = let z : suc n * 256 ≡ 256 + n * 256 = omega arith in rw z (zeros_add 256 (n * 256))

pub zeros_zero : (n : ℕ) → all_zero (zeros n) ≡ true
unfolding all_zero zeros
zeros_zero zero = refl
zeros_zero (suc n) = zeros_zero n

-- bytes that are all zero are zeros
all_zeros : (bs : List ℕ) → all_zero bs ≡ true → bs ≡ zeros (length bs)
unfolding all_zero zeros
all_zeros [] b = refl
all_zeros (x ∷ xs) b =
    let e = and_parts (eqb x 0) (all_zero xs) b in
    rw (eqb-true x 0 e.0) (ap (λ (r : List ℕ). 0 ∷ r) (all_zeros xs e.1))

pub zero_page : (page : List ℕ) → length page ≡ 256 → all_zero page ≡ true → page ≡ zeros 256
zero_page page l b = all_zeros page b ∙ ap zeros l

-- a page over the first of the zeros that stand behind `done`
pub over_zeros : (done page : List ℕ) (at n : ℕ) → length done ≡ at → length page ≡ 256
    → over (done ++ zeros (suc n * 256)) at page ≡ done ++ page ++ zeros (n * 256)
over_zeros done page at n d l =
    let u : drop (length page) (zeros (suc n * 256)) ≡ zeros (n * 256) =
    rw (l, zeros_page n) (drop_at (zeros 256) _ 256 (length_zeros 256)) in
    over_seam done _ page at d ∙ rw (u, append_assoc)

-- ---- pages and their records

-- the length of a page's record does not depend on its number
pub record_length_lem : (k : ℕ) (page : List ℕ) → length (page_record k page) ≡ length (page_record 0 page)
record_length_lem k page = cond_map length (all_zero page) [] (0x02 ∷ k ∷ page) ∙ sym (cond_map length (all_zero page) [] (0x02 ∷ 0 ∷ page))

-- the page at the front, and the rest
module _ (n : ℕ) (s : List ℕ) (l : length s ≡ suc n * 256) where
  pub front_length : length (take 256 s) ≡ 256
  front_length = length-take-le 256 s (omega arith)

  pub rest_length : length (drop 256 s) ≡ n * 256
  rest_length = simp length-drop (omega arith)

-- the records of the pages, by whether the first page is all zero
module _ (n k : ℕ) (s : List ℕ) where
  pub records_none : all_zero (take 256 s) ≡ true → page_records (suc n) k s ≡ page_records n (k + 1) (drop 256 s)
  unfolding page_records
  records_none b = rw b

  pub records_some : all_zero (take 256 s) ≡ false → page_records (suc n) k s ≡ 0x02 ∷ k ∷ take 256 s ++ page_records n (k + 1) (drop 256 s)
  unfolding page_records
  records_some b = rw b

-- pages of zeros have no record
pub skip_zeros : (j k n : ℕ) (s : List ℕ) → page_records (j + n) k (zeros (j * 256) ++ s) ≡ page_records n (k + j) s
skip_zeros zero k n s = rw (nil_from_length (zeros (0 * 256)) (length_zeros 0), zero-add, add-zero)
skip_zeros (suc j) k n s =
    let z : suc j + n ≡ suc (j + n) = omega arith in
    let i : k + suc j ≡ k + 1 + j = omega arith in
    let l = length_zeros 256 in
    let t : take 256 (zeros 256 ++ (zeros (j * 256) ++ s)) ≡ zeros 256 = take_at (zeros 256) _ 256 l in
    let u : drop 256 (zeros 256 ++ (zeros (j * 256) ++ s)) ≡ zeros (j * 256) ++ s = drop_at (zeros 256) _ 256 l in
    rw (z, zeros_page j, append_assoc, i)
    (records_none (j + n) k _ (rw t (zeros_zero 256)) ∙ rw u (skip_zeros j (k + 1) n s))

pub only_zeros : (n k : ℕ) → page_records n k (zeros (n * 256)) ≡ []
unfolding page_records
only_zeros n k = simp (add-zero, append-nil) at (skip_zeros n k 0 [])
