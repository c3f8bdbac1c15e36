-- Laws on fields: the bytes inside and outside, their number, and storage with a field put in it. What carries it: induction on the count of bytes, from the right.
use Rattle.std.proofs.Common.{◌≡◌, refl, sym, ◌∙◌, ap, List, [], ◌∷◌, ◌⊎◌, inl, inr, ⊎_elim, ◌↔◌, ℕ, zero, suc, ◌+◌, ◌-◌, ◌*◌, ◌^◌, ◌≤◌, ◌<◌, eq-or-lt_of_le, add-one, arith, lit<, length, get_or, set, length-set, get_or-set_same, get_or-set_other, ext_get_or}
use Rattle.std.proofs.lemmas.Grind.{common_steps}
use Rattle.std.proofs.Math.Decide.{dec_lt, dec_le}
use Rattle.std.proofs.Math.Nat.{sub-zero, pow-succ'}
use Rattle.manual.specs.Values.{bytes_of, number}

-- bytes: each of them is below 256
abbrev pub Bytes : List ℕ → Type 0
Bytes xs = (i : ℕ) → get_or xs i 0 < 256

-- an address outside the n bytes whose rightmost is at a
abbrev pub Outside : ℕ → ℕ → ℕ → Type 0
Outside n a i = (a < i) ⊎ (i + n ≤ a)

-- n bytes put from a to the left, byte j from the right being f j
unfoldable pub written : List ℕ → ℕ → ℕ → (ℕ → ℕ) → List ℕ
written s zero a f = s
written s (suc n) a f = set (written s n a f) (a - n) (f n)

-- ---- outside a field

-- no byte of the field stands there
pub outside_apart : (n a i : ℕ) → Outside n a i → (j : ℕ) → j < n → i ≡ a - j → ⊥
outside_apart n a i (inl h) j q e = omega arith
outside_apart n a i (inr h) j q e = omega arith

-- and those are all such addresses
pub outside_told : (n a i : ℕ) → Outside n a i ↔ ((j : ℕ) → j < n → i ≡ a - j → ⊥)
outside_told n a i = (outside_apart n a i, go (dec_lt a i) (dec_le (i + n) a))
  where
    go : Dec (a < i) → Dec (i + n ≤ a) → ((j : ℕ) → j < n → i ≡ a - j → ⊥) → Outside n a i
    go (yes h) d apart = inl h
    go (no h) (yes k) apart = inr k
    go (no h) (no k) apart = absurd (apart (a - i) (omega arith) (omega arith))

-- outside a field is outside what is left of it without its leftmost byte
outside_right : (n a i : ℕ) → Outside (suc n) a i → Outside n a i
outside_right n a i (inl h) = inl h
outside_right n a i (inr h) = inr (omega arith)

-- or without its rightmost
pub outside_left : (n a i : ℕ) → Outside (suc n) a i → Outside n (a - 1) i
outside_left n a i (inl h) = inl (omega arith)
outside_left n a i (inr h) = inr (omega arith)

-- an address from the rightmost byte on is outside the bytes to the left of that
pub outside_from : (n a i : ℕ) → n ≤ a → a ≤ i → Outside n (a - 1) i
outside_from n a zero h k = inr (omega arith)
outside_from n a (suc i) h k = inl (omega arith)

-- ---- a list whose elements are below b

-- with one replaced
pub set_below : (b : ℕ) (l : List ℕ) (i v : ℕ) → v < b → ((j : ℕ) → get_or l j 0 < b) → (j : ℕ) → get_or (set l i v) j 0 < b
set_below b l i v h hs j = grind (arith, common_steps, hs j)

-- with one more in front
pub cons_below : (b x : ℕ) (l : List ℕ) → x < b → ((j : ℕ) → get_or l j 0 < b) → (j : ℕ) → get_or (x ∷ l) j 0 < b
cons_below b x l h hs j = grind (arith, common_steps, hs (j - 1))

-- ---- the bytes of a field

pub bytes_length : (s : List ℕ) (n a : ℕ) → length (bytes_of s n a) ≡ n
unfolding bytes_of
bytes_length s zero a = refl
bytes_length s (suc n) a = ap suc (bytes_length s n (a - 1))

-- a field of bytes is bytes
pub bytes_of_lem : (s : List ℕ) (n a : ℕ) → Bytes s → Bytes (bytes_of s n a)
unfolding bytes_of
bytes_of_lem s zero a h i = lit< tt
bytes_of_lem s (suc n) a h zero = h a
bytes_of_lem s (suc n) a h (suc i) = bytes_of_lem s n (a - 1) h i

-- a store outside a field leaves its bytes
pub bytes_beside : (s : List ℕ) (n a i v : ℕ) → Outside n a i → bytes_of (set s i v) n a ≡ bytes_of s n a
unfolding bytes_of
bytes_beside s zero a i v h = refl
bytes_beside s (suc n) a i v h =
    let e : get_or (set s i v) a 0 ≡ get_or s a 0 = get_or-set_other s i a v 0 (λ q. outside_apart (suc n) a i h 0 (omega arith) (omega arith)) in
    let r = bytes_beside s n (a - 1) i v (outside_left n a i h) in
    λ k. e k ∷ r k

-- a store in a field leaves the bytes to the left of it
pub left_stays : (s : List ℕ) (n a v : ℕ) → n ≤ a → bytes_of (set s a v) n (a - 1) ≡ bytes_of s n (a - 1)
left_stays s n a v h = bytes_beside s n (a - 1) a v (outside_from n a a h (omega arith))

-- the rest of a field is in storage too
pub left_inside : (s : List ℕ) (a v : ℕ) → a < length s → a - 1 < length (set s a v)
left_inside s a v l = rw (length-set s a v) (omega arith)

-- ---- the number that they are

pub number_more : (s : List ℕ) (n a : ℕ) → number (bytes_of s (suc n) a) ≡ get_or s a 0 + 256 * number (bytes_of s n (a - 1))
unfolding number bytes_of
number_more s n a = refl

-- it is below 256 to their count
pub number_below : (xs : List ℕ) → Bytes xs → number xs < 256 ^ length xs
unfolding number
number_below [] h = lit< tt
number_below (x ∷ xs) h = rw pow-succ' (omega (arith, h 0, number_below xs (λ i. h (suc i))))

pub field_below : (s : List ℕ) (n a : ℕ) → Bytes (bytes_of s n a) → number (bytes_of s n a) < 256 ^ n
field_below s n a h = rw (bytes_length s n a) at (number_below (bytes_of s n a) h)

-- ---- a field put in storage

pub written_none : (s : List ℕ) (a : ℕ) (f : ℕ → ℕ) → written s 0 a f ≡ s
unfolding written
written_none s a f = refl

pub written_next : (s : List ℕ) (n a : ℕ) (f : ℕ → ℕ) → written s (n + 1) a f ≡ set (written s n a f) (a - n) (f n)
unfolding written
written_next s n a f = rw add-one

pub written_length : (s : List ℕ) (n a : ℕ) (f : ℕ → ℕ) → length (written s n a f) ≡ length s
unfolding written
written_length s zero a f = refl
written_length s (suc n) a f = length-set (written s n a f) (a - n) (f n) ∙ written_length s n a f

pub written_outside : (s : List ℕ) (n a : ℕ) (f : ℕ → ℕ) (i : ℕ) → Outside n a i → get_or (written s n a f) i 0 ≡ get_or s i 0
unfolding written
written_outside s zero a f i h = refl
written_outside s (suc n) a f i h =
    get_or-set_other (written s n a f) (a - n) i (f n) 0 (outside_apart (suc n) a i h n (omega arith)) ∙ written_outside s n a f i (outside_right n a i h)

pub written_inside : (s : List ℕ) (n a : ℕ) (f : ℕ → ℕ) (j : ℕ) → a < length s → n ≤ a + 1 → j < n → get_or (written s n a f) (a - j) 0 ≡ f j
unfolding written
written_inside s zero a f j inn fits q = elim q [ ]
written_inside s (suc n) a f j inn fits q =
    ⊎_elim
    (λ e. rw e (get_or-set_same (written s n a f) (a - n) (f n) 0 (omega (arith, written_length s n a f))))
    (λ p. get_or-set_other (written s n a f) (a - n) (a - j) (f n) 0 (λ x. omega arith) ∙ written_inside s n a f j inn (omega arith) p)
    (eq-or-lt_of_le {n = j} {m = n} (omega arith))

-- only the n bytes count
pub written_same : (s : List ℕ) (n a : ℕ) (f g : ℕ → ℕ) → ((j : ℕ) → j < n → f j ≡ g j) → written s n a f ≡ written s n a g
unfolding written
written_same s zero a f g h = refl
written_same s (suc n) a f g h =
    let below : written s n a f ≡ written s n a g = written_same s n a f g (λ j q. h j (omega arith)) in
    let here : f n ≡ g n = h n (omega arith) in
    cc

-- the rightmost first, and then the rest
pub written-first : (s : List ℕ) (n a : ℕ) (f : ℕ → ℕ) → written s (suc n) a f ≡ written (set s a (f 0)) n (a - 1) (λ j. f (suc j))
unfolding written
written-first s zero a f = ap (λ (k : ℕ). set s k (f 0)) (sub-zero a)
written-first s (suc n) a f =
    let e : a - suc n ≡ a - 1 - n = omega arith in
    let below : written s (suc n) a f ≡ written (set s a (f 0)) n (a - 1) (λ j. f (suc j)) = written-first s n a f in
    cc

-- bytes that are right inside the field and outside it are the storage so written
pub written_once : (s : List ℕ) (n a : ℕ) (f : ℕ → ℕ) (t : List ℕ) → a < length s → n ≤ a + 1 → length t ≡ length s
    → ((j : ℕ) → j < n → get_or t (a - j) 0 ≡ f j) → ((i : ℕ) → Outside n a i → get_or t i 0 ≡ get_or s i 0) → t ≡ written s n a f
written_once s n a f t inn fits same inside outside =
    ext_get_or 0 t (written s n a f) (same ∙ sym (written_length s n a f)) (λ i q. at i (dec_le i a) (dec_lt (a - i) n))
  where
    beyond : (i : ℕ) → Outside n a i → get_or t i 0 ≡ get_or (written s n a f) i 0
    beyond i h = outside i h ∙ sym (written_outside s n a f i h)

    at : (i : ℕ) → Dec (i ≤ a) → Dec (a - i < n) → get_or t i 0 ≡ get_or (written s n a f) i 0
    at i (yes p) (yes q) =
        let e : a - (a - i) ≡ i = omega arith in
        rw e at (inside (a - i) q ∙ sym (written_inside s n a f (a - i) inn fits q))
    at i (yes p) (no q) = beyond i (inr (omega arith))
    at i (no p) d = beyond i (inl (omega arith))
