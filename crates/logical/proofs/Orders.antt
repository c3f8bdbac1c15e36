-- Fields of one length compare as their bytes from the left do. What carries it: the leftmost byte weighs more than all to its right.
use Rattle.std.proofs.Common.{◌≡◌, ℕ, zero, suc, ◌+◌, ◌-◌, ◌*◌, ◌^◌, ◌<◌, ◌≤◌, List, ◌∷◌, length, slice_index, take, drop, refl, ap, sym, ◌∙◌, arith, Ordering, Less, Equal, Greater, inl, inr}
use Rattle.std.proofs.lemmas.Bool.Decides.{nat_tests}
use Rattle.std.proofs.Math.Nat.{pow-succ', mul-le-mul_left}
use Rattle.std.proofs.Math.Seq.{drop-cons}
use Rattle.std.proofs.lemmas.Bool.{cases_order}
use Rattle.std.specs.Ordering.{nat_cmp, ordering_then}
use Rattle.std.specs.Cmp.{nat_cmp_is}
use Rattle.std.specs.Cmp.Lexicographic.{slice_cmp}
use Rattle.manual.specs.TheMachine.{order_of}
use Rattle.manual.specs.Values.{number, bytes_of}
use Rattle.manual.proofs.FieldBytes.{field_below, bytes_of_lem}

spread : (b m p q y : ℕ) → q ≡ 256 * p → b + 256 * (m + p * y) ≡ b + 256 * m + q * y
spread b m p q y e = rw e (omega arith)

none : (s : List ℕ) (a : ℕ) → number (bytes_of s 0 a) ≡ 0
unfolding number bytes_of
none s a = refl

-- the leftmost byte's weight
front : (s : List ℕ) (n a : ℕ) → n ≤ a → number (bytes_of s (suc n) a) ≡ number (bytes_of s n a) + 256 ^ n * slice_index s (a - n)
unfolding number bytes_of
front s zero a h = let e : a - 0 ≡ a = omega arith in rw e (omega arith)
front s (suc n) a h =
    let e : a - 1 - n ≡ a - suc n = omega arith in
    let ih : number (bytes_of s (suc n) (a - 1)) ≡ number (bytes_of s n (a - 1)) + 256 ^ n * slice_index s (a - suc n) = rw e at (front s n (a - 1) (omega arith)) in
    ap (λ r. slice_index s a + 256 * r) ih ∙ spread (slice_index s a) (number (bytes_of s n (a - 1))) (256 ^ n) (256 ^ suc n) (slice_index s (a - suc n)) (pow-succ' 256 n)

-- x and y above numbers below p
lower : (p x y u v : ℕ) → u < p → x < y → u + p * x < v + p * y
lower p x y u v hu h = omega (arith, mul-le-mul_left {m = x + 1} {n = y} p (omega arith))

same_above : (p x u v : ℕ) → nat_cmp (u + p * x) (v + p * x) ≡ nat_cmp u v
same_above p x u v = grind (arith, nat_tests)

above : (p x y u v : ℕ) → u < p → v < p → nat_cmp (u + p * x) (v + p * y) ≡ ordering_then (nat_cmp x y) (nat_cmp u v)
above p x y u v hu hv =
    elim (cases_order x y) [
      | inl e ↦ rw (← nat_cmp_is x y Equal e) (rw e (same_above p y u v))
      | inr (inl h) ↦ rw (← nat_cmp_is x y Less h) (sym (nat_cmp_is (u + p * x) (v + p * y) Less (lower p x y u v hu h)))
      | inr (inr h) ↦ rw (← nat_cmp_is x y Greater h) (sym (nat_cmp_is (u + p * x) (v + p * y) Greater (lower p y x v u hv h)))
    ]

-- a field from the left
cut : (s : List ℕ) (n a : ℕ) → a < length s → suc n ≤ a + 1 → take (suc n) (drop (a + 1 - suc n) s) ≡ slice_index s (a - n) ∷ take n (drop (a + 1 - n) s)
cut s n a la na =
    let e : a + 1 - suc n ≡ a - n = omega arith in
    let f : suc (a - n) ≡ a + 1 - n = omega arith in
    rw (e, drop-cons s (a - n) 0 (omega arith), f) refl

pub same_order : (s : List ℕ) (n a b : ℕ) → a < length s → b < length s → n ≤ a + 1 → n ≤ b + 1 → ((k : ℕ) → slice_index s k < 256)
    → slice_cmp nat_cmp (take n (drop (a + 1 - n) s)) (take n (drop (b + 1 - n) s)) ≡ nat_cmp (number (bytes_of s n a)) (number (bytes_of s n b))
same_order s zero a b la lb na nb small = rw (none s a, none s b) refl
same_order s (suc n) a b la lb na nb small =
    let x = slice_index s (a - n) in
    let y = slice_index s (b - n) in
    let u = number (bytes_of s n a) in
    let v = number (bytes_of s n b) in
    let ih : slice_cmp nat_cmp (take n (drop (a + 1 - n) s)) (take n (drop (b + 1 - n) s)) ≡ nat_cmp u v = same_order s n a b la lb (omega arith) (omega arith) small in
    rw (cut s n a la na, cut s n b lb nb, ih, front s n a (omega arith), front s n b (omega arith)) (sym (above (256 ^ n) x y u v (field_below s n a (bytes_of_lem s n a small)) (field_below s n b (bytes_of_lem s n b small))))

-- an order as the status has it: equal, low, high
abbrev pub bits : Ordering → ℕ
bits Equal = 1
bits Less = 2
bits Greater = 4

bits_order : (u v : ℕ) → bits (nat_cmp u v) ≡ order_of u v
unfolding order_of
bits_order u v = grind (arith, nat_tests)

-- what the compare of two parts of the storage tells
pub fields_order : (s : List ℕ) (n a b : ℕ) → (a < length s) × (n ≤ a + 1) → (b < length s) × (n ≤ b + 1) → ((k : ℕ) → slice_index s k < 256)
    → (o : Ordering) → o ≡ slice_cmp nat_cmp (take (a + 1 - (a + 1 - n)) (drop (a + 1 - n) s)) (take (b + 1 - (b + 1 - n)) (drop (b + 1 - n) s))
    → bits o ≡ order_of (number (bytes_of s n a)) (number (bytes_of s n b))
fields_order s n a b g h small o e =
    let p : a + 1 - (a + 1 - n) ≡ n = omega arith in
    let q : b + 1 - (b + 1 - n) ≡ n = omega arith in
    ap bits (rw (p, q) at e ∙ same_order s n a b g.0 h.0 g.1 h.1 small) ∙ bits_order _ _
