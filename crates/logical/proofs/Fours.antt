-- Four columns of ALC or SLC at once. What carries it: the result is the number of a sum or difference, and its bytes are that number's.
use Rattle.std.proofs.Common.{◌≡◌, refl, sym, ◌∙◌, ap, Bool, true, false, ◌&&◌, List, ℕ, zero, suc, ◌+◌, ◌-◌, ◌*◌, ◌/◌, ◌%◌, ◌<◌, ◌≤◌, add-zero, add-suc, arith, eqb, length, get_or, set, get_or-set_same}
use Rattle.std.proofs.Math.Nat.{sub-add-eq, sub-zero}
use Rattle.manual.specs.declared.Columns.{Columns}
use Rattle.manual.specs.Places.{State}
use Rattle.manual.specs.Programs.{Prog, val, fin}
use Rattle.manual.specs.Values.{bytes_of, number}
use Rattle.manual.specs.Logical.{Column, columns, added, subtracted}
use Rattle.manual.specs.Step.{Gives}
use Rattle.manual.proofs.FieldBytes.{Bytes, outside_from, left_inside, number_more, bytes_of_lem, field_below}
use Rattle.manual.proofs.Sums.{bytes_next, columns_after, columns_bytes, columns_give, Unharmed, val_columns, fin_columns, columns_outside, columns_clear}
use Rattle.manual.proofs.Sums.{columns_sum, columns_difference, columns_borrow, taken_unharmed, result_below, byte_added, byte_subtracted}
use Rattle.logical.specs.Columns.{column_of, taken}
use Rattle.logical.proofs.Turns.{Leads, so_far}

-- ---- the bytes of a number, put from a to the left

unfoldable pub placed : List ℕ → ℕ → ℕ → ℕ → List ℕ
placed s zero a v = s
placed s (suc n) a v = placed (set s a (v % 256)) n (a - 1) (v / 256)

pub placed_four : (s : List ℕ) (a v : ℕ)
    → set (set (set (set s a (v % 256)) (a - 1) (v / 256 % 256)) (a - 2) (v / 256 / 256 % 256)) (a - 3) (v / 256 / 256 / 256 % 256) ≡ placed s 4 a v
unfolding placed
placed_four s a v = rw (sub-add-eq a 2 1, sub-add-eq a 1 1)

pub number_four : (s : List ℕ) (a : ℕ) → get_or s a 0 + 256 * (get_or s (a - 1) 0 + 256 * (get_or s (a - 2) 0 + 256 * get_or s (a - 3) 0)) ≡ number (bytes_of s 4 a)
unfolding bytes_of number
number_four s a =
    let e : number (bytes_of s 4 a) ≡ get_or s a 0 + 256 * (get_or s (a - 1) 0 + 256 * (get_or s (a - 1 - 1) 0 + 256 * (get_or s (a - 1 - 1 - 1) 0 + 256 * 0))) = refl in
    rw (sub-add-eq a 2 1, sub-add-eq a 1 1) (omega arith)

placed_more : (s : List ℕ) (n a k v : ℕ) → k < 256 → placed s (suc n) a (k + 256 * v) ≡ placed (set s a k) n (a - 1) v
unfolding placed
placed_more s n a k v h =
    let e : (k + 256 * v) % 256 ≡ k = omega arith in
    let f : (k + 256 * v) / 256 ≡ v = omega arith in
    rw (e, f)

module _ (column : ℕ → ℕ → ℕ → Column) where
  module _ (small : (x y c : ℕ) → (column x y c).byte < 256) where
    -- the storage that columns leave is the number of the result, put in its place
    placed_columns : (s : List ℕ) (n a b : ℕ) (c : Columns) → a < length s → n ≤ a + 1
        → columns_bytes column s n a b c ≡ placed s n a (number (bytes_of (columns_bytes column s n a b c) n a))
    unfolding columns_bytes
    placed_columns s zero a b c l h = unfold placed in refl
    placed_columns s (suc n) a b c l h =
        let t = columns_bytes column (bytes_next column s a b c) n (a - 1) (b - 1) (columns_after column s a b c) in
        let e : get_or t a 0 ≡ (column (get_or s a 0) (get_or s b 0) c.over).byte =
        columns_outside column (bytes_next column s a b c) n (a - 1) (b - 1) (columns_after column s a b c) a (outside_from n a a (omega arith) (omega arith)) ∙ get_or-set_same s a _ 0 l in
        placed_columns (bytes_next column s a b c) n (a - 1) (b - 1) (columns_after column s a b c) (left_inside s a _ l) (omega arith)
        ∙ sym (placed_more s n a _ _ (small _ _ _))
        ∙ ap (λ (x : ℕ). placed s (suc n) a (x + 256 * number (bytes_of t n (a - 1)))) (sym e)
        ∙ ap (placed s (suc n) a) (sym (number_more t n a))

  -- ---- k columns, and then those left of them

  -- what q gives from the storage t, p gives from s
  abbrev pub Onto : Prog Columns → List ℕ → Prog Columns → List ℕ → Type 0
  Onto p s q t = (v : Columns) (u : List ℕ) → Gives q t v u → Gives p s v u

  columns_one : (n a b : ℕ) (c : Columns) (s : List ℕ) → Onto (columns column (suc n) a b c) s (columns column n (a - 1) (b - 1) (columns_after column s a b c)) (bytes_next column s a b c)
  unfolding val fin columns
  columns_one n a b c s v u g = g

  left_byte : (a k : ℕ) → a - suc k ≡ a - 1 - k
  left_byte a k = omega arith

  columns_join : (k l a b : ℕ) (c : Columns) (s : List ℕ)
      → Onto (columns column (l + k) a b c) s (columns column l (a - k) (b - k) (columns_give column s k a b c)) (columns_bytes column s k a b c)
  unfolding columns_give columns_bytes
  columns_join zero l a b c s v u g = rw (add-zero l) (simp sub-zero at g)
  columns_join (suc k) l a b c s v u g =
      rw (add-suc l k) (columns_one (l + k) a b c s v u (columns_join k l (a - 1) (b - 1) _ _ v u (rw (left_byte a k, left_byte b k) at g)))

  -- the same, where it is told what they give
  pub columns_on : (n k a b : ℕ) (c d : Columns) (s t : List ℕ) → k ≤ n → Gives (columns column k a b c) s d t
      → Onto (columns column n a b c) s (columns column (n - k) (a - k) (b - k) d) t
  columns_on n k a b c d s t h e v u g m =
      let x : columns_give column s k a b c ≡ d = sym (val_columns column k a b c m s) ∙ (e m).0 in
      let y : columns_bytes column s k a b c ≡ t = ap (λ (w : State). w.bytes) (sym (fin_columns column k a b c m s) ∙ (e m).1) in
      let z : n - k + k ≡ n = omega arith in
      rw z at (columns_join k (n - k) a b c s v u (rw (x, y) g)) m

-- ---- four at once

-- a number below 256 to the 4, and what it is carried over
parted : (r o t : ℕ) → r + o * 4294967296 ≡ t → r < 4294967296 → (t % 4294967296 ≡ r) × (t / 4294967296 ≡ o)
parted r o t e h = (omega arith, omega arith)

-- the same where o is borrowed, for the sum of x, of what y lacks of all ones, and of what isn't borrowed
lent : (r o x y c t : ℕ) → r + (y + c) ≡ x + o * 4294967296 → r < 4294967296 → y < 4294967296 → c ≤ 1 → o ≤ 1 → t ≡ x + (4294967295 - y) + (1 - c)
    → (t % 4294967296 ≡ r) × (1 - t / 4294967296 ≡ o)
lent r o x y c t e h k l z f = let g : r + (1 - o) * 4294967296 ≡ t = omega arith in let p = parted r (1 - o) t g h in (p.0, omega arith)

module _ (s : List ℕ) (a b : ℕ) (l : a < length s) (h : 4 ≤ a + 1) (k : 4 ≤ b + 1) (u : Unharmed 4 a b) where
  pub four_added : (c : Columns) (t : ℕ) → t ≡ number (bytes_of s 4 a) + number (bytes_of s 4 b) + c.over
      → Gives (columns added 4 a b c) s (record { over = t / 4294967296; clear = c.clear && eqb (t % 4294967296) 0 }) (placed s 4 a (t % 4294967296))
  four_added c t e m =
      let f = rw (taken_unharmed added s 4 a b c k u) at (columns_sum s 4 a b c l h) in
      let p = parted _ _ t (f ∙ sym e) (result_below added byte_added s 4 a b c l h) in (
        val_columns added 4 a b c m s ∙ (rw (p.0, p.1, ← columns_clear added s 4 a b c l h) refl),
        fin_columns added 4 a b c m s ∙ (rw (p.0, ← placed_columns added byte_added s 4 a b c l h) refl),
      )

  pub four_subtracted : Bytes s → (c : Columns) → c.over ≤ 1 → (t : ℕ) → t ≡ number (bytes_of s 4 a) + (4294967295 - number (bytes_of s 4 b)) + (1 - c.over)
      → Gives (columns subtracted 4 a b c) s (record { over = 1 - t / 4294967296; clear = c.clear && eqb (t % 4294967296) 0 }) (placed s 4 a (t % 4294967296))
  four_subtracted bytes c z t e m =
      let f = rw (taken_unharmed subtracted s 4 a b c k u) at (columns_difference s 4 a b c l h bytes z) in
      let p = lent _ _ _ _ _ t f (result_below subtracted byte_subtracted s 4 a b c l h) (field_below s 4 b (bytes_of_lem s 4 b bytes)) z (columns_borrow s 4 a b c z) e in (
        val_columns subtracted 4 a b c m s ∙ (rw (p.0, p.1, ← columns_clear subtracted s 4 a b c l h) refl),
        fin_columns subtracted 4 a b c m s ∙ (rw (p.0, ← placed_columns subtracted byte_subtracted s 4 a b c l h) refl),
      )

-- ---- a turn of the loop

-- the storage with the four bytes of v
abbrev pub with_four : List ℕ → ℕ → ℕ → List ℕ
with_four s a v = set (set (set (set s a (v % 256)) (a - 1) (v / 256 % 256)) (a - 2) (v / 256 / 256 % 256)) (a - 3) (v / 256 / 256 / 256 % 256)

-- the sum in four columns of operand 1, of what is taken for operand 2, and of the carry
abbrev pub sum_of : Bool → List ℕ → ℕ → ℕ → ℕ → ℕ
sum_of less s x y up = number (bytes_of s 4 x) + taken less 4294967295 (number (bytes_of s 4 y)) + up

four_taken : (less : Bool) (s : List ℕ) (x y : ℕ) → x < length s → 4 ≤ x + 1 → 4 ≤ y + 1 → Unharmed 4 x y → Bytes s → (up : ℕ) → up ≤ 1 → (w : Bool)
    → Gives (columns (column_of less) 4 x y (so_far less up w)) s (so_far less (sum_of less s x y up / 4294967296) (w && eqb (sum_of less s x y up % 4294967296) 0))
    (placed s 4 x (sum_of less s x y up % 4294967296))
unfolding so_far
four_taken false s x y i j q u bytes up h w = four_added s x y i j q u _ _ refl
four_taken true s x y i j q u bytes up h w =
    let e : sum_of true s x y up ≡ number (bytes_of s 4 x) + (4294967295 - number (bytes_of s 4 y)) + (1 - (1 - up)) = omega arith in
    four_subtracted s x y i j q u bytes _ (omega arith) _ e

pub fours_turn : (p : Prog Columns) (r : List ℕ) (less : Bool) (n a b o : ℕ) (z : Bool) (t : List ℕ) (k x y up : ℕ) (w : Bool) (s : List ℕ)
    → Leads p r (columns (column_of less) k x y (so_far less up w)) s → 4 ≤ k → n ≡ k - 4 → a ≡ x - 4 → b ≡ y - 4
    → x < length s → 4 ≤ x + 1 → 4 ≤ y + 1 → Unharmed 4 x y → Bytes s → up ≤ 1
    → o ≡ sum_of less s x y up / 4294967296 → z ≡ (w && eqb (sum_of less s x y up % 4294967296) 0) → t ≡ with_four s x (sum_of less s x y up % 4294967296)
    → Leads p r (columns (column_of less) n a b (so_far less o z)) t
fours_turn p r less n a b o z t k x y up w s h l e f g i j q u bytes up' d m v =
    rw (e, f, g, d, m, v, placed_four s x (sum_of less s x y up % 4294967296))
    (record { gives = λ y' u' k'. h.gives y' u' (columns_on (column_of less) k 4 x y _ _ s _ l (four_taken less s x y i j q u bytes up up' w) y' u' k') })
