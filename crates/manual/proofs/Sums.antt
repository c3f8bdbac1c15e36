-- ALC and SLC give the sum and difference of two numbers modulo 256 to the L, with carry and order told. What carries it: each column keeps the sum so far.
use Rattle.std.proofs.Common.{◌≡◌, refl, sym, ◌∙◌, ap, subst, ◌⊎◌, inl, inr, Bool, true, cond, not, ◌&&◌, List, [], ◌∷◌, ℕ, zero, suc, ◌+◌, ◌-◌, ◌*◌, ◌/◌, ◌%◌, ◌^◌, ◌≤◌, ◌<◌, mul_left_comm, mod-lt, mod-eq_of_lt, suc-mul, add-zero, arith, eqb, leb, ltb, lit<, lit≤, length, get_or, set, length-set, get_or-set_same, get_or-set_other}
use Rattle.std.proofs.lemmas.Bool.Decides.{nat_tests}
use Rattle.std.proofs.Math.Bool.{and_assoc, and-true}
use Rattle.std.proofs.Math.Nat.{pow-succ', add-mul-mod_self_right, add-mod_right}
use Rattle.manual.specs.declared.Machine.{Machine}
use Rattle.manual.specs.declared.Fields.{Fields}
use Rattle.manual.specs.declared.Columns.{Columns}
use Rattle.manual.specs.declared.Answer.TheVariants.{Executed}
use Rattle.manual.specs.Places.{state}
use Rattle.manual.specs.Programs.{val, fin, clear}
use Rattle.manual.specs.TheMachine.{equal, low, high, binary_overflow, is_on, turn_on, turn_off, set_order, order_of}
use Rattle.manual.specs.Formats.{reach}
use Rattle.manual.specs.Values.{bytes_of, number}
use Rattle.manual.specs.Logical.{reach_both, Column, added, subtracted, onward, columns, fresh, sum_status, difference_status, alc, slc}
use Rattle.manual.specs.Immediate.{sli}
use Rattle.manual.specs.Step.{Outcome, ended, moved, did}
use Rattle.manual.proofs.Running.{doing, unless_clear, both_clear, reach_clear}
use Rattle.manual.proofs.FieldBytes.{Bytes, Outside, outside_apart, outside_left, outside_from, set_below}
use Rattle.manual.proofs.FieldBytes.{bytes_of_lem, bytes_beside, left_stays, left_inside, number_more, number_below, field_below}
use Rattle.manual.proofs.Status.{order_set, order_leaves}
use Rattle.manual.proofs.Compared.{order_small}

-- the column at the addresses a and b
abbrev pub column_at : (ℕ → ℕ → ℕ → Column) → List ℕ → ℕ → ℕ → Columns → Column
column_at column s a b c = column (get_or s a 0) (get_or s b 0) c.over

-- the storage and what is carried after that column
abbrev pub bytes_next : (ℕ → ℕ → ℕ → Column) → List ℕ → ℕ → ℕ → Columns → List ℕ
bytes_next column s a b c = set s a (column_at column s a b c).byte

abbrev pub columns_after : (ℕ → ℕ → ℕ → Column) → List ℕ → ℕ → ℕ → Columns → Columns
columns_after column s a b c = onward c (column_at column s a b c)

-- operand 2's bytes as each was taken, the rightmost first
unfoldable pub taken_of : (ℕ → ℕ → ℕ → Column) → List ℕ → ℕ → ℕ → ℕ → Columns → List ℕ
taken_of column s zero a b c = []
taken_of column s (suc n) a b c =
    get_or s b 0 ∷ taken_of column (bytes_next column s a b c) n (a - 1) (b - 1) (columns_after column s a b c)

-- the storage that n columns leave
unfoldable pub columns_bytes : (ℕ → ℕ → ℕ → Column) → List ℕ → ℕ → ℕ → ℕ → Columns → List ℕ
columns_bytes column s zero a b c = s
columns_bytes column s (suc n) a b c = columns_bytes column (bytes_next column s a b c) n (a - 1) (b - 1) (columns_after column s a b c)

-- the carry or borrow that they give, and whether every result byte is zero
unfoldable pub columns_give : (ℕ → ℕ → ℕ → Column) → List ℕ → ℕ → ℕ → ℕ → Columns → Columns
columns_give column s zero a b c = c
columns_give column s (suc n) a b c = columns_give column (bytes_next column s a b c) n (a - 1) (b - 1) (columns_after column s a b c)

-- operand 2's bytes, the rightmost at b, aren't overwritten before they are taken
abbrev pub Unharmed : ℕ → ℕ → ℕ → Type 0
Unharmed n a b = (b ≤ a) ⊎ (a + n ≤ b)

-- what ALC and SLC leave alike: the machine only moves on, operand 1 holds bytes, and all others stay
pub record Kept (m : Machine) (s : List ℕ) (f : Fields) (o : Outcome) : Type 0 where
  pub answer : o.gave.answer ≡ Executed
  pub machine : o.gave.machine ≡ moved m f.next o.gave.machine.status
  pub bytes : Bytes (bytes_of o.storage (f.q + 1) f.a1)
  pub outside : (i : ℕ) → Outside (f.q + 1) f.a1 i → get_or o.storage i 0 ≡ get_or s i 0
  pub size : length o.storage ≡ length s

-- the status after a sum x at a width of p: equal, low (no carry, not zero), high (carry, not zero), binary overflow as the carry, and all others stay
pub record SumTold (p x before after : ℕ) : Type 0 where
  pub carry : is_on binary_overflow after ≡ leb p x
  pub ordered : after % 8 ≡ cond (eqb (x % p) 0) equal (cond (leb p x) high low)
  pub middle : after / 8 % 4 ≡ before / 8 % 4
  pub beyond : after / 64 ≡ before / 64

-- the status after y is taken from x: equal, low if x was below y, else high, and all others stay, binary overflow too
pub record DifferenceTold (x y before after : ℕ) : Type 0 where
  pub ordered : after % 8 ≡ order_of x y
  pub others : after / 8 ≡ before / 8

-- what ALC leaves of the numbers x and y of its operands
pub record Summed (m : Machine) (s : List ℕ) (f : Fields) (x y : ℕ) (o : Outcome) : Type 0 where
  pub kept : Kept m s f o
  pub result : number (bytes_of o.storage (f.q + 1) f.a1) ≡ (x + y) % 256 ^ (f.q + 1)
  pub status : SumTold (256 ^ (f.q + 1)) (x + y) m.status o.gave.machine.status

-- what SLC leaves of them
pub record Differed (m : Machine) (s : List ℕ) (f : Fields) (x y : ℕ) (o : Outcome) : Type 0 where
  pub kept : Kept m s f o
  pub result : number (bytes_of o.storage (f.q + 1) f.a1) ≡ (x + 256 ^ (f.q + 1) - y) % 256 ^ (f.q + 1)
  pub status : DifferenceTold x y m.status o.gave.machine.status

-- ---- columns, over any storage

module _ (column : ℕ → ℕ → ℕ → Column) where
  pub val_columns : (n a b : ℕ) (c : Columns) (m : Machine) (s : List ℕ) → val (columns column n a b c) (state m s) ≡ columns_give column s n a b c
  unfolding val columns columns_give
  val_columns zero a b c m s = refl
  val_columns (suc n) a b c m s = val_columns n (a - 1) (b - 1) _ m _

  pub fin_columns : (n a b : ℕ) (c : Columns) (m : Machine) (s : List ℕ) → fin (columns column n a b c) (state m s) ≡ state m (columns_bytes column s n a b c)
  unfolding fin columns columns_bytes
  fin_columns zero a b c m s = refl
  fin_columns (suc n) a b c m s = fin_columns n (a - 1) (b - 1) _ m _

  pub columns_length : (s : List ℕ) (n a b : ℕ) (c : Columns) → length (columns_bytes column s n a b c) ≡ length s
  unfolding columns_bytes
  columns_length s zero a b c = refl
  columns_length s (suc n) a b c = columns_length (bytes_next column s a b c) n (a - 1) (b - 1) (columns_after column s a b c) ∙ length-set s a _

  pub columns_outside : (s : List ℕ) (n a b : ℕ) (c : Columns) (i : ℕ) → Outside n a i → get_or (columns_bytes column s n a b c) i 0 ≡ get_or s i 0
  unfolding columns_bytes
  columns_outside s zero a b c i h = refl
  columns_outside s (suc n) a b c i h =
      columns_outside (bytes_next column s a b c) n (a - 1) (b - 1) (columns_after column s a b c) i (outside_left n a i h)
      ∙ get_or-set_other s a i _ 0 (λ e. outside_apart (suc n) a i h 0 (omega arith) (omega arith))

  -- the first column, and the others to the left of it
  give_more : (s : List ℕ) (n a b : ℕ) (c : Columns)
      → columns_give column s (suc n) a b c ≡ columns_give column (bytes_next column s a b c) n (a - 1) (b - 1) (columns_after column s a b c)
  unfolding columns_give
  give_more s n a b c = refl

  taken_more : (s : List ℕ) (n a b : ℕ) (c : Columns)
      → number (taken_of column s (suc n) a b c)
      ≡ get_or s b 0 + 256 * number (taken_of column (bytes_next column s a b c) n (a - 1) (b - 1) (columns_after column s a b c))
  unfolding taken_of number
  taken_more s n a b c = refl

  head_stays : (s : List ℕ) (n a b : ℕ) (c : Columns) → a < length s → n ≤ a → get_or (columns_bytes column s (suc n) a b c) a 0 ≡ (column_at column s a b c).byte
  unfolding columns_bytes
  head_stays s n a b c l h = columns_outside (bytes_next column s a b c) n (a - 1) (b - 1) (columns_after column s a b c) a (outside_from n a a h (omega arith)) ∙ get_or-set_same s a _ 0 l

  left_more : (s : List ℕ) (n a b : ℕ) (c : Columns) → a < length s → n ≤ a
      → number (bytes_of (columns_bytes column s (suc n) a b c) (suc n) a)
      ≡ (column_at column s a b c).byte
      + 256 * number (bytes_of (columns_bytes column (bytes_next column s a b c) n (a - 1) (b - 1) (columns_after column s a b c)) n (a - 1))
  unfolding columns_bytes bytes_of number
  left_more s n a b c l h = ap (λ (x : ℕ). x + 256 * number (bytes_of (columns_bytes column s (suc n) a b c) n (a - 1))) (head_stays s n a b c l h)

-- ---- every result byte is zero where the result is

zero_digits : (x y : ℕ) → eqb (x + 256 * y) 0 ≡ (eqb x 0 && eqb y 0)
zero_digits x y = grind (arith, nat_tests)

pub columns_clear : (column : ℕ → ℕ → ℕ → Column) (s : List ℕ) (n a b : ℕ) (c : Columns) → a < length s → n ≤ a + 1
    → (columns_give column s n a b c).clear ≡ (c.clear && eqb (number (bytes_of (columns_bytes column s n a b c) n a)) 0)
columns_clear column s zero a b c l h = unfold columns_give bytes_of number in sym (and-true c.clear)
columns_clear column s (suc n) a b c l h =
    rw (left_more column s n a b c l (omega arith), give_more column s n a b c, zero_digits, ← and_assoc)
    (columns_clear column (bytes_next column s a b c) n (a - 1) (b - 1) (columns_after column s a b c) (left_inside s a _ l) (omega arith))

-- ---- the sum, whatever overlaps

added_keeps : (x y c : ℕ) → (added x y c).byte + 256 * (added x y c).over ≡ x + y + c
added_keeps x y c = omega arith

-- one column, with the byte k and the carry d, to the right of others
sum_more : (x y c k d v w u o p : ℕ) → k + 256 * d ≡ x + y + c → v + o * p ≡ w + u + d → k + 256 * v + o * (256 * p) ≡ x + 256 * w + (y + 256 * u) + c
sum_more x y c k d v w u o p q e = let f : o * (256 * p) ≡ 256 * (o * p) = mul_left_comm o 256 p in omega arith

pub columns_sum : (s : List ℕ) (n a b : ℕ) (c : Columns) → a < length s → n ≤ a + 1
    → number (bytes_of (columns_bytes added s n a b c) n a) + (columns_give added s n a b c).over * 256 ^ n
    ≡ number (bytes_of s n a) + number (taken_of added s n a b c) + c.over
columns_sum s zero a b c l h = unfold bytes_of number columns_give columns_bytes taken_of in omega arith
columns_sum s (suc n) a b c l h =
    rw (left_more added s n a b c l (omega arith), give_more added s n a b c, number_more s n a, taken_more added s n a b c, pow-succ')
    (sum_more _ _ _ _ _ _ _ _ _ _ (added_keeps (get_or s a 0) (get_or s b 0) c.over)
    (rw (left_stays s n a (column_at added s a b c).byte (omega arith)) at
    (columns_sum (bytes_next added s a b c) n (a - 1) (b - 1) (columns_after added s a b c) (left_inside s a _ l) (omega arith))))

-- ---- the difference, whatever overlaps

subtracted_keeps : (x y c : ℕ) → x < 256 → y < 256 → c ≤ 1 → (subtracted x y c).byte + (y + c) ≡ x + 256 * (subtracted x y c).over
subtracted_keeps x y c h k l = grind (arith, nat_tests)

borrows_one : (x y c : ℕ) → (subtracted x y c).over ≤ 1
borrows_one x y c = grind (arith, nat_tests)

difference_more : (x y c k d v w u o p : ℕ) → k + (y + c) ≡ x + 256 * d → v + (u + d) ≡ w + o * p
    → k + 256 * v + (y + 256 * u + c) ≡ x + 256 * w + o * (256 * p)
difference_more x y c k d v w u o p q e = let f : o * (256 * p) ≡ 256 * (o * p) = mul_left_comm o 256 p in omega arith

pub columns_difference : (s : List ℕ) (n a b : ℕ) (c : Columns) → a < length s → n ≤ a + 1 → Bytes s → c.over ≤ 1
    → number (bytes_of (columns_bytes subtracted s n a b c) n a) + (number (taken_of subtracted s n a b c) + c.over)
    ≡ number (bytes_of s n a) + (columns_give subtracted s n a b c).over * 256 ^ n
columns_difference s zero a b c l h k z = unfold bytes_of number columns_give columns_bytes taken_of in omega arith
columns_difference s (suc n) a b c l h k z =
    rw (left_more subtracted s n a b c l (omega arith), give_more subtracted s n a b c, number_more s n a, taken_more subtracted s n a b c, pow-succ')
    (difference_more _ _ _ _ _ _ _ _ _ _ (subtracted_keeps (get_or s a 0) (get_or s b 0) c.over (k a) (k b) z)
    (rw (left_stays s n a (column_at subtracted s a b c).byte (omega arith)) at
    (columns_difference (bytes_next subtracted s a b c) n (a - 1) (b - 1) (columns_after subtracted s a b c) (left_inside s a _ l) (omega arith)
    (set_below 256 s a _ (mod-lt _ (lit< tt)) k) (borrows_one (get_or s a 0) (get_or s b 0) c.over))))

pub columns_borrow : (s : List ℕ) (n a b : ℕ) (c : Columns) → c.over ≤ 1 → (columns_give subtracted s n a b c).over ≤ 1
unfolding columns_give
columns_borrow s zero a b c z = z
columns_borrow s (suc n) a b c z =
    columns_borrow (bytes_next subtracted s a b c) n (a - 1) (b - 1) (columns_after subtracted s a b c) (borrows_one (get_or s a 0) (get_or s b 0) c.over)

-- ---- operand 2's bytes as they were

module _ (column : ℕ → ℕ → ℕ → Column) where
  taken_left : (s : List ℕ) (n a b : ℕ) (c : Columns) → n ≤ b + 1 → b ≤ a → taken_of column s n a b c ≡ bytes_of s n b
  unfolding taken_of bytes_of
  taken_left s zero a b c h d = refl
  taken_left s (suc n) a b c h d =
      ap (λ (l : List ℕ). get_or s b 0 ∷ l) (taken_left (bytes_next column s a b c) n (a - 1) (b - 1) (columns_after column s a b c) (omega arith) (omega arith) ∙ bytes_beside s n (b - 1) a _ (outside_from n b a (omega arith) d))

  taken_right : (s : List ℕ) (n a b : ℕ) (c : Columns) → a + n ≤ b → taken_of column s n a b c ≡ bytes_of s n b
  unfolding taken_of bytes_of
  taken_right s zero a b c d = refl
  taken_right s (suc n) a b c d =
      ap (λ (l : List ℕ). get_or s b 0 ∷ l) (taken_right (bytes_next column s a b c) n (a - 1) (b - 1) (columns_after column s a b c) (omega arith) ∙ bytes_beside s n (b - 1) a _ (inr (omega arith)))

  pub taken_unharmed : (s : List ℕ) (n a b : ℕ) (c : Columns) → n ≤ b + 1 → Unharmed n a b → taken_of column s n a b c ≡ bytes_of s n b
  taken_unharmed s n a b c h (inl d) = taken_left s n a b c h d
  taken_unharmed s n a b c h (inr d) = taken_right s n a b c d

-- ---- the result is bytes, and so is what was taken

pub taken_length : (column : ℕ → ℕ → ℕ → Column) (s : List ℕ) (n a b : ℕ) (c : Columns) → length (taken_of column s n a b c) ≡ n
unfolding taken_of
taken_length column s zero a b c = refl
taken_length column s (suc n) a b c = ap suc (taken_length column (bytes_next column s a b c) n (a - 1) (b - 1) (columns_after column s a b c))

module _ (column : ℕ → ℕ → ℕ → Column) (small : (x y c : ℕ) → (column x y c).byte < 256) where
  pub result_bytes : (s : List ℕ) (n a b : ℕ) (c : Columns) → a < length s → n ≤ a + 1 → Bytes (bytes_of (columns_bytes column s n a b c) n a)
  unfolding bytes_of columns_bytes
  result_bytes s zero a b c l h i = lit< tt
  result_bytes s (suc n) a b c l h zero =
      subst (λ (x : ℕ). x < 256) (sym (head_stays column s n a b c l (omega arith))) (small (get_or s a 0) (get_or s b 0) c.over)
  result_bytes s (suc n) a b c l h (suc i) =
      result_bytes (bytes_next column s a b c) n (a - 1) (b - 1) (columns_after column s a b c) (left_inside s a _ l) (omega arith) i

  pub result_below : (s : List ℕ) (n a b : ℕ) (c : Columns) → a < length s → n ≤ a + 1 → number (bytes_of (columns_bytes column s n a b c) n a) < 256 ^ n
  result_below s n a b c l h = field_below (columns_bytes column s n a b c) n a (result_bytes s n a b c l h)

  pub taken_bytes : (s : List ℕ) (n a b : ℕ) (c : Columns) → a < length s → Bytes s → Bytes (taken_of column s n a b c)
  unfolding taken_of
  taken_bytes s zero a b c l h i = lit< tt
  taken_bytes s (suc n) a b c l h zero = h b
  taken_bytes s (suc n) a b c l h (suc i) =
      taken_bytes (bytes_next column s a b c) n (a - 1) (b - 1) (columns_after column s a b c) (left_inside s a _ l)
      (set_below 256 s a _ (small (get_or s a 0) (get_or s b 0) c.over) h) i

  pub taken_below : (s : List ℕ) (n a b : ℕ) (c : Columns) → a < length s → Bytes s → number (taken_of column s n a b c) < 256 ^ n
  taken_below s n a b c l h = rw (taken_length column s n a b c) at (number_below (taken_of column s n a b c) (taken_bytes s n a b c l h))

-- ---- the status of a sum

-- what a width leaves of a sum, and whether it was carried over
left_of : (r o p x : ℕ) → r + o * p ≡ x → r < p → x % p ≡ r
left_of r o p x e h = rw (← e, add-mul-mod_self_right r o p) (mod-eq_of_lt h)

carried_over : (r o p x : ℕ) → r + o * p ≡ x → r < p → eqb o 0 ≡ not (leb p x)
carried_over r zero p x e h = grind (arith, nat_tests)
carried_over r (suc o) p x e h = grind (arith, nat_tests, suc-mul o p)

sum_status_lem : (before p x : ℕ) (z t : Bool) → t ≡ not (leb p x) → z ≡ eqb (x % p) 0
    → SumTold p x before (set_order (cond z equal (cond t low high)) (cond t (turn_off binary_overflow before) (turn_on binary_overflow before)))
unfolding set_order turn_on turn_off
sum_status_lem before p x z t q k =
    record { carry = grind (arith, nat_tests); ordered = grind (arith, nat_tests); middle = grind (arith, nat_tests); beyond = grind (arith, nat_tests) }

pub sum_told : (before r p x : ℕ) (c : Columns) → r + c.over * p ≡ x → r < p → c.clear ≡ eqb r 0 → SumTold p x before (sum_status before c)
unfolding sum_status
sum_told before r p x c e h k = sum_status_lem before p x c.clear (eqb c.over 0) (carried_over r c.over p x e h) (rw (left_of r c.over p x e h) k)

-- ---- the status of a difference

difference_order : (r o p x y : ℕ) → r + y ≡ x + o * p → r < p → x < p → y < p → o ≤ 1 → cond (eqb r 0) equal (cond (eqb o 0) high low) ≡ order_of x y
unfolding order_of
difference_order r zero p x y e h k l z = grind (arith, nat_tests)
difference_order r (suc zero) p x y e h k l z = grind (arith, nat_tests)
difference_order r (suc (suc o)) p x y e h k l z = absurd (omega arith)

difference_left : (r o p x y : ℕ) → r + y ≡ x + o * p → r < p → y < p → o ≤ 1 → r ≡ (x + p - y) % p
difference_left r zero p x y e h l z = let q : x + p - y ≡ r + p = omega arith in rw (q, add-mod_right r p) (sym (mod-eq_of_lt h))
difference_left r (suc zero) p x y e h l z = let q : x + p - y ≡ r = omega arith in rw q (sym (mod-eq_of_lt h))
difference_left r (suc (suc o)) p x y e h l z = absurd (omega arith)

pub difference_told : (before r p x y : ℕ) (c : Columns) → r + y ≡ x + c.over * p → r < p → x < p → y < p → c.over ≤ 1 → c.clear ≡ eqb r 0
    → DifferenceTold x y before (difference_status before c)
unfolding difference_status
difference_told before r p x y c e h k l z q =
    rw (q, difference_order r c.over p x y e h k l z)
    (record { ordered = order_set (order_of x y) before (order_small x y); others = order_leaves (order_of x y) before (order_small x y) })

-- ---- the rules

module _ (m : Machine) (s : List ℕ) (f : Fields) where
  pub alc_does : clear (reach_both f (length s)) ≡ true
      → did m s (alc f)
      ≡ ended (moved m f.next (sum_status m.status (columns_give added s (f.q + 1) f.a1 f.a2 fresh))) Executed
      (columns_bytes added s (f.q + 1) f.a1 f.a2 fresh)
  unfolding alc
  alc_does e = simp (doing, unless_clear, val_columns, fin_columns)

  pub slc_does : clear (reach_both f (length s)) ≡ true
      → did m s (slc f)
      ≡ ended (moved m f.next (difference_status m.status (columns_give subtracted s (f.q + 1) f.a1 f.a2 fresh))) Executed
      (columns_bytes subtracted s (f.q + 1) f.a1 f.a2 fresh)
  unfolding slc
  slc_does e = simp (doing, unless_clear, val_columns, fin_columns)

  keeps : (column : ℕ → ℕ → ℕ → Column) → ((x y c : ℕ) → (column x y c).byte < 256) → f.a1 < length s → f.q + 1 ≤ f.a1 + 1 → (status : ℕ)
      → Kept m s f (ended (moved m f.next status) Executed (columns_bytes column s (f.q + 1) f.a1 f.a2 fresh))
  keeps column small l h status = record {
    answer = refl;
    machine = refl;
    bytes = result_bytes column small s (f.q + 1) f.a1 f.a2 fresh l h;
    outside = columns_outside column s (f.q + 1) f.a1 f.a2 fresh;
    size = columns_length column s (f.q + 1) f.a1 f.a2 fresh;
  }

pub byte_added : (x y c : ℕ) → (added x y c).byte < 256
byte_added x y c = mod-lt (x + y + c) (lit< tt)

pub byte_subtracted : (x y c : ℕ) → (subtracted x y c).byte < 256
byte_subtracted x y c = mod-lt (x + 256 - (y + c)) (lit< tt)

module _ (m : Machine) (s : List ℕ) (f : Fields) (reached : clear (reach_both f (length s)) ≡ true) where
  inside_1 : (f.a1 < length s) × (f.q + 1 ≤ f.a1 + 1)
  inside_1 = reach_clear (length s) (f.q + 1) f.a1 (both_clear _ _ reached).0

  inside_2 : (f.a2 < length s) × (f.q + 1 ≤ f.a2 + 1)
  inside_2 = reach_clear (length s) (f.q + 1) f.a2 (both_clear (reach (length s) (f.q + 1) f.a1) _ reached).1

  -- ALC with any overlap: operand 2's bytes count as each was taken
  pub alc_sums_taken : Summed m s f (number (bytes_of s (f.q + 1) f.a1)) (number (taken_of added s (f.q + 1) f.a1 f.a2 fresh)) (did m s (alc f))
  alc_sums_taken =
      let l = inside_1.0 in
      let h = inside_1.1 in
      let e = columns_sum s (f.q + 1) f.a1 f.a2 fresh l h ∙ add-zero _ in
      let b = result_below added byte_added s (f.q + 1) f.a1 f.a2 fresh l h in
      rw (alc_does m s f reached) record {
        kept = keeps m s f added byte_added l h _;
        result = sym (left_of _ _ _ _ e b);
        status = sum_told m.status _ _ _ _ e b (columns_clear added s (f.q + 1) f.a1 f.a2 fresh l h);
      }

  -- ALC
  pub alc_sums : Unharmed (f.q + 1) f.a1 f.a2
      → Summed m s f (number (bytes_of s (f.q + 1) f.a1)) (number (bytes_of s (f.q + 1) f.a2)) (did m s (alc f))
  alc_sums u = rw (taken_unharmed added s (f.q + 1) f.a1 f.a2 fresh inside_2.1 u) at alc_sums_taken

  module _ (bytes : Bytes s) where
    -- SLC with any overlap
    pub slc_differs_taken : Differed m s f (number (bytes_of s (f.q + 1) f.a1))
        (number (taken_of subtracted s (f.q + 1) f.a1 f.a2 fresh)) (did m s (slc f))
    slc_differs_taken =
        let l = inside_1.0 in
        let h = inside_1.1 in
        let e = rw add-zero at (columns_difference s (f.q + 1) f.a1 f.a2 fresh l h bytes (lit≤ tt)) in
        let b = result_below subtracted byte_subtracted s (f.q + 1) f.a1 f.a2 fresh l h in
        let x = field_below s (f.q + 1) f.a1 (bytes_of_lem s (f.q + 1) f.a1 bytes) in
        let y = taken_below subtracted byte_subtracted s (f.q + 1) f.a1 f.a2 fresh l bytes in
        let o = columns_borrow s (f.q + 1) f.a1 f.a2 fresh (lit≤ tt) in
        rw (slc_does m s f reached) record {
          kept = keeps m s f subtracted byte_subtracted l h _;
          result = difference_left _ _ _ _ _ e b y o;
          status = difference_told m.status _ _ _ _ _ e b x y o (columns_clear subtracted s (f.q + 1) f.a1 f.a2 fresh l h);
        }

    -- SLC
    pub slc_differs : Unharmed (f.q + 1) f.a1 f.a2
        → Differed m s f (number (bytes_of s (f.q + 1) f.a1)) (number (bytes_of s (f.q + 1) f.a2)) (did m s (slc f))
    slc_differs u = rw (taken_unharmed subtracted s (f.q + 1) f.a1 f.a2 fresh inside_2.1 u) at slc_differs_taken

-- ---- SLI: one column, the byte at operand 1 against Q

byte_order : (x y : ℕ) → x < 256 → y < 256 → cond (eqb ((x + 256 - y) % 256) 0) equal (cond (eqb (cond (ltb x y) 1 0) 0) high low) ≡ order_of x y
unfolding order_of
byte_order x y h k = grind (arith, nat_tests)

pub sli_differs : (m : Machine) (s : List ℕ) (f : Fields) → clear (reach (length s) 1 f.a1) ≡ true → get_or s f.a1 0 < 256 → f.q < 256
    → did m s (sli f)
    ≡ ended (moved m f.next (set_order (order_of (get_or s f.a1 0) f.q) m.status)) Executed
    (set s f.a1 ((get_or s f.a1 0 + 256 - f.q) % 256))
unfolding sli difference_status
sli_differs m s f e h k = simp (doing, unless_clear, add-zero, byte_order)
