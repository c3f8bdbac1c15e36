-- Compares are unsigned: CLC's order is the order of the two numbers, CLI's of the two bytes, and 40 is below F1. What carries it: a byte is below 256.
use Rattle.std.proofs.Common.{◌≡◌, refl, sym, ◌∙◌, ap, ◌↔◌, true, List, [], ◌∷◌, ◌++◌, ℕ, suc, ◌+◌, ◌<◌, arith, length, get_or, ◌⊎◌, inl, inr}
use Rattle.std.proofs.lemmas.Bool.Decides.{nat_tests}
use Rattle.std.proofs.lemmas.Bool.{cases_order}
use Rattle.std.proofs.Math.Nat.{suc_inj}
use Rattle.manual.specs.declared.Machine.{Machine}
use Rattle.manual.specs.declared.Fields.{Fields}
use Rattle.manual.specs.declared.Answer.TheVariants.{Executed}
use Rattle.manual.specs.Programs.{clear}
use Rattle.manual.specs.TheMachine.{equal, low, high, set_order, order_of}
use Rattle.manual.specs.Formats.{reach}
use Rattle.manual.specs.Values.{bytes_of, number}
use Rattle.manual.specs.Logical.{reach_both, clc}
use Rattle.manual.specs.Immediate.{cli}
use Rattle.manual.specs.Step.{ended, moved, did}
use Rattle.manual.proofs.Running.{doing, unless_clear}
use Rattle.manual.proofs.FieldBytes.{Bytes, bytes_length, bytes_of_lem}

-- ---- the order of two numbers

pub order_equal : (x y : ℕ) → x ≡ y → order_of x y ≡ equal
unfolding order_of
order_equal x y h = grind (arith, nat_tests)

pub order_low : (x y : ℕ) → x < y → order_of x y ≡ low
unfolding order_of
order_low x y h = grind (arith, nat_tests)

pub order_high : (x y : ℕ) → y < x → order_of x y ≡ high
unfolding order_of
order_high x y h = grind (arith, nat_tests)

-- each order is told of just the numbers that stand so
pub equal_told : (x y : ℕ) → (order_of x y ≡ equal) ↔ (x ≡ y)
unfolding order_of
equal_told x y = grind (arith, nat_tests)

pub low_told : (x y : ℕ) → (order_of x y ≡ low) ↔ (x < y)
unfolding order_of
low_told x y = grind (arith, nat_tests)

pub high_told : (x y : ℕ) → (order_of x y ≡ high) ↔ (y < x)
unfolding order_of
high_told x y = grind (arith, nat_tests)

-- an order fits in its three bits
pub order_small : (x y : ℕ) → order_of x y < 8
unfolding order_of
order_small x y = grind (arith, nat_tests)

-- ---- the rules

module _ (m : Machine) (s : List ℕ) (f : Fields) where
  pub clc_compares : clear (reach_both f (length s)) ≡ true
      → did m s (clc f)
      ≡ ended (moved m f.next (set_order (order_of (number (bytes_of s (f.q + 1) f.a1)) (number (bytes_of s (f.q + 1) f.a2))) m.status)) Executed s
  unfolding clc
  clc_compares e = simp (doing, unless_clear)

  pub cli_compares : clear (reach (length s) 1 f.a1) ≡ true
      → did m s (cli f) ≡ ended (moved m f.next (set_order (order_of (get_or s f.a1 0) f.q) m.status)) Executed s
  unfolding cli
  cli_compares e = simp (doing, unless_clear)

-- ---- the number of a field's bytes

-- bytes of one count with one number are byte for byte the same
pub number_tells : (xs ys : List ℕ) → length xs ≡ length ys → Bytes xs → Bytes ys → number xs ≡ number ys → xs ≡ ys
unfolding number
number_tells [] [] l h k e = refl
number_tells [] (y ∷ ys) l h k e = absurd (omega arith)
number_tells (x ∷ xs) [] l h k e = absurd (omega arith)
number_tells (x ∷ xs) (y ∷ ys) l h k e =
    let p : x ≡ y = omega (arith, h 0, k 0) in
    let q : number xs ≡ number ys = omega (arith, h 0, k 0) in
    λ i. p i ∷ number_tells xs ys (suc_inj l) (λ j. h (suc j)) (λ j. k (suc j)) q i

-- the leftmost byte that differs decides
pub number_decides : (xs ys zs : List ℕ) (x y : ℕ) → length xs ≡ length ys → Bytes xs → Bytes ys → x < y → number (xs ++ x ∷ zs) < number (ys ++ y ∷ zs)
unfolding number
number_decides [] [] zs x y l h k e = omega arith
number_decides [] (v ∷ ys) zs x y l h k e = absurd (omega arith)
number_decides (u ∷ xs) [] zs x y l h k e = absurd (omega arith)
number_decides (u ∷ xs) (v ∷ ys) zs x y l h k e =
    omega (arith, h 0, k 0, number_decides xs ys zs x y (suc_inj l) (λ j. h (suc j)) (λ j. k (suc j)) e)

pub order_decides : (xs ys zs : List ℕ) (x y : ℕ) → length xs ≡ length ys → Bytes xs → Bytes ys → (x ≡ y → ⊥)
    → order_of (number (xs ++ x ∷ zs)) (number (ys ++ y ∷ zs)) ≡ order_of x y
order_decides xs ys zs x y l h k d = go (cases_order x y)
  where
    go : (x ≡ y) ⊎ ((x < y) ⊎ (y < x)) → order_of (number (xs ++ x ∷ zs)) (number (ys ++ y ∷ zs)) ≡ order_of x y
    go (inl e) = absurd (d e)
    go (inr (inl e)) = rw (order_low x y e) (order_low _ _ (number_decides xs ys zs x y l h k e))
    go (inr (inr e)) = rw (order_high x y e) (order_high _ _ (number_decides ys xs zs y x (sym l) k h e))

-- so CLC says equal of just the fields that are byte for byte the same
pub field_equal : (s : List ℕ) (n a b : ℕ) → Bytes s
    → (order_of (number (bytes_of s n a)) (number (bytes_of s n b)) ≡ equal) ↔ (bytes_of s n a ≡ bytes_of s n b)
field_equal s n a b h = (
  λ e. number_tells _ _ (bytes_length s n a ∙ sym (bytes_length s n b)) (bytes_of_lem s n a h) (bytes_of_lem s n b h) ((equal_told _ _).0 e),
  λ e. order_equal _ _ (ap number e),
)

-- ---- a blank is below every digit

pub blank_below_one : order_of 0x40 0xF1 ≡ low
unfolding order_of
blank_below_one = refl

-- F0 to F9
pub blank_below_digit : (d : ℕ) → order_of 0x40 (0xF0 + d) ≡ low
blank_below_digit d = order_low _ _ (omega arith)

-- CLI of a blank against a digit
pub cli_blank : (m : Machine) (s : List ℕ) (f : Fields) (d : ℕ) → clear (reach (length s) 1 f.a1) ≡ true → get_or s f.a1 0 ≡ 0x40 → f.q ≡ 0xF0 + d
    → did m s (cli f) ≡ ended (moved m f.next (set_order low m.status)) Executed s
cli_blank m s f d e b q = cli_compares m s f e ∙ rw (b, q, blank_below_digit d)
