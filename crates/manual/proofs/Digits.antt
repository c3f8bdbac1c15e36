-- Decimal digits and powers of ten: a number's digits from the right, and the number that is cut to them. What carries it: division taken apart by ten.
use Rattle.std.proofs.Common.{◌≡◌, sym, ◌∙◌, ap, ℕ, zero, suc, ◌+◌, ◌*◌, ◌/◌, ◌%◌, ◌^◌, ◌≤◌, ◌<◌, arith, pow-suc, div-one}
use Rattle.std.proofs.Math.Nat.{pow-succ', div-div-eq-div-mul, one-le-pow}
use Rattle.std.proofs.Math.Arith.{mod-mul}

pub ten_pos : (n : ℕ) → 0 < 10 ^ n
ten_pos n = one-le-pow n 10 (omega arith)

-- digit j of m, the units at 0
abbrev pub digit_at : ℕ → ℕ → ℕ
digit_at m j = m / 10 ^ j % 10

pub digit_units : (m : ℕ) → digit_at m 0 ≡ m % 10
digit_units m = ap (λ (k : ℕ). k % 10) (div-one m)

pub digit_next : (m j : ℕ) → digit_at m (suc j) ≡ digit_at (m / 10) j
digit_next m j = ap (λ (k : ℕ). k % 10) (ap (λ (p : ℕ). m / p) (pow-succ' 10 j) ∙ sym (div-div-eq-div-mul m 10 (10 ^ j)))

pub digit_small : (m j : ℕ) → digit_at m j ≤ 9
digit_small m j = omega arith

-- the units and ten times the rest, cut to n digits more, are the number cut to one more
pub cut_next : (m n : ℕ) → m % 10 + 10 * (m / 10 % 10 ^ n) ≡ m % 10 ^ suc n
cut_next m n =
    let e : m % 10 ^ suc n ≡ (m / 10 % 10 ^ n) * 10 + m % 10 = ap (λ (p : ℕ). m % p) (pow-suc 10 n) ∙ mod-mul m {m = 10 ^ n} {c = 10} (ten_pos n) (omega arith) in
    omega arith

-- the digits of a number cut to n are its last n
pub digit-cut : (m n j : ℕ) → j < n → digit_at (m % 10 ^ n) j ≡ digit_at m j
digit-cut m zero j h = absurd (omega arith)
digit-cut m (suc n) zero h = digit_units (m % 10 ^ suc n) ∙ omega (arith, cut_next m n) ∙ sym (digit_units m)
digit-cut m (suc n) (suc j) h =
    let e : m % 10 ^ suc n / 10 ≡ m / 10 % 10 ^ n = omega (arith, cut_next m n) in
    digit_next (m % 10 ^ suc n) j ∙ ap (λ (k : ℕ). digit_at k j) e ∙ digit-cut (m / 10) n j (omega arith) ∙ sym (digit_next m j)
