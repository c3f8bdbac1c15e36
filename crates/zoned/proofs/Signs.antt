-- Sizes with a sign: how they add, and what order they have. What carries it: the integers' own laws, sign by sign.
use mathlib.Core.Path.{◌≡◌, refl, sym, ap, ◌∙◌}
use mathlib.Core.Bool.{Bool, true, false, cond, not, beq}
use Prim.Native.Nat.{ℕ, zero, suc, ◌+◌, ◌-◌, ◌≤◌, ◌<◌}
use native.Mathlib.Omega.{arith}
use lib.Dec.{eqb}
use lib.IntN.{ℤ, pos, neg_ℤ, ◌+ℤ◌, ◌-ℤ◌, neg_ℤ-+ℤ, neg_ℤ-neg_ℤ, +ℤ_comm}
use borrow.Author.Tests.{le-ltb, lt-ltb}
use Rattle.manual.specs.TheMachine.{equal, low, high}
use Rattle.manual.specs.Values.{signed, negative, sign_order}

pub negative_signed : (g : Bool) (m : ℕ) → 0 < m → negative (signed g m) ≡ g
negative_signed false m h = refl
negative_signed true zero h = absurd (omega arith)
negative_signed true (suc m) h = refl

pub order_signed : (g : Bool) (k : ℕ) → sign_order (signed g k) ≡ cond (eqb k 0) equal (cond g low high)
unfolding sign_order
order_signed true zero = refl
order_signed false zero = refl
order_signed true (suc k) = refl
order_signed false (suc k) = refl

-- two of one sign add
pub add_alike : (g : Bool) (x y : ℕ) → signed g x +ℤ signed g y ≡ signed g (x + y)
add_alike false x y = refl
add_alike true x y = sym (neg_ℤ-+ℤ (pos x) (pos y))

-- of two signs the smaller is taken off the larger, whose sign stays
add_less : (x y : ℕ) → y ≤ x → pos x +ℤ neg_ℤ (pos y) ≡ pos (x - y)
add_less x zero h = ap pos (omega arith)
add_less x (suc y) h = simp (le-ltb x (suc y) h)

add_more : (x y : ℕ) → x < y → pos x +ℤ neg_ℤ (pos y) ≡ neg_ℤ (pos (y - x))
add_more x zero h = elim h [ ]
add_more x (suc y) h =
    let e : suc y - x ≡ suc (suc y - suc x) = omega arith in
    simp (lt-ltb x (suc y) h, e)

pub add_unlike : (g : Bool) (x y : ℕ) → y ≤ x → signed g x +ℤ signed (not g) y ≡ signed g (x - y)
add_unlike false x y h = add_less x y h
add_unlike true x y h = sym (ap neg_ℤ (sym (add_less x y h)) ∙ neg_ℤ-+ℤ (pos x) (neg_ℤ (pos y)) ∙ ap (λ (z : ℤ). neg_ℤ (pos x) +ℤ z) (neg_ℤ-neg_ℤ (pos y)))

pub add_other : (g : Bool) (x y : ℕ) → x < y → signed g x +ℤ signed (not g) y ≡ signed (not g) (y - x)
add_other false x y h = add_more x y h
add_other true x y h = +ℤ_comm (neg_ℤ (pos x)) (pos y) ∙ add_less y x (omega arith)

-- AZ adds, SZ adds with the other sign
pub op_signed : (less g1 g2 : Bool) (x y : ℕ) → cond less ◌-ℤ◌ ◌+ℤ◌ (signed g1 x) (signed g2 y) ≡ signed g1 x +ℤ signed (not (beq g2 less)) y
op_signed false g1 false x y = refl
op_signed false g1 true x y = refl
op_signed true g1 false x y = refl
op_signed true g1 true x y = ap (λ (z : ℤ). signed g1 x +ℤ z) (neg_ℤ-neg_ℤ (pos y))

pub same_sign : (g h : Bool) → beq g h ≡ true → h ≡ g
same_sign true true e = refl
same_sign false false e = refl
same_sign true false e = cc
same_sign false true e = cc

pub other_sign : (g h : Bool) → beq g h ≡ false → h ≡ not g
other_sign true true e = cc
other_sign false false e = cc
other_sign true false e = refl
other_sign false true e = refl
