-- The status: its order is set, a bit goes on or off, what isn't named stays, and below 64 it stays there. What carries it: each bit is told by a division.
use Rattle.std.proofs.Common.{◌≡◌, ap, ℕ, ◌+◌, ◌-◌, ◌/◌, ◌%◌, ◌<◌, arith, ℤ, Bool, true, cond, not, ◌||◌, eqb}
use Rattle.std.proofs.lemmas.Bool.Decides.{nat_tests}
use Rattle.manual.specs.declared.Columns.{Columns}
use Rattle.manual.specs.TheMachine.{binary_overflow, test_false, decimal_overflow, equal, low, high, is_on, turn_on, turn_off, set_order}
use Rattle.manual.specs.Values.{sign_order, cut_to}
use Rattle.manual.specs.Zoned.{zoned_status}
use Rattle.manual.specs.Logical.{sum_status, difference_status}
use Rattle.manual.specs.Registers.{loaded_status}
use Rattle.manual.specs.Branches.{after_test}

-- ---- an order fits in its three bits

pub order_fits : (z t : Bool) → cond z equal (cond t low high) < 8
order_fits z t = grind (arith, nat_tests)

pub borrow_fits : (z t : Bool) → cond z equal (cond t high low) < 8
borrow_fits z t = grind (arith, nat_tests)

pub sign_small : (x : ℤ) → sign_order x < 8
unfolding sign_order
sign_small x = grind (arith, nat_tests)

-- ---- the order in the status: it is set, and what isn't named stays

pub order_set : (o status : ℕ) → o < 8 → set_order o status % 8 ≡ o
unfolding set_order
order_set o status h = omega arith

pub order_leaves : (o status : ℕ) → o < 8 → set_order o status / 8 ≡ status / 8
unfolding set_order
order_leaves o status h = omega arith

-- the same bits beside the order are the same overflow, and the same bits above
pub overflow_same : (x y : ℕ) → x / 8 ≡ y / 8 → is_on binary_overflow x ≡ is_on binary_overflow y
overflow_same x y e = let q : x / 32 ≡ y / 32 = omega arith in ap (λ (v : ℕ). eqb (v % 2) 1) q

pub above_same : (x y : ℕ) → x / 8 ≡ y / 8 → (x / 16 ≡ y / 16) × (x / 64 ≡ y / 64)
above_same x y e = (omega arith, omega arith)

-- ---- the status stays below 64

pub order_below : (o x : ℕ) → o < 8 → x < 64 → set_order o x < 64
unfolding set_order
order_below o x h k = omega arith

pub test_below : (x : ℕ) → x < 64 → turn_on test_false x < 64
unfolding turn_on
test_below x h = grind (arith, nat_tests)

pub sum_below : (x : ℕ) (c : Columns) → x < 64 → sum_status x c < 64
unfolding sum_status set_order turn_on turn_off
sum_below x c h = grind (arith, nat_tests)

pub difference_below : (x : ℕ) (c : Columns) → x < 64 → difference_status x c < 64
unfolding difference_status set_order
difference_below x c h = grind (arith, nat_tests)

pub zoned_below : (n x : ℕ) (z : ℤ) → x < 64 → zoned_status n x z < 64
unfolding zoned_status set_order turn_on
zoned_below n x z h = grind (arith, nat_tests, sign_small (cut_to n z))

pub loaded_below : (b : ℕ) → loaded_status b < 64
unfolding loaded_status set_order
loaded_below b = grind (arith, nat_tests)

pub after_below : (q x : ℕ) → x < 64 → after_test q x < 64
unfolding after_test turn_off
after_below q x h = grind (arith, nat_tests)
