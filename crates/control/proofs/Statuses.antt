-- The status after BC and JC as the mask gives it. What carries it: one computed test of every status under every pick.
use Rattle.std.proofs.Common.{◌≡◌, refl, sym, ◌∙◌, Bool, true, eqb, ℕ, ◌-◌, ◌*◌, ◌/◌, ◌%◌, ◌<◌, ◌≤◌, arith, bit_and, eqb-true}
use native.Mathlib.Decide.{dec_lt}
use native.Mathlib.Nat.{div-eq_of_lt}
use Rattle.std.proofs.lemmas.Bool.{agree_below, agree_below_at}
use Rattle.manual.specs.TheMachine.{turn_off}
use Rattle.manual.specs.Branches.{after_test}

-- test false and decimal overflow picked as the two bits of k
abbrev masked : ℕ → ℕ → ℕ
masked k status = bit_and status (255 - k * 8)

abbrev agrees : ℕ → ℕ → Bool
agrees k status = eqb (masked k status) (after_test (k * 8) status)

abbrev always : ℕ → Bool
always k = true

abbrev all_agree : ℕ → Bool
all_agree k = agree_below (agrees k) always 256

computed : agree_below all_agree always 4 ≡ true
unfolding after_test turn_off
computed = refl

each : (k : ℕ) → k < 4 → (status : ℕ) → status < 256 → masked k status ≡ after_test (k * 8) status
each k h status l = eqb-true _ _ (agree_below_at (agrees k) always 256 status (agree_below_at all_agree always 4 k computed h) l)

-- the Q byte tells no more than those two bits
only_picked : (q status : ℕ) → after_test q status ≡ after_test (q / 8 % 4 * 8) status
unfolding after_test
only_picked q status =
    let t : q / 16 % 2 ≡ q / 8 % 4 * 8 / 16 % 2 = omega arith in
    let d : q / 8 % 2 ≡ q / 8 % 4 * 8 / 8 % 2 = omega arith in
    rw (t, d)

pub after : (q status : ℕ) → status < 256 → bit_and status (255 - q / 8 % 4 * 8) ≡ after_test q status
after q status h = each (q / 8 % 4) (omega arith) status h ∙ sym (only_picked q status)

-- ---- one bit off by its own mask

pub without_overflow : (status : ℕ) → status < 256 → bit_and status 247 ≡ turn_off 8 status
unfolding after_test
without_overflow status h = each 1 (omega arith) status h

pub without_test : (status : ℕ) → status < 256 → bit_and status 239 ≡ turn_off 16 status
unfolding after_test
without_test status h = each 2 (omega arith) status h

-- ---- a bit that is on is at most the number that has it

pub on_below : (x b : ℕ) → x / b % 2 ≡ 1 → b ≤ x
on_below x b e = go (dec_lt x b)
  where
    go : Dec (x < b) → b ≤ x
    go (yes h) = let z : x / b ≡ 0 = div-eq_of_lt h in absurd (omega arith)
    go (no h) = omega arith
