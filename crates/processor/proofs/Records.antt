-- A machine's record taken over register by register. What carries it: a list of four is its four elements.
use mathlib.Core.Path.{◌≡◌, refl, ◌∙◌}
use mathlib.Core.List.{List, [], ◌∷◌}
use Prim.Native.Nat.{ℕ}
use native.Mathlib.Omega.{arith}
use lib.ListN.{length, get_or}
use Rattle.manual.specs.declared.Machine.{Machine}

four : (w : List ℕ) → length w ≡ 4 → (get_or w 0 0 ∷ get_or w 1 0 ∷ get_or w 2 0 ∷ get_or w 3 0 ∷ []) ≡ w
four [] e = absurd (omega arith)
four (a ∷ []) e = absurd (omega arith)
four (a ∷ b ∷ []) e = absurd (omega arith)
four (a ∷ b ∷ c ∷ []) e = absurd (omega arith)
four (a ∷ b ∷ c ∷ d ∷ []) e = refl
four (a ∷ b ∷ c ∷ d ∷ x ∷ w) e = absurd (omega arith)

abbrev pub machine : ℕ → ℕ → ℕ → ℕ → ℕ → ℕ → ℕ → ℕ → ℕ → Machine
machine i a x y p q r s t = record { iar = i; arr = a; xr1 = x; xr2 = y; wr = p ∷ q ∷ r ∷ s ∷ []; status = t }

pub taken_over : (m : Machine) (i a x y p q r s : ℕ) → i ≡ m.iar → a ≡ m.arr → x ≡ m.xr1 → y ≡ m.xr2
    → p ≡ get_or m.wr 0 0 → q ≡ get_or m.wr 1 0 → r ≡ get_or m.wr 2 0 → s ≡ get_or m.wr 3 0 → length m.wr ≡ 4
    → machine i a x y p q r s m.status ≡ m
taken_over m i a x y p q r s hi ha hx hy hp hq hr hs h =
    let w : (p ∷ q ∷ r ∷ s ∷ []) ≡ m.wr = (λ k. hp k ∷ hq k ∷ hr k ∷ hs k ∷ []) ∙ four m.wr h in
    λ k. record { iar = hi k; arr = ha k; xr1 = hx k; xr2 = hy k; wr = w k; status = m.status }
