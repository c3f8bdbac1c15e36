-- What the last arm of a match on a byte is told: any test that all the other bytes pass. What carries it: the test is computed of all 256.
use Rattle.std.proofs.Common.{◌≡◌, Bool, true, false, ◌||◌, List, [], ◌∷◌, ℕ, ◌<◌, eqb, ⊎_elim, eqb-true}
use Rattle.std.proofs.lemmas.Bool.{or_cases, agree_below, agree_below_at}

abbrev member : ℕ → List ℕ → Bool
member x [] = false
member x (k ∷ ks) = eqb x k || member x ks

-- the byte is none of the keys of the arms before, the last of them first
abbrev pub Rest : List ℕ → ℕ → Type 0
Rest [] x = Unit
Rest (k ∷ ks) x = Rest ks x × (x ≡ k → ⊥)

not_member : (ks : List ℕ) (x : ℕ) → Rest ks x → member x ks ≡ true → ⊥
not_member [] x h e = cc
not_member (k ∷ ks) x h e = ⊎_elim (λ q. h.1 (eqb-true x k q)) (not_member ks x h.0) (or_cases (eqb x k) (member x ks) e)

abbrev pub Passed : List ℕ → (ℕ → Bool) → Type 0
Passed ks p = agree_below (λ o. member o ks || p o) (λ _. true) 256 ≡ true

pub by_rest : (ks : List ℕ) (p : ℕ → Bool) → Passed ks p → (o : ℕ) → o < 256 → Rest ks o → p o ≡ true
by_rest ks p t o h n =
    ⊎_elim (λ e. absurd (not_member ks o n e)) (λ e. e)
    (or_cases (member o ks) (p o) (agree_below_at (λ o. member o ks || p o) (λ _. true) 256 o t h))
