-- Decimals clause by clause, as the code tests them, pieces appended, and a line from its text and the zeros behind it.
use Prim.Native.Nat.{ℕ, zero, suc, ◌+◌, ◌-◌, ◌/◌, ◌%◌, ◌<◌, ◌≤◌}
use native.Mathlib.Omega.{arith}
use native.Mathlib.Nat.{suc-ne-zero}
use native.Mathlib.Numerals.{sub-one}
use mathlib.Core.Path.{◌≡◌, refl, ap, sym, ◌∙◌}
use mathlib.Core.List.{List, [], ◌∷◌, ◌++◌, append-nil, append_assoc}
use borrow.Author.Tests.{lt-ltb, le-ltb}
use lib.ListN.{length, drop, set, replicate, take-append-drop}
use lib.Seq.{length-take-le, drop-set-lt, drop-drop}
use Rattle.manual.specs.declared.Machine.{Machine}
use Rattle.manual.specs.Runner.{character, blank, newline, byte_text, decimal, registers_text, run_line}
use Rattle.runner.specs.declared.Printed.{Printed}
use Rattle.runner.specs.Text.{text, printed, Behind}

pub decimal_none : (l : List ℕ) (n x : ℕ) → n ≡ 0 → l ≡ l ++ decimal n x
unfolding decimal
decimal_none l n x h = rw (h, append-nil)

pub decimal_last : (n x : ℕ) → (n ≡ 0 → ⊥) → x < 10 → decimal n x ≡ character x ∷ []
unfolding decimal
decimal_last zero x ne h = absurd (ne refl)
decimal_last (suc n) x ne h = rw (lt-ltb _ _ h)

pub decimal_more :
    (l : List ℕ) (n x : ℕ) → (n ≡ 0 → ⊥) → 10 ≤ x → l ++ decimal n x ≡ (l ++ decimal (n - 1) (x / 10)) ++ character (x % 10) ∷ []
unfolding decimal
decimal_more l zero x ne h = absurd (ne refl)
decimal_more l (suc n) x ne h = rw (sub-one, le-ltb _ _ h, append_assoc)

-- eight pieces appended one by one
pub eight :
    (l a b c d e f g h : List ℕ) {l₁ l₂ l₃ l₄ l₅ l₆ l₇ l₈ : List ℕ} → l₁ ≡ l ++ a → l₂ ≡ l₁ ++ b → l₃ ≡ l₂ ++ c → l₄ ≡ l₃ ++ d → l₅ ≡ l₄ ++ e
    → l₆ ≡ l₅ ++ f → l₇ ≡ l₆ ++ g → l₈ ≡ l₇ ++ h → l₈ ≡ l ++ (a ++ b ++ c ++ d ++ e ++ f ++ g ++ h)
eight l a b c d e f g h p₁ p₂ p₃ p₄ p₅ p₆ p₇ p₈ = rw (p₈, p₇, p₆, p₅, p₄, p₃, p₂, p₁) (simp append_assoc)

-- the pieces of a run's line appended one by one
pub run_text :
    (m : Machine) (n k q r : ℕ) → n < 10 → {l₀ l₁ l₂ l₃ l₄ l₅ l₆ l₇ l₈ : List ℕ} → l₀ ≡ [] → l₁ ≡ l₀ ++ character n ∷ [] → l₂ ≡ l₁ ++ blank ∷ registers_text m
    → l₃ ≡ l₂ ++ blank ∷ byte_text m.status → l₄ ≡ l₃ ++ blank ∷ [] → l₅ ≡ l₄ ++ decimal 8 k → l₆ ≡ l₅ ++ blank ∷ byte_text q
    → l₇ ≡ l₆ ++ blank ∷ byte_text r → l₈ ≡ l₇ ++ newline ∷ [] → l₈ ≡ run_line m (record { number = n; q = q; r = r; steps = k })
unfolding run_line
run_text m n k q r h {l₃ = l₃} p₀ p₁ p₂ p₃ p₄ p₅ p₆ p₇ p₈ =
    rw (p₈, p₇, p₆, p₅, p₄, append_assoc l₃ (blank ∷ []) (decimal 8 k), p₃, p₂, p₁, p₀, decimal_last 8 n (suc-ne-zero 7) h)

-- and their lengths
pub run_length :
    {n₀ n₁ n₂ n₃ n₄ n₅ n₆ n₇ : ℕ} → n₀ ≡ 0 → n₁ ≡ n₀ + 1 → n₂ ≡ n₁ + 40 → n₃ ≡ n₂ + 3 → n₄ ≡ n₃ + 1 → n₅ ≤ n₄ + 8 → n₆ ≡ n₅ + 3 → n₇ ≡ n₆ + 3 → n₇ + 1 ≤ 64
run_length p₀ p₁ p₂ p₃ p₄ p₅ p₆ p₇ = omega arith

-- ---- the zeros behind a text

drop_zeros : (k : ℕ) → drop {A = ℕ} 1 (replicate k 0) ≡ replicate (k - 1) 0
drop_zeros zero = refl
drop_zeros (suc k) = rw sub-one

less_one : (n : ℕ) → 64 - n - 1 ≡ 64 - (n + 1)
less_one n = omega arith

-- a byte stored at the text's end leaves those behind it
pub behind_set : (bs : List ℕ) (n b : ℕ) → drop n bs ≡ replicate (64 - n) 0 → drop (n + 1) (set bs n b) ≡ replicate (64 - (n + 1)) 0
behind_set bs n b h =
    drop-set-lt (n + 1) bs n b (omega arith) ∙ sym (drop-drop 1 n bs) ∙ ap (λ (l : List ℕ). drop 1 l) h ∙ drop_zeros (64 - n) ∙ ap (λ (k : ℕ). replicate k 0) (less_one n)

pub as_printed : (r : Printed) (t : List ℕ) → text r ≡ t → r.length ≤ length r.bytes → Behind r → r ≡ printed t
as_printed r t p h z =
    let e : r.length ≡ length t = sym (length-take-le r.length r.bytes h) ∙ ap length p in
    let b : r.bytes ≡ t ++ replicate (64 - length t) 0 = sym (take-append-drop r.length r.bytes) ∙ (rw (p, z, e)) in
    λ i. record { bytes = b i; length = e i }

-- two lines of the same text coincide
pub shown_once : (r r' : Printed) (t : List ℕ) → r ≡ printed t → r' ≡ printed t → r ≡ r'
shown_once r r' t h h' = h ∙ sym h'
