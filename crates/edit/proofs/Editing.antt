-- The rule's edit, turn by turn of a loop that goes by an index. What carries it: a digit is put where the pattern was read last, so the pattern left of it stands.
use mathlib.Core.Path.{◌≡◌, refl, ◌∙◌}
use mathlib.Core.List.{List, ◌∷◌}
use Prim.Native.Nat.{ℕ, ◌+◌, ◌-◌, ◌%◌, ◌≤◌, ◌<◌}
use native.Mathlib.Omega.{arith}
use native.Mathlib.Nat.{add-zero, sub-zero}
use lib.ListN.{length, get_or, drop, set, length-set}
use lib.Seq.{get_or-drop, drop-drop}
use borrow.Author.Tests.{eq-eqb, ne_eqb}
use Rattle.manual.specs.declared.Machine.{Machine}
use Rattle.manual.specs.Places.{State, state}
use Rattle.manual.specs.Programs.{fin}
use Rattle.manual.specs.Values.{bytes_of}
use Rattle.manual.specs.Edit.{count20, put_edited}
use Rattle.edit.proofs.Taking.{left_first, left_none, rest_stays, counts, counts_not}

-- what the edit leaves from the i-th byte of the pattern and the k-th digit on
abbrev edited_from : Machine → ℕ → ℕ → List ℕ → List ℕ → ℕ → ℕ → State
edited_from m a n d s k i = fin (put_edited (bytes_of s (n - i) (a - i)) (drop k d) (a - i)) (state m s)

-- the storage t, with k digits put by the i-th byte: there are digits for the rest, and the rest leaves what the whole leaves
abbrev pub Edited : List ℕ → ℕ → ℕ → List ℕ → List ℕ → ℕ → ℕ → Type 0
Edited s a n d t k i =
    (length t ≡ length s) × (k + count20 (bytes_of t (n - i) (a - i)) ≤ length d)
    × ((m : Machine) → fin (put_edited (bytes_of s n a) d a) (state m s) ≡ edited_from m a n d t k i)

module _ (m : Machine) (d : List ℕ) where
  one : (p a : ℕ) (ps : List ℕ) (k : ℕ) (s : List ℕ) → p ≡ 0x20
      → fin (put_edited (p ∷ ps) (drop k d) a) (state m s) ≡ fin (put_edited ps (drop (k + 1) d) (a - 1)) (state m (set s a (0xF0 + get_or d k 0 % 16)))
  unfolding fin put_edited
  one p a ps k s e = rw (eq-eqb p 0x20 e, get_or-drop k d 0 0, add-zero k, drop-drop 1 k d)

  other : (p a : ℕ) (ps ys s : List ℕ) → (p ≡ 0x20 → ⊥) → fin (put_edited (p ∷ ps) ys a) (state m s) ≡ fin (put_edited ps ys (a - 1)) (state m s)
  unfolding put_edited
  other p a ps ys s e = rw (ne_eqb p 0x20 e)

  one_on : (a n : ℕ) (t : List ℕ) (k i : ℕ) → i < n → n ≤ a + 1 → get_or t (a - i) 0 ≡ 0x20
      → edited_from m a n d t k i ≡ edited_from m a n d (set t (a - i) (0xF0 + get_or d k 0 % 16)) (k + 1) (i + 1)
  one_on a n t k i h l e =
      let f : a - i - 1 ≡ a - (i + 1) = omega arith in
      rw (left_first t n i a h, one _ _ _ k t e, f, rest_stays t n i a (0xF0 + get_or d k 0 % 16) l)

  other_on : (a n : ℕ) (t : List ℕ) (k i : ℕ) → i < n → (get_or t (a - i) 0 ≡ 0x20 → ⊥) → edited_from m a n d t k i ≡ edited_from m a n d t k (i + 1)
  other_on a n t k i h e =
      let f : a - i - 1 ≡ a - (i + 1) = omega arith in
      rw (left_first t n i a h, other _ _ _ (drop k d) t e, f)

  none_left : (a n : ℕ) (t : List ℕ) (k i : ℕ) → n ≤ i → edited_from m a n d t k i ≡ state m t
  unfolding fin put_edited
  none_left a n t k i h = rw (left_none t n i (a - i) h)

module _ (s : List ℕ) (a n : ℕ) (d : List ℕ) where
  pub start : count20 (bytes_of s n a) ≤ length d → Edited s a n d s 0 0
  start h = rw (sub-zero n, sub-zero a) (refl, omega arith, λ m. refl)

  pub puts : (t u : List ℕ) (k j i : ℕ) → i < n → n ≤ a + 1 → get_or t (a - i) 0 ≡ 0x20 → u ≡ set t (a - i) (0xF0 + get_or d k 0 % 16) → j ≡ k + 1
      → Edited s a n d t k i → Edited s a n d u j (i + 1)
  puts t u k j i h l e f g (same, room, whole) =
      let v : ℕ = 0xF0 + get_or d k 0 % 16 in
      rw (f, g) (length-set t (a - i) v ∙ same, rw (rest_stays t n i a v l) (omega (arith, counts t n i a h e)), λ m. whole m ∙ one_on m d a n t k i h l e)

  pub passes : (t u : List ℕ) (k j i : ℕ) → i < n → (get_or t (a - i) 0 ≡ 0x20 → ⊥) → u ≡ t → j ≡ k
      → Edited s a n d t k i → Edited s a n d u j (i + 1)
  passes t u k j i h e f g (same, room, whole) = rw (f, g) (same, omega (arith, counts_not t n i a h e), λ m. whole m ∙ other_on m d a n t k i h e)

  pub ends : (t : List ℕ) (k i : ℕ) → n ≤ i → Edited s a n d t k i → (m : Machine) → fin (put_edited (bytes_of s n a) d a) (state m s) ≡ state m t
  ends t k i h (same, room, whole) m = whole m ∙ none_left m d a n t k i h
