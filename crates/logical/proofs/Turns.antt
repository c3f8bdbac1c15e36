-- MVC, ALC and SLC, turn by turn of a loop that goes by an index i. What carries it: what is left to do gives what the whole gives.
use Rattle.std.proofs.Common.{◌≡◌, refl, ◌∙◌, Bool, true, false, ◌&&◌, List, ℕ, suc, ◌+◌, ◌-◌, ◌/◌, ◌%◌, ◌<◌, ◌≤◌, arith, eqb, get_or, set}
use Rattle.std.proofs.lemmas.Bool.Decides.{nat_tests}
use Rattle.manual.specs.declared.Machine.{Machine}
use Rattle.manual.specs.declared.Columns.{Columns}
use Rattle.manual.specs.Places.{state}
use Rattle.manual.specs.Programs.{Prog, val, fin}
use Rattle.manual.specs.Logical.{Column, copy, columns, added, subtracted}
use Rattle.manual.specs.Step.{Gives}
use Rattle.logical.specs.Columns.{column_of, taken, over_of}
use Rattle.manual.proofs.Sums.{bytes_next, columns_after}

module _ {A : Type 0} where
  -- what q gives from the storage t, p gives from s
  pub record Leads (p : Prog A) (s : List ℕ) (q : Prog A) (t : List ℕ) : Type 0 where
    pub gives : (v : A) (u : List ℕ) → Gives q t v u → Gives p s v u

-- ---- MVC

pub leads_from : {A : Type 0} (p : Prog A) (s : List ℕ) → Leads p s p s
leads_from p s = record { gives = λ v u h. h }

pub copy_start : (n a b k x y : ℕ) (s : List ℕ) → k ≡ n → x ≡ a → y ≡ b → Leads (copy n a b) s (copy k x y) s
copy_start n a b k x y s e f g = record { gives = rw (e, f, g) (λ v u h. h) }

module _ (p : Prog (Unit {0})) (r : List ℕ) where
  copy_one : (n a b : ℕ) (s : List ℕ) → Leads p r (copy (suc n) a b) s → Leads p r (copy n (a - 1) (b - 1)) (set s a (get_or s b 0))
  unfolding val fin copy
  copy_one n a b s h = record { gives = λ v u g. h.gives v u g }

  pub copy_turn : (n a b : ℕ) (t : List ℕ) (k x y : ℕ) (s : List ℕ) → Leads p r (copy k x y) s → 0 < k → n ≡ k - 1 → a ≡ x - 1 → b ≡ y - 1 → t ≡ set s x (get_or s y 0)
      → Leads p r (copy n a b) t
  copy_turn n a b t k x y s h l e f g w =
      let i : k ≡ suc n = omega arith in
      rw (f, g, w) (copy_one n x y s (rw i at h))

  pub copy_end : (k x y : ℕ) (s : List ℕ) → Leads p r (copy k x y) s → k ≡ 0 → (m : Machine) → fin p (state m r) ≡ state m s
  unfolding val fin copy
  copy_end k x y s h e m = ((rw (e, copy) at h.gives) tt s (λ m. (refl, refl)) m).1

-- ---- ALC and SLC

-- the borrow of a column, as the code reckons it from the difference that it holds 256 above
pub borrowed : (t x y c : ℕ) → t ≡ x + 256 - (y + c) → t < 512 → 1 - t / 256 ≡ (subtracted x y c).over
borrowed t x y c h k = grind (arith, nat_tests)

-- the columns so far, by the carry as the code holds it
unfoldable pub so_far : Bool → ℕ → Bool → Columns
so_far less carry clear = record { over = over_of less carry; clear = clear }

pub so_far_is : (less : Bool) (carry : ℕ) (clear : Bool) → so_far less carry clear ≡ record { over = over_of less carry; clear = clear }
unfolding so_far
so_far_is less carry clear = refl

module _ (p : Prog Columns) (r : List ℕ) where
  pub columns_one : (column : ℕ → ℕ → ℕ → Column) (n x y : ℕ) (c : Columns) (s : List ℕ)
      → Leads p r (columns column (suc n) x y c) s → Leads p r (columns column n (x - 1) (y - 1) (columns_after column s x y c)) (bytes_next column s x y c)
  unfolding val fin columns
  columns_one column n x y c s h = record { gives = λ v u g. h.gives v u g }

  pub columns_turn : (column : ℕ → ℕ → ℕ → Column) (n a b : ℕ) (d : Columns) (t : List ℕ) (k x y : ℕ) (c : Columns) (s : List ℕ)
      → Leads p r (columns column k x y c) s → 0 < k → n ≡ k - 1 → a ≡ x - 1 → b ≡ y - 1 → d ≡ columns_after column s x y c → t ≡ bytes_next column s x y c
      → Leads p r (columns column n a b d) t
  columns_turn column n a b d t k x y c s h l e f g u v =
      let i : k ≡ suc n = omega arith in
      rw (f, g, u, v) (columns_one column n x y c s (rw i at h))

  pub ones_turn : (less : Bool) (n a b o : ℕ) (z : Bool) (t : List ℕ) (k x y up : ℕ) (w : Bool) (s : List ℕ)
      → Leads p r (columns (column_of less) k x y (so_far less up w)) s → 0 < k → n ≡ k - 1 → a ≡ x - 1 → b ≡ y - 1 → up ≤ 1 → get_or s x 0 < 256 → get_or s y 0 < 256
      → o ≡ (get_or s x 0 + taken less 255 (get_or s y 0) + up) / 256 → z ≡ (w && eqb ((get_or s x 0 + taken less 255 (get_or s y 0) + up) % 256) 0)
      → t ≡ set s x ((get_or s x 0 + taken less 255 (get_or s y 0) + up) % 256)
      → Leads p r (columns (column_of less) n a b (so_far less o z)) t
  unfolding so_far
  ones_turn false n a b o z t k x y up w s h l e f g u v v' i j q = columns_turn added n a b _ t k x y _ s h l e f g (rw (i, j)) q
  ones_turn true n a b o z t k x y up w s h l e f g u v v' i j q =
      let d : get_or s x 0 + (255 - get_or s y 0) + up ≡ get_or s x 0 + 256 - (get_or s y 0 + (1 - up)) = omega arith in
      columns_turn subtracted n a b _ t k x y _ s h l e f g (rw (i, j, d, borrowed _ (get_or s x 0) (get_or s y 0) (1 - up) refl (omega arith)) refl) (q ∙ rw d refl)

  pub columns_end_val : (column : ℕ → ℕ → ℕ → Column) (k x y : ℕ) (c : Columns) (s : List ℕ) → Leads p r (columns column k x y c) s → k ≡ 0 → (m : Machine) → val p (state m r) ≡ c
  unfolding val fin columns
  columns_end_val column k x y c s h e m = ((rw (e, columns) at h.gives) c s (λ m. (refl, refl)) m).0

  pub columns_end_fin : (column : ℕ → ℕ → ℕ → Column) (k x y : ℕ) (c : Columns) (s : List ℕ) → Leads p r (columns column k x y c) s → k ≡ 0 → (m : Machine) → fin p (state m r) ≡ state m s
  unfolding val fin columns
  columns_end_fin column k x y c s h e m = ((rw (e, columns) at h.gives) c s (λ m. (refl, refl)) m).1

pub so_far_from : (less : Bool) (n a b : ℕ) (c : Columns) (up : ℕ) (r : List ℕ) → c.over ≤ 1 → up ≡ over_of less c.over
    → Leads (columns (column_of less) n a b c) r (columns (column_of less) n a b (so_far less up c.clear)) r
unfolding so_far
so_far_from false n a b c up r h e = rw e (leads_from (columns added n a b c) r)
so_far_from true n a b c up r h e = let k : 1 - up ≡ c.over = omega arith in rw k (leads_from (columns subtracted n a b c) r)
