-- A read goes on where the ones before it ended: what it gave stands behind what was filled.
use Rattle.std.proofs.Common.{◌≡◌, ℕ, ◌+◌, ◌≤◌, List, ◌++◌, length, take, Option, sym, ap, ◌∙◌, subst, arith}
use Rattle.std.proofs.lemmas.List.{take-append-le, length-take-le}
use Rattle.std.proofs.Math.Seq.{take-append-add}
use Rattle.std.specs.Io.KnownBytes.{Consumes}
use Rattle.std.proofs.KnownBytes.{Consumes-trans}
use Rattle.input.proofs.fill.Goals as goal

front : (xs ys zs : List ℕ) (k n : ℕ) → k ≤ length xs → n ≤ length ys → take (k + n) (take k xs ++ (ys ++ zs)) ≡ take k xs ++ take n ys
front xs ys zs k n h i =
    ap (λ j. take (j + n) (take k xs ++ (ys ++ zs))) (sym (length-take-le k xs h))
    ∙ take-append-add (take k xs) (ys ++ zs) n
    ∙ ap (λ l. take k xs ++ l) (take-append-le n ys zs i)

more : (a b c : Option (List ℕ)) (xs ys zs : List ℕ) (k n : ℕ) → k ≤ length xs → n ≤ length ys → Consumes a b (take k xs) → Consumes b c (take n ys)
    → Consumes a c (take (k + n) (take k xs ++ (ys ++ zs)))
more a b c xs ys zs k n h i first second = subst (Consumes a c) (sym (front xs ys zs k n h i)) (Consumes-trans a b c (take k xs) (take n ys) first second)

pub loop-filled-preserved : goal.loop-filled-preserved
loop-filled-preserved g c =
    let gave = c.in_ok-n.ensures in
    record {
      within = omega (arith, gave.bound);
      given = more _ _ _ c.loop-filled.buffer c.read.new.buf _ _ c.in_ok-n.n c.loop-filled.invariant.within gave.bound.0 c.loop-filled.invariant.given gave.bytes.0;
    }
