-- MVX, ED, ITC.
use Rattle.std.specs.Prelude.{Bool, cond, ◌&&◌, List, [], ◌∷◌, ℕ, zero, suc, ◌+◌, ◌-◌, ◌*◌, ◌%◌, eqb, leb, get_or, drop, Ok}
use Rattle.manual.specs.declared.Fields.{Fields}
use Rattle.manual.specs.declared.Register.TheVariants.{Arr}
use Rattle.manual.specs.Places.{mem, reg}
use Rattle.manual.specs.Programs.{Prog, ret, rd, wr, ◌>>=◌, ◌>>◌, leftward, go, Rule, unless, and_then, Way}
use Rattle.manual.specs.TheMachine.{set_order}
use Rattle.manual.specs.Formats.{reach, reach_right}
use Rattle.manual.specs.Values.{digit, zone, value, digits_of, sign_order}

-- ---- MVX, one byte each

-- the byte x of operand 1 with a half of the byte y of operand 2.
-- Q 00 zone to zone, 01 digit to zone, 02 zone to digit, 03 digit to digit
unfoldable pub half_moved : ℕ → ℕ → ℕ → ℕ
half_moved q x y =
    cond (eqb q 0x00) (zone y * 16 + digit x)
    (cond (eqb q 0x01) (digit y * 16 + digit x)
    (cond (eqb q 0x02) (zone x * 16 + zone y)
    (zone x * 16 + digit y)))

unfoldable pub mvx : Fields → Rule
mvx f g =
    unless (and_then (reach g.size 1 f.a1) (reach g.size 1 f.a2))
    (rd (mem f.a2) λ y. rd (mem f.a1) λ x. wr (mem f.a1) (half_moved f.q x y) (ret (go f.next g.status)))

-- ---- ED, Q is L1-1

-- a byte 20 of the pattern takes a digit
abbrev pub takes_digit : ℕ → Bool
takes_digit p = eqb p 0x20

-- operand 2 is as long as the count of 20s
unfoldable pub count20 : List ℕ → ℕ
count20 [] = 0
count20 (p ∷ ps) = cond (takes_digit p) (suc (count20 ps)) (count20 ps)

-- with none, operand 2 isn't read or checked
unfoldable pub source_reach : ℕ → ℕ → ℕ → Way
source_reach size n a = cond (eqb n 0) (Ok tt) (reach size n a)

-- each byte 20 of the pattern, from the right, takes the next digit of operand 2 from the right with zone F
unfoldable pub put_edited : List ℕ → List ℕ → ℕ → Prog (Unit {0})
put_edited [] ys a = ret tt
put_edited (p ∷ ps) ys a = cond (takes_digit p) (wr (mem a) (0xF0 + digit (get_or ys 0 0)) (put_edited ps (drop 1 ys) (a - 1))) (put_edited ps ys (a - 1))

-- the pattern is checked for 7 first, then operand 2; both are read whole first. Status as for the value of operand 2, equal where it is empty
unfoldable pub ed : Fields → Rule
ed f g =
    unless (reach g.size (f.q + 1) f.a1)
    (leftward (f.q + 1) f.a1 >>= λ ps.
    unless (source_reach g.size (count20 ps) f.a2)
    (leftward (count20 ps) f.a2 >>= λ ys.
    unless (digits_of ys) (put_edited ps ys f.a1 >> ret (go f.next (set_order (sign_order (value ys)) g.status)))))

-- ---- ITC, Q is L1-1; operand 1 alone is addressed by its leftmost byte

-- one of F1 to F9
abbrev pub ends_scan : ℕ → Bool
ends_scan b = leb 0xF1 b && leb b 0xF9

-- from the left, bytes other than F1 to F9 become v until one of F1 to F9 is met: its address or, if none, the address after the field
unfoldable pub scan : ℕ → ℕ → ℕ → Prog ℕ
scan zero a v = ret a
scan (suc n) a v = rd (mem a) λ b. cond (ends_scan b) (ret a) (wr (mem a) v (scan n (a + 1) v))

-- operand 2 is one byte, read first
unfoldable pub itc : Fields → Rule
itc f g =
    unless (and_then (reach_right g.size (f.q + 1) f.a1) (reach g.size 1 f.a2))
    (rd (mem f.a2) λ v. scan (f.q + 1) f.a1 v >>= λ end. wr (reg Arr) (end % 65536) (ret (go f.next g.status)))
