-- The deck runner: the line that it prints for the bytes on its standard input.
use Rattle.std.specs.Prelude.{ℕ, zero, suc, ◌+◌, ◌*◌, ◌/◌, ◌%◌, Bool, cond, ◌||◌, List, [], ◌∷◌, ◌++◌, ltb, length, get_or, replicate, Ok, Err}
use Rattle.manual.specs.declared.Machine.{Machine}
use Rattle.manual.specs.Numbers.{Told, told, fault_number, ReadAnswer}
use Rattle.manual.specs.Run.{RanOutcome, run_of}
use Rattle.manual.specs.Deck.{page_size, ReadOutcome, read_of}

-- ---- text

-- a digit's character: 0 to 9, A to F
abbrev pub character : ℕ → ℕ
character d = cond (ltb d 10) (48 + d) (55 + d)

abbrev pub blank : ℕ
blank = 32

abbrev pub newline : ℕ
newline = 10

-- upper case hexadecimal of full width: two digits a byte, four a register
abbrev pub byte_text : ℕ → List ℕ
byte_text b = character (b / 16) ∷ character (b % 16) ∷ []

abbrev pub word_text : ℕ → List ℕ
word_text w = byte_text (w / 256) ++ byte_text (w % 256)

-- decimal, without leading zeros: the digits before x's last, then its last; n bounds their count
unfoldable pub decimal : ℕ → ℕ → List ℕ
decimal zero x = []
decimal (suc n) x = cond (ltb x 10) (character x ∷ []) (decimal n (x / 10) ++ character (x % 10) ∷ [])

-- seven digits hold the largest count of steps
abbrev pub decimal_text : ℕ → List ℕ
decimal_text x = decimal 8 x

-- ---- the line

abbrev pub registers_text : Machine → List ℕ
registers_text m =
    word_text m.iar ++ blank ∷ word_text m.arr ++ blank ∷ word_text m.xr1 ++ blank ∷ word_text m.xr2 ++ blank
    ∷ word_text (get_or m.wr 0 0) ++ blank ∷ word_text (get_or m.wr 1 0) ++ blank ∷ word_text (get_or m.wr 2 0) ++ blank ∷ word_text (get_or m.wr 3 0)

-- number, the eight registers in deck order, status, steps, Q, R
unfoldable pub run_line : Machine → Told → List ℕ
run_line m t =
    decimal_text t.number ++ blank ∷ registers_text m ++ blank ∷ byte_text m.status ++ blank ∷ decimal_text t.steps ++ blank
    ∷ byte_text t.q ++ blank ∷ byte_text t.r ++ newline ∷ []

-- a refused deck prints its number alone
unfoldable pub number_line : ℕ → List ℕ
number_line n = decimal_text n ++ newline ∷ []

-- ---- the program

-- at most 16,532 bytes and 64 pages
unfoldable pub too_large : List ℕ → Bool
too_large d = ltb 16532 (length d) || ltb 63 (get_or d 1 0)

-- the size in the second byte, 256 bytes if absent
abbrev pub lent_size : List ℕ → ℕ
lent_size d = (get_or d 1 0 + 1) * page_size

abbrev pub budget : ℕ
budget = 1000000

abbrev pub line_of_run : RanOutcome → List ℕ
line_of_run o = run_line o.gave.machine (told o.gave.ended)

abbrev pub read_line : ReadAnswer → ReadOutcome → List ℕ
read_line (Ok tt) o = line_of_run (run_of o.gave.machine o.storage budget)
read_line (Err x) o = number_line (fault_number x)

-- 18 is told before other refusals
unfoldable pub line_of : List ℕ → List ℕ
line_of d =
    let o : ReadOutcome = read_of d (replicate (lent_size d) 0) in
    cond (too_large d) (number_line 18) (read_line o.gave.answer o)
