-- A rule is a program of reads and writes over places: what it gives, leaves, reads and writes. An overlap is the order of its reads and writes.
use Rattle.std.specs.Prelude.{Bool, true, false, ◌||◌, List, [], ◌∷◌, ℕ, zero, suc, ◌+◌, ◌-◌, Result, Ok, Err}
use Rattle.manual.specs.declared.Stop.{Stop}
use Rattle.manual.specs.Places.{Place, mem, State, look, put, same}

pub data Prog (A : Type 0) : Type 0 where
  ret : A → Prog A
  rd : Place → (ℕ → Prog A) → Prog A
  wr : Place → ℕ → Prog A → Prog A

module _ {A : Type 0} where
  -- what the program gives
  unfoldable pub val : Prog A → State → A
  val (ret x) σ = x
  val (rd l k) σ = val (k (look l σ)) σ
  val (wr l v p) σ = val p (put l v σ)

  -- what it leaves
  unfoldable pub fin : Prog A → State → State
  fin (ret x) σ = σ
  fin (rd l k) σ = fin (k (look l σ)) σ
  fin (wr l v p) σ = fin p (put l v σ)

  -- whether it reads the place x
  unfoldable pub reads : Prog A → State → Place → Bool
  reads (ret v) σ x = false
  reads (rd l k) σ x = same l x || reads (k (look l σ)) σ x
  reads (wr l v p) σ x = reads p (put l v σ) x

  -- the places that it writes, in order
  unfoldable pub wrote : Prog A → State → List Place
  wrote (ret x) σ = []
  wrote (rd l k) σ = wrote (k (look l σ)) σ
  wrote (wr l v p) σ = l ∷ wrote p (put l v σ)

infixl 20 ◌>>=◌
infixl 20 ◌>>◌
-- one program, and then another of what it gave
unfoldable pub ◌>>=◌ : {A B : Type 0} → Prog A → (A → Prog B) → Prog B
ret x >>= f = f x
rd l k >>= f = rd l (λ v. k v >>= f)
wr l v p >>= f = wr l v (p >>= f)

abbrev pub ◌>>◌ : {A B : Type 0} → Prog A → Prog B → Prog B
p >> q = p >>= λ _. q

-- n bytes from the address a to the right
unfoldable pub rightward : ℕ → ℕ → Prog (List ℕ)
rightward zero a = ret []
rightward (suc n) a = rd (mem a) λ v. rightward n (a + 1) >>= λ vs. ret (v ∷ vs)

-- n bytes from the address a to the left: an operand's bytes, the rightmost first
unfoldable pub leftward : ℕ → ℕ → Prog (List ℕ)
leftward zero a = ret []
leftward (suc n) a = rd (mem a) λ v. leftward n (a - 1) >>= λ vs. ret (v ∷ vs)

-- ---- the rule of a step or an instruction

-- it stops, or goes on at an address with a status
pub data Out : Type 0 where
  stop : Stop → Out
  go : (iar status : ℕ) → Out

-- what a rule is given by value
pub record Given : Type 0 where
  pub size : ℕ
  pub iar : ℕ
  pub status : ℕ

abbrev pub Rule : Type 0
Rule = Given → Prog Out

-- what stands in an instruction's way: nothing, or a stop
abbrev pub Way : Type 0
Way = Result (Unit {0}) Stop

abbrev pub clear : Way → Bool
clear (Ok tt) = true
clear (Err x) = false

-- the program, unless a stop stands in its way
unfoldable pub unless : Way → Prog Out → Prog Out
unless (Ok tt) p = p
unless (Err x) p = ret (stop x)

-- the first of two that stands in the way
unfoldable pub and_then : Way → Way → Way
and_then (Ok tt) w = w
and_then (Err x) w = Err x
