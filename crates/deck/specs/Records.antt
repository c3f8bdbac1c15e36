-- A record by its kind, and a page's record taken apart.
use Rattle.std.specs.Prelude.{ℕ, ◌≡◌, ◌≤◌, Bool, cond, not, List, eqb, length, get_or, take, drop}
use Rattle.deck.specs.declared.format.Kind.{Kind}
use Rattle.deck.specs.declared.format.Kind.TheVariants.{Machine, Page as PageKind, End}
use Rattle.deck.specs.declared.reader.Page.{Page}

-- the byte that a record of this kind begins with
abbrev pub kind_byte : Kind → ℕ
kind_byte Machine = 0x01
kind_byte PageKind = 0x02
kind_byte End = 0x03

-- whether the record at the front of d may stand there: a machine's first, and nowhere else
abbrev pub in_order : Bool → List ℕ → Bool
in_order first d = cond first (eqb (get_or d 0 0) 0x01) (not (eqb (get_or d 0 0) 0x01))

-- the record 02 at the front of d has this page, and t is what is behind it
pub record IsPage (d : List ℕ) (p : Page) (t : List ℕ) : Type 0 where
  pub kind : get_or d 0 0 ≡ 2
  pub whole : 258 ≤ length d
  pub number : p.number ≡ get_or d 1 0
  pub bytes : p.bytes.now ≡ take 256 (drop 2 d)
  pub behind : t ≡ drop 258 d
