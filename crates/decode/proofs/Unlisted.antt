-- The opcodes that the decoder doesn't name one by one: of two addresses, or naming nothing.
use Rattle.std.proofs.Common.{Option, Some, None, ◌≡◌, refl, Bool, true, false, List, [], ◌∷◌, ℕ, ◌/◌, ◌%◌, ◌<◌, T, get_or}
use Rattle.std.proofs.lemmas.Bool.{agree_below, agree_below_at}
use Rattle.manual.specs.declared.Group.{Group}
use Rattle.manual.specs.declared.Group.TheVariants.{TwoAddress, OneAddress, Branch, Jump}
use Rattle.manual.specs.Formats.{two_address, form_of, named_of, operation_of, allowed}
use Rattle.decode.specs.Fetching.{is_unknown, is_pair_or, unlisted, allows_named}
use Rattle.decode.proofs.Rest.{Rest, Passed, by_rest}
use Rattle.manual.specs.declared.Operation.{Operation}

pub is_unknown_lem : (n : Option Operation) → T (is_unknown n) → n ≡ None
is_unknown_lem None t = refl
is_unknown_lem (Some op) t = absurd t

nothing : (g : Group) (n : Option Operation) → T (is_pair_or g (is_unknown n)) → is_pair_or g false ≡ false → n ≡ None
nothing TwoAddress n t h = cc
nothing OneAddress n t h = is_unknown_lem n t
nothing Branch n t h = is_unknown_lem n t
nothing Jump n t h = is_unknown_lem n t

-- a form of another group than the two addresses' names nothing here
pub names_nothing : (o : ℕ) → T (unlisted o) → is_pair_or (form_of (o / 16)).group false ≡ false → operation_of o ≡ None
unfolding unlisted
names_nothing o t h = nothing (form_of (o / 16)).group (operation_of o) t h

unpaired : (g : Group) (r : ℕ) → T (is_pair_or g (is_unknown (named_of g r))) → get_or two_address r None ≡ None → named_of g r ≡ None
unpaired TwoAddress r t h = unfold named_of in h
unpaired OneAddress r t h = is_unknown_lem (named_of OneAddress r) t
unpaired Branch r t h = is_unknown_lem (named_of Branch r) t
unpaired Jump r t h = is_unknown_lem (named_of Jump r) t

-- nor does a right digit that names no pair
pub no_pair : (o : ℕ) → T (unlisted o) → get_or two_address (o % 16) None ≡ None → operation_of o ≡ None
unfolding unlisted
no_pair o t h = unpaired (form_of (o / 16)).group (o % 16) t h

-- the opcodes that the decoder names one by one, the last first
abbrev pub listed : List ℕ
listed =
    0xF4 ∷ 0xF2 ∷ 0xF1 ∷ 0xF0 ∷ 0xE2 ∷ 0xE0 ∷ 0xD2 ∷ 0xD0 ∷ 0xC2 ∷ 0xC0 ∷ 0xBF ∷ 0x7F ∷ 0x3F ∷ 0xBD ∷ 0x7D
    ∷ 0x3D ∷ 0xBC ∷ 0x7C ∷ 0x3C ∷ 0xBB ∷ 0x7B ∷ 0x3B ∷ 0xBA ∷ 0x7A ∷ 0x3A ∷ 0xB9 ∷ 0x79 ∷ 0x39 ∷ 0xB8 ∷ 0x78
    ∷ 0x38 ∷ 0xB7 ∷ 0x77 ∷ 0x37 ∷ 0xB6 ∷ 0x76 ∷ 0x36 ∷ 0xB5 ∷ 0x75 ∷ 0x35 ∷ 0xB4 ∷ 0x74 ∷ 0x34 ∷ []

all_others : Passed listed unlisted
unfolding unlisted form_of named_of
all_others = refl

pub others : (o : ℕ) → o < 256 → Rest listed o → T (unlisted o)
others o h n = rw (by_rest listed unlisted all_others o h n) tt

-- MVX's right digit apart, every Q byte is allowed
abbrev all_allowed : ℕ → Bool
all_allowed k = agree_below (λ q. allows_named (get_or two_address k None) q) (λ _. true) 256

all_free : Passed (8 ∷ []) all_allowed
unfolding allowed
all_free = refl

pub others_allow : (k q : ℕ) → k < 256 → q < 256 → (k ≡ 8 → ⊥) → allows_named (get_or two_address k None) q ≡ true
others_allow k q h l n =
    agree_below_at (λ q. allows_named (get_or two_address k None) q) (λ _. true) 256 q (by_rest (8 ∷ []) all_allowed all_free k h (tt, n)) l
