-- What is known after one more directive.
use Rattle.std.proofs.Common.{◌≡◌, ◌≢◌, ◌<◌, ℕ, Bool, true, false, ◌&&◌, List, [], ◌∷◌, map, refl, sym, ◌∙◌, ap, cond, arith}
use Rattle.std.specs.Prelude.{zero, suc, not, is_some, Option, Some, None, IfSome, nat_eq, slice_index_or, slice_set}
use Rattle.std.specs.Option.{unwrap_or}
use Rattle.std.specs.Borrow.{Bor}
use Rattle.std.specs.Char.{to_ascii_lowercase}
use Rattle.std.specs.List.{position, list_all}
use Rattle.std.specs.Str.{is_utf8, str_eq_ignore_ascii_case}
use Rattle.std.specs.Cmp.Lexicographic.{pointwise}
use Rattle.std.proofs.Math.ListN.{get_or}
use Rattle.std.proofs.lemmas.List.{get_or-set_same, get_or-set_other, length-set}
use Rattle.std.proofs.lemmas.List.Quantifiers.{position-Some}
use Rattle.head_directives.specs.Written.{Written}
use Rattle.head_directives.specs.Names.{own_names, place_of}
use Rattle.head_directives.specs.Keeps.{keep, value_named}
use Rattle.head_directives.specs.Known.{said_in, KnowsBy}
use Rattle.head_directives.proofs.LastValue.{same, equal, after_keep}

-- the first of these names that a name is in any case is in its place
pub first_place : (name : List ℕ) → position (λ own. str_eq_ignore_ascii_case name own) own_names ≡ place_of (map to_ascii_lowercase name)
first_place name = refl

-- names with one place are the same
same_name : (a b : List ℕ) (place : ℕ) → place_of a ≡ Some place → place_of b ≡ Some place → a ≡ b
same_name a b place ha hb =
    let x = position-Some (λ own. pointwise nat_eq a own) own_names place [] ha in
    let y = position-Some (λ own. pointwise nat_eq b own) own_names place [] hb in
    equal a (get_or own_names place []) x.1 ∙ sym (equal b (get_or own_names place []) y.1)

-- a place is one of fourteen
pub placed_within : (found : Option ℕ) (name : List ℕ) → found ≡ place_of name → IfSome found (λ place. place < 14)
placed_within None name h = tt
placed_within (Some place) name h = (position-Some (λ own. pointwise nat_eq name own) own_names place [] (sym h)).0

differ : false ≡ true → ⊥
differ h = cc

none_is_some : (place : ℕ) → None ≡ Some place → ⊥
none_is_some place h = cc

-- a name without a place changes nothing that is known
pub known_unchanged : (said : List (Option (Option (Bor (List ℕ))))) (ds : List Written) (d : Written) → place_of (map to_ascii_lowercase d.0) ≡ None
    → KnowsBy said ds → KnowsBy said (keep ds d)
known_unchanged said ds d none known = (
  known.0,
  λ name place h.
      known.1 name place h ∙ sym (after_keep name ds d ∙ go name place h (is_utf8 d.0) (pointwise nat_eq name (map to_ascii_lowercase d.0)) refl),
)
  where
    go : (name : List ℕ) (place : ℕ) → place_of name ≡ Some place → (u t : Bool) → pointwise nat_eq name (map to_ascii_lowercase d.0) ≡ t
        → cond (u && t) (Some d.1) (value_named name ds) ≡ value_named name ds
    go name place h false t e = refl
    go name place h true false e = refl
    go name place h true true e = absurd (none_is_some place (sym none ∙ ap place_of (sym (equal name (map to_ascii_lowercase d.0) e)) ∙ h))

-- one that is no text isn't kept
pub known_without : (said : List (Option (Option (Bor (List ℕ))))) (ds : List Written) (d : Written) → is_utf8 d.0 ≡ false → KnowsBy said ds → KnowsBy said (keep ds d)
known_without said ds d none known = rw none known

-- what is said under a name stands in its place
pub known_next : (said : List (Option (Option (Bor (List ℕ))))) (ds : List Written) (d : Written) (place : ℕ) (value : Option (Bor (List ℕ)))
    → is_utf8 d.0 ≡ true → place_of (map to_ascii_lowercase d.0) ≡ Some place → place < 14 → said_in (Some value) ≡ Some d.1
    → KnowsBy said ds → KnowsBy (slice_set said place (Some value)) (keep ds d)
known_next said ds d place value text at within is known = (
  length-set said place (Some value) ∙ known.0,
  λ name p h.
      go name p h (pointwise nat_eq name (map to_ascii_lowercase d.0)) refl
      ∙ sym (after_keep name ds d ∙ ap (λ u. cond (u && pointwise nat_eq name (map to_ascii_lowercase d.0)) (Some d.1) (value_named name ds)) text),
)
  where
    go : (name : List ℕ) (p : ℕ) → place_of name ≡ Some p → (t : Bool) → pointwise nat_eq name (map to_ascii_lowercase d.0) ≡ t
        → said_in (slice_index_or (slice_set said place (Some value)) p None) ≡ cond t (Some d.1) (value_named name ds)
    go name p h true e =
        let same_place : p ≡ place = ap (λ (o : Option ℕ). unwrap_or o place) (sym h ∙ ap place_of (equal name (map to_ascii_lowercase d.0) e) ∙ at) in
        ap (λ q. said_in (slice_index_or (slice_set said place (Some value)) q None)) same_place
        ∙ ap said_in (get_or-set_same said place (Some value) None (omega (arith, within, known.0)))
        ∙ is
    go name p h false e =
        ap said_in (get_or-set_other said place p (Some value) None other) ∙ known.1 name p h
      where
        other : p ≢ place
        other k = differ (sym e ∙ ap (λ l. pointwise nat_eq l (map to_ascii_lowercase d.0)) (same_name name (map to_ascii_lowercase d.0) place (h ∙ ap Some k) at) ∙ same (map to_ascii_lowercase d.0))

all_none : (xs : List (Option (Option (Bor (List ℕ))))) → list_all (λ x. not (is_some x)) xs ≡ true → (place : ℕ) → slice_index_or xs place None ≡ None
all_none [] h place = refl
all_none (None ∷ xs) h zero = refl
all_none (None ∷ xs) h (suc place) = all_none xs h place
all_none (Some x ∷ xs) h place = cc

abbrev nothing_said : List (Option (Option (Bor (List ℕ))))
nothing_said = None ∷ None ∷ None ∷ None ∷ None ∷ None ∷ None ∷ None ∷ None ∷ None ∷ None ∷ None ∷ None ∷ None ∷ []

-- where nothing is said in fourteen places, no directives are known
pub known_nothing : KnowsBy nothing_said []
known_nothing = (refl, λ name place at. ap said_in (all_none nothing_said refl place))
