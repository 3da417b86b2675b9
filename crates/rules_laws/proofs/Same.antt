-- What depends on the values of names alone.
use Rattle.std.proofs.Common.{◌≡◌, ℕ, List, [], ◌∷◌, refl, sym, ap, ◌∙◌, Bool, true, false, map, codes}
use Rattle.std.specs.Prelude.{Option, Some, None}
use Rattle.std.specs.List.{flat_map}
use Rattle.rules_fields.specs.Texts.{small}
use Rattle.rules_fields.specs.Fields.{Field, is_named, all, first, elements_of, tokens}
use Rattle.rules_fields.specs.Directives.{directives, directives_of}
use Rattle.rules_fields.specs.Targeted.{targeted, preferred, dictionary, joined}
use Rattle.rules_fields.specs.Rows.{first_given}
use Rattle.rules_fields.specs.Meaning.{Meaning}
use Rattle.rules_fields.specs.Types.{Chosen}
use Rattle.rules_fields.specs.Says.{said_in, says}
use Rattle.rules_laws.specs.Alike.{AreAlike}

abbrev pub head : List (List ℕ) → Option (List ℕ)
head [] = None
head (v ∷ vs) = Some v

pub first_is : (name : List ℕ) (lines : List Field) → first name lines ≡ head (all name lines)
first_is name [] = refl
first_is name (f ∷ lines) = go (is_named name f) refl (first_is name lines)
  where
    go : (t : Bool) → is_named name f ≡ t → first name lines ≡ head (all name lines) → first name (f ∷ lines) ≡ head (all name (f ∷ lines))
    go true e rest = rw e refl
    go false e rest = rw e rest

pub first_same : (lines other : List Field) → AreAlike lines other → (name : List ℕ) → first name lines ≡ first name other
first_same lines other a name = first_is name lines ∙ ap head (a name) ∙ sym (first_is name other)

pub tokens_same : (lines other : List Field) → AreAlike lines other → (name : List ℕ) → tokens name lines ≡ tokens name other
tokens_same lines other a name = ap (λ (vs : List (List ℕ)). map small (flat_map elements_of vs)) (a name)

pub directives_same : (lines other : List Field) → AreAlike lines other → (name : List ℕ) → directives name lines ≡ directives name other
directives_same lines other a name = ap (flat_map directives_of) (a name)

targeted_same : (lines other : List Field) → AreAlike lines other → (names : List (List ℕ)) → map (λ n. targeted n lines) names ≡ map (λ n. targeted n other) names
targeted_same lines other a [] = refl
targeted_same lines other a (n ∷ names) =
    ap (λ (vs : List (List ℕ)). dictionary (joined vs) ∷ map (λ m. targeted m lines) names) (a n)
    ∙ ap (λ (ds : List (Option (List Meaning))). targeted n other ∷ ds) (targeted_same lines other a names)

said_same : (lines other : List Field) → AreAlike lines other → (own : Option (List Meaning)) → said_in lines own ≡ said_in other own
said_same lines other a None =
    ap (λ (ds : List Meaning). record { directives = ds; expires = first (codes "expires") lines; is_targeted = false }) (directives_same lines other a (codes "cache-control"))
    ∙ ap (λ (e : Option (List ℕ)). record { directives = directives (codes "cache-control") other; expires = e; is_targeted = false }) (first_same lines other a (codes "expires"))
said_same lines other a (Some own) = refl

pub says_same : (lines other : List Field) → AreAlike lines other → (o : Chosen) → says lines o ≡ says other o
says_same lines other a o = ap (said_in lines) (ap first_given (targeted_same lines other a o.targeted)) ∙ said_same lines other a (preferred o.targeted other)
