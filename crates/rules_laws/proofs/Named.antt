-- The values of a name in lines that are joined, or of which some are left out by their names.
use Rattle.std.proofs.Common.{◌≡◌, ℕ, List, [], ◌∷◌, ◌++◌, refl, sym, ap, ◌∙◌, Bool, true, false, cond, map, filter}
use Rattle.std.proofs.lemmas.Slice.Eq.{bytes_eq-Decides}
use Rattle.rules_fields.specs.Texts.{small}
use Rattle.rules_fields.specs.Fields.{Field, is_named, all}
use Rattle.rules_laws.specs.Alike.{AreAlike}

pub all_joined : (name : List ℕ) (xs ys : List Field) → all name (xs ++ ys) ≡ all name xs ++ all name ys
all_joined name [] ys = refl
all_joined name (f ∷ xs) ys = go (is_named name f) (all_joined name xs ys)
  where
    go : (t : Bool) → all name (xs ++ ys) ≡ all name xs ++ all name ys
        → map (λ g. g.1) (cond t (f ∷ filter (is_named name) (xs ++ ys)) (filter (is_named name) (xs ++ ys)))
        ≡ map (λ g. g.1) (cond t (f ∷ filter (is_named name) xs) (filter (is_named name) xs)) ++ all name ys
    go true h = ap (λ (vs : List (List ℕ)). f.1 ∷ vs) h
    go false h = h

-- lines whose name in small letters passes
abbrev pub passing : (List ℕ → Bool) → List Field → List Field
passing p lines = filter (λ f. p (small f.0)) lines

either_way : (t : Bool) (vs : List (List ℕ)) → vs ≡ cond t vs vs
either_way true vs = refl
either_way false vs = refl

pub all_passing : (p : List ℕ → Bool) (name : List ℕ) (lines : List Field) → all name (passing p lines) ≡ cond (p name) (all name lines) []
all_passing p name [] = either_way (p name) []
all_passing p name (f ∷ lines) = go (is_named name f) (p (small f.0)) refl refl (all_passing p name lines)
  where
    named : is_named name f ≡ true → p (small f.0) ≡ p name
    named e = ap p ((bytes_eq-Decides (small f.0) name).0 e)

    go : (t s : Bool) → is_named name f ≡ t → p (small f.0) ≡ s → all name (passing p lines) ≡ cond (p name) (all name lines) []
        → all name (passing p (f ∷ lines)) ≡ cond (p name) (all name (f ∷ lines)) []
    go true true e k rest =
        let passes : p name ≡ true = sym (named e) ∙ k in
        rw (k, e, passes) (ap (λ (vs : List (List ℕ)). f.1 ∷ vs) (rest ∙ rw passes refl))
    go true false e k rest =
        let fails : p name ≡ false = sym (named e) ∙ k in
        rw (k, fails) (rest ∙ rw fails refl)
    go false true e k rest = rw (k, e) rest
    go false false e k rest = rw (k, e) rest

pub joined_alike : (xs ys more : List Field) → AreAlike xs ys → AreAlike (xs ++ more) (ys ++ more)
joined_alike xs ys more a name = all_joined name xs more ∙ ap (λ (vs : List (List ℕ)). vs ++ all name more) (a name) ∙ sym (all_joined name ys more)

pub passing_alike : (p : List ℕ → Bool) (lines other : List Field) → AreAlike lines other → AreAlike (passing p lines) (passing p other)
passing_alike p lines other a name =
    all_passing p name lines ∙ ap (λ (vs : List (List ℕ)). cond (p name) vs []) (a name) ∙ sym (all_passing p name other)
