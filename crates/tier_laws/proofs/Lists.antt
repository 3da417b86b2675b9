-- Lists that are changed and filtered.
use Rattle.std.proofs.Common.{◌≡◌, refl, ap, ◌∙◌, true, false, subst, cond, [], ◌∷◌, ◌++◌}
use Rattle.std.specs.Prelude.{Bool, List, Some, None, is_some, map, filter, find}
use Rattle.std.specs.List.{AllByRecursion}
use Rattle.tier_model.specs.Calls.{extended}

pub all-changed : {X : Type 0} (P Q : X → Type 0) (g : X → X) (xs : List X) → ((x : X) → P x → Q (g x)) → AllByRecursion P xs → AllByRecursion Q (map g xs)
all-changed P Q g [] h a = tt
all-changed P Q g (x ∷ xs) h a = (h x a.0, all-changed P Q g xs h a.1)

pub all-mapped : {X : Type 0} (P Q : X → Type 0) (xs : List X) → ((x : X) → P x → Q x) → AllByRecursion P xs → AllByRecursion Q xs
all-mapped P Q [] h a = tt
all-mapped P Q (x ∷ xs) h a = (h x a.0, all-mapped P Q xs h a.1)

pub all-pushed : {X : Type 0} (P : X → Type 0) (xs : List X) (y : X) → AllByRecursion P xs → P y → AllByRecursion P (xs ++ y ∷ [])
all-pushed P [] y a h = (h, tt)
all-pushed P (x ∷ xs) y a h = (a.0, all-pushed P xs y a.1 h)

pub all-filtered : {X : Type 0} (P Q : X → Type 0) (p : X → Bool) (xs : List X) → ((x : X) → p x ≡ true → P x → Q x) → AllByRecursion P xs → AllByRecursion Q (filter p xs)
all-filtered P Q p [] h a = tt
all-filtered P Q p (x ∷ xs) h a = by_test (p x) refl (all-filtered P Q p xs h a.1)
  where
    by_test : (v : Bool) → p x ≡ v → AllByRecursion Q (filter p xs) → AllByRecursion Q (cond v (x ∷ filter p xs) (filter p xs))
    by_test true e rest = (h x e a.0, rest)
    by_test false e rest = rest

-- what came after more
pub extended-both : {X : Type 0} (past xs ys : List X) → extended past (xs ++ ys) ≡ extended (extended past xs) ys
extended-both past [] ys = refl
extended-both past (x ∷ xs) ys = extended-both (x ∷ past) xs ys

-- what is found passes what all pass
pub found-holds : {X : Type 0} (P : X → Type 0) (p : X → Bool) (xs : List X) (x : X) → AllByRecursion P xs → find p xs ≡ Some x → P x
found-holds P p [] x a e = absurd cc
found-holds P p (y ∷ ys) x a e = by_test (p y) e (found-holds P p ys x a.1)
  where
    by_test : (v : Bool) → cond v (Some y) (find p ys) ≡ Some x → (find p ys ≡ Some x → P x) → P x
    by_test true e ih = let same : y ≡ x = cc in subst P same a.0
    by_test false e ih = ih e

-- the last is found, where none before it is
pub found-last : {X : Type 0} (p : X → Bool) (xs : List X) (y : X) → p y ≡ true → is_some (find p (xs ++ y ∷ [])) ≡ true
found-last p [] y e = ap (λ (v : Bool). is_some (cond v (Some y) None)) e
found-last p (x ∷ xs) y e = by_test (p x) (found-last p xs y e)
  where
    by_test : (v : Bool) → is_some (find p (xs ++ y ∷ [])) ≡ true → is_some (cond v (Some x) (find p (xs ++ y ∷ []))) ≡ true
    by_test true ih = refl
    by_test false ih = ih

-- a list of which none passes
pub none-found : {X : Type 0} (P : X → Type 0) (p : X → Bool) (xs : List X) → ((x : X) → P x → p x ≡ false) → AllByRecursion P xs → find p xs ≡ None
none-found P p [] h a = refl
none-found P p (x ∷ xs) h a = ap (λ (v : Bool). cond v (Some x) (find p xs)) (h x a.0) ∙ none-found P p xs h a.1

-- a list of which all pass
pub all-kept : {X : Type 0} (P : X → Type 0) (p : X → Bool) (xs : List X) → ((x : X) → P x → p x ≡ true) → AllByRecursion P xs → filter p xs ≡ xs
all-kept P p [] h a = refl
all-kept {X = X} P p (x ∷ xs) h a = ap (λ (v : Bool). cond v (x ∷ filter p xs) (filter p xs)) (h x a.0) ∙ ap (λ (ys : List X). x ∷ ys) (all-kept P p xs h a.1)

-- a list of which each stays
pub all-same : {X : Type 0} (P : X → Type 0) (g : X → X) (xs : List X) → ((x : X) → P x → g x ≡ x) → AllByRecursion P xs → map g xs ≡ xs
all-same P g [] h a = refl
all-same {X = X} P g (x ∷ xs) h a = ap (λ (y : X). y ∷ map g xs) (h x a.0) ∙ ap (λ (ys : List X). x ∷ ys) (all-same P g xs h a.1)
