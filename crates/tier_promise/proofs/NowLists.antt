-- Lists that are changed and filtered, and what is seen of them.
use Rattle.std.proofs.Common.{◌≡◌, refl, ap, sym, ◌∙◌, true, false, subst, cond, [], ◌∷◌, ◌++◌}
use Rattle.std.specs.Prelude.{Bool, List, Some, option_map, map, filter, find}
use Rattle.std.specs.List.{AllByRecursion}
use Rattle.tier_model.specs.Calls.{extended}

-- what is seen of those that a change leaves as they are seen, and what passes a test
pub seen-changed : {X Y : Type 0} (p : X → Bool) (g : X → X) (see : X → Y) (xs : List X) → ((x : X) → p (g x) ≡ p x) → ((x : X) → see (g x) ≡ see x)
    → map see (filter p (map g xs)) ≡ map see (filter p xs)
seen-changed p g see [] passes same = refl
seen-changed {Y = Y} p g see (x ∷ xs) passes same = rw (passes x) (by_test (p x) (seen-changed p g see xs passes same))
  where
    by_test : (v : Bool) → map see (filter p (map g xs)) ≡ map see (filter p xs) → map see (cond v (g x ∷ filter p (map g xs)) (filter p (map g xs))) ≡ map see (cond v (x ∷ filter p xs) (filter p xs))
    by_test true ih = ap (λ (y : Y). y ∷ map see (filter p (map g xs))) (same x) ∙ ap (λ (ys : List Y). see x ∷ ys) ih
    by_test false ih = ih

pub none-changed : {X : Type 0} (p : X → Bool) (g : X → X) (xs : List X) → ((x : X) → p (g x) ≡ false) → filter p (map g xs) ≡ []
none-changed p g [] fails = refl
none-changed p g (x ∷ xs) fails = rw (fails x) (none-changed p g xs fails)

pub all-changed : {X : Type 0} (P Q : X → Type 0) (g : X → X) (xs : List X) → ((x : X) → P x → Q (g x)) → AllByRecursion P xs → AllByRecursion Q (map g xs)
all-changed P Q g [] h a = tt
all-changed P Q g (x ∷ xs) h a = (h x a.0, all-changed P Q g xs h a.1)

pub all-mapped : {X : Type 0} (P Q : X → Type 0) (xs : List X) → ((x : X) → P x → Q x) → AllByRecursion P xs → AllByRecursion Q xs
all-mapped P Q [] h a = tt
all-mapped P Q (x ∷ xs) h a = (h x a.0, all-mapped P Q xs h a.1)

pub all-pushed : {X : Type 0} (P : X → Type 0) (xs : List X) (y : X) → AllByRecursion P xs → P y → AllByRecursion P (xs ++ y ∷ [])
all-pushed P [] y a h = (h, tt)
all-pushed P (x ∷ xs) y a h = (a.0, all-pushed P xs y a.1 h)

pub both-all : {X : Type 0} (P : X → Type 0) (xs ys : List X) → AllByRecursion P xs → AllByRecursion P ys → AllByRecursion P (xs ++ ys)
both-all P [] ys a b = b
both-all P (x ∷ xs) ys a b = (a.0, both-all P xs ys a.1 b)

-- what came after more
pub extended-both : {X : Type 0} (past xs ys : List X) → extended past (xs ++ ys) ≡ extended (extended past xs) ys
extended-both past [] ys = refl
extended-both past (x ∷ xs) ys = extended-both (x ∷ past) xs ys

pub all-filtered : {X : Type 0} (P Q : X → Type 0) (p : X → Bool) (xs : List X) → ((x : X) → p x ≡ true → P x → Q x) → AllByRecursion P xs → AllByRecursion Q (filter p xs)
all-filtered P Q p [] h a = tt
all-filtered P Q p (x ∷ xs) h a = by_test (p x) refl (all-filtered P Q p xs h a.1)
  where
    by_test : (v : Bool) → p x ≡ v → AllByRecursion Q (filter p xs) → AllByRecursion Q (cond v (x ∷ filter p xs) (filter p xs))
    by_test true e rest = (h x e a.0, rest)
    by_test false e rest = rest

pub filter-pushed : {X : Type 0} (p : X → Bool) (xs : List X) (y : X) → filter p (xs ++ y ∷ []) ≡ filter p xs ++ cond (p y) (y ∷ []) []
filter-pushed p [] y = refl
filter-pushed {X = X} p (x ∷ xs) y = by_test (p x) (filter-pushed p xs y)
  where
    by_test : (v : Bool) → filter p (xs ++ y ∷ []) ≡ filter p xs ++ cond (p y) (y ∷ []) []
        → cond v (x ∷ filter p (xs ++ y ∷ [])) (filter p (xs ++ y ∷ [])) ≡ cond v (x ∷ filter p xs) (filter p xs) ++ cond (p y) (y ∷ []) []
    by_test true ih = ap (λ (ys : List X). x ∷ ys) ih
    by_test false ih = ih

-- those that are seen alike, where a property holds of each
pub seen-alike : {X Y : Type 0} (P : X → Type 0) (f g : X → Y) (xs : List X) → ((x : X) → P x → f x ≡ g x) → AllByRecursion P xs → map f xs ≡ map g xs
seen-alike P f g [] h a = refl
seen-alike {Y = Y} P f g (x ∷ xs) h a = ap (λ (y : Y). y ∷ map f xs) (h x a.0) ∙ ap (λ (ys : List Y). g x ∷ ys) (seen-alike P f g xs h a.1)

-- two lists that are seen as one, filtered by tests that agree on what is seen
module _ {X Y Z : Type 0} (P : Y → Type 0) (f : X → Z) (g : Y → Z) (p : X → Bool) (q : Y → Bool) (agree : (x : X) (y : Y) → P y → f x ≡ g y → p x ≡ q y) where
  pub seen-filtered : (xs : List X) (ys : List Y) → AllByRecursion P ys → map f xs ≡ map g ys → map f (filter p xs) ≡ map g (filter q ys)
  seen-filtered [] [] a e = refl
  seen-filtered [] (y ∷ ys) a e = absurd cc
  seen-filtered (x ∷ xs) [] a e = absurd cc
  seen-filtered (x ∷ xs) (y ∷ ys) a e =
      let head : f x ≡ g y = cc in
      let tail : map f xs ≡ map g ys = cc in
      rw (agree x y a.0 head) (by_test (q y) head (seen-filtered xs ys a.1 tail))
    where
      by_test : (v : Bool) → f x ≡ g y → map f (filter p xs) ≡ map g (filter q ys) → map f (cond v (x ∷ filter p xs) (filter p xs)) ≡ map g (cond v (y ∷ filter q ys) (filter q ys))
      by_test true head ih = ap (λ (z : Z). z ∷ map f (filter p xs)) head ∙ ap (λ (zs : List Z). g y ∷ zs) ih
      by_test false head ih = ih

  pub seen-found : (xs : List X) (ys : List Y) → AllByRecursion P ys → map f xs ≡ map g ys → option_map f (find p xs) ≡ option_map g (find q ys)
  seen-found [] [] a e = refl
  seen-found [] (y ∷ ys) a e = absurd cc
  seen-found (x ∷ xs) [] a e = absurd cc
  seen-found (x ∷ xs) (y ∷ ys) a e =
      let head : f x ≡ g y = cc in
      let tail : map f xs ≡ map g ys = cc in
      rw (agree x y a.0 head) (by_test (q y) head (seen-found xs ys a.1 tail))
    where
      by_test : (v : Bool) → f x ≡ g y → option_map f (find p xs) ≡ option_map g (find q ys) → option_map f (cond v (Some x) (find p xs)) ≡ option_map g (cond v (Some y) (find q ys))
      by_test true head ih = ap (λ (z : Z). Some z) head
      by_test false head ih = ih

-- what is found first is found first among those that pass a test, if it passes
pub found-kept : {X : Type 0} (p q : X → Bool) (xs : List X) (x : X) → find p xs ≡ Some x → q x ≡ true → find p (filter q xs) ≡ Some x
found-kept p q [] x e t = absurd cc
found-kept {X = X} p q (y ∷ ys) x e t = by_tests (p y) (q y) refl refl e (λ h. found-kept p q ys x h t)
  where
    by_tests : (a b : Bool) → p y ≡ a → q y ≡ b → cond a (Some y) (find p ys) ≡ Some x → (find p ys ≡ Some x → find p (filter q ys) ≡ Some x)
        → find p (cond b (y ∷ filter q ys) (filter q ys)) ≡ Some x
    by_tests true true f g e ih = rw f e
    by_tests true false f g e ih = let same : y ≡ x = cc in let passes : q y ≡ true = subst (λ (z : X). q z ≡ true) (sym same) t in absurd cc
    by_tests false true f g e ih = rw f (ih e)
    by_tests false false f g e ih = ih e

-- what is found passes, and what holds of each holds of it
pub found-holds : {X : Type 0} (P : X → Type 0) (p : X → Bool) (xs : List X) (x : X) → AllByRecursion P xs → find p xs ≡ Some x → P x
found-holds P p [] x a e = absurd cc
found-holds P p (y ∷ ys) x a e = by_test (p y) e (found-holds P p ys x a.1)
  where
    by_test : (v : Bool) → cond v (Some y) (find p ys) ≡ Some x → (find p ys ≡ Some x → P x) → P x
    by_test true e ih = let same : y ≡ x = cc in subst P same a.0
    by_test false e ih = ih e
