-- Writes in flight as a state has them: what is done to them is what changes do.
use Rattle.std.proofs.Common.{◌≡◌, ℕ, refl, ap, ◌∙◌, true, false, cond, [], ◌∷◌, ◌++◌}
use Rattle.std.specs.Prelude.{Bool, List, Option, Some, None, option_map, not, find, filter, map}
use Rattle.cache_changes.specs.Changes.{StoredKey}
use Rattle.cache_changes.specs.Store.{Flying}
use Rattle.cache_changes.specs.Store as store
use Rattle.tier_model.specs.Histories.{Kept}
use Rattle.tier_model.specs.Shelf.{InFlight, has_number, on_flying, marked}
use Rattle.tier_model.specs.Past.{plain}

pub plain-append : (fs : List (Flying Kept)) (g : Flying Kept) → map plain (fs ++ g ∷ []) ≡ map plain fs ++ plain g ∷ []
plain-append [] g = refl
plain-append (f ∷ fs) g = ap (λ (xs : List InFlight). plain f ∷ xs) (plain-append fs g)

pub plain-marked : (k : Option StoredKey) (fs : List (Flying Kept)) → map plain (map (store.marked k) fs) ≡ map (marked k) (map plain fs)
plain-marked k [] = refl
plain-marked k (f ∷ fs) = ap (λ (xs : List InFlight). marked k (plain f) ∷ xs) (plain-marked k fs)

pub plain-on : (n : ℕ) (g : Flying Kept → Flying Kept) (g' : InFlight → InFlight) (fs : List (Flying Kept)) → ((f : Flying Kept) → plain (g f) ≡ g' (plain f))
    → map plain (store.on_flying n g fs) ≡ on_flying n g' (map plain fs)
plain-on n g g' [] e = refl
plain-on n g g' (f ∷ fs) e =
    ap (λ (x : InFlight). x ∷ map plain (store.on_flying n g fs)) (by_test (store.has_number n f))
    ∙ ap (λ (xs : List InFlight). cond (store.has_number n f) (g' (plain f)) (plain f) ∷ xs) (plain-on n g g' fs e)
  where
    by_test : (t : Bool) → plain (cond t (g f) f) ≡ cond t (g' (plain f)) (plain f)
    by_test true = e f
    by_test false = refl

pub plain-landed : (n : ℕ) (fs : List (Flying Kept)) → map plain (store.landed n fs) ≡ filter (λ f. not (has_number n f)) (map plain fs)
plain-landed n [] = refl
plain-landed n (f ∷ fs) = by_test (store.has_number n f) (plain-landed n fs)
  where
    by_test : (t : Bool) → map plain (store.landed n fs) ≡ filter (λ f. not (has_number n f)) (map plain fs)
        → map plain (cond (not t) (f ∷ store.landed n fs) (store.landed n fs)) ≡ cond (not t) (plain f ∷ filter (λ f. not (has_number n f)) (map plain fs)) (filter (λ f. not (has_number n f)) (map plain fs))
    by_test true ih = ih
    by_test false ih = ap (λ (xs : List InFlight). plain f ∷ xs) ih

pub find-plain : (p : Flying Kept → Bool) (q : InFlight → Bool) (fs : List (Flying Kept)) → ((f : Flying Kept) → q (plain f) ≡ p f) → find q (map plain fs) ≡ option_map plain (find p fs)
find-plain p q [] e = refl
find-plain p q (f ∷ fs) e = ap (λ t. cond t (Some (plain f)) (find q (map plain fs))) (e f) ∙ by_test (p f) (find-plain p q fs e)
  where
    by_test : (t : Bool) → find q (map plain fs) ≡ option_map plain (find p fs) → cond t (Some (plain f)) (find q (map plain fs)) ≡ option_map plain (cond t (Some f) (find p fs))
    by_test true ih = refl
    by_test false ih = ih

-- a write that comes last under a new number, and lands, leaves the others as they were
pub landed-new : (n : ℕ) (g : InFlight → InFlight) (new : InFlight) (fs : List InFlight) → find (has_number n) fs ≡ None → has_number n new ≡ true → has_number n (g new) ≡ true
    → filter (λ f. not (has_number n f)) (on_flying n g (fs ++ new ∷ [])) ≡ fs
landed-new n g new [] none here after =
    ap (λ t. filter (λ f. not (has_number n f)) (cond t (g new) new ∷ [])) here ∙ ap (λ t. cond (not t) (g new ∷ []) []) after
landed-new n g new (f ∷ fs) none here after = by_test (has_number n f) refl none (landed-new n g new fs)
  where
    by_test : (t : Bool) → has_number n f ≡ t → cond t (Some f) (find (has_number n) fs) ≡ None
        → (find (has_number n) fs ≡ None → has_number n new ≡ true → has_number n (g new) ≡ true → filter (λ f. not (has_number n f)) (on_flying n g (fs ++ new ∷ [])) ≡ fs)
        → filter (λ f. not (has_number n f)) (on_flying n g (f ∷ fs ++ new ∷ [])) ≡ f ∷ fs
    by_test true e none ih = absurd cc
    by_test false e none ih =
        ap (λ t. filter (λ f. not (has_number n f)) (cond t (g f) f ∷ on_flying n g (fs ++ new ∷ []))) e
        ∙ ap (λ t. cond (not t) (f ∷ filter (λ f. not (has_number n f)) (on_flying n g (fs ++ new ∷ []))) (filter (λ f. not (has_number n f)) (on_flying n g (fs ++ new ∷ [])))) e
        ∙ ap (λ (xs : List InFlight). f ∷ xs) (ih none here after)
