-- What an edit leaves, by whether its key is there.
use Rattle.std.proofs.Common.{◌≡◌, ◌≢◌, ℕ, Bool, true, false, cond, not, max, List, [], ◌∷◌, take, slice_get, is_some, Option, sym, refl, ap}
use Rattle.lru_core.specs.declared.rows.Row.{Row}
use Rattle.lru_core.specs.Rows.{only, promoted, reweighed, row_of, a_row, total_weight, capped, raised, incremented}
use Rattle.lru_core.proofs.Filters.{others_all}
use Rattle.lru_actors.specs.Messages.{weighing}

module _ {T : Type 0} where
  -- a list that isn't other than empty is empty
  none_left : (xs : List (Row T)) → (xs ≢ [] → ⊥) → xs ≡ []
  none_left [] m = refl
  none_left (r ∷ xs) m = absurd (m (λ e. cc))

  -- a key that is there has a row
  pub row_there : (k : ℕ) (xs : List (Row T)) → only k xs ≢ [] → is_some (row_of k xs) ≡ true
  row_there k xs n = elim (only k xs) as (λ l. l ≢ [] → is_some (slice_get l 0) ≡ true) [
    | [] ↦ λ a. absurd (a refl)
    | r ∷ l ↦ λ a. refl
  ] n

  pub kept_near : (k n : ℕ) (xs : List (Row T)) → ((only k xs ≢ []) × (only k (take n xs) ≡ []) → ⊥) → xs ≡ cond (is_some (row_of k (take n xs))) xs (promoted k xs)
  kept_near k n xs h = elim (only k (take n xs)) as (λ l. ((only k xs ≢ []) × (l ≡ []) → ⊥) → xs ≡ cond (is_some (slice_get l 0)) xs (promoted k xs)) [
    | [] ↦ λ m. let e = none_left (only k xs) (λ s. m (s, refl)) in rw e (sym (others_all k xs e))
    | r ∷ l ↦ λ m. refl
  ] h

  pub raised_reply : (k delta : ℕ) (most : Option ℕ) (xs : List (Row T)) (old new : ℕ) (absent : Bool)
      → (only k xs ≢ [] → ◌≡◌ {A = ℕ × ℕ × Bool} (old, new, absent) (total_weight (only k xs), raised (total_weight (only k xs)) delta most, false))
      → (only k xs ≡ [] → ◌≡◌ {A = ℕ × ℕ × Bool} (old, new, absent) (0, max 1 (capped most delta), true))
      → (old ≡ total_weight (only k xs)) × (new ≡ incremented k delta most xs) × (absent ≡ not (is_some (row_of k xs)))
  raised_reply k delta most xs old new absent h j =
      elim (only k xs) as (λ l. (l ≢ [] → ◌≡◌ {A = ℕ × ℕ × Bool} (old, new, absent) (total_weight l, raised (total_weight l) delta most, false))
      → (l ≡ [] → ◌≡◌ {A = ℕ × ℕ × Bool} (old, new, absent) (0, max 1 (capped most delta), true))
      → (old ≡ total_weight l) × (new ≡ cond (is_some (slice_get l 0)) (raised (total_weight l) delta most) (max 1 (capped most delta))) × (absent ≡ not (is_some (slice_get l 0)))) [
        | [] ↦ λ a b. let e = b refl in (ap (λ p. p.0) e, ap (λ p. p.1) e, ap (λ p. p.2) e)
        | r ∷ l ↦ λ a b. let e = a (λ n. cc) in (ap (λ p. p.0) e, ap (λ p. p.1) e, ap (λ p. p.2) e)
      ] h j

  pub weighed_after : (k : ℕ) (d : T) (w : ℕ) (xs new : List (Row T)) → (only k xs ≢ [] → new ≡ promoted k (reweighed k w xs)) → (only k xs ≡ [] → new ≡ a_row k d w ∷ xs)
      → new ≡ weighing k d w xs
  weighed_after k d w xs new h j =
      elim (only k xs) as (λ l. (l ≢ [] → new ≡ promoted k (reweighed k w xs)) → (l ≡ [] → new ≡ a_row k d w ∷ xs) → new ≡ cond (is_some (slice_get l 0)) (promoted k (reweighed k w xs)) (a_row k d w ∷ xs)) [
        | [] ↦ λ a b. b refl
        | r ∷ l ↦ λ a b. a (λ n. cc)
      ] h j
