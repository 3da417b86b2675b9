-- What a message leaves of rows, by whether its hash is there.
use Rattle.std.proofs.Common.{◌≡◌, ◌≢◌, ◌↔◌, ℕ, Bool, true, false, IsTrue, cond, max, ◌%◌, List, [], ◌∷◌, ◌++◌, slice_get, is_some, Option, sym, refl, ap, ◌∙◌}
use Rattle.std.proofs.lemmas.Bool.{true≢false}
use Rattle.std.proofs.lemmas.List.{set-get_or}
use Rattle.lru_core.specs.declared.rows.Row.{Row}
use Rattle.lru_core.specs.Rows.{only, promoted, reweighed, a_row, total_weight, capped, raised, incremented}
use Rattle.lru_core.specs.Orders.{with_last}
use Rattle.lru_core.specs.Cores.{Core, shard_of, with_shard}
use Rattle.lru_actors.specs.Messages.{weighing}

module _ {T : Type 0} where
  -- rows within something else, as in a shard or a core
  weighed_in : {C : Type 0} (f : List (Row T) → C) (k : ℕ) (d : T) (w : ℕ) (xs : List (Row T)) (new : C) → (only k xs ≢ [] → new ≡ f (promoted k (reweighed k w xs)))
      → (only k xs ≡ [] → new ≡ f (a_row k d w ∷ xs)) → new ≡ f (weighing k d w xs)
  weighed_in f k d w xs new h j =
      elim (only k xs) as (λ l. (l ≢ [] → new ≡ f (promoted k (reweighed k w xs))) → (l ≡ [] → new ≡ f (a_row k d w ∷ xs))
      → new ≡ f (cond (is_some (slice_get l 0)) (promoted k (reweighed k w xs)) (a_row k d w ∷ xs))) [
        | [] ↦ λ a b. b refl
        | r ∷ l ↦ λ a b. a (λ n. cc)
      ] h j

  -- the weight that an increment gives
  grown : (k delta : ℕ) (most : Option ℕ) (xs : List (Row T)) (w : ℕ) → (only k xs ≢ [] → w ≡ raised (total_weight (only k xs)) delta most) → (only k xs ≡ [] → w ≡ max 1 (capped most delta))
      → w ≡ incremented k delta most xs
  grown k delta most xs w h j =
      elim (only k xs) as (λ l. (l ≢ [] → w ≡ raised (total_weight l) delta most) → (l ≡ [] → w ≡ max 1 (capped most delta))
      → w ≡ cond (is_some (slice_get l 0)) (raised (total_weight l) delta most) (max 1 (capped most delta))) [
        | [] ↦ λ a b. b refl
        | r ∷ l ↦ λ a b. a (λ n. cc)
      ] h j

  -- what an increment of a weight leaves
  pub grown_in : {C : Type 0} (f : List (Row T) → C) (k delta : ℕ) (most : Option ℕ) (d : T) (xs : List (Row T)) (new : C) (w : ℕ)
      → (only k xs ≢ [] → w ≡ raised (total_weight (only k xs)) delta most) → (only k xs ≡ [] → w ≡ max 1 (capped most delta))
      → (only k xs ≢ [] → new ≡ f (promoted k (reweighed k w xs))) → (only k xs ≡ [] → (e : T) × (e ≡ d) × (new ≡ f (a_row k e w ∷ xs)))
      → new ≡ f (weighing k d (incremented k delta most xs) xs)
  grown_in f k delta most d xs new w r n there new_key =
      rw (← grown k delta most xs w r n) (weighed_in f k d w xs new there (λ z. let p = new_key z in p.2 ∙ ap (λ x. f (a_row k x w ∷ xs)) p.1))

  -- the same by the old weight, the new one, and whether the key was absent
  pub grown_by : {C : Type 0} (f : List (Row T) → C) (k delta : ℕ) (most : Option ℕ) (d : T) (xs : List (Row T)) (new : C) (p : ℕ × ℕ × Bool)
      → (only k xs ≢ [] → p ≡ (total_weight (only k xs), raised (total_weight (only k xs)) delta most, false)) → (only k xs ≡ [] → p ≡ (0, max 1 (capped most delta), true))
      → (only k xs ≢ [] → new ≡ f (promoted k (reweighed k p.1 xs))) → (only k xs ≡ [] → (e : T) × (e ≡ d) × (new ≡ f (a_row k e p.1 ∷ xs)))
      → new ≡ f (weighing k d (incremented k delta most xs) xs)
  grown_by f k delta most d xs new p r n = grown_in f k delta most d xs new p.1 (λ h. ap (λ t. t.1) (r h)) (λ h. ap (λ t. t.1) (n h))

  last_there : (r : Row T) (xs : List (Row T)) → only r.key xs ≢ [] → with_last xs r ≡ xs
  last_there r xs h =
      elim (only r.key xs) as (λ l. l ≢ [] → cond (is_some (slice_get l 0)) xs (xs ++ r ∷ []) ≡ xs) [ [] ↦ λ a. absurd (a refl) | s ∷ l ↦ λ a. refl ] h

  last_new : (r : Row T) (xs : List (Row T)) → only r.key xs ≡ [] → with_last xs r ≡ xs ++ r ∷ []
  last_new r xs h = rw h refl

  -- a row put last in its shard, if its key is new
  pub put_last : (b : Bool) (n : ℕ) (old new : Core T) (r : Row T) → IsTrue b ↔ (only r.key (shard_of n old r.key) ≡ [])
      → (b ≡ true → new ≡ with_shard n old r.key (shard_of n old r.key ++ r ∷ [])) → ((b ≡ true → ⊥) → new ≡ old)
      → new ≡ with_shard n old r.key (with_last (shard_of n old r.key) r)
  put_last true n old new r i a s = a refl ∙ ap (with_shard n old r.key) (sym (last_new r (shard_of n old r.key) (i.0 refl)))
  put_last false n old new r i a s =
      let there : with_last (shard_of n old r.key) r ≡ shard_of n old r.key = last_there r (shard_of n old r.key) (λ e. true≢false (sym (i.1 e))) in
      s (λ e. true≢false (sym e)) ∙ (sym (ap (λ l. record old { shards = l }) (set-get_or old.shards (r.key % n) [])) ∙ ap (with_shard n old r.key) (sym there))
