-- Calls whose data closures make, and what they leave of the rows without data.
use Rattle.std.proofs.Common.{arith, ◌≡◌, ◌≢◌, ℕ, Bool, not, max, inl, inr, List, [], ◌∷◌, ◌++◌, cond, slice_get, slice_index_or, is_some, Option, Some, None, refl, ap, subst}
use Rattle.std.specs.Prelude.{drop}
use Rattle.std.proofs.lemmas.Bool.{cases_eq, eq-eqb, ne_eqb}
use Rattle.lru_core.specs.declared.rows.Row.{Row}
use Rattle.lru_core.specs.Rows.{only, admitted, promoted, reweighed, row_of, a_row, put, total_weight, incremented}
use Rattle.pingora_lru.specs.declared.call.LruCall.TheVariants.{IncrementWeight, UpdateOrAdmit}
use Rattle.pingora_lru.specs.declared.call.Reply.TheVariants.{Incremented, Updated}
use Rattle.pingora_lru.specs.declared.call.Kept.{Kept}
use Rattle.pingora_lru.specs.Calls.{weight_of}
use Rattle.lru_actors.specs.Messages.{weighing}
use Rattle.pingora_lru.specs.Records.{bare, IsRecord}
use Rattle.lru_core.proofs.Filters.{others_all}
use Rattle.pingora_lru.proofs.Bare.{recorded_more}

at_least_one : (w : ℕ) → max 1 (max 1 w) ≡ max 1 w
at_least_one w = omega arith

module _ {T : Type 0} where
  -- by whether a list is empty
  pub by_presence : {P : Type 0} (xs : List (Row T)) → (xs ≢ [] → P) → (xs ≡ [] → P) → P
  by_presence [] f g = g refl
  by_presence (r ∷ xs) f g = f (λ e. cc)

  pub increment_kept : (es : List Kept) (rows new : List (Row T)) (k delta : ℕ) (most : Option ℕ) (old w : ℕ) (absent : Bool) (d : T) → IsRecord [] es (bare rows)
      → new ≡ weighing k d w rows → w ≡ incremented k delta most rows → old ≡ total_weight (only k rows) → absent ≡ not (is_some (row_of k rows))
      → IsRecord [] (es ++ record { call = IncrementWeight k tt delta most; reply = Incremented old w absent } ∷ []) (bare new)
  increment_kept es rows new k delta most old w absent d h n i o a = rw (n, i, o, a) (recorded_more es rows (IncrementWeight k d delta most) h)

  pub update_kept : (es : List Kept) (rows new : List (Row T)) (k : ℕ) (old : Option ℕ) (w : ℕ) (d : T) → IsRecord [] es (bare rows)
      → new ≡ admitted k d w rows → old ≡ weight_of k rows → max 1 w ≡ w
      → IsRecord [] (es ++ record { call = UpdateOrAdmit k tt w; reply = Updated old w } ∷ []) (bare new)
  update_kept es rows new k old w d h n o m =
      let more : IsRecord [] (es ++ record { call = UpdateOrAdmit k tt w; reply = Updated (weight_of k rows) w } ∷ []) (bare (admitted k d w rows)) =
      subst (λ x. IsRecord [] (es ++ record { call = UpdateOrAdmit k tt w; reply = Updated (weight_of k rows) x } ∷ []) (bare (admitted k d w rows))) m (recorded_more es rows (UpdateOrAdmit k d w) h) in
      rw (n, o) more

  -- what an increment leaves, of a key that is there or with new data
  pub weighed_some : (k w : ℕ) (rows new : List (Row T)) → (only k rows ≢ [] → new ≡ promoted k (reweighed k w rows)) → (only k rows ≡ [] → (d : T) × (new ≡ a_row k d w ∷ rows))
      → (d : T) × (new ≡ weighing k d w rows)
  weighed_some k w rows new h j =
      elim (only k rows) as (λ l. (l ≢ [] → new ≡ promoted k (reweighed k w rows)) → (l ≡ [] → (d : T) × (new ≡ a_row k d w ∷ rows))
      → (d : T) × (new ≡ cond (is_some (slice_get l 0)) (promoted k (reweighed k w rows)) (a_row k d w ∷ rows))) [
        | [] ↦ λ a b. b refl
        | r ∷ l ↦ λ a b. (r.«data», a (λ n. cc))
      ] h j

  -- what an update or an admission leaves
  pub updated_some : (k : ℕ) (rows new : List (Row T)) (old : Option ℕ) (w : ℕ)
      → (only k rows ≢ [] → (row : Row T) × (d : T) × (v : ℕ) × (only k rows ≡ row ∷ []) × (old ≡ Some row.weight) × (w ≡ max 1 v) × (new ≡ admitted k d v rows))
      → (only k rows ≡ [] → (d : T) × (v : ℕ) × (old ≡ None) × (w ≡ max 1 v) × (new ≡ a_row k d (max 1 v) ∷ rows))
      → (d : T) × (new ≡ admitted k d w rows) × (old ≡ weight_of k rows) × (max 1 w ≡ w)
  updated_some k rows new old w h j = by_presence (only k rows)
      (λ n. let p = h n in (p.1, rw (p.6, p.5, at_least_one p.2) refl, rw (p.4, p.3) refl, rw p.5 (at_least_one p.2)))
      (λ e. let p = j e in (p.0, rw (p.4, p.3, at_least_one p.1, others_all k rows e) refl, rw (p.2, e) refl, rw p.3 (at_least_one p.1)))

  put_none : (k w : ℕ) (d : T) (xs : List (Row T)) → only k xs ≡ [] → bare (put (a_row k d w) xs) ≡ bare xs
  put_none k w d [] e = refl
  put_none k w d (r ∷ xs) e = elim (cases_eq r.key k) [
    | inl q ↦ absurd (let e' = rw (eq-eqb r.key k q) at e in cc)
    | inr n ↦ let e' : only k xs ≡ [] = rw (ne_eqb r.key k n) at e in rw (ne_eqb r.key k n) (ap (λ l. a_row r.key tt r.weight ∷ l) (put_none k w d xs e'))
  ]

  -- other data for a row change no key, weight or place
  pub bare_put : (k : ℕ) (d : T) (row : Row T) (xs : List (Row T)) → only k xs ≡ row ∷ [] → bare (put (a_row k d row.weight) xs) ≡ bare xs
  bare_put k d row [] e = refl
  bare_put k d row (r ∷ xs) e = elim (cases_eq r.key k) [
    | inl q ↦
        let e' : r ∷ only k xs ≡ row ∷ [] = rw (eq-eqb r.key k q) at e in
        let same : r ≡ row = ap (λ l. slice_index_or l 0 r) e' in
        let none : only k xs ≡ [] = ap (λ l. drop 1 l) e' in
        rw (eq-eqb r.key k q) (rw (put_none k row.weight d xs none, ← same, q) refl)
    | inr n ↦ let e' : only k xs ≡ row ∷ [] = rw (ne_eqb r.key k n) at e in rw (ne_eqb r.key k n) (ap (λ l. a_row r.key tt r.weight ∷ l) (bare_put k d row xs e'))
  ]

  -- what a refused update or admission leaves
  pub refused_bare : (k : ℕ) (rows new : List (Row T)) → (only k rows ≢ [] → (row : Row T) × (d : T) × (only k rows ≡ row ∷ []) × (new ≡ put (a_row k d row.weight) rows))
      → (only k rows ≡ [] → new ≡ rows) → bare new ≡ bare rows
  refused_bare k rows new h j = by_presence (only k rows) (λ n. let p = h n in rw p.3 (bare_put k p.1 p.0 rows p.2)) (λ e. ap bare (j e))
