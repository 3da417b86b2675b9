-- What words picked from the shards they picked from the rows.
use Rattle.std.proofs.Common.{◌≡◌, ℕ, ◌<◌, refl, ap, sym, ◌∙◌, true, false, subst, cond, [], ◌∷◌, ◌++◌, ◌==◌, length, arith, inl, inr}
use Rattle.std.specs.Prelude.{Bool, List, filter, slice_index_or}
use Rattle.std.specs.List.{AllByRecursion}
use Rattle.std.proofs.lemmas.Bool.{eqb-true, cases_lt}
use Rattle.std.proofs.lemmas.List.{get_or_past, ext_get_or}
use Rattle.rand_core.specs.Stream.{Stream}
use Rattle.cache_entries.specs.declared.entry.CacheEntryKey.{CacheEntryKey}
use Rattle.cache_entries.specs.declared.rows.Tracked.{Tracked}
use Rattle.cache_changes.specs.Changes.{Changes as Told, evicts}
use Rattle.cache_changes.specs.Uses.{AreShardsOf, shard_of, in_shard, rows_of}
use Rattle.cache_changes.proofs.ManyShards.{evicted-last}
use Rattle.cache_evict.specs.Managed.{Managed, rows_at, GoesLast, Evicts, pick_by_draws}
use Rattle.tier_model.specs.Histories.{Kept}
use Rattle.tier_model.specs.Past.{in_shards}
use Rattle.tier_model.specs.State.{Settings}
use Rattle.tier_model.proofs.RowSteps.{in_shards-are}
use Rattle.tier_promise.specs.Promise.{ArePicked}

-- rows are in shards in one way
pub one-way : (n : ℕ) (shards : List (List Tracked)) (all : List Tracked) → AreShardsOf n shards all → shards ≡ in_shards n all
one-way n shards all a =
    let b = in_shards-are n all in
    ext_get_or [] shards (in_shards n all) (a.count ∙ sym b.count) (λ i h. let inside : i < n = subst (λ (m : ℕ). i < m) a.count h in a.each i inside ∙ sym (b.each i inside))

module _ (n s : ℕ) where
  abbrev Own : Tracked → Type 0
  Own x = (shard_of n x.entry == s) ≡ true

  all_own : (rows : List Tracked) → AllByRecursion Own (in_shard n s rows)
  all_own [] = tt
  all_own (x ∷ rows) = by_test (shard_of n x.entry == s) refl (all_own rows)
    where
      by_test : (v : Bool) → (shard_of n x.entry == s) ≡ v → AllByRecursion Own (in_shard n s rows) → AllByRecursion Own (cond v (x ∷ in_shard n s rows) (in_shard n s rows))
      by_test true e rest = (e, rest)
      by_test false e rest = rest

  last_passes : (front : List Tracked) (r : Tracked) → AllByRecursion Own (front ++ r ∷ []) → Own r
  last_passes [] r h = h.0
  last_passes (x ∷ front) r h = last_passes front r h.1

  last_of : (rows front : List Tracked) (r : Tracked) → in_shard n s rows ≡ front ++ r ∷ [] → Own r
  last_of rows front r is = last_passes front r (subst (λ (l : List Tracked). AllByRecursion Own l) is (all_own rows))

not_empty : (front : List Tracked) (r : Tracked) → [] ≡ front ++ r ∷ [] → ⊥
not_empty [] r e = absurd cc
not_empty (x ∷ front) r e = absurd cc

module _ (x : Settings) (pos : 0 < x.shards) where
  abbrev n : ℕ
  n = x.shards

  inside_by : (s : ℕ) (m : Managed) (before : Told Kept) (front : List Tracked) (r : Tracked) → AreShardsOf n m.shards (rows_of before) → rows_at m.shards s ≡ front ++ r ∷ [] → s < n
  inside_by s m before front r a is = elim (cases_lt s n) [
    | inl within ↦ within
    | inr past ↦ absurd (not_empty front r (sym (get_or_past m.shards s [] (let count = a.count in omega (arith, past, count))) ∙ is))
  ]

  pub picked-so : (es : List CacheEntryKey) (m left : Managed) (before : Told Kept) (words rest : Stream) → AreShardsOf n m.shards (rows_of before) → Evicts (pick_by_draws n) m es words left rest
      → ArePicked x es (rows_of before) words rest
  picked-so [] m left before words rest a went = went.1
  picked-so (e ∷ es) m left before words rest a went =
      let s : ℕ = (pick_by_draws n m.shards words).0 in
      let gone = went.2 in
      let row : Tracked = record { entry = e; weight = gone.1 } in
      let inside : s < n = inside_by s m before gone.0 row a gone.2 in
      let home : shard_of n e ≡ s = eqb-true (shard_of n e) s (last_of n s (rows_of before) gone.0 row (sym (a.each s inside) ∙ gone.2)) in
      let next = evicted-last {M = Kept} n s gone.1 e gone.0 m.shards before pos inside a gone.2 in
      let there : AreShardsOf n (went.0).shards (rows_of (evicts e ∷ before)) = subst (λ (l : List (List Tracked)). AreShardsOf n l (rows_of (evicts e ∷ before))) (sym (ap (λ (y : Managed). y.shards) gone.3)) next.0 in
      let shards : m.shards ≡ in_shards n (rows_of before) = one-way n m.shards (rows_of before) a in
      let more = picked-so es went.0 left (evicts e ∷ before) (pick_by_draws n m.shards words).1 rest there went.3 in (
        home ∙ ap (λ (l : List (List Tracked)). (pick_by_draws n l words).0) shards,
        subst (λ (l : List (List Tracked)). ArePicked x es (rows_of (evicts e ∷ before)) (pick_by_draws n l words).1 rest) shards more,
      )
