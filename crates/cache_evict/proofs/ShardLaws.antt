-- Each shard has rows of its own entries, each once.
use Rattle.std.proofs.Common.{◌≡◌, ℕ, ◌%◌, ◌≤◌, inl, inr, map, List, [], ◌∷◌, length, get_or, slice_get, Option, Some, None, sym, refl, ap, ◌∙◌, subst, arith}
use Rattle.std.specs.Prelude.{unwrap_or, option_map}
use Rattle.std.specs.List.{AllByRecursion}
use Rattle.std.proofs.lemmas.Bool.{cases_eq, cases_lt, eq-eqb, ne_eqb}
use Rattle.std.proofs.lemmas.List.{length-map, nil_from_length}
use Rattle.std.proofs.Math.ListN.{get_or-eq_default}
use Rattle.cache_entries.specs.declared.entry.CacheEntryKey.{CacheEntryKey}
use Rattle.cache_entries.specs.declared.rows.Tracked.{Tracked}
use Rattle.cache_entries.specs.Rows.{row_of, AreDistinct}
use Rattle.lru_core.specs.declared.rows.Row.{Row}
use Rattle.lru_core.specs.Rows.{only}
use Rattle.lru_core.specs.Cores.{Core, rows_at}
use Rattle.lru_numbers.specs.Names.{IsOneToOne}
use Rattle.cache_evict.specs.Managed.{shard_of, IsSharded}
use Rattle.cache_evict.specs.Numbered.{nobody, tracked_row, tracked, managed_in, AreNumbered, IsNumbered}
use Rattle.lru_numbers.proofs.PlaceLaws.{some_of}
use Rattle.cache_evict.proofs.NumberedLaws.{IsNumber-named, row_of-number, elsewhere}
use Rattle.cache_evict.proofs.WrittenLaws.{seen}
use Rattle.cache_evict.proofs.BackLaws.{unnamed_row}

fewer : (k : ℕ) (r : Row ℕ) (rows : List (Row ℕ)) → length (only k (r ∷ rows)) ≤ 1 → length (only k rows) ≤ 1
fewer k r rows h = elim (cases_eq r.key k) [
  | inl e ↦ let b : length (r ∷ only k rows) ≤ 1 = rw (eq-eqb r.key k e) at h in omega (arith, b)
  | inr m ↦ rw (ne_eqb r.key k m) at h
]

module _ (n : ℕ) (names : ℕ → Option CacheEntryKey) where
  -- rows in which no number comes twice are of entries of which none does
  distinct : IsOneToOne names → (s : ℕ) (rows : List (Row ℕ)) → AreNumbered n names s rows → ((k : ℕ) → length (only k rows) ≤ 1) → AreDistinct (tracked names rows)
  distinct one s [] a h = tt
  distinct one s (r ∷ rows) a h =
      let x = some_of (names r.key) a.2 in
      let at : unwrap_or (names r.key) nobody ≡ x.0 = ap (λ (o : Option CacheEntryKey). unwrap_or o nobody) x.1 in
      let b : length (r ∷ only r.key rows) ≤ 1 = rw (eq-eqb r.key r.key refl) at (h r.key) in
      let none : only r.key rows ≡ [] = nil_from_length (only r.key rows) (omega (arith, b)) in (
        ap (λ (e : CacheEntryKey). row_of e (tracked names rows)) at ∙ row_of-number n names r.key x.0 (IsNumber-named names r.key x.0 one x.1) s rows a.3
            ∙ ap (λ (l : List (Row ℕ)). option_map (tracked_row names) (slice_get l 0)) none,
        distinct one s rows a.3 (λ k. fewer k r rows (h k)),
      )

  homes : ((k : ℕ) (e : CacheEntryKey) → names k ≡ Some e → k % n ≡ shard_of n e) → (s : ℕ) (rows : List (Row ℕ)) → AreNumbered n names s rows
      → AllByRecursion (λ r. shard_of n r.entry ≡ s) (tracked names rows)
  homes h s [] a = tt
  homes h s (r ∷ rows) a =
      let x = some_of (names r.key) a.2 in
      let at : unwrap_or (names r.key) nobody ≡ x.0 = ap (λ (o : Option CacheEntryKey). unwrap_or o nobody) x.1 in
      (ap (shard_of n) at ∙ sym (h r.key x.0 x.1) ∙ a.1, homes h s rows a.3)

  -- no shard has two rows of a number
  once : (shards : List (List (Row ℕ))) → IsNumbered n names shards → (s k : ℕ) → length (only k (rows_at shards s)) ≤ 1
  once shards h s k =
      let rows = rows_at shards s in
      elim (names k) as (λ o. names k ≡ o → length (only k rows) ≤ 1) [
        | None ↦ λ f. let l = ap length (unnamed_row n names s k rows (h.numbered s) f) in omega (arith, l)
        | Some e ↦ λ f. elim (cases_eq s (k % n)) [
          | inl a ↦ let row = h.known k e f in let l = ap length (ap (λ (i : ℕ). only k (rows_at shards i)) a ∙ row.1) in omega (arith, l)
          | inr m ↦ let l = ap length (elsewhere n names names k (λ i q. refl) s rows (h.numbered s) m) in omega (arith, l)
        ]
      ] refl

  module _ (core : Core ℕ) (size items : ℕ) (h : IsNumbered n names core.shards) where
    at_shard : (P : List Tracked → Type 0) → P [] → (s : ℕ) → P (tracked names (rows_at core.shards s)) → P (get_or (map (tracked names) core.shards) s [])
    at_shard P none s p = elim (cases_lt s (length core.shards)) [
      | inl b ↦ subst P (sym (seen n names core.shards s b)) p
      | inr b ↦ subst P (sym (get_or-eq_default (map (tracked names) core.shards) [] (let l = length-map core.shards (tracked names) in omega (arith, b, l)))) none
    ]

    pub sharded : IsSharded n (managed_in names core size items)
    sharded = record {
      some = h.some;
      count = length-map core.shards (tracked names) ∙ h.count;
      distinct = λ s. at_shard AreDistinct tt s (distinct h.one s (rows_at core.shards s) (h.numbered s) (once core.shards h s));
      home = λ s. at_shard (AllByRecursion (λ r. shard_of n r.entry ≡ s)) tt s (homes h.home s (rows_at core.shards s) (h.numbered s));
    }
