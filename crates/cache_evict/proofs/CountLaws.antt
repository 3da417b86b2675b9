-- How many entries there are, counted by their numbers and by their rows.
use Rattle.std.proofs.Common.{◌≡◌, ◌≢◌, ℕ, ◌%◌, ◌<◌, ◌≤◌, inl, inr, map, List, [], ◌∷◌, length, set, Option, None, sym, refl, ap, ◌∙◌, arith}
use Rattle.std.specs.List.{sum_by}
use Rattle.std.proofs.lemmas.Bool.{cases_eq}
use Rattle.std.proofs.lemmas.List.{length-map, length-set, nil_from_length, get_or-set_same, get_or-set_other}
use Rattle.std.proofs.lemmas.List.Sums.{sum_by-cons, sum_by-set}
use Rattle.cache_entries.specs.declared.entry.CacheEntryKey.{CacheEntryKey}
use Rattle.lru_core.specs.declared.rows.Row.{Row}
use Rattle.lru_core.specs.Rows.{only, others}
use Rattle.lru_core.specs.Cores.{rows_at, core_len}
use Rattle.lru_core.proofs.Filters.{length_parts}
use Rattle.lru_numbers.specs.Names.{without_name, AreNumbersApart}
use Rattle.cache_evict.specs.Numbered.{tracked_row, tracked}
use Rattle.lru_numbers.proofs.NameLaws.{without-here, without-other}
use Rattle.cache_evict.proofs.WrittenLaws.{only-others_another}

pub counts : (names : ℕ → Option CacheEntryKey) (shards : List (List (Row ℕ))) → sum_by length (map (tracked names) shards) ≡ core_len shards
counts names [] = refl
counts names (rows ∷ shards) =
    let ih = counts names shards in
    let one = length-map rows (tracked_row names) in
    sum_by-cons length (tracked names rows) (map (tracked names) shards) ∙ omega (arith, ih, one) ∙ sym (sum_by-cons length rows shards)

-- where each number with an entry has a row, there are as many rows as such numbers
pub counted : (n : ℕ) (ks : List ℕ) (names : ℕ → Option CacheEntryKey) (shards : List (List (Row ℕ)))
    → ((k : ℕ) → names k ≢ None → (k % n < length shards) × (only k (rows_at shards (k % n)) ≢ [])) → AreNumbersApart names ks → length ks ≤ core_len shards
counted n [] names shards h a = omega arith
counted n (k ∷ ks) names shards h a =
    let rows = rows_at shards (k % n) in
    let left = set shards (k % n) (others k rows) in
    let here = h k a.0 in
    let parts = length_parts k rows in
    let own : length (only k rows) ≢ 0 = λ z. here.1 (nil_from_length (only k rows) z) in
    let sum = sum_by-set length shards (k % n) (others k rows) [] here.0 in
    let size = length-set shards (k % n) (others k rows) in
    let ih = counted n ks (without_name names k) left (λ j f.
    let other : j ≢ k = λ s. f (ap (without_name names k) s ∙ without-here names k) in
    let was = h j (λ z. f (without-other names k j other ∙ z)) in (
      omega (arith, was.0, size),
      elim (cases_eq (j % n) (k % n)) [
        | inl s ↦ λ z. was.1 (ap (λ (i : ℕ). only j (rows_at shards i)) s ∙ sym (only-others_another j k rows other) ∙ sym (ap (only j) (ap (rows_at left) s ∙ get_or-set_same shards (k % n) (others k rows) [] here.0)) ∙ z)
        | inr m ↦ λ z. was.1 (sym (ap (only j) (get_or-set_other shards (k % n) (j % n) (others k rows) [] m)) ∙ z)
      ],
    )) a.1 in
    omega (arith, parts, own, sum, ih)
