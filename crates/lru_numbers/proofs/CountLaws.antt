-- How many entries there are, counted by their numbers.
use Rattle.std.proofs.Common.{◌≡◌, ◌≢◌, ℕ, zero, suc, ◌≤◌, map, List, [], ◌∷◌, length, slice_get, Option, Some, None, sym, refl, ap, subst, arith}
use Rattle.std.proofs.lemmas.List.{length-map}
use Rattle.cache_entries.specs.declared.entry.CacheEntryKey.{CacheEntryKey}
use Rattle.lru_numbers.specs.Names.{name_at, without_name, AreNumbersApart, HasMany}
use Rattle.lru_numbers.specs.Places.{IsPlaced}
use Rattle.lru_numbers.proofs.PlaceLaws.{none_some, same_some, name_of_place}
use Rattle.lru_numbers.proofs.NameLaws.{without-other}

-- the numbers of pairs, of which none comes twice
apart : (pairs : List (CacheEntryKey × ℕ)) (names : ℕ → Option CacheEntryKey)
    → ((i j k : ℕ) (d e : CacheEntryKey) → slice_get pairs i ≡ Some (d, k) → slice_get pairs j ≡ Some (e, k) → i ≡ j)
    → ((i k : ℕ) (e : CacheEntryKey) → slice_get pairs i ≡ Some (e, k) → names k ≢ None) → AreNumbersApart names (map (λ (p : CacheEntryKey × ℕ). p.1) pairs)
apart [] names one some = tt
apart (p ∷ pairs) names one some = (
  some zero p.1 p.0 refl,
  apart pairs (without_name names p.1) (λ i j k d e a b. let same = one (suc i) (suc j) k d e a b in omega (arith, same)) (λ i k e a.
      let other : k ≢ p.1 = λ s. let same = one zero (suc i) k p.0 e (ap (λ (j : ℕ). Some (p.0, j)) (sym s)) a in omega (arith, same) in
      subst (λ (o : Option CacheEntryKey). o ≢ None) (sym (without-other names p.1 k other)) (some (suc i) k e a)),
)

pub many_named : (at : ℕ → Option ℕ) (pairs : List (CacheEntryKey × ℕ)) (m : ℕ) → IsPlaced at pairs → m ≤ length pairs → HasMany m (name_at pairs)
many_named at pairs m h b = (
  map (λ (p : CacheEntryKey × ℕ). p.1) pairs,
  (let l = length-map pairs (λ (p : CacheEntryKey × ℕ). p.1) in omega (arith, b, l)),
  apart pairs (name_at pairs) (λ i j k d e a b. same_some (at k) i j (h.placed i d k a) (h.placed j e k b)) (λ i k e a n. none_some e (name_at pairs k) n (name_of_place at pairs h i k e a)),
)
