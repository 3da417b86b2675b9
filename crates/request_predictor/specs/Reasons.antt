-- Bounded lists of keys with reasons: the key that was marked last comes first, and the last falls out of a full list.
use Rattle.std.specs.Prelude.{ℕ, ◌%◌, ◌==◌, if◌then◌else◌, nat_eq, Bool, true, false, not, List, [], replicate, Option, Some, None, slice_get, slice_set}
use Rattle.std.specs.Map.{lookup, remove_entry}
use Rattle.std.specs.Cmp.Lexicographic.{pointwise}
use Rattle.std.specs.Int.{from_be_bytes, w128}
use Rattle.lru.specs.LruCache.{LruCache, lru_cache, put_entries}
use Rattle.cache_heads.specs.declared.reason.NoCacheReason.{NoCacheReason}
use Rattle.cache_heads.specs.declared.reason.NoCacheReason.TheVariants.{OriginNotCache, ResponseTooLarge, Custom}

-- keys, each with the reason for which it was marked last
abbrev pub Marked : Type 0
Marked = LruCache (List ℕ) NoCacheReason

-- the lists, and which custom reasons are skipped
pub record Predictions (P : Type 0) : Type 0 where
  pub lists : List Marked
  pub skipped : Option P

abbrev pub same_key : List ℕ → List ℕ → Bool
same_key a b = pointwise nat_eq a b

-- the number of a key's list, of n lists
abbrev pub list_number : ℕ → List ℕ → ℕ
list_number n key = from_be_bytes w128 key % n

abbrev pub reason_in : List ℕ → Option Marked → Option NoCacheReason
reason_in key None = None
reason_in key (Some list) = lookup (same_key key) list.entries

abbrev pub unmarked : List ℕ → Marked → Marked
unmarked key list = lru_cache (remove_entry (same_key key) list.entries) list.cap

abbrev pub marked : List ℕ → NoCacheReason → Marked → Marked
marked key reason list = lru_cache (put_entries same_key list key reason) list.cap

-- with the i-th list changed
abbrev pub changed_at : (Marked → Marked) → ℕ → List Marked → Option Marked → List Marked
changed_at change i lists None = lists
changed_at change i lists (Some list) = slice_set lists i (change list)

abbrev pub changed : (Marked → Marked) → ℕ → List Marked → List Marked
changed change i lists = changed_at change i lists (slice_get lists i)

-- a capacity; 0 is 1
abbrev pub at_least_one : ℕ → ℕ
at_least_one capacity = if capacity == 0 then 1 else capacity

-- n lists without marks, of that capacity
abbrev pub no_reasons : {P : Type 0} → ℕ → ℕ → Option P → Predictions P
no_reasons n capacity skipped = record { lists = replicate n (lru_cache [] (at_least_one capacity)); skipped = skipped }

-- the reason for which the key was marked last, while it is listed
abbrev pub listed_reason : {P : Type 0} → ℕ → List ℕ → Predictions P → Option NoCacheReason
listed_reason n key p = reason_in key (slice_get p.lists (list_number n key))

-- the key isn't listed
abbrev pub without_key : {P : Type 0} → ℕ → List ℕ → Predictions P → Predictions P
without_key n key p = record p { lists = changed (unmarked key) (list_number n key) p.lists }

-- the key is listed first, with that reason
abbrev pub with_key : {P : Type 0} → ℕ → List ℕ → NoCacheReason → Predictions P → Predictions P
with_key n key reason p = record p { lists = changed (marked key reason) (list_number n key) p.lists }

abbrev pub is_skipped : {P : Type 0} → (P → List ℕ → Bool) → Option P → List ℕ → Bool
is_skipped skips None text = false
is_skipped skips (Some predicate) text = skips predicate text

-- these alone are remembered: the origin forbids it, the response is too large, or a custom reason that isn't skipped
abbrev pub is_remembered : {P : Type 0} → (P → List ℕ → Bool) → Option P → NoCacheReason → Bool
is_remembered skips skipped OriginNotCache = true
is_remembered skips skipped ResponseTooLarge = true
is_remembered skips skipped (Custom text) = not (is_skipped skips skipped text.now)
is_remembered skips skipped _ = false
