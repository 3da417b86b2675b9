-- The shards hold the rows that changes leave, whatever is done to them, and keep their limits.
use Rattle.std.proofs.Common.{◌≡◌, ℕ, ◌+◌, ◌<◌, refl, false, ap, sym, ◌∙◌, [], ◌∷◌, length, arith}
use Rattle.std.specs.Prelude.{◌-◌, ◌||◌, nat_lt, List, Option, Some, None, option_map, unwrap_or, min, ◌^◌}
use Rattle.std.specs.List.{range_with_len}
use Rattle.std.proofs.Math.Nat.{mod-lt}
use Rattle.std.proofs.lemmas.List.{length-set, length-map}
use Rattle.std.proofs.lemmas.List.FromFn.{get_or-map-range_with_len, length-range_with_len}
use Rattle.cache_entries.specs.declared.entry.CacheEntryKey.{CacheEntryKey}
use Rattle.cache_entries.specs.declared.rows.Tracked.{Tracked}
use Rattle.cache_entries.specs.EntryText.{entry_hash}
use Rattle.cache_entries.specs.Rows as rows
use Rattle.cache_changes.specs.Uses.{in_shard, IsLast, AreShardsOf}
use Rattle.cache_changes.proofs.ManyShards.{weights-shards, length-shards}
use Rattle.cache_evict.specs.Managed.{Managed, shard_of, is_over, rows_of, put_first, use_first, weighed_anew, taken_out}
use Rattle.cache_evict.specs.Managed as managed
use Rattle.tier_model.specs.Evictions.{gone, all_gone}
use Rattle.tier_model.specs.Past.{in_shards}
use Rattle.tier_model.specs.State.{Settings}

over_by : (m : Managed) (mark : Option ℕ) → m.watermark ≡ mark → is_over m ≡ (nat_lt m.limit (managed.total_size m) || unwrap_or (option_map (λ b. nat_lt b (managed.total_items m)) mark) false)
over_by m None e = rw e refl
over_by m (Some b) e = rw e refl

-- a limit is passed by the shards as it is by the rows
pub over-rows : (n : ℕ) (m : Managed) (all : List Tracked) → 0 < n → AreShardsOf n m.shards all → rows.is_over m.limit m.watermark all ≡ is_over m
over-rows n m all pos a =
    ap (λ (w : ℕ). nat_lt m.limit w || unwrap_or (option_map (λ b. nat_lt b (length all)) m.watermark) false) (sym (weights-shards n m.shards all pos a))
    ∙ ap (λ (c : ℕ). nat_lt m.limit (managed.total_size m) || unwrap_or (option_map (λ b. nat_lt b c) m.watermark) false) (sym (length-shards n m.shards all pos a))
    ∙ sym (over_by m m.watermark refl)

pub shard-below : (n : ℕ) (e : CacheEntryKey) → 0 < n → shard_of n e < n
shard-below n e h = mod-lt (entry_hash e) h

-- the last of a shard's list is the last of the shard
pub last-rows : (n : ℕ) (e : CacheEntryKey) (m : Managed) (all : List Tracked) → 0 < n → AreShardsOf n m.shards all → managed.IsLast (rows_of n e m) e → IsLast e (in_shard n (shard_of n e) all)
last-rows n e m all pos a last = (last.0, last.1, sym (a.each (shard_of n e) (shard-below n e pos)) ∙ last.2)

-- the limits and the number of shards
pub record IsMade (settings : Settings) (m : Managed) : Type 0 where
  pub shards : length m.shards ≡ settings.shards
  pub limit : m.limit ≡ settings.limit
  pub watermark : m.watermark ≡ settings.watermark

module _ (settings : Settings) (n : ℕ) where
  pub made-put : (e : CacheEntryKey) (w : ℕ) (m : Managed) → IsMade settings m → IsMade settings (put_first n e w m)
  made-put e w m h = record { shards = length-set m.shards (shard_of n e) _ ∙ h.shards; limit = h.limit; watermark = h.watermark }

  pub made-used : (e : CacheEntryKey) (w : ℕ) (m : Managed) → IsMade settings m → IsMade settings (use_first n e w m)
  made-used e w m h = record { shards = length-set m.shards (shard_of n e) _ ∙ h.shards; limit = h.limit; watermark = h.watermark }

  pub made-anew : (e : CacheEntryKey) (w : ℕ) (m : Managed) → IsMade settings m → IsMade settings (weighed_anew n e w m)
  made-anew e w m h = record { shards = length-set m.shards (shard_of n e) _ ∙ h.shards; limit = h.limit; watermark = h.watermark }

  pub made-out : (e : CacheEntryKey) (m : Managed) → IsMade settings m → IsMade settings (taken_out n e m)
  made-out e m h = record { shards = length-set m.shards (shard_of n e) _ ∙ h.shards; limit = h.limit; watermark = h.watermark }

  pub made-gone : (es : List CacheEntryKey) (m : Managed) → IsMade settings m → IsMade settings (all_gone n es m)
  made-gone [] m h = h
  made-gone (e ∷ es) m h = made-gone es (gone n e m) (record { shards = length-set m.shards (shard_of n e) _ ∙ h.shards; limit = h.limit; watermark = h.watermark })

-- rows put into shards
pub in_shards-are : (n : ℕ) (all : List Tracked) → AreShardsOf n (in_shards n all) all
in_shards-are n all = record {
  count = length-map (range_with_len 0 n) (λ s. in_shard n s all) ∙ length-range_with_len 0 n;
  each = λ s h. get_or-map-range_with_len (λ s. in_shard n s all) 0 n s s [] h (omega arith);
}

-- ---- how many were evicted

pub gone-count : (n k : ℕ) (es : List CacheEntryKey) (m : Managed) → m.evicted_items ≡ min k (2 ^ 64 - 1) → (all_gone n es m).evicted_items ≡ min (k + length es) (2 ^ 64 - 1)
gone-count n k [] m h = h ∙ ap (λ (x : ℕ). min x (2 ^ 64 - 1)) (let same : k ≡ k + 0 = omega arith in same)
gone-count n k (e ∷ es) m h =
    gone-count n (k + 1) es (gone n e m) (ap (λ (x : ℕ). min (x + 1) (2 ^ 64 - 1)) h ∙ more k) ∙ ap (λ (x : ℕ). min x (2 ^ 64 - 1)) (let same : k + 1 + length es ≡ k + length (e ∷ es) = omega arith in same)
  where
    more : (k : ℕ) → min (min k (2 ^ 64 - 1) + 1) (2 ^ 64 - 1) ≡ min (k + 1) (2 ^ 64 - 1)
    more k = omega arith
