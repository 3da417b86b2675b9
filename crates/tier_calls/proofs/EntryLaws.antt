-- The entries that a manager lists are those of the tier's shard.
use Rattle.std.proofs.Common.{◌≡◌, ◌<◌, ℕ, Bool, true, List, arith, ap, ◌∙◌, Option, Some, None}
use Rattle.std.proofs.lemmas.Bool.Decides.{nat_tests}
use Rattle.std.specs.Prelude.{map, nat_lt, if◌then◌else◌}
use Rattle.cache_entries.specs.declared.entry.CacheEntryKey.{CacheEntryKey}
use Rattle.cache_evict.specs.Managed.{rows_at}
use Rattle.tier_model.specs.State.{State, shards_of}
use Rattle.tier_calls.specs.Tiers.{entries_of}

within : (n shard : ℕ) → shard < n → nat_lt shard n ≡ true
within n shard below = grind (arith, nat_tests)

abbrev pub entries_in : ℕ → State → List CacheEntryKey
entries_in shard s = map (λ r. r.entry) (rows_at s.managed.shards shard)

pub entries-there : (n shard : ℕ) (s : State) → shards_of s ≡ n → shard < n → entries_of shard s ≡ Some (entries_in shard s)
entries-there n shard s count below = ap (λ (b : Bool). if b then Some (entries_in shard s) else None) (ap (nat_lt shard) count ∙ within n shard below)
