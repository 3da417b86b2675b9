-- The tier that is there, whatever the number of its shards.
use Rattle.std.specs.Prelude.{◌≡◌, ◌⊎◌, ℕ, Bool, List, [], ◌∷◌, map, nat_lt, if◌then◌else◌, Option, Some, None, option_map, option_and_then, unwrap_or}
use Rattle.std.specs.FinMap.{get}
use Rattle.rand_core.specs.Stream.{Stream}
use Rattle.tier_model.specs.declared.event.Event.{Event}
use Rattle.tier_model.specs.Answers.{whole_told}
use Rattle.tier_model.specs.Sizes.{found_len}
use Rattle.tier_model.specs.Calls.{Outcome}
use Rattle.tier_model.specs.Past.{HasPast}
use Rattle.tier_model.specs.Started.{HasOnlyOrder, IsNew, opening_of, settings_of}
use Rattle.cache_heads.specs.declared.meta.CacheMeta.{CacheMeta}
use Rattle.tier_model.specs.State.{State, Settings, shards_of}
use Rattle.cache_changes.specs.Changes.{StoredKey, stored_key}
use Rattle.cache_entries.specs.declared.entry.CacheEntryKey.{CacheEntryKey}
use Rattle.cache_entries.specs.Entry.{key_of}
use Rattle.cache_evict.specs.Managed.{rows_at}
use Rattle.tier_single.specs.Takes.{Takes}
use Rattle.tier_calls.specs.declared.shards.Settings.{Settings as Given}
use Rattle.tier_calls.specs.declared.shards.Shards.{Shards}
use Rattle.tier_calls.specs.declared.shards.Shards.TheVariants.{NoMemory, NoSuchCount, One, Four, Sixteen}

abbrev pub state_of : Shards → Option State
state_of NoMemory = None
state_of NoSuchCount = None
state_of (One tier) = Some tier
state_of (Four tier) = Some tier
state_of (Sixteen tier) = Some tier

-- 0 where a tier is there, 13 where there was no memory for one, 20 where no tier has so many shards
abbrev pub status_of : Shards → ℕ
status_of NoMemory = 13
status_of NoSuchCount = 20
status_of (One tier) = 0
status_of (Four tier) = 0
status_of (Sixteen tier) = 0

-- tiers have so many shards
abbrev pub IsCount : ℕ → Type 0
IsCount n = (n ≡ 1) ⊎ (n ≡ 4) ⊎ (n ≡ 16)

-- the tier took an event, with its outcome, and with it the words from s to rest
abbrev pub Steps : Shards → Stream → Event → Outcome → Shards → Stream → Type 0
Steps old s event outcome new rest =
    (a : State) × (b : State) × (state_of old ≡ Some a) × (state_of new ≡ Some b) × Takes a s (event ∷ []) (outcome ∷ []) b rest

-- the finished body of a stored key, with its meta
abbrev pub finished_at : StoredKey → State → Option (CacheMeta × List ℕ)
finished_at key s = option_map (λ n. (n.body.meta, n.body.bytes)) (get s.shelf.bodies key)

abbrev pub finished_in : Shards → StoredKey → Option (CacheMeta × List ℕ)
finished_in tier key = option_and_then (finished_at key) (state_of tier)

-- whether all came of what that request reads, where it was read to its end
abbrev pub whole_in : Shards → ℕ → Option Bool
whole_in tier id = option_and_then (λ s. whole_told s id) (state_of tier)

-- how many bytes a whole body has that that request found and hasn't read
abbrev pub found_in : Shards → ℕ → Option ℕ
found_in tier id = option_and_then (λ s. found_len s id) (state_of tier)

-- how many bytes the finished body of an entry's key has outside
abbrev pub outside_in : Shards → CacheEntryKey → ℕ
outside_in tier e = unwrap_or (option_map (λ f. f.0.external) (finished_in tier (stored_key (key_of e)))) 0

-- the entries of a shard, most recently used first, if there is such a shard
abbrev pub entries_of : ℕ → State → Option (List CacheEntryKey)
entries_of shard s = if nat_lt shard (shards_of s) then Some (map (λ r. r.entry) (rows_at s.managed.shards shard)) else None

abbrev pub entries_at : Shards → ℕ → Option (List CacheEntryKey)
entries_at tier shard = option_and_then (entries_of shard) (state_of tier)

-- what a tier of so many shards is made with
abbrev pub made_with : ℕ → Given → Settings
made_with n s = record { shards = n; limit = s.limit; watermark = s.watermark; age = s.age; wait = s.wait }

-- a new tier started: it holds nothing but an order of use, under the settings that it had, and what it does from then on is that of a tier that
-- began with this order of use
abbrev pub StartsAs : State → State → Type 0
StartsAs a b = IsNew a × HasOnlyOrder b × (settings_of b ≡ settings_of a) × (b ≡ record a { managed = b.managed }) × HasPast (opening_of b) b []
