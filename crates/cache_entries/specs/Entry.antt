-- Entries: a kept key, and the id of one stored body where there is one.
use Rattle.std.specs.Prelude.{ℕ, ◌==◌, ◌&&◌, ◌++◌, Bool, true, false, Option, Some, None}
use Rattle.std.specs.Hash as fed
use Rattle.cache_words.specs.declared.key.CompactCacheKey.{CompactCacheKey}
use Rattle.cache_entries.specs.declared.entry.CacheEntryId.{CacheEntryId}
use Rattle.cache_entries.specs.declared.entry.CacheEntryKey.{CacheEntryKey}
use Rattle.cache_entries.specs.declared.entry.CacheEntryKey.TheVariants as owned
use Rattle.cache_entries.specs.declared.entry.CacheEntryKeyRef.{CacheEntryKeyRef}
use Rattle.cache_entries.specs.declared.entry.CacheEntryKeyRef.TheVariants as borrowed
use Rattle.cache_entries.specs.Keys.{same_key, key_writes}

-- the number that an id is
abbrev pub number_of : CacheEntryId → ℕ
number_of id = id.0

-- the entry that a borrowed one stands for
abbrev pub owned_of : CacheEntryKeyRef → CacheEntryKey
owned_of (borrowed.KeyOnly key) = owned.KeyOnly key.now
owned_of (borrowed.Identified key id) = owned.Identified key.now id

-- the entry of a key, with an id or without one
abbrev pub entry_with : CompactCacheKey → Option ℕ → CacheEntryKey
entry_with key None = owned.KeyOnly key
entry_with key (Some n) = owned.Identified key (record { 0 = n })

abbrev pub key_of : CacheEntryKey → CompactCacheKey
key_of (owned.KeyOnly key) = key
key_of (owned.Identified key id) = key

-- the id, if there is one
abbrev pub id_of : CacheEntryKey → Option ℕ
id_of (owned.KeyOnly key) = None
id_of (owned.Identified key id) = Some (number_of id)

abbrev pub same_id : Option ℕ → Option ℕ → Bool
same_id None None = true
same_id (Some i) (Some j) = i == j
same_id _ _ = false

-- both are one entry: one key, and one id or both without one
abbrev pub same_entry : CacheEntryKey → CacheEntryKey → Bool
same_entry a b = same_key (key_of a) (key_of b) && same_id (id_of a) (id_of b)

-- what is hashed of an entry: the key, and then the id
abbrev pub entry_writes : CacheEntryKey → fed.HashWrites
entry_writes e = key_writes (key_of e) ++ fed.option fed.u64 (id_of e)
