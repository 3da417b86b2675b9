-- Stored keys and entries.
use Rattle.cache_words.specs.Key.{CacheKeyValue, primary_hash}
use Rattle.cache_words.specs.declared.key.CompactCacheKey.{CompactCacheKey}
use Rattle.cache_entries.specs.declared.entry.CacheEntryKey.{CacheEntryKey}
use Rattle.cache_entries.specs.declared.entry.CacheEntryKey.TheVariants.{KeyOnly}
use Rattle.cache_changes.specs.Changes.{StoredKey, stored_key}

-- a key as it is kept, with its tag
abbrev pub Entry : Type 0
Entry = CompactCacheKey

-- the entry of a key that is asked for
abbrev pub entry_of : CacheKeyValue → Entry
entry_of k = record { primary = primary_hash k.primary_bin_override k.primary; variance = k.variance; user_tag = k.user_tag }

-- the entry that a key has in the order of use: it has no id
abbrev pub alone : Entry → CacheEntryKey
alone key = KeyOnly key

-- the stored key of a requested key
abbrev pub stored_key_of : CacheKeyValue → StoredKey
stored_key_of k = stored_key (entry_of k)
