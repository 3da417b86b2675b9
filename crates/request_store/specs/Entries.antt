-- Entries of what is stored under a request's key.
use Rattle.std.specs.Prelude.{[], Option, Some, None, option_map}
use Rattle.cache_words.specs.Key.{CacheKeyValue, key_of, combined}
use Rattle.cache_changes.specs.Changes.{StoredKey}
use Rattle.cache_entries.specs.declared.entry.CacheEntryId.{CacheEntryId}
use Rattle.cache_entries.specs.declared.entry.CacheEntryKey.{CacheEntryKey}
use Rattle.cache_entries.specs.Entry.{entry_with, number_of}
use Rattle.request_store.specs.Admissions.{compact}

-- the entry of a key, with the id of what is stored under it
abbrev pub entry_at : Option CacheKeyValue → Option CacheEntryId → CacheEntryKey
entry_at None id = entry_with (record { primary = []; variance = None; user_tag = [] }) (option_map number_of id)
entry_at (Some key) id = entry_with (compact (key_of key)) (option_map number_of id)

-- what is stored for a request is stored under the hash of its key; without a key under none
abbrev pub stored_at : Option CacheKeyValue → StoredKey
stored_at None = []
stored_at (Some key) = combined (key_of key)
