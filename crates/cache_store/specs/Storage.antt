-- What is purged, and faults as text.
use Rattle.std.specs.Prelude.{◌≡◌, ◌++◌, ℕ, List, Option, Some, ⊤, IfSome, codes}
use Rattle.cache_words.specs.Key.{shown}
use Rattle.cache_words.specs.CompactKey.{compact_view}
use Rattle.cache_words.specs.declared.key.CompactCacheKey.{CompactCacheKey}
use Rattle.cache_entries.specs.declared.entry.CacheEntryKey.{CacheEntryKey}
use Rattle.cache_entries.specs.Entry.{key_of, id_of, entry_with}
use Rattle.cache_entries.specs.EntryShown.{shown_entry}
use Rattle.cache_store.specs.declared.storage.PurgeTarget.{PurgeTarget}
use Rattle.cache_store.specs.declared.storage.PurgeTarget.TheVariants.{Active, Exact}
use Rattle.cache_store.specs.declared.storage.StoreFault.{StoreFault}
use Rattle.cache_store.specs.declared.storage.StoreFault.TheVariants.{Memory, WriteRemoved, AfterEnd, SeekRange, NoMeta, WriteNumbersSpent, MetaMoment}

-- the key under which the target is stored
abbrev pub key_of_target : PurgeTarget → CompactCacheKey
key_of_target (Active key) = key.now
key_of_target (Exact entry) = key_of entry.now

-- no other id than that of an exact target; any for a key
abbrev pub IsTargetsId : PurgeTarget → Option ℕ → Type 0
IsTargetsId (Active key) id = ⊤
IsTargetsId (Exact entry) id = IfSome id (λ n. id_of entry.now ≡ Some n)

-- the entry that went with the target: a key's with the id of its body, if any, or the exact one
abbrev pub removed_of : PurgeTarget → Option ℕ → CacheEntryKey
removed_of (Active key) id = entry_with key.now id
removed_of (Exact entry) id = entry.now

abbrev pub target_text : PurgeTarget → List ℕ
target_text (Active key) = codes "active entry for " ++ shown (compact_view key.now)
target_text (Exact entry) = shown_entry entry.now

abbrev pub store_fault_text : StoreFault → List ℕ
store_fault_text Memory = codes "out of memory"
store_fault_text WriteRemoved = codes "the key was purged since the write began"
store_fault_text AfterEnd = codes "the end of the write was already marked"
store_fault_text SeekRange = codes "the range is not within the body"
store_fault_text NoMeta = codes "no meta is stored under the key"
store_fault_text WriteNumbersSpent = codes "no number is left for a write"
store_fault_text MetaMoment = codes "a moment of the meta can't be written"
