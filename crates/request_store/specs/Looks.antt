-- What a look-up finds that is no older than a moment.
use Rattle.std.specs.Prelude.{◌≡◌, ℕ, Bool, false, not, Option, Some, None, option_map, Ok, if◌then◌else◌}
use Rattle.cache_words.specs.Time.{MomentValue, at_most}
use Rattle.cache_heads.specs.declared.meta.CacheMeta.{CacheMeta}
use Rattle.cache_entries.specs.declared.entry.CacheEntryId.{CacheEntryId}
use Rattle.cache_changes.specs.Store.{Stored}
use Rattle.cache_store.specs.declared.storage.store.FoundAt.{FoundAt}
use Rattle.cache_store.specs.Answers.{Look, in_flight, finished}
use Rattle.cache_store.specs.StoreState.{StoreState}
use Rattle.cache_store.specs.Looks.{LookAnswer, Tells, told_at}
use Rattle.cache_store.specs.Readers.{Reader, SameStoreState}

abbrev pub meta_of : Look → CacheMeta
meta_of (in_flight x) = x.meta
meta_of (finished x) = x.meta

-- a response that was created before that moment isn't found
abbrev pub is_hidden : Option MomentValue → CacheMeta → Bool
is_hidden None meta = false
is_hidden (Some since) meta = not (at_most since meta.internal.created)

-- what a request finds of what a look-up shows
abbrev pub valid_look : Option MomentValue → Option Look → Option Look
valid_look since None = None
valid_look since (Some look) = if is_hidden since (meta_of look) then None else Some look

-- what a request that looks up finds in the store; where that is nothing, all is as before
abbrev pub IsValidFound : {H : Type 0} → (H → Reader) → Option Look → StoreState → Option (CacheMeta × H) → StoreState → Type 0
IsValidFound reader look old (Some found) new = LookAnswer reader look old (Ok (Some found)) new
IsValidFound reader look old None new = (look ≡ None) × SameStoreState old new

-- the same, as it is reported at a moment; with what the reader reports of a finished body
abbrev pub IsValidFoundAt : {H : Type 0} → (H → Reader) → (H → ℕ) → (H → Option CacheEntryId) → (Stored CacheMeta → ℕ) → Option CacheEntryId → MomentValue → Option MomentValue → Option Look
    → StoreState → Option (FoundAt H) → StoreState → Type 0
IsValidFoundAt {H} reader weight id weigh stored moment since look old r new =
    (found : Option (CacheMeta × H)) × IsValidFound reader (valid_look since look) old found new × Tells weight id weigh stored look (Ok found) × (r ≡ option_map (told_at moment) found)
