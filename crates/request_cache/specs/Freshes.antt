-- Look-ups of responses that are fresh at a moment, whose metas a request doesn't take.
use Rattle.std.specs.Prelude.{◌≡◌, ℕ, Bool, true, false, List, Option, Some, None, option_map, Result, Ok, Err}
use Rattle.cache_words.specs.Time.{MomentValue}
use Rattle.cache_words.specs.Key.{Key}
use Rattle.cache_heads.specs.declared.meta.CacheMeta.{CacheMeta}
use Rattle.cache_entries.specs.declared.entry.CacheEntryId.{CacheEntryId}
use Rattle.cache_changes.specs.Store.{Stored}
use Rattle.cache_lock.specs.declared.status.LockStatus.{LockStatus}
use Rattle.cache_store.specs.declared.admission.Decision.{Decision}
use Rattle.cache_store.specs.declared.storage.store.FoundAt.{FoundAt}
use Rattle.cache_store.specs.Answers.{Look}
use Rattle.cache_store.specs.Looks.{Tells, told_at}
use Rattle.cache_store.specs.Readers.{Reader, PartsReader}
use Rattle.request_phases.specs.declared.phase.CachePhase.TheVariants.{Hit}
use Rattle.request_store.specs.declared.faults.LookUpFault.{LookUpFault}
use Rattle.request_store.specs.declared.faults.FoundFault.{FoundFault}
use Rattle.request_store.specs.declared.faults.FoundFault.TheVariants.{Lock}
use Rattle.request_store.specs.Spends.{Spends}
use Rattle.request_cache.specs.Points.{Point, point}
use Rattle.request_cache.specs.Lookups.{LookUpAnswer}

-- what a look-up found, as it is reported at a moment
abbrev pub found_at : {H : Type 0} → MomentValue → Result (Option (CacheMeta × H)) LookUpFault → Result (Option (FoundAt H)) LookUpFault
found_at moment (Ok found) = Ok (option_map (told_at moment) found)
found_at moment (Err fault) = Err fault

-- what a reader reports of a finished body that a look-up found; `stored` is the id under the key
abbrev pub TellsOf : {H : Type 0} → (H → ℕ) → (H → Option CacheEntryId) → (Stored CacheMeta → ℕ) → Option CacheEntryId → Option Look → Result (Option (CacheMeta × H)) LookUpFault → Type 0
TellsOf weight id weigh stored look (Ok found) = Tells weight id weigh stored look (Ok found)
TellsOf weight id weigh stored look (Err fault) = Unit {0}

-- the answer of a look-up, as it is reported at a moment
abbrev pub LookUpAtAnswer : {H M : Type 0} → (H → Reader) → (M → ℕ) → (H → ℕ) → (H → Option CacheEntryId) → (Stored CacheMeta → ℕ) → Option CacheEntryId → (List ℕ → LockStatus) → (Key → Decision → Type 0) → MomentValue → Option Look
    → Point H M → Result (Option (FoundAt H)) LookUpFault → Point H M → Type 0
LookUpAtAnswer {H} reader number weight id weigh stored custom decides moment look old r new =
    (found : Result (Option (CacheMeta × H)) LookUpFault) × LookUpAnswer reader number custom decides moment look old found new × TellsOf weight id weigh stored look found × (r ≡ found_at moment found)

-- a request takes a fresh response without its meta, and spends the earlier reader; or its use can't be counted, and it is given up
abbrev pub TakesFresh : {H M : Type 0} → (H → Reader) → H → Point H M → Result (Unit {0}) FoundFault → Point H M → Type 0
TakesFresh reader hit old (Ok done) new =
    (new.request ≡ record old.request { phase = Hit; meta = None; reader = Some hit }) × Spends reader old.request.reader old.held new.held × (new.lock ≡ old.lock)
TakesFresh reader hit old (Err (Lock fault)) new = ⊥
TakesFresh reader hit old (Err fault) new = (new.request ≡ old.request) × PartsReader (reader hit) old.held new.held × (new.lock ≡ old.lock)
