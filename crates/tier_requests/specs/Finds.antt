-- What a look-up of a request does with what the store gave it.
use Rattle.std.specs.Prelude.{◌≡◌, ◌⊎◌, ℕ, true, false, List, if◌then◌else◌, Option, Some, None, Result, Ok, Err, MatchResult}
use Rattle.cache_words.specs.Time.{MomentValue}
use Rattle.cache_evict.specs.Managed.{Managed}
use Rattle.cache_lock.specs.State.{LockState, after_all}
use Rattle.cache_store.specs.declared.storage.StoreFault.{StoreFault}
use Rattle.cache_store.specs.declared.storage.StoreFault.TheVariants.{Memory}
use Rattle.cache_store.specs.declared.storage.store.FoundAt.{FoundAt}
use Rattle.cache_store.specs.declared.storage.store.FoundAt.TheVariants.{Fresh, Stale}
use Rattle.cache_store.specs.Readers.{whole, streaming}
use Rattle.request_phases.specs.declared.phase.CachePhase.TheVariants.{Miss}
use Rattle.request_phases.specs.Phases.{has_reader_phase}
use Rattle.request_phases.specs.Locks.{is_read, held}
use Rattle.store_memory.specs.declared.handlers.MemHitHandler.{MemHitHandler}
use Rattle.store_memory.specs.declared.handlers.MemHitHandler.TheVariants.{Complete, Partial}
use Rattle.store_memory.specs.Hits.{WholeHit, next_bytes}
use Rattle.store_memory.specs.Readings.{reader_of, weight_of}
use Rattle.tier_model.specs.Calls.{Outcome}
use Rattle.tier_model.specs.Rows.{size_of}
use Rattle.tier_model.specs.Shelf.{Look, absent, in_flight, finished}
use Rattle.tier_model.specs.State.{Request}
use Rattle.tier_model.specs.Answers.{finds_fresh, lock_given, look_answer}
use Rattle.tier_model.specs.After.{looked, given_changes}
use Rattle.tier_requests.specs.Plain.{Driven}
use Rattle.tier_requests.specs.Shown.{meta_found}
use Rattle.tier_requests.specs.Looks.{used_by, UseRefused, LockRefused, RunsOut, LeavesLock}

-- a reader of a body once its bytes are taken out
abbrev pub taken : WholeHit → Result (Option (List ℕ)) StoreFault → WholeHit
taken h (Ok bytes) = record h { done = true }
taken h (Err f) = h

-- the bytes that a reader of a body reads next are taken out of it; a reader of a write keeps them
abbrev pub TakeAnswer : MemHitHandler → Result (Option (List ℕ)) StoreFault → MemHitHandler → Type 0
TakeAnswer (Complete h) r new = MatchResult r (λ bytes. bytes ≡ Some (next_bytes h)) (λ f. f ≡ Memory) × (new ≡ Complete (taken h r))
TakeAnswer (Partial h) r new = (r ≡ Ok None) × (new ≡ Partial h)

-- that is found with this reader, which has read nothing; one of a body weighs what that takes
abbrev pub IsReadBy : Look → MemHitHandler → Type 0
IsReadBy absent hit = ⊥
IsReadBy (in_flight f) hit = reader_of hit ≡ streaming (record { number = f.number; place = 0 })
IsReadBy (finished x) hit = (reader_of hit ≡ whole x.number x.body.bytes x.body.bytes) × (weight_of hit ≡ size_of x.body)

-- that is found, and is reported at moment t: it is fresh then, or past its moment and has this meta
abbrev pub IsFoundBy : MomentValue → Look → FoundAt MemHitHandler → Type 0
IsFoundBy t l (Fresh until hit) = (finds_fresh t l ≡ true) × IsReadBy l hit
IsFoundBy t l (Stale meta hit) = (finds_fresh t l ≡ false) × (meta_found l ≡ Some meta) × IsReadBy l hit

-- the reader that is reported
abbrev pub hit_told : FoundAt MemHitHandler → MemHitHandler
hit_told (Fresh until hit) = hit
hit_told (Stale meta hit) = hit

-- a request that found nothing goes on to a miss. With a wait it stays in its phase, and forgets the meta of what it found before
abbrev pub missed_by : Driven → Driven
missed_by r =
    if is_read (held r.lock)
    then record r { meta = if has_reader_phase r.phase then None else r.meta }
    else record r { phase = Miss; meta = None; stale_variance = None }

module _ (n : ℕ) (weighed : ℕ → ℕ) where
  -- what is answered to a request that found something, and what that leaves of the request, of the order of use in n shards, and of the lock
  abbrev pub FoundAnswer : MomentValue → Request → Look → Managed → LockState → Outcome → Request → Managed → LockState → Type 0
  FoundAnswer t q l m s (Ok a) new m' s' =
      (a ≡ look_answer t (lock_given t q l s) l) × (new ≡ looked t q l s) × (m' ≡ used_by n weighed q l m) × (s' ≡ after_all (given_changes t q l s) s)
  FoundAnswer t q l m s (Err f) new m' s' =
      (RunsOut n weighed t q l s f ⊎ (UseRefused n weighed q l m f ⊎ LockRefused n weighed t q l s f)) × (new ≡ q) × (m' ≡ m) × LeavesLock t q l s s'
