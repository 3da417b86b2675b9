-- What a request is after its steps.
use Rattle.std.specs.Prelude.{◌≡◌, ℕ, false, List, Option, Some, None, option_map, if◌then◌else◌}
use Rattle.cache_words.specs.Time.{MomentValue}
use Rattle.cache_heads.specs.Fresh.{is_fresh_at}
use Rattle.cache_changes.specs.Store.{Flying, flying_at}
use Rattle.cache_heads.specs.declared.meta.CacheMeta.{CacheMeta}
use Rattle.cache_store.specs.StoreState.{StoreState}
use Rattle.cache_store.specs.Answers.{Look, in_flight, finished}
use Rattle.cache_store.specs.Readers.{Reader, whole, streaming}
use Rattle.request_phases.specs.declared.phase.CachePhase.{CachePhase}
use Rattle.request_phases.specs.declared.phase.CachePhase.TheVariants as phases
use Rattle.request_phases.specs.Locks.{held}
use Rattle.request_store.specs.Looks.{meta_of}
use Rattle.request_cache.specs.Request.{Request}

-- a request that has its key alone: nothing was looked up, and nothing is held
pub record IsOpen {H M : Type 0} (r : Request H M) : Type 0 where
  pub phase : r.phase ≡ phases.CacheKey
  pub admits : r.admits ≡ false
  pub valid_after : r.valid_after ≡ None
  pub reader : r.reader ≡ None
  pub writer : r.writer ≡ None
  pub lock : held r.lock ≡ None

-- the phase after a look-up at a moment, by what the store shows of the key
abbrev pub phase_at : MomentValue → Option Look → CachePhase
phase_at moment None = phases.Miss
phase_at moment (Some look) = if is_fresh_at (meta_of look).internal.fresh_until moment then phases.Hit else phases.Stale

-- what the reader of a look-up reads: a finished body, or a write as it comes
abbrev pub reader_for : Look → Reader
reader_for (finished x) = whole x.write.number x.bytes x.bytes
reader_for (in_flight x) = streaming (record { number = x.write.number; place = 0 })

-- the bytes of a write in flight
abbrev pub bytes_at : ℕ → StoreState → Option (List ℕ)
bytes_at n h = option_map (λ (f : Flying CacheMeta). f.stored.bytes) (flying_at n h.store)
