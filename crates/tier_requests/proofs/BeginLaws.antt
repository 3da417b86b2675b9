-- A request that may begin a write, and how it stops using the cache, as the plain record has it.
use Rattle.std.proofs.Common.{◌≡◌, ℕ, refl, ap, sym, ◌∙◌, subst, Bool, true, false, Some, None, Option, List}
use Rattle.std.specs.Prelude.{is_some}
use Rattle.cache_words.specs.Time.{DurationValue}
use Rattle.cache_heads.specs.declared.meta.CacheMeta.{CacheMeta}
use Rattle.cache_heads.specs.declared.reason.NoCacheReason.TheVariants.{OriginNotCache}
use Rattle.cache_lock.specs.declared.status.LockStatus.{LockStatus}
use Rattle.cache_lock.specs.declared.status.LockStatus.TheVariants as status
use Rattle.cache_lock.specs.State.{LockState}
use Rattle.request_phases.specs.declared.phase.CachePhase.{CachePhase}
use Rattle.request_phases.specs.declared.phase.CachePhase.TheVariants as phases
use Rattle.request_phases.specs.Phases.{is_disabled}
use Rattle.request_phases.specs.Locks as locks
use Rattle.request_phases.specs.Locks.{is_read}
use Rattle.cache_store.specs.StoreState.{StoreState}
use Rattle.store_memory.specs.Readings as readings
use Rattle.request_cache.specs.Request.{emptied, disabled_in, disabled_for}
use Rattle.request_cache.specs.Points.{point, IsDisabledFor}
use Rattle.tier_model.specs.Shelf.{landed}
use Rattle.tier_model.specs.State.{Phase, disabled, nothing, closed}
use Rattle.tier_model.specs.Checks.{can_begin}
use Rattle.tier_model.specs.After.{turned, on_write}
use Rattle.tier_requests.specs.Shelves.{shelf_of}
use Rattle.tier_requests.specs.Plain.{Driven, phase_in, reader_in, plain_of, IsDriven}
use Rattle.tier_requests.specs.Rows.{GivesUp}
use Rattle.tier_requests.proofs.EndLaws.{shelf-ends}
use Rattle.tier_requests.proofs.LockLaws.{released-for, released-as}

on-in : (p : CachePhase) (meta gave : Bool) → can_begin (phase_in p meta) gave ≡ true → is_disabled p ≡ false
on-in (phases.Disabled reason) meta gave may = absurd cc
on-in _ meta gave may = refl

emptied-in : (p : CachePhase) (r : Driven) → is_disabled p ≡ false → disabled_in p OriginNotCache r ≡ record (emptied r) { phase = phases.Disabled OriginNotCache }
emptied-in (phases.Disabled reason) r on = absurd cc
emptied-in _ r on = refl

module _ (d : Driven) (asks : Bool) (wait : Option DurationValue) (gave : Bool) (k : ℕ) (share : Option CacheMeta) (bytes : Option (List ℕ)) (i : IsDriven d asks wait gave share bytes) (may : can_begin (phase_in d.phase (is_some d.meta)) gave ≡ true) where
  pub is-on : is_disabled d.phase ≡ false
  is-on = on-in d.phase (is_some d.meta) gave may

  -- it has no write, and doesn't wait
  pub no-writer : d.writer ≡ None
  no-writer = by_writer d.writer refl
    where
      by_writer : (w : Option ℕ) → d.writer ≡ w → w ≡ None
      by_writer None e = refl
      by_writer (Some n) e =
          let never : false ≡ true = subst (λ (p : Phase). can_begin p gave ≡ true) (i.writes (ap is_some e)) may in
          absurd cc

  pub not-waiting : is_read (locks.held d.lock) ≡ false
  not-waiting = by_test (is_read (locks.held d.lock)) refl
    where
      by_test : (t : Bool) → is_read (locks.held d.lock) ≡ t → t ≡ false
      by_test false e = refl
      by_test true e = sym may ∙ i.waits e

  -- ---- it stops using the cache

  abbrev off : Driven
  off = record (emptied d) { phase = phases.Disabled OriginNotCache }

  is-off : disabled_for OriginNotCache d ≡ off
  is-off = emptied-in d.phase d is-on

  off-request : plain_of off asks wait gave k None None ≡ record (plain_of d asks wait gave k share bytes) { phase = disabled; held = nothing; seen = None; reader = closed }
  off-request = ap (λ (w : Option ℕ). record (plain_of d asks wait gave k share bytes) { phase = disabled; held = nothing; seen = None; reader = closed; write = w }) (sym no-writer)

  pub given-up : (custom : List ℕ → LockStatus) (h0 h : StoreState) (s s' : LockState) (new : Driven) → IsDisabledFor readings.reader_of (λ n. n) custom OriginNotCache (point d h0 s) (point new h s')
      → GivesUp (plain_of d asks wait gave k share bytes) (shelf_of h0) s (plain_of new asks wait gave k None None) (shelf_of h) s'
  given-up custom h0 h s s' new e = record {
    request = ap (λ (r : Driven). plain_of r asks wait gave k None None) (e.request ∙ is-off) ∙ off-request;
    shelf = shelf-ends bytes d.reader d.writer h0 h e.store ∙ ap (λ (w : Option ℕ). turned (reader_in bytes d.reader) closed (on_write w (landed false) (shelf_of h0))) no-writer;
    lock = e.lock ∙ released-for d.key status.GiveUp d.lock s i.key ∙ released-as d.key (locks.held d.lock) d.lock.polled status.GiveUp (plain_of d asks wait gave k share bytes) s i.key refl not-waiting;
  }
