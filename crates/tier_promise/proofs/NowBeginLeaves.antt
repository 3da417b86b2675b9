-- What a begin leaves: a write of a head that is kept, or nothing, where it may not be; the lock without the permit that the request held.
use Rattle.std.proofs.Common.{◌≡◌, ℕ, ◌+◌, refl, ap, sym, ◌∙◌, false, subst, ◌∷◌, ◌++◌, ◌==◌, length, arith}
use Rattle.std.specs.Prelude.{Bool, List, Option, Some, None, option_map}
use Rattle.std.specs.FinMap.{get, insert}
use Rattle.cache_changes.specs.Changes.{StoredKey, stored_key}
use Rattle.cache_entries.specs.Entry.{key_of}
use Rattle.cache_entries.specs.declared.entry.CacheEntryKey.{CacheEntryKey}
use Rattle.cache_heads.specs.Merged.{with_provenance_of}
use Rattle.cache_heads.specs.declared.meta.CacheMeta.{CacheMeta}
use Rattle.cache_heads.specs.declared.reason.NoCacheReason.{NoCacheReason}
use Rattle.cache_lock.specs.Changes.{Changes as LockChanges}
use Rattle.cache_lock.specs.State.{after_all}
use Rattle.cache_lock.specs.declared.status.LockStatus.TheVariants as status
use Rattle.tier_model.specs.Response.{kept, not_kept}
use Rattle.tier_model.specs.Calls.{extended}
use Rattle.tier_model.specs.Shelf.{InFlight, Readers, Shelf, readable_of}
use Rattle.tier_model.specs.Shelf as shelf_is
use Rattle.tier_model.specs.State.{Settings, Phase, cache_key, hit, stale, miss, begun, disabled, revalidated, LockHold, nothing, Reader, closed, streaming, State}
use Rattle.tier_model.specs.State as state
use Rattle.tier_model.specs.Answers.{key_for}
use Rattle.tier_model.specs.After.{with_counts, turned, release_of, meta_for, writing, after_begin}
use Rattle.tier_promise.specs.Promise.{Write, Changes, Request, Now, no_lock, begins, bytes_of, released, begin_row, came}
use Rattle.tier_model.proofs.CallLaws.{at-insert}
use Rattle.tier_promise.proofs.NowFits.{RequestFits, NowFits}
use Rattle.tier_promise.proofs.NowRequests.{flying-read}
use Rattle.tier_promise.proofs.NowQuiet.{IsLocked}
use Rattle.tier_promise.proofs.NowOthers.{OtherFits, other-start, other-turned, other-closed}
use Rattle.tier_promise.proofs.NowBeginSteps.{seen_same, shelf_then, more, flight, other-begins, flight-number, flight-at, release-left}

module _ (x : Settings) (s : State) (locks : LockChanges) (now : Now) (fits : NowFits x s locks now) (locked : IsLocked x.age s locks) (id : ℕ) (q : state.Request) (r : Request) (is : get s.requests id ≡ Some q)
    (f : RequestFits x fits.numbers fits.permits s.shelf now.changes q r) where
  abbrev c : Changes
  c = now.changes

  abbrev n : ℕ
  n = s.shelf.writes

  -- readers are there still
  abbrev pub StillThere : Reader → Shelf → Type 0
  StillThere reader shelf = (j m place : ℕ) (p : state.Request) → (id == j) ≡ false → get s.requests j ≡ Some p → p.reader ≡ streaming m place → (y : Readers) × (get (turned q.reader reader shelf).readers m ≡ Some y)

  -- ---- a head that is kept

  module _ (meta : CacheMeta) where
    abbrev stored_meta : CacheMeta
    stored_meta = with_provenance_of (option_map (λ y. y.meta) r.seen) meta

    abbrev w : Write
    w = record { number = length c; entry = r.entry; meta = stored_meta }

    abbrev state_with : StoredKey → CacheMeta → State
    state_with key m = record s { shelf = turned q.reader (streaming n 0) (shelf_is.begun key m s.shelf); requests = insert s.requests id (writing n q) }

    abbrev then : Changes
    then = extended (begins w ∷ c) (released status.Done r.hold c)

    abbrev pub begun_shelf : Shelf
    begun_shelf = shelf_then x s now id fits.numbers fits.permits s.managed s.shelf locks s.lock.next c (other-start x s now id locks fits) r.entry stored_meta

    kept_others : StillThere (streaming n 0) begun_shelf
        → OtherFits x (more x s now id fits.numbers fits.permits s.managed s.shelf locks s.lock.next c (other-start x s now id locks fits) r.entry stored_meta) fits.permits s now id s.managed
        (turned q.reader (streaming n 0) begun_shelf) (release_of status.Done q q.held s.lock ++ locks) (after_all (release_of status.Done q q.held s.lock) s.lock).next then
    kept_others there =
        let o = other-start x s now id locks fits in
        let b = other-begins x s now id fits.numbers fits.permits s.managed s.shelf locks s.lock.next c o r.entry stored_meta in
        let into = more x s now id fits.numbers fits.permits s.managed s.shelf locks s.lock.next c o r.entry stored_meta in
        let d = other-turned x s now id into fits.permits s.managed begun_shelf locks s.lock.next (begins w ∷ c) b q.reader (streaming n 0) there in
        release-left x s locks now fits locked id q is status.Done refl refl into s.managed (turned q.reader (streaming n 0) begun_shelf) (begins w ∷ c) (λ m. refl) d q.held r.hold refl f.hold

    kept-fits : StillThere (streaming n 0) begun_shelf
        → NowFits x (with_counts (n + 1) (after_all (release_of status.Done q q.held s.lock) s.lock) (state_with (stored_key r.entry) stored_meta)) (release_of status.Done q q.held s.lock ++ locks)
        (came id (begin_row (Some (kept meta)) r c) now).now
    kept-fits there =
        let o = other-start x s now id locks fits in
        let into = more x s now id fits.numbers fits.permits s.managed s.shelf locks s.lock.next c o r.entry stored_meta in
        let named = flight-number x s now id fits.numbers fits.permits s.managed s.shelf locks s.lock.next c o r.entry stored_meta in
        let there_at = flight-at x s now id fits.numbers fits.permits s.managed s.shelf locks s.lock.next c o r.entry stored_meta in
        let g : InFlight = flight x s now id fits.numbers fits.permits s.managed s.shelf locks s.lock.next c o r.entry stored_meta in
        let all = kept_others there in
        let read = flying-read into (turned q.reader (streaming n 0) begun_shelf) (n + 1) then all.stored n (length c) named g there_at in
        other-closed x s (with_counts (n + 1) (after_all (release_of status.Done q q.held s.lock) s.lock) (state_with (stored_key r.entry) stored_meta)) now id into fits.permits (release_of status.Done q q.held s.lock ++ locks) then
        (Some (writing n q)) (Some (record r { phase = begun; hold = no_lock; seen = None; write = Some w; reader = streaming w.number 0 })) fits.wait fits.some (at-insert s.requests id (writing n q))
        (record {
          entry = f.entry;
          asks = f.asks;
          wait = f.wait;
          phase = refl;
          waited = f.waited;
          gave_read = f.gave_read;
          hold = tt;
          seen = tt;
          write = (named, refl, (g, there_at, refl, refl));
          reader = (
            named,
            refl,
            ap (λ (y : Option InFlight). readable_of y (get (turned q.reader (streaming n 0) begun_shelf).readers n)) there_at
                ∙ ap (λ (b : List ℕ). let said : List ℕ × Bool = (b, g.ended) in Some said) read.0 ∙ ap (λ (d : Bool). let said : List ℕ × Bool = (bytes_of (length c) then, d) in Some said) read.1,
            omega arith,
          );
        })
        all

    meta_is : meta_for q meta ≡ stored_meta
    meta_is = ap (λ (y : Option CacheMeta). with_provenance_of y meta) (seen_same fits.numbers q.seen r.seen f.seen)

    key_is : key_for q ≡ stored_key r.entry
    key_is = ap (λ (e : CacheEntryKey). stored_key (key_of e)) f.entry

    pub kept-leaves : StillThere (streaming n 0) begun_shelf
        → NowFits x (with_counts (n + 1) (after_all (release_of status.Done q q.held s.lock) s.lock) (after_begin s id q (Some (kept meta)))) (release_of status.Done q q.held s.lock ++ locks)
        (came id (begin_row (Some (kept meta)) r c) now).now
    kept-leaves there = subst (λ (k : StoredKey). NowFits x (with_counts (n + 1) (after_all (release_of status.Done q q.held s.lock) s.lock) (state_with k (meta_for q meta))) (release_of status.Done q q.held s.lock ++ locks)
        (came id (begin_row (Some (kept meta)) r c) now).now) (sym key_is)
        (subst (λ (m : CacheMeta). NowFits x (with_counts (n + 1) (after_all (release_of status.Done q q.held s.lock) s.lock) (state_with (stored_key r.entry) m)) (release_of status.Done q q.held s.lock ++ locks)
        (came id (begin_row (Some (kept meta)) r c) now).now) (sym meta_is) (kept-fits there))

  -- ---- a head that may not be kept

  pub not-kept-leaves : (reason : NoCacheReason) → StillThere closed s.shelf → (k : ℕ) → k ≡ n
      → NowFits x (with_counts k (after_all (release_of status.GiveUp q q.held s.lock) s.lock) (after_begin s id q (Some (not_kept reason)))) (release_of status.GiveUp q q.held s.lock ++ locks)
      (came id (begin_row (Some (not_kept reason)) r c) now).now
  not-kept-leaves reason there k same = subst (λ (m : ℕ). NowFits x (with_counts m (after_all (release_of status.GiveUp q q.held s.lock) s.lock) (after_begin s id q (Some (not_kept reason))))
      (release_of status.GiveUp q q.held s.lock ++ locks) (came id (begin_row (Some (not_kept reason)) r c) now).now) (sym same)
      (other-closed x s (with_counts n (after_all (release_of status.GiveUp q q.held s.lock) s.lock) (after_begin s id q (Some (not_kept reason)))) now id fits.numbers fits.permits
      (release_of status.GiveUp q q.held s.lock ++ locks) (extended c (released status.GiveUp r.hold c)) (Some (record q { phase = disabled; held = nothing; seen = None; reader = closed }))
      (Some (record r { phase = disabled; hold = no_lock; seen = None; reader = closed })) fits.wait fits.some (at-insert s.requests id (record q { phase = disabled; held = nothing; seen = None; reader = closed }))
      (record { entry = f.entry; asks = f.asks; wait = f.wait; phase = refl; waited = f.waited; gave_read = f.gave_read; hold = tt; seen = tt; write = f.write; reader = tt })
      (let d = other-turned x s now id fits.numbers fits.permits s.managed s.shelf locks s.lock.next c (other-start x s now id locks fits) q.reader closed there in
      release-left x s locks now fits locked id q is status.GiveUp refl refl fits.numbers s.managed (turned q.reader closed s.shelf) c (λ m. refl) d q.held r.hold refl f.hold))
