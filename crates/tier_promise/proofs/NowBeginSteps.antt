-- Begins: each is answered by its row, and leaves what the promise says then.
use Rattle.std.proofs.Common.{◌≡◌, ℕ, ◌+◌, refl, ap, false, subst, cond, [], ◌∷◌, ◌++◌, length, arith}
use Rattle.std.specs.Prelude.{Option, Some, None, option_map, is_some}
use Rattle.std.specs.FinMap.{get}
use Rattle.std.proofs.lemmas.Bool.{eq-eqb}
use Rattle.cache_changes.specs.Changes.{stored_key}
use Rattle.cache_evict.specs.Managed.{Managed}
use Rattle.cache_heads.specs.declared.meta.CacheMeta.{CacheMeta}
use Rattle.cache_lock.specs.Changes.{Changes as LockChanges}
use Rattle.cache_lock.specs.State.{after_all}
use Rattle.cache_lock.specs.Status.{is_waiting}
use Rattle.cache_lock.specs.declared.status.LockStatus.{LockStatus}
use Rattle.tier_model.specs.Keys.{Entry}
use Rattle.tier_model.specs.Calls.{extended}
use Rattle.tier_model.specs.Shelf.{InFlight, Readers, Shelf, has_number, flying_at, readable_of}
use Rattle.tier_model.specs.Shelf as shelf_is
use Rattle.tier_model.specs.State.{Settings, LockHold, nothing, permit, Reader, closed, streaming, Seen, begun, disabled, State}
use Rattle.tier_model.specs.State as state
use Rattle.tier_model.specs.After.{release_of}
use Rattle.tier_promise.specs.Promise.{Write, Permit, Changes, Request, Now, Hold, no_lock, holds, waits, begins, bytes_of, is_done, ended, released}
use Rattle.tier_promise.specs.Promise as now_is
use Rattle.tier_promise.proofs.NowLists.{all-mapped}
use Rattle.tier_promise.proofs.NowFits.{Numbers, Permits, end_of, IsFlight, ShelfFits, HoldFits, SeenFits, NowFits}
use Rattle.tier_promise.proofs.NowShelf.{apart_number, with_number, new_flight, named-more, named-new, shelf-begins}
use Rattle.tier_promise.proofs.NowLock.{lock-same}
use Rattle.tier_promise.proofs.NowPut.{find-last, find-pushed}
use Rattle.tier_promise.proofs.NowRequests.{open-carried, reads-on, Carries}
use Rattle.tier_promise.proofs.NowSteps.{no_longer}
use Rattle.tier_promise.proofs.NowQuiet.{IsLocked}
use Rattle.tier_promise.proofs.NowOthers.{OtherFits}
use Rattle.tier_promise.proofs.NowBegins.{permit-left}

pub seen_same : (numbers : Numbers) (a b : Option Seen) → SeenFits numbers a b → option_map (λ y. y.meta) a ≡ option_map (λ y. y.meta) b
seen_same numbers None None h = refl
seen_same numbers (Some a) (Some b) h = ap (λ (m : CacheMeta). Some m) h.1
seen_same numbers (Some a) None h = absurd h
seen_same numbers None (Some b) h = absurd h

-- ---- a write begins

module _ (x : Settings) (s : State) (now : Now) (id : ℕ) (numbers : Numbers) (permits : Permits) (m : Managed) (shelf : Shelf) (locks : LockChanges) (next : ℕ) (c : Changes)
    (f : OtherFits x numbers permits s now id m shelf locks next c) (e : Entry) (meta : CacheMeta) where
  abbrev pub shelf_then : Shelf
  shelf_then = record (shelf_is.begun (stored_key e) meta shelf) { writes = shelf.writes + 1 }

  abbrev pub more : Numbers
  more = with_number shelf.writes (length c) numbers

  abbrev pub w : Write
  w = record { number = length c; entry = e; meta = meta }

  abbrev pub flight : InFlight
  flight = new_flight shelf.writes (stored_key e) meta

  was_there : (n : ℕ) (o : Option InFlight) → flying_at n shelf.flying ≡ o → flying_at n (shelf.flying ++ flight ∷ []) ≡ None → o ≡ None
  was_there n None is h = refl
  was_there n (Some g) is h = let there : flying_at n (shelf.flying ++ flight ∷ []) ≡ Some g = find-pushed n shelf.flying flight g is in absurd cc

  stored_then : ShelfFits more shelf.bodies (shelf.flying ++ flight ∷ []) (shelf.writes + 1) (begins w ∷ c)
  stored_then = shelf-begins numbers shelf.bodies shelf.flying shelf.writes c e meta f.stored

  pub begin-carries : (q : state.Request) → Carries numbers more shelf shelf_then c (begins w ∷ c) q
  begin-carries q = record {
    named = λ i j h. named-more numbers shelf.bodies shelf.flying shelf.writes c e meta f.stored i j h;
    flights = λ i g held at. (g, find-pushed i shelf.flying flight g at, refl, refl);
    reads = λ i place j held h read. reads-on more shelf_then (shelf.writes + 1) (begins w ∷ c) stored_then i j (named-more numbers shelf.bodies shelf.flying shelf.writes c e meta f.stored i j h) shelf c
        (λ none. was_there i (flying_at i shelf.flying) refl none) (λ gone. refl) (λ d. (refl, d)) (no_longer (length (bytes_of j c))) read;
  }

  pub other-begins : OtherFits x more permits s now id m shelf_then locks next (begins w ∷ c)
  other-begins = record {
    made = f.made;
    order = f.order;
    stored = stored_then;
    lock = lock-same permits locks next c f.lock (begins w ∷ c) (omega arith) (λ j. refl) (λ j. refl);
    others = λ j apart. open-carried numbers more shelf shelf_then c (begins w ∷ c) x permits permits (get s.requests j) (now.request j) (λ q is. begin-carries q) (λ j p h. h) (f.others j apart);
  }

  pub flight-number : more shelf.writes ≡ Some (length c)
  flight-number = named-new numbers shelf.bodies shelf.flying shelf.writes c e meta f.stored

  pub flight-at : flying_at shelf.writes (shelf.flying ++ flight ∷ []) ≡ Some flight
  flight-at = find-last shelf.writes shelf.flying flight
      (all-mapped (IsFlight numbers (λ i. bytes_of i c) (λ i. is_done i c)) (λ g. has_number shelf.writes g ≡ false) shelf.flying
      (λ g h. let l = (f.stored.below g.number h.0 h.1).0 in apart_number shelf.writes g.number (λ same. absurd (omega (arith, l, same)))) f.stored.each)
      (eq-eqb shelf.writes shelf.writes refl)

-- ---- what is held of the lock

module _ (x : Settings) (s : State) (locks : LockChanges) (now : Now) (fits : NowFits x s locks now) (locked : IsLocked x.age s locks) (id : ℕ) (q : state.Request) (is : get s.requests id ≡ Some q) (how : LockStatus)
    (over : end_of how ≡ Some how) (not_waiting : is_waiting how ≡ false) (numbers : Numbers) (m : Managed) (shelf : Shelf) (c : Changes) (same : (n : ℕ) → ended n c ≡ ended n now.changes)
    (f : OtherFits x numbers fits.permits s now id m shelf locks s.lock.next c) where
  abbrev After : LockChanges → Changes → Type 0
  After more then = OtherFits x numbers fits.permits s now id m shelf (more ++ locks) (after_all more s.lock).next then

  pub release-left : (u : LockHold) (v : Hold) → q.held ≡ u → HoldFits fits.permits u v → After (release_of how q u s.lock) (extended c (released how v now.changes))
  release-left nothing no_lock held h = f
  release-left (permit n) (holds p) held h = subst (λ (o : Option LockStatus). After (release_of how q (permit n) s.lock) (extended c (cond (is_some o) [] (now_is.ends p.number how ∷ [])))) (same p.number)
      (permit-left x s locks now fits locked id q is n held p h how over not_waiting numbers m shelf c (same p.number) f)
  release-left (state.waits n first) (waits p since) held h = f
  release-left nothing (holds p) held h = absurd h
  release-left nothing (waits p since) held h = absurd h
  release-left (permit n) no_lock held h = absurd h
  release-left (permit n) (waits p since) held h = absurd h
  release-left (state.waits n first) no_lock held h = absurd h
  release-left (state.waits n first) (holds p) held h = absurd h
