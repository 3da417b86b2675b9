-- Purges, opens, reads and pieces: each is answered by its row, and leaves what the promise says then.
use Rattle.std.proofs.Common.{◌≡◌, ℕ, refl, ap, sym, true, false, subst, cond, [], ◌∷◌, ◌==◌, inl, inr}
use Rattle.std.specs.Prelude.{Bool, Option, Some, None, is_some, Ok, Err, not}
use Rattle.std.specs.FinMap.{get}
use Rattle.cache_words.specs.Time.{MomentValue}
use Rattle.cache_words.specs.Key.{CacheKeyValue}
use Rattle.cache_changes.specs.Changes.{stored_key}
use Rattle.tier_model.specs.declared.event.Action.TheVariants.{Open, Purge}
use Rattle.cache_lock.specs.Changes.{Changes as LockChanges}
use Rattle.tier_model.specs.declared.event.Answer.{Answer}
use Rattle.tier_model.specs.declared.event.Answer.TheVariants.{Purged}
use Rattle.tier_model.specs.declared.event.TierFault.{TierFault}
use Rattle.tier_model.specs.declared.event.TierFault.TheVariants.{IdInUse}
use Rattle.tier_model.specs.Keys.{Entry, entry_of, alone, stored_key_of}
use Rattle.tier_model.specs.Calls.{Outcome, writes_after, extended}
use Rattle.tier_model.specs.Shelf.{look, is_there}
use Rattle.tier_model.specs.State.{Settings, Reader, closed, unread, spent, streaming, State, shards_of}
use Rattle.tier_model.specs.State as state
use Rattle.tier_model.specs.Checks.{unless}
use Rattle.tier_model.specs.Step.{AllowsBy, Allows, tells_of_write}
use Rattle.tier_model.specs.After.{with_counts, with_request, opened_request, after_purge, after}
use Rattle.tier_model.specs.After as state_after
use Rattle.tier_promise.specs.Promise.{Changes, Request, EventRow, Now, shown, takes, opened, open_row, came, refused}
use Rattle.tier_model.proofs.CallLaws.{Inside, call_at}
use Rattle.tier_promise.proofs.NowRows.{memory-out}
use Rattle.tier_promise.proofs.NowFits.{OpenFits, NowFits}
use Rattle.tier_promise.proofs.NowGone.{taken-fits}
use Rattle.tier_promise.proofs.NowRequests.{found-there}
use Rattle.tier_promise.proofs.NowSteps.{Step, Comes, same-count, request-fits, refused-fits, counted-fits}

module _ (x : Settings) (s : State) (locks : LockChanges) (now : Now) (fits : NowFits x s locks now) (used : ℕ) (t : MomentValue) (i : Inside) where
  abbrev c : Changes
  c = now.changes

  -- ---- purges

  found-is : (e : Entry) → is_there (look (stored_key e) s.shelf) ≡ is_some (shown (stored_key e) c)
  found-is e = found-there fits.numbers s.shelf.bodies s.shelf.flying s.shelf.writes c fits.shelf (stored_key e)

  purged-fits : (key : CacheKeyValue) (u v : Bool) (n : ℕ) → u ≡ v → n ≡ s.shelf.writes
      → NowFits x (with_counts n s.lock (after_purge s key u)) locks (record now { changes = extended c (cond v (takes (alone (entry_of key)) ∷ []) []) })
  purged-fits key true true n e same = counted-fits x (state_after.taken (shards_of s) (entry_of key) s) locks (record now { changes = takes (alone (entry_of key)) ∷ c }) n s.lock same refl
      (taken-fits x s locks now fits (shards_of s) fits.made.shards (entry_of key))
  purged-fits key false false n e same = counted-fits x s locks now n s.lock same refl fits
  purged-fits key true false n e same = absurd cc
  purged-fits key false true n e same = absurd cc

  pub purge-step : (key : CacheKeyValue) (o : Outcome) → Allows s (call_at t (Purge key) i o) → Step x used s locks (call_at t (Purge key) i o) now
  purge-step key (Err f) p = elim p.outcome [
    | inl h ↦ absurd h.1
    | inr h ↦ absurd h
  ]
  purge-step key (Ok a) p = subst (λ (b : Answer). Step x used s locks (call_at t (Purge key) i (Ok b)) now) (sym p.outcome) (record {
    right = record { read = p.read; outcome = (ap (λ (v : Bool). Ok (Purged v)) (found-is (entry_of key)), tt) };
    fits = purged-fits key (is_there (look (stored_key_of key) s.shelf)) (is_some (shown (stored_key (entry_of key)) c)) (writes_after s.shelf.writes i.began)
        (found-is (entry_of key)) (same-count s (tells_of_write (call_at t (Purge key) i (Ok a))) i.began p.begins);
  })

  -- ---- opens

  abbrev new_request : CacheKeyValue → Bool → state.Request
  new_request key asks = opened_request s.wait (entry_of key) asks

  pub opened-fits : (id : ℕ) (key : CacheKeyValue) (asks : Bool) → NowFits x (with_request id (new_request key asks) s) locks
      (record now { request = λ j. cond (j == id) (Some (opened (entry_of key) asks)) (now.request j) })
  opened-fits id key asks = request-fits x s locks now fits id (new_request key asks) (opened (entry_of key) asks)
      (record { entry = refl; asks = refl; wait = fits.wait; phase = refl; waited = refl; gave_read = refl; hold = tt; seen = tt; write = tt; reader = tt })

  abbrev OpenRow : Option Request → CacheKeyValue → Bool → EventRow
  OpenRow v key asks = open_row v (opened (entry_of key) asks)

  open_by : (id : ℕ) (key : CacheKeyValue) (asks : Bool) (o : Outcome) (q : Option state.Request) (v : Option Request) (n : ℕ) → get s.requests id ≡ q → now.request id ≡ v
      → OpenFits x fits.numbers fits.permits s.shelf c q v → n ≡ s.shelf.writes → AllowsBy (unless (not (is_some q)) IdInUse) s t (Open id key asks) (call_at t (Open id key asks) i o) o
      → Comes x used s locks now t (Open id key asks) i o id n (OpenRow v key asks)
  open_by id key asks o (Some q) None n is at f same p = absurd f
  open_by id key asks o None (Some r) n is at f same p = absurd f
  open_by id key asks (Ok a) (Some q) (Some r) n is at f same p = absurd cc
  open_by id key asks (Err g) (Some q) (Some r) n is at f same p =
      subst (λ (y : TierFault). Comes x used s locks now t (Open id key asks) i (Err y) id n (refused r IdInUse)) (let one : IdInUse ≡ g = cc in one)
      ((refl, tt), counted-fits x s locks (came id (refused r IdInUse) now).now n s.lock same refl (refused-fits x s locks now fits id r IdInUse at))
  open_by id key asks (Ok a) None None n is at f same p =
      subst (λ (b : Answer). Comes x used s locks now t (Open id key asks) i (Ok b) id n (OpenRow None key asks)) (sym p)
      ((refl, tt), counted-fits x (with_request id (new_request key asks) s) locks (came id (OpenRow None key asks) now).now n s.lock same refl (opened-fits id key asks))
  open_by id key asks (Err g) None None n is at f same p = elim p [
    | inl h ↦ subst (λ (y : TierFault). Comes x used s locks now t (Open id key asks) i (Err y) id n (OpenRow None key asks)) (sym h.0)
        (memory-out x used (OpenRow None key asks).needs c refl, counted-fits x s locks now n s.lock same refl fits)
    | inr h ↦ absurd h
  ]

  pub open-step : (id : ℕ) (key : CacheKeyValue) (asks : Bool) (o : Outcome) → Allows s (call_at t (Open id key asks) i o) → Step x used s locks (call_at t (Open id key asks) i o) now
  open-step id key asks o p =
      let all = open_by id key asks o (get s.requests id) (now.request id) (writes_after s.shelf.writes i.began) refl refl (fits.requests id) (same-count s (tells_of_write (call_at t (Open id key asks) i o)) i.began p.begins) p.outcome in
      record { right = record { read = p.read; outcome = all.0 }; fits = all.1 }
