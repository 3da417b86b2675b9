-- Drops: each is answered by its row, and leaves what the promise says then.
use Rattle.std.proofs.Common.{◌≡◌, ℕ, refl, ap, sym, ◌∙◌, true, false, subst, cond, [], ◌∷◌, ◌++◌, ◌==◌, inl, inr}
use Rattle.std.specs.Prelude.{Bool, Option, Some, None, Ok, Err}
use Rattle.std.specs.FinMap.{get}
use Rattle.std.proofs.lemmas.Bool.{eq-eqb}
use Rattle.cache_words.specs.Time.{MomentValue}
use Rattle.cache_lock.specs.Changes.{Changes as LockChanges, spends, stores}
use Rattle.cache_lock.specs.State.{LockState, with_status, after_all}
use Rattle.cache_lock.specs.State as lock_state
use Rattle.cache_lock.specs.declared.status.LockStatus.TheVariants.{Dangling}
use Rattle.tier_model.specs.declared.event.Action.TheVariants.{Drop}
use Rattle.tier_model.specs.declared.event.Answer.{Answer}
use Rattle.tier_model.specs.declared.event.TierFault.{TierFault}
use Rattle.tier_model.specs.declared.event.TierFault.TheVariants.{NoRequest}
use Rattle.tier_model.specs.Calls.{Outcome, writes_after, extended}
use Rattle.tier_model.specs.Shelf.{Readers, Shelf, landed}
use Rattle.tier_model.specs.State.{Settings, LockHold, nothing, permit, Reader, closed, streaming, State}
use Rattle.tier_model.specs.State as state
use Rattle.tier_model.specs.Checks.{unless_open}
use Rattle.tier_model.specs.Step.{AllowsBy, Allows, tells_of_write}
use Rattle.tier_model.specs.After.{with_counts, by_request, on_write, turned, without_request, leave_of, after}
use Rattle.tier_promise.specs.Promise.{Write, Changes, Request, Now, Hold, no_lock, holds, waits, left, dropped, drop_row, came, row_of}
use Rattle.tier_model.proofs.CallLaws.{Inside, call_at, at-remove, requests-after}
use Rattle.tier_model.proofs.GripLaws.{next-kept, next-spent}
use Rattle.tier_promise.proofs.NowRows.{row_closed}
use Rattle.tier_promise.proofs.NowFits.{HoldFits, WriteFits, RequestFits, OpenFits, NowFits}
use Rattle.tier_promise.proofs.NowRequests.{IsSound}
use Rattle.tier_promise.proofs.NowSteps.{Step, same-count, closed-fits, counted-fits}
use Rattle.tier_promise.proofs.NowQuiet.{ComesLocked}
use Rattle.tier_promise.proofs.NowOthers.{OtherFits, other-start, other-spent, other-ends, other-turned, other-left, other-closed}

module _ (x : Settings) (s : State) (locks : LockChanges) (now : Now) (fits : NowFits x s locks now) (sound : IsSound s) (used : ℕ) (t : MomentValue) (i : Inside) where
  abbrev c : Changes
  c = now.changes

  module _ (id : ℕ) (q : state.Request) (r : Request) (is : get s.requests id ≡ Some q) (f : RequestFits x fits.numbers fits.permits s.shelf c q r) where
    -- readers are there still
    abbrev pub StillThere : Shelf → Type 0
    StillThere shelf = (j n place : ℕ) (p : state.Request) → (id == j) ≡ false → get s.requests j ≡ Some p → p.reader ≡ streaming n place → (y : Readers) × (get shelf.readers n ≡ Some y)

    abbrev Others : Shelf → LockChanges → ℕ → Changes → Type 0
    Others shelf more next then = OtherFits x fits.numbers fits.permits s now id s.managed shelf more next then

    -- its write is given up
    pub write-left : (u : Option ℕ) (v : Option Write) → q.write ≡ u → WriteFits fits.numbers s.shelf.flying r.entry u v → Others (on_write u (landed false) s.shelf) locks s.lock.next (extended c (left v))
    write-left None None held h = other-start x s now id locks fits
    write-left (Some n) (Some w) held h = other-left x s now id fits.numbers fits.permits s.managed s.shelf locks s.lock.next c (other-start x s now id locks fits) false n w.number h.0 h.2.0 h.2.1
        (λ j p apart there e. let same : id ≡ j = sound.apart id j n q p is there held e in let one : (id == j) ≡ true = eq-eqb id j same in absurd cc)
        (λ j place p apart there e. sound.readers j n place p there e)
    write-left (Some n) None held h = absurd h
    write-left None (Some w) held h = absurd h

    module _ (shelf : Shelf) (then : Changes) (o : Others shelf locks s.lock.next then) where
      -- what it holds is left
      pub hold-left : (u : LockHold) (v : Hold) → HoldFits fits.permits u v → Others shelf (leave_of u ++ locks) (after_all (leave_of u) s.lock).next (extended then (dropped v))
      hold-left nothing no_lock h = o
      hold-left (permit n) (holds p) h =
          let mid : LockState = lock_state.on_core n (with_status Dangling) s.lock in
          let next : (after_all (spends n ∷ stores n Dangling ∷ []) s.lock).next ≡ s.lock.next = next-spent n (get mid.cores n) mid ∙ next-kept n (with_status Dangling) (get s.lock.cores n) s.lock in
          subst (λ (m : ℕ). Others shelf (spends n ∷ stores n Dangling ∷ locks) m (extended then (dropped (holds p)))) (sym next)
          (other-spent x s now id fits.numbers fits.permits s.managed shelf (stores n Dangling ∷ locks) s.lock.next (extended then (dropped (holds p)))
          (other-ends x s now id fits.numbers fits.permits s.managed shelf locks s.lock.next then o n p h Dangling refl refl) n)
      hold-left (state.waits n first) (waits p since) h =
          subst (λ (m : ℕ). Others shelf (spends n ∷ locks) m then) (sym (next-spent n (get s.lock.cores n) s.lock)) (other-spent x s now id fits.numbers fits.permits s.managed shelf locks s.lock.next then o n)
      hold-left nothing (holds p) h = absurd h
      hold-left nothing (waits p since) h = absurd h
      hold-left (permit n) no_lock h = absurd h
      hold-left (permit n) (waits p since) h = absurd h
      hold-left (state.waits n first) no_lock h = absurd h
      hold-left (state.waits n first) (holds p) h = absurd h

    both_extended : (v : Option Write) (h : Hold) → extended c (left v ++ dropped h) ≡ extended (extended c (left v)) (dropped h)
    both_extended None h = refl
    both_extended (Some w) h = refl

    still_writes : (u : Option ℕ) → (on_write u (landed false) s.shelf).writes ≡ s.shelf.writes
    still_writes None = refl
    still_writes (Some n) = refl

    -- the request is gone
    pub drop-fits : StillThere (turned q.reader closed (on_write q.write (landed false) s.shelf)) → (k : ℕ) → k ≡ s.shelf.writes
        → NowFits x (with_counts k (after_all (leave_of q.held) s.lock) (without_request s id q)) (leave_of q.held ++ locks) (came id (drop_row r) now).now
    drop-fits there k same = subst (λ (l : Changes). NowFits x (with_counts k (after_all (leave_of q.held) s.lock) (without_request s id q)) (leave_of q.held ++ locks) (record { changes = l; request = λ j. cond (j == id) None (now.request j) }))
        (sym (both_extended r.write r.hold))
        (counted-fits x (record (without_request s id q) { lock = after_all (leave_of q.held) s.lock }) (leave_of q.held ++ locks)
        (record { changes = extended (extended c (left r.write)) (dropped r.hold); request = λ j. cond (j == id) None (now.request j) }) k (after_all (leave_of q.held) s.lock) (same ∙ sym (still_writes q.write)) refl
        (other-closed x s (record (without_request s id q) { lock = after_all (leave_of q.held) s.lock }) now id fits.numbers fits.permits (leave_of q.held ++ locks) (extended (extended c (left r.write)) (dropped r.hold))
        None None fits.wait fits.some (at-remove s.requests id) tt
        (hold-left (turned q.reader closed (on_write q.write (landed false) s.shelf)) (extended c (left r.write))
        (other-turned x s now id fits.numbers fits.permits s.managed (on_write q.write (landed false) s.shelf) locks s.lock.next (extended c (left r.write)) (write-left q.write r.write refl f.write) q.reader closed there)
        q.held r.hold f.hold)))

  -- ---- the event

  drop_open : (id : ℕ) (o : Outcome) (q : Option state.Request) (v : Option Request) (k : ℕ) → get s.requests id ≡ q → now.request id ≡ v → OpenFits x fits.numbers fits.permits s.shelf c q v → k ≡ s.shelf.writes
      → ((p : state.Request) → get s.requests id ≡ Some p → (a : Answer) → o ≡ Ok a → (j n place : ℕ) (y : state.Request) → (id == j) ≡ false → get s.requests j ≡ Some y → y.reader ≡ streaming n place
      → (z : Readers) × (get (turned p.reader closed (on_write p.write (landed false) s.shelf)).readers n ≡ Some z))
      → AllowsBy (unless_open q (λ q. None)) s t (Drop id) (call_at t (Drop id) i o) o → ComesLocked x used s locks now t (Drop id) i o id k (row_of v (λ r. drop_row r))
  drop_open id o (Some q) None k is at f same there p = absurd f
  drop_open id o None (Some r) k is at f same there p = absurd f
  drop_open id (Ok a) None None k is at f same there p = absurd cc
  drop_open id (Err g) None None k is at f same there p =
      subst (λ (y : TierFault). ComesLocked x used s locks now t (Drop id) i (Err y) id k row_closed) (let one : NoRequest ≡ g = cc in one)
      ((refl, tt), counted-fits x s locks (came id row_closed now).now k s.lock same refl (closed-fits x s locks now fits id at))
  drop_open id (Ok a) (Some q) (Some r) k is at f same there p =
      subst (λ (y : Answer). ComesLocked x used s locks now t (Drop id) i (Ok y) id k (drop_row r)) (sym p) (
        (refl, tt),
        subst (λ (o : Option state.Request). NowFits x (with_counts k (after_all (by_request [] o (λ q. leave_of q.held)) s.lock) (by_request s o (λ q. without_request s id q))) (by_request [] o (λ q. leave_of q.held) ++ locks)
            (came id (drop_row r) now).now) (sym is) (drop-fits id q r is f (there q is a refl) k same),
      )
  drop_open id (Err g) (Some q) (Some r) k is at f same there p = elim p [
    | inl h ↦ absurd h.1
    | inr h ↦ absurd h
  ]

  -- readers are there after the event
  there_after : (id : ℕ) (a : Answer) (q : state.Request) → get s.requests id ≡ Some q → IsSound (after s (call_at t (Drop id) i (Ok a))) → (j n place : ℕ) (y : state.Request) → (id == j) ≡ false → get s.requests j ≡ Some y
      → y.reader ≡ streaming n place → (z : Readers) × (get (turned q.reader closed (on_write q.write (landed false) s.shelf)).readers n ≡ Some z)
  there_after id a q is new j n place y apart there e =
      let z = new.readers j n place y (requests-after s (call_at t (Drop id) i (Ok a)) j ∙ ap (λ (v : Bool). cond v None (get s.requests j)) apart ∙ there) e in
      subst (λ (o : Option state.Request). (z : Readers) × (get (by_request s o (λ q. without_request s id q)).shelf.readers n ≡ Some z)) is z

  pub drop-step : (id : ℕ) (o : Outcome) → Allows s (call_at t (Drop id) i o) → IsSound (after s (call_at t (Drop id) i o)) → Step x used s locks (call_at t (Drop id) i o) now
  drop-step id o p new =
      let all = drop_open id o (get s.requests id) (now.request id) (writes_after s.shelf.writes i.began) refl refl (fits.requests id) (same-count s (tells_of_write (call_at t (Drop id) i o)) i.began p.begins)
      (λ q is a e. there_after id a q is (subst (λ (y : Outcome). IsSound (after s (call_at t (Drop id) i y))) e new)) p.outcome in
      record { right = record { read = p.read; outcome = all.0 }; fits = all.1 }
