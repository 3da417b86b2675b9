-- Look-ups: each is answered by its row, and leaves what the promise says then, though it was refused after it was given a lock.
use Rattle.std.proofs.Common.{◌≡◌, ℕ, ◌+◌, refl, ap, sym, ◌∙◌, true, false, subst, cond, [], ◌∷◌, ◌++◌, ◌==◌, inl, inr}
use Rattle.std.specs.Prelude.{Bool, Option, Some, None, option_map, Ok, Err, not, ◌⊎◌}
use Rattle.std.specs.FinMap.{get}
use Rattle.cache_words.specs.Time.{MomentValue}
use Rattle.cache_changes.specs.Changes.{StoredKey, stored_key}
use Rattle.cache_entries.specs.Entry.{key_of}
use Rattle.cache_entries.specs.declared.entry.CacheEntryKey.{CacheEntryKey}
use Rattle.cache_lock.specs.Answers.{to_wait_for, locked_by, lock_change, leave_changes}
use Rattle.cache_lock.specs.Changes.{Changes as LockChanges, spends, stores, lends}
use Rattle.cache_lock.specs.Changes as lock
use Rattle.cache_lock.specs.State.{LockState, named, with_status, after_all}
use Rattle.cache_lock.specs.State as lock_state
use Rattle.cache_lock.specs.declared.status.LockStatus.TheVariants.{Dangling}
use Rattle.tier_model.specs.declared.event.Action.TheVariants.{LookUp}
use Rattle.tier_model.specs.declared.event.Answer.{Answer}
use Rattle.tier_model.specs.declared.event.Done.{Done}
use Rattle.tier_model.specs.declared.event.LockGiven.{LockGiven}
use Rattle.tier_model.specs.declared.event.LockGiven.TheVariants as given
use Rattle.tier_model.specs.declared.event.TierFault.{TierFault}
use Rattle.tier_model.specs.declared.event.TierFault.TheVariants.{NoRequest, WrongPhase, Waiting, Memory, TooHeavy, TooLong, NumbersSpent}
use Rattle.tier_model.specs.Calls.{Outcome, writes_after, nothing_done}
use Rattle.tier_model.specs.Rows.{weight_for}
use Rattle.tier_model.specs.Shelf.{Readers, Look, absent, in_flight, finished, look, is_there}
use Rattle.tier_model.specs.State.{Settings, LockHold, nothing, permit, streaming, State}
use Rattle.tier_model.specs.State as state
use Rattle.tier_model.specs.Checks.{unless_open, look_refusal}
use Rattle.tier_model.specs.Answers.{key_for, look_for, asks_now, given_for, given_if, lock_given, look_answer, IsKeptOut}
use Rattle.tier_model.specs.Step.{AllowsBy, Allows, UseFits, IsDue, IsUseFault, IsLockFault, AsksLock, tells_of_write}
use Rattle.tier_model.specs.After.{with_counts, by_request, turned, reader_of, given_changes, back_changes, after_look, looked, lock_changes_in, after_outcome, after}
use Rattle.tier_promise.specs.Promise.{Permit, Changes, Request, EventRow, Now, waiting, asked, told, refused, row_of, look_by, far_of, Whether, ComesSo, SomeRanOut, ran_out, came}
use Rattle.tier_model.proofs.CallLaws.{Inside, call_at, requests-after}
use Rattle.tier_model.proofs.GripLaws.{next-kept, next-spent}
use Rattle.tier_promise.proofs.LockNames.{IsFew, spent-few}
use Rattle.tier_promise.proofs.Room.{no-room}
use Rattle.tier_promise.proofs.NowRows.{row_closed, memory-out, number-out}
use Rattle.tier_promise.proofs.NowFits.{LockFits, RequestFits, OpenFits, NowFits}
use Rattle.tier_promise.proofs.NowLock.{lock-lent, lock-spent}
use Rattle.tier_promise.proofs.NowRequests.{IsSound}
use Rattle.tier_promise.proofs.NowSteps.{Step, of-open, same-count, refused-fits, closed-fits, counted-fits}
use Rattle.tier_promise.proofs.NowQuiet.{IsLocked, ComesLocked}
use Rattle.tier_promise.proofs.NowWaits.{WaitMatches, wait-matches, lock-back}
use Rattle.tier_promise.proofs.NowLooks.{told-is}
use Rattle.tier_promise.proofs.NowLookUps.{ThereStill, Leaves}
use Rattle.tier_promise.proofs.NowLookSteps.{Finds, look-finds, passed, failed}

-- another lock that leaves the permits as they are
lock-instead : (x : Settings) (s : State) (locks more : LockChanges) (l : LockState) (now : Now) (n : ℕ) → n ≡ s.shelf.writes → (fits : NowFits x s locks now) → LockFits fits.permits more l.next now.changes
    → NowFits x (with_counts n l s) more now
lock-instead x s locks more l now n same fits f = counted-fits x (record s { lock = l }) more now n l same refl (record {
  numbers = fits.numbers;
  permits = fits.permits;
  wait = fits.wait;
  some = fits.some;
  made = fits.made;
  rows = fits.rows;
  shelf = fits.shelf;
  lock = f;
  requests = fits.requests;
})

module _ (x : Settings) (s : State) (locks : LockChanges) (now : Now) (fits : NowFits x s locks now) (locked : IsLocked x.age s locks) (sound : IsSound s) (used : ℕ) (few : IsFew used s.lock) (t : MomentValue) (i : Inside) where
  abbrev c : Changes
  c = now.changes

  -- a lock that was given is handed back
  back_at : (k : StoredKey) (stale : Bool) (o : Option ℕ) (v : Option Permit) → WaitMatches fits.permits o v → waiting k c ≡ v
      → LockFits fits.permits ((leave_changes (locked_by s.lock o) ++ lock_change k stale t s.lock o ∷ []) ++ locks) (after_all (leave_changes (locked_by s.lock o) ++ lock_change k stale t s.lock o ∷ []) s.lock).next c
  back_at k stale None None h e =
      let first : LockState = after_all (lock.gives s.lock.next k stale t ∷ []) s.lock in
      let mid : LockState = lock_state.on_core s.lock.next (with_status Dangling) first in
      let next : (after_all (spends s.lock.next ∷ stores s.lock.next Dangling ∷ lock.gives s.lock.next k stale t ∷ []) s.lock).next ≡ s.lock.next + 1 =
      next-spent s.lock.next (get mid.cores s.lock.next) mid ∙ next-kept s.lock.next (with_status Dangling) (get first.cores s.lock.next) first in
      subst (λ (m : ℕ). LockFits fits.permits (spends s.lock.next ∷ stores s.lock.next Dangling ∷ lock.gives s.lock.next k stale t ∷ locks) m c) (sym next)
      (lock-back fits.permits locks s.lock.next c fits.lock k stale t locked.granted.grants.given e)
  back_at k stale (Some n) (Some p) h e =
      let first : LockState = lock_state.on_core n named s.lock in
      let next : (after_all (spends n ∷ lends n ∷ []) s.lock).next ≡ s.lock.next = next-spent n (get first.cores n) first ∙ next-kept n named (get s.lock.cores n) s.lock in
      subst (λ (m : ℕ). LockFits fits.permits (spends n ∷ lends n ∷ locks) m c) (sym next) (lock-spent fits.permits (lends n ∷ locks) s.lock.next c (lock-lent fits.permits locks s.lock.next c fits.lock n) n)
  back_at k stale (Some n) None h e = absurd h
  back_at k stale None (Some p) h e = absurd h

  back-fits : (k : StoredKey) (stale : Bool) (n : ℕ) → n ≡ s.shelf.writes
      → NowFits x (with_counts n (after_all (leave_changes (locked_by s.lock (to_wait_for k s.lock)) ++ lock_change k stale t s.lock (to_wait_for k s.lock) ∷ []) s.lock) s)
      ((leave_changes (locked_by s.lock (to_wait_for k s.lock)) ++ lock_change k stale t s.lock (to_wait_for k s.lock) ∷ []) ++ locks) now
  back-fits k stale n same =
      let more : LockChanges = leave_changes (locked_by s.lock (to_wait_for k s.lock)) ++ lock_change k stale t s.lock (to_wait_for k s.lock) ∷ [] in
      lock-instead x s locks (more ++ locks) (after_all more s.lock) now n same fits (back_at k stale (to_wait_for k s.lock) (waiting k c) (wait-matches x s locks now fits locked k) refl)

  module _ (id : ℕ) (q : state.Request) (r : Request) (is : get s.requests id ≡ Some q) (at : now.request id ≡ Some r) (f : RequestFits x fits.numbers fits.permits s.shelf c q r) (n : ℕ) (same : n ≡ s.shelf.writes) where
    abbrev key : StoredKey
    key = stored_key r.entry

    abbrev L : Look
    L = look_for q s.shelf

    F : Finds x s locks now fits locked sound t id q r f
    F = look-finds x s locks now fits locked sound t id q r f

    key_is : key_for q ≡ key
    key_is = ap (λ (e : CacheEntryKey). stored_key (key_of e)) f.entry

    L_is : L ≡ F.finds
    L_is = ap (λ (y : StoredKey). look y s.shelf) key_is ∙ F.is

    asks_is : asks_now t q L ≡ F.asks
    asks_is = ap (asks_now t q) L_is ∙ F.asks_is

    answer_is : look_answer t (lock_given t q L s.lock) L ≡ look_answer t (told (asked F.asks t r c)) F.finds
    answer_is =
        ap (λ (b : Bool). look_answer t (given_if b (to_wait_for (key_for q) s.lock)) L) asks_is
        ∙ ap (λ (y : StoredKey). look_answer t (given_if F.asks (to_wait_for y s.lock)) L) key_is
        ∙ ap (λ (g : LockGiven). look_answer t g L) (told-is x s locks now fits locked t id r F.asks)
        ∙ ap (look_answer t (told (asked F.asks t r c))) L_is

    left_is : q.held ≡ nothing → ThereStill x s locks now fits locked sound t id q r f L → Leaves x s locks now fits locked sound t id q r f (asks_now t q L) (key_for q) q.held L n F.row
    left_is free there =
        let a = F.leaves (subst (λ (y : Look). ThereStill x s locks now fits locked sound t id q r f y) L_is there) n same in
        let b = subst (λ (y : Look). Leaves x s locks now fits locked sound t id q r f F.asks key nothing y n F.row) (sym L_is) a in
        let d = subst (λ (y : Bool). Leaves x s locks now fits locked sound t id q r f y key nothing L n F.row) (sym asks_is) b in
        let e = subst (λ (y : StoredKey). Leaves x s locks now fits locked sound t id q r f (asks_now t q L) y nothing L n F.row) (sym key_is) d in
        subst (λ (y : LockHold). Leaves x s locks now fits locked sound t id q r f (asks_now t q L) (key_for q) y L n F.row) (sym free) e

    -- a refusal with nothing done
    kept_ran : (e : CacheEntryKey) (w : ℕ) (g : TierFault) → IsKeptOut s e w nothing_done g → ran_out (Err g) ≡ true
    kept_ran e w (Memory d) p = ap (λ (y : Done). not y.stored) p.0
    kept_ran e w (TooHeavy d) p = ap (λ (y : Done). not y.stored) p.0
    kept_ran e w (TooLong d) p = ap (λ (y : Done). not y.stored) p.0
    kept_ran e w (NumbersSpent d) p = ap (λ (y : Done). not y.stored) p.0
    kept_ran e w _ p = absurd p

    use_ran : (l : Look) (g : TierFault) → IsUseFault s q l g → ran_out (Err g) ≡ true
    use_ran (finished y) g p = kept_ran q.entry (weight_for y.body) g p.1
    use_ran (in_flight y) g p = absurd p
    use_ran absent g p = absurd p

    late_ran : (g : TierFault) → IsUseFault s q L g ⊎ IsLockFault s t q g → ran_out (Err g) ≡ true
    late_ran g p = elim p [
      | inl h ↦ use_ran L g h
      | inr h ↦ subst (λ (y : TierFault). ran_out (Err y) ≡ true) (sym h.0) refl
    ]

    ran-fits : (g : TierFault) (b : Bool) → NowFits x (with_counts n (after_all (cond b (back_changes t q L s.lock) []) s.lock) s) (cond b (back_changes t q L s.lock) [] ++ locks) now
    ran-fits g true = back-fits (key_for q) (is_there L) n same
    ran-fits g false = counted-fits x s locks now n s.lock same refl fits

    -- ---- what the row needs

    given_is : lock_given t q L s.lock ≡ told (asked F.asks t r c)
    given_is =
        ap (λ (b : Bool). given_if b (to_wait_for (key_for q) s.lock)) asks_is
        ∙ ap (λ (y : StoredKey). given_if F.asks (to_wait_for y s.lock)) key_is
        ∙ told-is x s locks now fits locked t id r F.asks

    due_takes : IsDue s t q L → (F.row).needs.memory ≡ true
    due_takes due = F.memory (elim due [
      | inl there ↦ inl (ap is_there (sym L_is) ∙ there)
      | inr new ↦ inr (sym given_is ∙ new.0)
    ])

    abbrev RanOut : TierFault → Type 0
    RanOut g = SomeRanOut x used (F.row).needs (Err g) c

    late_takes : (g : TierFault) → IsUseFault s q L g ⊎ IsLockFault s t q g → RanOut g
    late_takes g p = elim p [
      | inl h ↦ no-room x used (F.row).needs c g (F.stays_out g (subst (λ (y : Look). IsUseFault s q y g) L_is h))
      | inr h ↦ subst RanOut (sym h.0) (number-out x used (F.row).needs c (F.number (sym asks_is ∙ h.1)) (spent-few used s.lock few (to_wait_for (key_for q) s.lock) h.2))
    ]

    abbrev Comes : Outcome → EventRow → Type 0
    Comes o row = ComesLocked x used s locks now t (LookUp id) i o id n row

    abbrev ComesBy : Bool → Outcome → EventRow → Type 0
    ComesBy v o row = Whether v (SomeRanOut x used row.needs o c) ((o ≡ row.outcome) × ComesSo x row.needs.entering (far_of o) c)
        × NowFits x (with_counts n (after_all (lock_changes_in s t (LookUp id) o i.asked) s.lock) (after_outcome s t (LookUp id) (call_at t (LookUp id) i o) o)) (lock_changes_in s t (LookUp id) o i.asked ++ locks) (cond v now (came id row now).now)

    ran : (g : TierFault) → RanOut g → ran_out (Err g) ≡ true → Comes (Err g) F.row
    ran g out e = subst (λ (v : Bool). ComesBy v (Err g) F.row) (sym e) (
      out,
      subst (λ (o : Option state.Request). NowFits x (with_counts n (after_all (cond i.asked (by_request [] o (λ q. back_changes t q (look_for q s.shelf) s.lock)) []) s.lock) s)
          (cond i.asked (by_request [] o (λ q. back_changes t q (look_for q s.shelf) s.lock)) [] ++ locks) now) (sym is) (ran-fits g i.asked),
    )

    -- a check fails, and no lock was given
    check_failed : (h : TierFault) → i.asked ≡ false → (h ≡ WrongPhase) ⊎ (h ≡ Waiting) → Comes (Err h) (refused r h)
    check_failed h free e = subst (λ (v : Bool). ComesBy v (Err h) (refused r h)) (sym (by_check e)) (
      (refl, tt),
      subst (λ (b : Bool). NowFits x (with_counts n (after_all (cond b (by_request [] (get s.requests id) (λ q. back_changes t q (look_for q s.shelf) s.lock)) []) s.lock) s)
          (cond b (by_request [] (get s.requests id) (λ q. back_changes t q (look_for q s.shelf) s.lock)) [] ++ locks) (came id (refused r h) now).now) (sym free)
          (counted-fits x s locks (came id (refused r h) now).now n s.lock same refl (refused-fits x s locks now fits id r h at)),
    )
      where
        by_check : (h ≡ WrongPhase) ⊎ (h ≡ Waiting) → ran_out (Err h) ≡ false
        by_check e = elim e [
          | inl y ↦ subst (λ (z : TierFault). ran_out (Err z) ≡ false) (sym y) refl
          | inr y ↦ subst (λ (z : TierFault). ran_out (Err z) ≡ false) (sym y) refl
        ]

    look_open : (o : Outcome) → ((a : Answer) → o ≡ Ok a → ThereStill x s locks now fits locked sound t id q r f L) → (v : Option TierFault) → look_refusal q ≡ v → (i.asked ≡ true → v ≡ None)
        → AllowsBy v s t (LookUp id) (call_at t (LookUp id) i o) o → Comes o (look_by r.phase r.hold t r c)
    look_open (Ok a) there (Some g) e asks p = absurd cc
    look_open (Err g) there (Some h) e asks p =
        let no = failed x s locks now fits t r h q.phase q.held r.hold f.hold e in
        let row : look_by r.phase r.hold t r c ≡ refused r h = ap (λ (y : state.Phase). look_by y r.hold t r c) (sym f.phase) ∙ no.1 in
        subst (λ (y : EventRow). Comes (Err g) y) (sym row) (subst (λ (y : TierFault). Comes (Err y) (refused r h)) (let one : h ≡ g = cc in one) (check_failed h (not_asked i.asked refl asks) no.0))
      where
        not_asked : (b : Bool) → i.asked ≡ b → (i.asked ≡ true → Some h ≡ None) → i.asked ≡ false
        not_asked false is all = is
        not_asked true is all = let clash : Some h ≡ None = all is in absurd cc
    look_open (Ok a) there None e asks p =
        let pass = passed x s locks now fits t r q.phase q.held r.hold f.hold e in
        let row : look_by r.phase r.hold t r c ≡ F.row = ap (λ (y : state.Phase). look_by y r.hold t r c) (sym f.phase) ∙ pass.1 ∙ F.row_is in
        let says = of-open s id q (λ q. (a ≡ look_answer t (lock_given t q (look_for q s.shelf) s.lock) (look_for q s.shelf)) × UseFits s q (look_for q s.shelf)) is p in
        subst (λ (y : EventRow). Comes (Ok a) y) (sym row) (
          (ap (λ (y : Answer). let said : Outcome = Ok y in said) (says.0 ∙ answer_is) ∙ sym F.says, F.comes (subst (λ (y : Look). UseFits s q y) L_is says.1) (far_of (Ok a))),
          subst (λ (o : Option state.Request). NowFits x (with_counts n (after_all (by_request [] o (λ q. given_changes t q (look_for q s.shelf) s.lock)) s.lock) (by_request s o (λ q. after_look s t id q (look_for q s.shelf))))
              (by_request [] o (λ q. given_changes t q (look_for q s.shelf) s.lock) ++ locks) (came id F.row now).now) (sym is) (left_is pass.0 (there a refl)),
        )
    look_open (Err g) there None e asks p =
        let pass = passed x s locks now fits t r q.phase q.held r.hold f.hold e in
        let row : look_by r.phase r.hold t r c ≡ F.row = ap (λ (y : state.Phase). look_by y r.hold t r c) (sym f.phase) ∙ pass.1 ∙ F.row_is in
        subst (λ (y : EventRow). Comes (Err g) y) (sym row) (elim p [
          | inl h ↦ ran g (subst RanOut (sym h.0) (memory-out x used (F.row).needs c (due_takes (of-open s id q (λ q. IsDue s t q (look_for q s.shelf)) is h.1)))) (subst (λ (y : TierFault). ran_out (Err y) ≡ true) (sym h.0) refl)
          | inr h ↦ let late = of-open s id q (λ q. IsUseFault s q (look_for q s.shelf) g ⊎ IsLockFault s t q g) is h in ran g (late_takes g late) (late_ran g late)
        ])

  -- ---- the event

  look_by_open : (id : ℕ) (o : Outcome) (q : Option state.Request) (v : Option Request) (n : ℕ) → get s.requests id ≡ q → now.request id ≡ v → OpenFits x fits.numbers fits.permits s.shelf c q v → n ≡ s.shelf.writes
      → ((p : state.Request) → get s.requests id ≡ Some p → (a : Answer) → o ≡ Ok a → (j m place : ℕ) (y : state.Request) → (id == j) ≡ false → get s.requests j ≡ Some y → y.reader ≡ streaming m place
      → (z : Readers) × (get (turned p.reader (reader_of (look_for p s.shelf)) s.shelf).readers m ≡ Some z))
      → (i.asked ≡ true → unless_open q look_refusal ≡ None) → AllowsBy (unless_open q look_refusal) s t (LookUp id) (call_at t (LookUp id) i o) o
      → ComesLocked x used s locks now t (LookUp id) i o id n (row_of v (λ r. look_by r.phase r.hold t r c))
  look_by_open id o (Some q) None n is at f same there asks p = absurd f
  look_by_open id o None (Some r) n is at f same there asks p = absurd f
  look_by_open id (Ok a) None None n is at f same there asks p = absurd cc
  look_by_open id (Err g) None None n is at f same there asks p =
      subst (λ (y : TierFault). ComesLocked x used s locks now t (LookUp id) i (Err y) id n row_closed) (let one : NoRequest ≡ g = cc in one) (
        (refl, tt),
        subst (λ (b : Bool). NowFits x (with_counts n (after_all (cond b (by_request [] (get s.requests id) (λ q. back_changes t q (look_for q s.shelf) s.lock)) []) s.lock) s)
            (cond b (by_request [] (get s.requests id) (λ q. back_changes t q (look_for q s.shelf) s.lock)) [] ++ locks) (came id row_closed now).now) (sym (not_asked i.asked refl asks))
            (counted-fits x s locks (came id row_closed now).now n s.lock same refl (closed-fits x s locks now fits id at)),
      )
    where
      not_asked : (b : Bool) → i.asked ≡ b → (i.asked ≡ true → Some NoRequest ≡ None) → i.asked ≡ false
      not_asked false e all = e
      not_asked true e all = let clash : Some NoRequest ≡ None = all e in absurd cc
  look_by_open id o (Some q) (Some r) n is at f same there asks p = look_open id q r is at f n same o (λ a e j m place y apart here read. there q is a e j m place y apart here read) (look_refusal q) refl asks p

  there_after : (id : ℕ) (a : Answer) (q : state.Request) → get s.requests id ≡ Some q → IsSound (after s (call_at t (LookUp id) i (Ok a))) → (j n place : ℕ) (y : state.Request) → (id == j) ≡ false → get s.requests j ≡ Some y
      → y.reader ≡ streaming n place → (z : Readers) × (get (turned q.reader (reader_of (look_for q s.shelf)) s.shelf).readers n ≡ Some z)
  there_after id a q is new j n place y apart there e =
      let z = new.readers j n place y (requests-after s (call_at t (LookUp id) i (Ok a)) j ∙ ap (λ (v : Bool). cond v (option_map (λ q. looked t q (look_for q s.shelf) s.lock) (get s.requests j)) (get s.requests j)) apart ∙ there) e in
      subst (λ (o : Option state.Request). (z : Readers) × (get (by_request s o (λ q. after_look s t id q (look_for q s.shelf))).shelf.readers n ≡ Some z)) is z

  asked_first : (id : ℕ) (o : Option state.Request) (b : Bool) → AsksLock s t (LookUp id) b → b ≡ true → unless_open (get s.requests id) look_refusal ≡ None
  asked_first id o true p e = p.0
  asked_first id o false p e = absurd cc

  pub look-step : (id : ℕ) (o : Outcome) → Allows s (call_at t (LookUp id) i o) → IsSound (after s (call_at t (LookUp id) i o)) → Step x used s locks (call_at t (LookUp id) i o) now
  look-step id o p new =
      let all = look_by_open id o (get s.requests id) (now.request id) (writes_after s.shelf.writes i.began) refl refl (fits.requests id) (same-count s (tells_of_write (call_at t (LookUp id) i o)) i.began p.begins)
      (λ q is a e. there_after id a q is (subst (λ (y : Outcome). IsSound (after s (call_at t (LookUp id) i y))) e new)) (asked_first id None i.asked p.asks) p.outcome in
      record { right = record { read = p.read; outcome = all.0 }; fits = all.1 }
