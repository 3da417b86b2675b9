-- The lock of a state is what its changes leave, and a refused call leaves it as before to all who ask or wait.
use Rattle.std.proofs.Common.{◌≡◌, ℕ, ◌<◌, refl, ap, sym, ◌∙◌, true, false, subst, cond, [], ◌∷◌, ◌++◌, arith}
use Rattle.std.specs.Prelude.{Bool, ◌&&◌, List, Option, Some, None, nat_le, Ok, Err}
use Rattle.std.specs.FinMap.{get, insert}
use Rattle.std.proofs.lemmas.Bool.{leb-false}
use Rattle.cache_words.specs.Time.{MomentValue}
use Rattle.cache_lock.specs.Changes.{Change, gives, lends, stores, takes_out, publishes, spends}
use Rattle.cache_lock.specs.State.{LockState, IsSound, with_core, named, unnamed, with_status, spent, told, without_core, status_of, after as changed, after_all, is_number}
use Rattle.cache_lock.specs.Answers.{to_wait_for, locked_by, lock_change, release_changes, leave_changes, poll_changes, wait_outcome, given_back, IsAsBefore, released_by}
use Rattle.cache_lock.specs.Status.{is_aged}
use Rattle.cache_lock.specs.declared.lock_core.HeldCore.{HeldCore}
use Rattle.cache_lock.specs.declared.status.LockStatus.{LockStatus}
use Rattle.cache_lock.specs.declared.status.LockStatus.TheVariants as status
use Rattle.cache_lock.specs.declared.tokens.Locked.{Locked}
use Rattle.cache_lock.specs.declared.tokens.Locked.TheVariants as locked
use Rattle.cache_lock.specs.declared.fills.WaitOutcome.{WaitOutcome}
use Rattle.cache_lock.specs.declared.fills.WaitOutcome.TheVariants as wait
use Rattle.cache_lock.proofs.BelowLaws.{below-empty, below-set, below-insert, below-remove}
use Rattle.cache_lock.proofs.GivenBack.{unchanged, given_back_is}
use Rattle.tier_model.specs.declared.event.Action.{Action}
use Rattle.tier_model.specs.declared.event.Action.TheVariants.{Open, LookUp, Poll, Begin, Revalidate, Piece, Finish, Read, Drop, Purge, Put}
use Rattle.tier_model.specs.declared.event.Answer.TheVariants.{Waited, Begun, Revalidated}
use Rattle.tier_model.specs.declared.event.Answer.TheVariants as answer
use Rattle.tier_model.specs.declared.event.TierFault.{TierFault}
use Rattle.tier_model.specs.Calls.{Call, History, Outcome, done_of, is_revalidation}
use Rattle.tier_model.specs.Histories.{Opening}
use Rattle.tier_model.specs.Shelf.{Look, is_there}
use Rattle.tier_model.specs.State.{LockHold, nothing, permit, waits, Request, State}
use Rattle.tier_model.specs.Answers.{key_for, look_for, asks_now}
use Rattle.tier_model.specs.After.{by_request, given_changes, back_changes, release_of, leave_of, poll_of, of_open, lock_changes_in, lock_changes}
use Rattle.tier_model.specs.Past.{lock_from, state_of, lock_changes_of}

-- ---- the changes of the lock, one call after another

all_after : (xs ys : List Change) (s : LockState) → after_all (xs ++ ys) s ≡ after_all xs (after_all ys s)
all_after [] ys s = refl
all_after (c ∷ xs) ys s = ap (changed c) (all_after xs ys s)

pub lock-is : (start : Opening) (h : History) → (state_of start h).lock ≡ after_all (lock_changes_of start h) (lock_from start)
lock-is start [] = refl
lock-is start (c ∷ h) =
    ap (after_all (lock_changes (state_of start h) c)) (lock-is start h) ∙ sym (all_after (lock_changes (state_of start h) c) (lock_changes_of start h) (lock_from start))

-- ---- each core is named, and its number is given

lent_sound : (n : ℕ) (s : LockState) (o : Option HeldCore) → get s.cores n ≡ o → IsSound s → IsSound (with_core n named o s)
lent_sound n s None e sound = sound
lent_sound n s (Some c) e sound = below-set s.next n s.cores c (named c) sound e (omega arith)

stored_sound : (n : ℕ) (st : LockStatus) (s : LockState) (o : Option HeldCore) → get s.cores n ≡ o → IsSound s → IsSound (with_core n (with_status st) o s)
stored_sound n st s None e sound = sound
stored_sound n st s (Some c) e sound = below-set s.next n s.cores c (with_status st c) sound e (sound n c e).1

told_sound : (n : ℕ) (tokens : List ℕ) (s : LockState) (o : Option HeldCore) → IsSound s → IsSound (told n tokens o s)
told_sound n tokens s None sound = sound
told_sound n tokens s (Some c) sound = sound

spent_sound : (n : ℕ) (s : LockState) (o : Option HeldCore) → get s.cores n ≡ o → IsSound s → IsSound (spent n o s)
spent_sound n s None e sound = sound
spent_sound n s (Some c) e sound = by_last (nat_le c.names 1) refl
  where
    by_last : (v : Bool) → nat_le c.names 1 ≡ v → IsSound (cond v (without_core n c.key s) (record s { cores = insert s.cores n (unnamed c) }))
    by_last true is = below-remove s.next n s.cores sound
    by_last false is = let many : 1 < c.names = leb-false c.names 1 is in below-set s.next n s.cores c (unnamed c) sound e (omega (arith, many))

-- a change that gives no permit
abbrev gives_none : Change → Bool
gives_none (gives n key stale moment) = false
gives_none _ = true

change_sound : (c : Change) (s : LockState) → gives_none c ≡ true → IsSound s → IsSound (changed c s)
change_sound (gives n key stale moment) s e sound = absurd cc
change_sound (lends n) s e sound = lent_sound n s (get s.cores n) refl sound
change_sound (stores n st) s e sound = stored_sound n st s (get s.cores n) refl sound
change_sound (takes_out key) s e sound = sound
change_sound (publishes n tokens) s e sound = told_sound n tokens s (get s.cores n) sound
change_sound (spends n) s e sound = spent_sound n s (get s.cores n) refl sound

given_sound : (key : List ℕ) (stale : Bool) (t : MomentValue) (s : LockState) (o : Option ℕ) → IsSound s → IsSound (changed (lock_change key stale t s o) s)
given_sound key stale t s None sound = below-insert s.next s.cores _ sound (omega arith)
given_sound key stale t s (Some n) sound = lent_sound n s (get s.cores n) refl sound

leave_sound : (x : Locked) (s : LockState) → IsSound s → IsSound (after_all (leave_changes x) s)
leave_sound (locked.Write p) s sound = change_sound (spends p.number) (changed (stores p.number status.Dangling) s) refl (change_sound (stores p.number status.Dangling) s refl sound)
leave_sound (locked.Read r) s sound = change_sound (spends r.number) s refl sound

asked_sound : (v : Bool) (key : List ℕ) (stale : Bool) (t : MomentValue) (s : LockState) (o : Option ℕ) → IsSound s → IsSound (after_all (cond v (lock_change key stale t s o ∷ []) []) s)
asked_sound true key stale t s o sound = given_sound key stale t s o sound
asked_sound false key stale t s o sound = sound

released_sound : (key : List ℕ) (n : ℕ) (reason : LockStatus) (s : LockState) → IsSound s → IsSound (after_all (release_changes key n reason s) s)
released_sound key n reason s sound = by_case (is_aged (status_of n s)) (is_number n (get s.current key))
  where
    by_case : (aged own : Bool) → IsSound (after_all (released_by aged own key n reason) s)
    by_case true own = change_sound (spends n) s refl sound
    by_case false true =
        change_sound (spends n) (changed (stores n reason) (changed (takes_out key) s)) refl
        (change_sound (stores n reason) (changed (takes_out key) s) refl (change_sound (takes_out key) s refl sound))
    by_case false false = leave_sound (locked.Write (record { number = n })) s sound

release_sound : (reason : LockStatus) (q : Request) (held : LockHold) (s : LockState) → IsSound s → IsSound (after_all (release_of reason q held s) s)
release_sound reason q nothing s sound = sound
release_sound reason q (waits n first) s sound = sound
release_sound reason q (permit n) s sound = released_sound (key_for q) n reason s sound

left_sound : (held : LockHold) (s : LockState) → IsSound s → IsSound (after_all (leave_of held) s)
left_sound nothing s sound = sound
left_sound (permit n) s sound = leave_sound (locked.Write (record { number = n })) s sound
left_sound (waits n first) s sound = leave_sound (locked.Read (record { number = n })) s sound

polled_sound : (n : ℕ) (o : Option WaitOutcome) (s : LockState) → IsSound s → IsSound (after_all (poll_changes n o) s)
polled_sound n (Some wait.AgeTimeout) s sound = change_sound (stores n status.AgeTimeout) s refl sound
polled_sound n (Some _) s sound = sound
polled_sound n None s sound = sound

poll_sound : (t : MomentValue) (held : LockHold) (outcome : Option LockStatus) (s : LockState) → IsSound s → IsSound (after_all (poll_of t held outcome s) s)
poll_sound t nothing (Some x) s sound = sound
poll_sound t nothing None s sound = sound
poll_sound t (permit n) (Some x) s sound = sound
poll_sound t (permit n) None s sound = sound
poll_sound t (waits n first) None s sound = sound
poll_sound t (waits n first) (Some x) s sound =
    change_sound (spends n) (after_all (poll_changes n (wait_outcome n [] t s)) s) refl (polled_sound n (wait_outcome n [] t s) s sound)

back_is : (t : MomentValue) (q : Request) (l : Look) (s : LockState) → after_all (back_changes t q l s) s ≡ given_back (key_for q) (is_there l) t s
back_is t q l s = all_after (leave_changes (locked_by s (to_wait_for (key_for q) s))) (lock_change (key_for q) (is_there l) t s (to_wait_for (key_for q) s) ∷ []) s

back_sound : (t : MomentValue) (q : Request) (l : Look) (s : LockState) → IsSound s → IsSound (after_all (back_changes t q l s) s)
back_sound t q l s sound =
    subst IsSound (sym (back_is t q l s))
    (leave_sound (locked_by s (to_wait_for (key_for q) s)) (changed (lock_change (key_for q) (is_there l) t s (to_wait_for (key_for q) s)) s) (given_sound (key_for q) (is_there l) t s (to_wait_for (key_for q) s) sound))

module _ (s : State) (sound : IsSound s.lock) where
  opened_sound : (o : Option Request) (f : Request → List Change) → ((q : Request) → IsSound (after_all (f q) s.lock)) → IsSound (after_all (by_request [] o f) s.lock)
  opened_sound None f h = sound
  opened_sound (Some q) f h = h q

  back_if_sound : (v : Bool) (id : ℕ) (t : MomentValue) → IsSound (after_all (cond v (of_open s id (λ q. back_changes t q (look_for q s.shelf) s.lock)) []) s.lock)
  back_if_sound true id t = opened_sound (get s.requests id) (λ q. back_changes t q (look_for q s.shelf) s.lock) (λ q. back_sound t q (look_for q s.shelf) s.lock sound)
  back_if_sound false id t = sound

  released_if_sound : (v : Bool) (id : ℕ) → IsSound (after_all (cond v (of_open s id (λ q. release_of status.Done q q.held s.lock)) []) s.lock)
  released_if_sound true id = opened_sound (get s.requests id) (λ q. release_of status.Done q q.held s.lock) (λ q. release_sound status.Done q q.held s.lock sound)
  released_if_sound false id = sound

  call_sound : (t : MomentValue) (action : Action) (o : Outcome) (asked : Bool) → IsSound (after_all (lock_changes_in s t action o asked) s.lock)
  call_sound t (LookUp id) (Ok a) asked =
      opened_sound (get s.requests id) (λ q. given_changes t q (look_for q s.shelf) s.lock)
      (λ q. asked_sound (asks_now t q (look_for q s.shelf)) (key_for q) (is_there (look_for q s.shelf)) t s.lock (to_wait_for (key_for q) s.lock) sound)
  call_sound t (LookUp id) (Err f) asked = back_if_sound asked id t
  call_sound t (Poll id) (Ok (Waited outcome)) asked = opened_sound (get s.requests id) (λ q. poll_of t q.held outcome s.lock) (λ q. poll_sound t q.held outcome s.lock sound)
  call_sound t (Begin id head given) (Ok Begun) asked = opened_sound (get s.requests id) (λ q. release_of status.Done q q.held s.lock) (λ q. release_sound status.Done q q.held s.lock sound)
  call_sound t (Begin id head given) (Ok (answer.Uncacheable reason)) asked =
      opened_sound (get s.requests id) (λ q. release_of status.GiveUp q q.held s.lock) (λ q. release_sound status.GiveUp q q.held s.lock sound)
  call_sound t (Revalidate id head given) (Ok (Revalidated evicted)) asked = released_if_sound true id
  call_sound t (Revalidate id head given) (Ok (answer.Uncacheable reason)) asked =
      opened_sound (get s.requests id) (λ q. release_of status.GiveUp q q.held s.lock) (λ q. release_sound status.GiveUp q q.held s.lock sound)
  call_sound t (Revalidate id head given) (Err f) asked = released_if_sound (done_of f).stored id
  call_sound t (Drop id) (Ok a) asked = opened_sound (get s.requests id) (λ q. leave_of q.held) (λ q. left_sound q.held s.lock sound)
  call_sound t _ _ asked = sound

  -- a refused call leaves the lock as before to all who ask or wait, but for a revalidation that had stored the new meta
  back_as_before : (t : MomentValue) (o : Option Request) → IsAsBefore (after_all (by_request [] o (λ q. back_changes t q (look_for q s.shelf) s.lock)) s.lock) s.lock
  back_as_before t None = unchanged s.lock
  back_as_before t (Some q) =
      subst (λ (x : LockState). IsAsBefore x s.lock) (sym (back_is t q (look_for q s.shelf) s.lock)) (given_back_is s.lock sound (key_for q) (is_there (look_for q s.shelf)) t)

  looked_as_before : (v : Bool) (id : ℕ) (t : MomentValue) → IsAsBefore (after_all (cond v (of_open s id (λ q. back_changes t q (look_for q s.shelf) s.lock)) []) s.lock) s.lock
  looked_as_before true id t = back_as_before t (get s.requests id)
  looked_as_before false id t = unchanged s.lock

  pub as_before : (t : MomentValue) (action : Action) (f : TierFault) (asked : Bool) → is_revalidation action && (done_of f).stored ≡ false → IsAsBefore (after_all (lock_changes_in s t action (Err f) asked) s.lock) s.lock
  as_before t (LookUp id) f asked e = looked_as_before asked id t
  as_before t (Open id key asks) f asked e = unchanged s.lock
  as_before t (Poll id) f asked e = unchanged s.lock
  as_before t (Begin id head given) f asked e = unchanged s.lock
  as_before t (Revalidate id head given) f asked e =
      subst (λ (v : Bool). IsAsBefore (after_all (cond v (of_open s id (λ q. release_of status.Done q q.held s.lock)) []) s.lock) s.lock) (sym e) (unchanged s.lock)
  as_before t (Piece id bytes last) f asked e = unchanged s.lock
  as_before t (Finish id) f asked e = unchanged s.lock
  as_before t (Read id) f asked e = unchanged s.lock
  as_before t (Drop id) f asked e = unchanged s.lock
  as_before t (Purge key) f asked e = unchanged s.lock
  as_before t (Put key pieces given) f asked e = unchanged s.lock

pub IsSound-of : (start : Opening) (h : History) → IsSound (state_of start h).lock
IsSound-of start [] = below-empty start.first_core
IsSound-of start (c ∷ h) = call_sound (state_of start h) (IsSound-of start h) c.event.moment c.event.action c.outcome c.asked

pub refused-as-before : (start : Opening) (c : Call) (h : History) (f : TierFault) → c.outcome ≡ Err f → is_revalidation c.event.action && (done_of f).stored ≡ false
    → IsAsBefore (state_of start (c ∷ h)).lock (state_of start h).lock
refused-as-before start c h f e quiet =
    subst (λ (o : Outcome). IsAsBefore (after_all (lock_changes_in (state_of start h) c.event.moment c.event.action o c.asked) (state_of start h).lock) (state_of start h).lock) (sym e)
    (as_before (state_of start h) (IsSound-of start h) c.event.moment c.event.action f c.asked quiet)
