-- Begins: each is answered by its row, and leaves what the promise says then.
use Rattle.cache_heads.specs.declared.given.GivenMeta.{GivenMeta}
use Rattle.std.proofs.Common.{◌≡◌, ℕ, ◌+◌, ◌≤◌, refl, ap, sym, ◌∙◌, true, false, subst, cond, [], ◌++◌, ◌==◌, arith, inl, inr}
use Rattle.std.specs.Prelude.{◌&&◌, Bool, List, Option, Some, None, option_map, is_some, Ok, Err, not, ◌⊎◌}
use Rattle.std.specs.FinMap.{get}
use Rattle.cache_words.specs.Time.{MomentValue}
use Rattle.cache_lock.specs.Changes.{Changes as LockChanges}
use Rattle.cache_lock.specs.State.{after_all}
use Rattle.cache_lock.specs.declared.status.LockStatus.TheVariants as status
use Rattle.tier_model.specs.declared.event.Action.TheVariants.{Begin}
use Rattle.tier_model.specs.declared.event.Answer.{Answer}
use Rattle.tier_model.specs.declared.event.TierFault.{TierFault}
use Rattle.tier_model.specs.declared.event.TierFault.TheVariants.{NoRequest, WrongPhase, Memory, BadHead, BeforeEpoch}
use Rattle.tier_model.specs.Response.{Judged, kept, not_kept, too_early, not_read}
use Rattle.tier_model.specs.Calls.{Outcome, writes_after, nothing_done, judged_of, is_begun}
use Rattle.tier_model.specs.Shelf.{Readers}
use Rattle.tier_model.specs.State.{Settings, Phase, cache_key, hit, stale, miss, begun, disabled, revalidated, LockHold, nothing, Reader, closed, streaming, State}
use Rattle.tier_model.specs.State as state
use Rattle.tier_model.specs.Checks.{can_begin, unless, unless_open}
use Rattle.tier_model.specs.Answers.{IsBeginAnswer, IsBeginFault}
use Rattle.tier_model.specs.Step.{AllowsBy, Allows, BeginsWrite, BeginTakes, is_kept}
use Rattle.tier_model.specs.After.{with_counts, by_request, on_request, release_of, after_begin, lock_changes_in, after_outcome, after}
use Rattle.tier_promise.specs.Promise.{Changes, Request, EventRow, Now, begin_row, begin_by, some_memory, refused, row_of, ran_out, came}
use Rattle.tier_model.proofs.CallLaws.{Inside, call_at, begin_turn, requests-after}
use Rattle.tier_model.proofs.OpenLaws.{begun-told, no-fewer}
use Rattle.tier_promise.proofs.NowRows.{row_closed, Answered, memory-out, number-out}
use Rattle.tier_promise.proofs.NowFits.{RequestFits, OpenFits, NowFits}
use Rattle.tier_promise.proofs.NowRequests.{IsSound}
use Rattle.tier_promise.proofs.NowSteps.{Step, same-count, refused-fits, closed-fits, counted-fits, later-fits}
use Rattle.tier_promise.proofs.NowQuiet.{IsLocked}
use Rattle.tier_promise.proofs.NowBeginLeaves.{StillThere, begun_shelf, kept-leaves, not-kept-leaves}

module _ (x : Settings) (s : State) (locks : LockChanges) (now : Now) (fits : NowFits x s locks now) (locked : IsLocked x.age s locks) (used : ℕ) (few : s.shelf.writes ≤ used) (t : MomentValue) (i : Inside) where
  abbrev c : Changes
  c = now.changes

  module _ (id : ℕ) (q : state.Request) (r : Request) (is : get s.requests id ≡ Some q) (at : now.request id ≡ Some r) (f : RequestFits x fits.numbers fits.permits s.shelf c q r) where
    abbrev n : ℕ
    n = s.shelf.writes

    -- ---- the checks

    pub begin-passed : (phase : Phase) (gave : Bool) (j : Option Judged) → can_begin phase gave ≡ true → begin_by phase gave j r c ≡ begin_row j r c
    begin-passed miss gave j e = refl
    begin-passed stale false j e = refl
    begin-passed stale true j e = absurd cc
    begin-passed _ gave j e = absurd cc

    pub begin-failed : (phase : Phase) (gave : Bool) (j : Option Judged) → can_begin phase gave ≡ false → begin_by phase gave j r c ≡ refused r WrongPhase
    begin-failed miss gave j e = absurd cc
    begin-failed stale true j e = refl
    begin-failed stale false j e = absurd cc
    begin-failed cache_key gave j e = refl
    begin-failed hit gave j e = refl
    begin-failed begun gave j e = refl
    begin-failed disabled gave j e = refl
    begin-failed revalidated gave j e = refl

    -- ---- what comes of it

    abbrev state_then : Option Judged → Outcome → State
    state_then j (Ok a) = on_request s id (λ q. after_begin s id q j)
    state_then j (Err g) = s

    abbrev locks_then : List ℕ → Option GivenMeta → Outcome → LockChanges
    locks_then head given o = lock_changes_in s t (Begin id head given) o i.asked

    abbrev BeginComes : List ℕ → Option GivenMeta → Option Judged → Outcome → ℕ → EventRow → Type 0
    BeginComes head given j o k row =
        Answered x used o row c
        × NowFits x (with_counts k (after_all (locks_then head given o) s.lock) (state_then j o)) (locks_then head given o ++ locks) (cond (ran_out o) now (came id row now).now)

    abbrev pub There : Option Judged → Type 0
    There (Some (kept meta)) = StillThere x s locks now fits locked id q r is f (streaming n 0) (begun_shelf x s locks now fits locked id q r is f meta)
    There j = StillThere x s locks now fits locked id q r is f closed s.shelf

    begin_ok : (head : List ℕ) (given : Option GivenMeta) (j : Option Judged) (a : Answer) (k : ℕ) → IsBeginAnswer j a → There j → (is_kept j ≡ false → k ≡ n) → (is_begun (Ok a) ≡ true → k ≡ n + 1) → BeginComes head given j (Ok a) k (begin_row j r c)
    begin_ok head given (Some (kept meta)) a k p there same counts = subst (λ (y : Answer). (is_begun (Ok y) ≡ true → k ≡ n + 1) → BeginComes head given (Some (kept meta)) (Ok y) k (begin_row (Some (kept meta)) r c)) (sym p) (λ one. (
      (refl, tt),
      subst (λ (o : Option state.Request). NowFits x (with_counts k (after_all (by_request [] o (λ q. release_of status.Done q q.held s.lock)) s.lock) (by_request s o (λ q. after_begin s id q (Some (kept meta)))))
          (by_request [] o (λ q. release_of status.Done q q.held s.lock) ++ locks) (came id (begin_row (Some (kept meta)) r c) now).now) (sym is)
          (subst (λ (m : ℕ). NowFits x (with_counts m (after_all (release_of status.Done q q.held s.lock) s.lock) (after_begin s id q (Some (kept meta)))) (release_of status.Done q q.held s.lock ++ locks)
          (came id (begin_row (Some (kept meta)) r c) now).now) (sym (one refl)) (kept-leaves x s locks now fits locked id q r is f meta there)),
    )) counts
    begin_ok head given (Some (not_kept reason)) a k p there same _ = subst (λ (y : Answer). BeginComes head given (Some (not_kept reason)) (Ok y) k (begin_row (Some (not_kept reason)) r c)) (sym p) (
      (refl, tt),
      subst (λ (o : Option state.Request). NowFits x (with_counts k (after_all (by_request [] o (λ q. release_of status.GiveUp q q.held s.lock)) s.lock) (by_request s o (λ q. after_begin s id q (Some (not_kept reason)))))
          (by_request [] o (λ q. release_of status.GiveUp q q.held s.lock) ++ locks) (came id (begin_row (Some (not_kept reason)) r c) now).now) (sym is) (not-kept-leaves x s locks now fits locked id q r is f reason there k (same refl)),
    )
    begin_ok head given (Some too_early) a k p there same _ = absurd p
    begin_ok head given (Some not_read) a k p there same _ = absurd p
    begin_ok head given None a k p there same _ = absurd p

    begin_err : (head : List ℕ) (given : Option GivenMeta) (j : Option Judged) (g : TierFault) (k : ℕ) → ((g ≡ Memory nothing_done) × BeginTakes s j) ⊎ IsBeginFault s j g → n ≤ k → (is_kept j ≡ false → k ≡ n) → BeginComes head given j (Err g) k (begin_row j r c)
    begin_err head given (Some (kept meta)) g k p later same = elim p [
      | inl h ↦ subst (λ (y : TierFault). BeginComes head given (Some (kept meta)) (Err y) k (begin_row (Some (kept meta)) r c)) (sym h.0)
          (memory-out x used (begin_row (Some (kept meta)) r c).needs c refl, later-fits x s locks now fits k later)
      | inr h ↦ subst (λ (y : TierFault). BeginComes head given (Some (kept meta)) (Err y) k (begin_row (Some (kept meta)) r c)) (sym h.0)
          (number-out x used (begin_row (Some (kept meta)) r c).needs c refl (let spent = h.1 in omega (arith, few, spent)), later-fits x s locks now fits k later)
    ]
    begin_err head given (Some (not_kept reason)) g k p later same = elim p [
      | inl h ↦ absurd h.1
      | inr h ↦ absurd h
    ]
    begin_err head given (Some too_early) g k p later same = elim p [
      | inl h ↦ absurd h.1
      | inr h ↦ subst (λ (y : TierFault). BeginComes head given (Some too_early) (Err y) k (begin_row (Some too_early) r c)) (sym h)
          ((refl, tt), counted-fits x s locks (came id (refused r BeforeEpoch) now).now k s.lock (same refl) refl (refused-fits x s locks now fits id r BeforeEpoch at))
    ]
    begin_err head given (Some not_read) g k p later same = elim p [
      | inl h ↦ absurd h.1
      | inr h ↦ subst (λ (y : TierFault). BeginComes head given (Some not_read) (Err y) k (begin_row (Some not_read) r c)) (sym h)
          ((refl, tt), counted-fits x s locks (came id (refused r BadHead) now).now k s.lock (same refl) refl (refused-fits x s locks now fits id r BadHead at))
    ]
    begin_err head given None g k p later same = elim p [
      | inl h ↦ subst (λ (y : TierFault). BeginComes head given None (Err y) k (begin_row None r c)) (sym h.0) (memory-out x used some_memory c refl, later-fits x s locks now fits k later)
      | inr h ↦ absurd h
    ]

    abbrev Judging : List ℕ → Option GivenMeta → Outcome → Option Judged
    Judging head given o = judged_of (call_at t (Begin id head given) i o)

    abbrev RowBy : List ℕ → Option GivenMeta → Outcome → EventRow
    RowBy head given o = begin_by r.phase r.gave_read (Judging head given o) r c

    row_is : (head : List ℕ) (given : Option GivenMeta) (o : Outcome) → RowBy head given o ≡ begin_by q.phase q.gave_read (Judging head given o) r c
    row_is head given o = ap (λ (y : Phase). begin_by y r.gave_read (Judging head given o) r c) (sym f.phase) ∙ ap (λ (y : Bool). begin_by q.phase y (Judging head given o) r c) (sym f.gave_read)

    pub begin-at : (head : List ℕ) (given : Option GivenMeta) (o : Outcome) → ((a : Answer) → o ≡ Ok a → There (Judging head given o)) → (v : Bool) → can_begin q.phase q.gave_read ≡ v
        → BeginsWrite s (is_kept (Judging head given o) && not (is_some (unless v WrongPhase))) (is_begun o) i.began
        → AllowsBy (unless v WrongPhase) s t (Begin id head given) (call_at t (Begin id head given) i o) o → BeginComes head given (Judging head given o) o (writes_after n i.began) (RowBy head given o)
    begin-at head given (Ok a) there false e began p = absurd cc
    begin-at head given (Err g) there false e began p =
        subst (λ (y : EventRow). BeginComes head given (Judging head given (Err g)) (Err g) (writes_after n i.began) y) (sym (row_is head given (Err g) ∙ begin-failed q.phase q.gave_read (Judging head given (Err g)) e))
        (subst (λ (y : TierFault). BeginComes head given (Judging head given (Err y)) (Err y) (writes_after n i.began) (refused r WrongPhase)) (let one : WrongPhase ≡ g = cc in one) (
          (refl, tt),
          counted-fits x s locks (came id (refused r WrongPhase) now).now (writes_after n i.began) s.lock
              (same-count s false i.began (subst (λ (b : Bool). BeginsWrite s b false i.began) (none (is_kept (Judging head given (Err g)))) began)) refl (refused-fits x s locks now fits id r WrongPhase at),
        ))
      where
        none : (b : Bool) → (b && false) ≡ false
        none true = refl
        none false = refl
    begin-at head given (Ok a) there true e began p =
        subst (λ (y : EventRow). BeginComes head given (Judging head given (Ok a)) (Ok a) (writes_after n i.began) y) (sym (row_is head given (Ok a) ∙ begin-passed q.phase q.gave_read (Judging head given (Ok a)) e))
        (begin_ok head given (Judging head given (Ok a)) a (writes_after n i.began) p (there a refl)
        (λ no. same-count s (is_begun (Ok a)) i.began (subst (λ (b : Bool). BeginsWrite s (b && true) (is_begun (Ok a)) i.began) no began))
        (λ one. ap (writes_after n) (begun-told s (is_kept (Judging head given (Ok a)) && true) (is_begun (Ok a)) i.began began one)))
    begin-at head given (Err g) there true e began p =
        subst (λ (y : EventRow). BeginComes head given (Judging head given (Err g)) (Err g) (writes_after n i.began) y) (sym (row_is head given (Err g) ∙ begin-passed q.phase q.gave_read (Judging head given (Err g)) e))
        (begin_err head given (Judging head given (Err g)) g (writes_after n i.began) p (no-fewer n i.began)
        (λ no. same-count s false i.began (subst (λ (b : Bool). BeginsWrite s (b && true) false i.began) no began)))

  -- ---- the event

  abbrev BeginRow : List ℕ → Option GivenMeta → ℕ → Outcome → Option Request → EventRow
  BeginRow head given id o v = row_of v (λ r. begin_by r.phase r.gave_read (judged_of (call_at t (Begin id head given) i o)) r c)

  abbrev Comes : List ℕ → Option GivenMeta → ℕ → Outcome → EventRow → Type 0
  Comes head given id o row =
      Answered x used o row c
      × NowFits x (with_counts (writes_after s.shelf.writes i.began) (after_all (lock_changes_in s t (Begin id head given) o i.asked) s.lock) (after_outcome s t (Begin id head given) (call_at t (Begin id head given) i o) o))
      (lock_changes_in s t (Begin id head given) o i.asked ++ locks) (cond (ran_out o) now (came id row now).now)

  begin_open : (head : List ℕ) (given : Option GivenMeta) (id : ℕ) (o : Outcome) (q : Option state.Request) (v : Option Request) → get s.requests id ≡ q → (at : now.request id ≡ v) → (f : OpenFits x fits.numbers fits.permits s.shelf c q v)
      → ((p : state.Request) (r : Request) (is : get s.requests id ≡ Some p) (at : now.request id ≡ Some r) (f : RequestFits x fits.numbers fits.permits s.shelf c p r) (a : Answer) → o ≡ Ok a
      → There id p r is at f (judged_of (call_at t (Begin id head given) i o)))
      → BeginsWrite s (is_kept (judged_of (call_at t (Begin id head given) i o)) && not (is_some (unless_open q (λ q. unless (can_begin q.phase q.gave_read) WrongPhase)))) (is_begun o) i.began
      → AllowsBy (unless_open q (λ q. unless (can_begin q.phase q.gave_read) WrongPhase)) s t (Begin id head given) (call_at t (Begin id head given) i o) o → Comes head given id o (BeginRow head given id o v)
  begin_open head given id o (Some q) None is at f there began p = absurd f
  begin_open head given id o None (Some r) is at f there began p = absurd f
  begin_open head given id (Ok a) None None is at f there began p = absurd cc
  begin_open head given id (Err g) None None is at f there began p =
      subst (λ (y : TierFault). Comes head given id (Err y) row_closed) (let one : NoRequest ≡ g = cc in one) (
        (refl, tt),
        counted-fits x s locks (came id row_closed now).now (writes_after s.shelf.writes i.began) s.lock
            (same-count s false i.began (subst (λ (b : Bool). BeginsWrite s b false i.began) (none (is_kept (judged_of (call_at t (Begin id head given) i (Err g))))) began)) refl (closed-fits x s locks now fits id at),
      )
    where
      none : (b : Bool) → (b && false) ≡ false
      none true = refl
      none false = refl
  begin_open head given id (Ok a) (Some q) (Some r) is at f there began p =
      begin-at id q r is at f head given (Ok a) (λ b e. there q r is at f b e) (can_begin q.phase q.gave_read) refl began p
  begin_open head given id (Err g) (Some q) (Some r) is at f there began p =
      begin-at id q r is at f head given (Err g) (λ b e. there q r is at f b e) (can_begin q.phase q.gave_read) refl began p

  -- readers are there after the event
  there_at : (head : List ℕ) (given : Option GivenMeta) (id : ℕ) (a : Answer) (p : state.Request) → get s.requests id ≡ Some p → IsSound (after s (call_at t (Begin id head given) i (Ok a))) → (k m place : ℕ) (y : state.Request) → (id == k) ≡ false
      → get s.requests k ≡ Some y → y.reader ≡ streaming m place → (z : Readers) × (get (after_begin s id p (judged_of (call_at t (Begin id head given) i (Ok a)))).shelf.readers m ≡ Some z)
  there_at head given id a p is new k m place y apart here read =
      let z = new.readers k m place y (requests-after s (call_at t (Begin id head given) i (Ok a)) k
      ∙ ap (λ (v : Bool). cond v (option_map (begin_turn s (judged_of (call_at t (Begin id head given) i (Ok a)))) (get s.requests k)) (get s.requests k)) apart ∙ here) read in
      subst (λ (o : Option state.Request). (z : Readers) × (get (by_request s o (λ q. after_begin s id q (judged_of (call_at t (Begin id head given) i (Ok a))))).shelf.readers m ≡ Some z)) is z

  there_by : (head : List ℕ) (given : Option GivenMeta) (id : ℕ) (a : Answer) (p : state.Request) (r : Request) (is : get s.requests id ≡ Some p) (at : now.request id ≡ Some r) (f : RequestFits x fits.numbers fits.permits s.shelf c p r)
      → IsSound (after s (call_at t (Begin id head given) i (Ok a))) → (j : Option Judged) → judged_of (call_at t (Begin id head given) i (Ok a)) ≡ j → There id p r is at f j
  there_by head given id a p r is at f new (Some (kept meta)) e = λ k m place y apart here read.
      subst (λ (j : Option Judged). (z : Readers) × (get (after_begin s id p j).shelf.readers m ≡ Some z)) e (there_at head given id a p is new k m place y apart here read)
  there_by head given id a p r is at f new (Some (not_kept reason)) e = λ k m place y apart here read.
      subst (λ (j : Option Judged). (z : Readers) × (get (after_begin s id p j).shelf.readers m ≡ Some z)) e (there_at head given id a p is new k m place y apart here read)
  there_by head given id a p r is at f new (Some too_early) e = λ k m place y apart here read.
      subst (λ (j : Option Judged). (z : Readers) × (get (after_begin s id p j).shelf.readers m ≡ Some z)) e (there_at head given id a p is new k m place y apart here read)
  there_by head given id a p r is at f new (Some not_read) e = λ k m place y apart here read.
      subst (λ (j : Option Judged). (z : Readers) × (get (after_begin s id p j).shelf.readers m ≡ Some z)) e (there_at head given id a p is new k m place y apart here read)
  there_by head given id a p r is at f new None e = λ k m place y apart here read.
      subst (λ (j : Option Judged). (z : Readers) × (get (after_begin s id p j).shelf.readers m ≡ Some z)) e (there_at head given id a p is new k m place y apart here read)

  pub begin-step : (id : ℕ) (head : List ℕ) (given : Option GivenMeta) (o : Outcome) → Allows s (call_at t (Begin id head given) i o) → IsSound (after s (call_at t (Begin id head given) i o)) → Step x used s locks (call_at t (Begin id head given) i o) now
  begin-step id head given o p new =
      let all = begin_open head given id o (get s.requests id) (now.request id) refl refl (fits.requests id)
      (λ q r is at f a e. subst (λ (y : Outcome). There id q r is at f (judged_of (call_at t (Begin id head given) i y))) (sym e)
      (there_by head given id a q r is at f (subst (λ (y : Outcome). IsSound (after s (call_at t (Begin id head given) i y))) e new) (judged_of (call_at t (Begin id head given) i (Ok a))) refl))
      p.begins p.outcome in
      record { right = record { read = p.read; outcome = all.0 }; fits = all.1 }
