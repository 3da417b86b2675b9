-- Revalidations: each is answered by its row, and leaves what the promise says then.
use Rattle.cache_heads.specs.declared.given.GivenMeta.{GivenMeta}
use Rattle.std.proofs.Common.{◌≡◌, ℕ, refl, ap, sym, ◌∙◌, true, false, subst, cond, [], ◌++◌, inl, inr}
use Rattle.std.specs.Prelude.{Bool, List, Option, Some, None, Ok, Err, ◌⊎◌, MatchResult}
use Rattle.std.specs.FinMap.{get}
use Rattle.cache_words.specs.Time.{MomentValue}
use Rattle.cache_changes.specs.Changes.{StoredKey, stored_key}
use Rattle.cache_heads.specs.declared.meta.CacheMeta.{CacheMeta}
use Rattle.cache_heads.specs.declared.reason.NoCacheReason.{NoCacheReason}
use Rattle.cache_lock.specs.Changes.{Changes as LockChanges}
use Rattle.cache_lock.specs.State.{after_all}
use Rattle.cache_lock.specs.declared.status.LockStatus.TheVariants as status
use Rattle.tier_model.specs.declared.event.Action.TheVariants.{Revalidate}
use Rattle.tier_model.specs.declared.event.Answer.{Answer}
use Rattle.tier_model.specs.declared.event.Answer.TheVariants.{Uncacheable, Revalidated}
use Rattle.tier_model.specs.declared.event.Done.{Done}
use Rattle.tier_model.specs.declared.event.TierFault.{TierFault}
use Rattle.tier_model.specs.declared.event.TierFault.TheVariants.{NoRequest, WrongPhase, NotStored, BadHead, BeforeEpoch, NumbersSpent, TooHeavy, TooLong, Memory}
use Rattle.tier_model.specs.Response.{Judged, kept, not_kept, too_early, not_read}
use Rattle.tier_model.specs.Calls.{Call, Outcome, writes_after, nothing_done, done_of, confirmed_of}
use Rattle.tier_model.specs.Rows.{Numbered}
use Rattle.tier_model.specs.State.{Settings, Phase, cache_key, hit, stale, miss, begun, disabled, revalidated, Seen, State, shards_of}
use Rattle.tier_model.specs.State as state
use Rattle.tier_model.specs.Checks.{can_revalidate, unless, unless_open}
use Rattle.tier_model.specs.Answers.{confirmed_for, is_body_seen, weight_then, IsKeptOut, IsConfirmed, IsRevalidateAnswer, IsRenewedShort, IsRevalidateFault}
use Rattle.tier_model.specs.Step.{RevalidateTakes, AllowsBy, Allows, tells_of_write}
use Rattle.tier_model.specs.After.{with_counts, by_request, release_of, after_confirmed, undone_renewal, lock_changes_in, after_outcome}
use Rattle.tier_promise.specs.Promise.{Write, Changes, Request, EventRow, Needs, Now, Whether, ComesSo, SomeRanOut, Entering, nothing, body_of, still, confirm_row, confirmed_by, revalidate_by}
use Rattle.tier_promise.specs.Promise.{refused, unread_row, some_memory, no_needs, far_of, row_of, ran_out, came}
use Rattle.tier_model.proofs.CallLaws.{Inside, call_at}
use Rattle.tier_promise.proofs.Room.{no-room}
use Rattle.tier_promise.proofs.NowRows.{row_closed, Answered, memory-out}
use Rattle.tier_promise.proofs.NowFits.{RequestFits, OpenFits, NowFits}
use Rattle.tier_promise.proofs.NowOrder.{IsOrderly}
use Rattle.tier_promise.proofs.NowSteps.{Step, of-open, same-count, refused-fits, closed-fits, counted-fits}
use Rattle.tier_promise.proofs.NowQuiet.{IsLocked}
use Rattle.tier_promise.proofs.NowBeginSteps.{seen_same}
use Rattle.tier_promise.proofs.NowRenewChecks.{SeenAt, Late, Takes, late-is, takes-is, seen-at, row_at, revalidate-passed, revalidate-failed}
use Rattle.tier_promise.proofs.NowRenewSteps.{given-up-leaves, in_turn, room, away, renewal-leaves, cut-leaves}

module _ (x : Settings) (s : State) (locks : LockChanges) (now : Now) (fits : NowFits x s locks now) (locked : IsLocked x.age s locks) (order : IsOrderly now.changes) (used : ℕ) (t : MomentValue) (i : Inside) (id : ℕ) (head : List ℕ) (given : Option GivenMeta)
    (k : ℕ) (same : k ≡ s.shelf.writes) where
  abbrev c : Changes
  c = now.changes

  abbrev call : Outcome → Call
  call o = call_at t (Revalidate id head given) i o

  module _ (q : state.Request) (r : Request) (is : get s.requests id ≡ Some q) (at : now.request id ≡ Some r) (f : RequestFits x fits.numbers fits.permits s.shelf c q r) where
    abbrev key : StoredKey
    key = stored_key r.entry

    judged_is : (o : Outcome) → confirmed_for q (call o) ≡ confirmed_by r (call o)
    judged_is o = ap (λ (m : Option CacheMeta). confirmed_of m (call o)) (seen_same fits.numbers q.seen r.seen f.seen)

    -- ---- what is left

    abbrev locks_of : Outcome → LockChanges
    locks_of (Ok (Revalidated es)) = release_of status.Done q q.held s.lock
    locks_of (Ok (Uncacheable reason)) = release_of status.GiveUp q q.held s.lock
    locks_of (Ok _) = []
    locks_of (Err g) = cond (done_of g).stored (release_of status.Done q q.held s.lock) []

    abbrev state_of : Option Judged → Outcome → State
    state_of j (Ok a) = after_confirmed s id q j a
    state_of j (Err g) = undone_renewal s id q j (done_of g)

    locks_are : (o : Outcome) → lock_changes_in s t (Revalidate id head given) o i.asked ≡ locks_of o
    locks_are (Ok (Revalidated es)) = ap (λ (y : Option state.Request). by_request [] y (λ q. release_of status.Done q q.held s.lock)) is
    locks_are (Ok (Uncacheable reason)) = ap (λ (y : Option state.Request). by_request [] y (λ q. release_of status.GiveUp q q.held s.lock)) is
    locks_are (Ok _) = refl
    locks_are (Err g) = ap (λ (y : Option state.Request). cond (done_of g).stored (by_request [] y (λ q. release_of status.Done q q.held s.lock)) []) is

    state_are : (o : Outcome) → after_outcome s t (Revalidate id head given) (call o) o ≡ state_of (confirmed_for q (call o)) o
    state_are (Ok a) = ap (λ (y : Option state.Request). by_request s y (λ q. after_confirmed s id q (confirmed_for q (call (Ok a))) a)) is
    state_are (Err g) = ap (λ (y : Option state.Request). by_request s y (λ q. undone_renewal s id q (confirmed_for q (call (Err g))) (done_of g))) is

    abbrev ComesWith : LockChanges → State → Outcome → EventRow → Type 0
    ComesWith more new o row = Answered x used o row c
        × NowFits x (with_counts k (after_all more s.lock) new) (more ++ locks) (cond (ran_out o) now (came id row now).now)

    abbrev ComesBy : Option Judged → Outcome → EventRow → Type 0
    ComesBy j o row = ComesWith (locks_of o) (state_of j o) o row

    -- ---- what comes of it

    -- where nothing was done
    idle : (j : Option Judged) → undone_renewal s id q j nothing_done ≡ s
    idle (Some (kept meta)) = refl
    idle (Some _) = refl
    idle None = refl

    ran : (j : Option Judged) (row : EventRow) (g : TierFault) → ran_out (Err g) ≡ true → done_of g ≡ nothing_done → SomeRanOut x used row.needs (Err g) c → ComesBy j (Err g) row
    ran j row g out done of_it = (
      subst (λ (v : Bool). Whether v (SomeRanOut x used row.needs (Err g) c) ((Err g ≡ row.outcome) × ComesSo x row.needs.entering (far_of (Err g)) c)) (sym out) of_it,
      subst (λ (v : Bool). NowFits x (with_counts k (after_all (locks_of (Err g)) s.lock) (state_of j (Err g))) (locks_of (Err g) ++ locks) (cond v now (came id row now).now)) (sym out)
          (subst (λ (d : Done). NowFits x (with_counts k (after_all (cond d.stored (release_of status.Done q q.held s.lock) []) s.lock) (undone_renewal s id q j d)) (cond d.stored (release_of status.Done q q.held s.lock) [] ++ locks) now) (sym done)
          (subst (λ (new : State). NowFits x (with_counts k s.lock new) locks now) (sym (idle j)) (counted-fits x s locks now k s.lock same refl fits))),
    )

    memory : (j : Option Judged) (row : EventRow) (g : TierFault) → g ≡ Memory nothing_done → row.needs.memory ≡ true → ComesBy j (Err g) row
    memory j row g is takes = ran j row g (ap (λ (y : TierFault). ran_out (Err y)) is) (ap done_of is) (subst (λ (y : TierFault). SomeRanOut x used row.needs (Err y) c) (sym is) (memory-out x used row.needs c takes))

    -- a check, or another refusal with nothing done
    turned_down : (j : Option Judged) (g h : TierFault) (needs : Needs) → needs.entering ≡ nothing → g ≡ h → ran_out (Err h) ≡ false → done_of h ≡ nothing_done → ComesBy j (Err g) (record (refused r h) { needs = needs })
    turned_down j g h needs none one out done = subst (λ (y : TierFault). ComesBy j (Err y) (record (refused r h) { needs = needs })) (sym one) (
      subst (λ (v : Bool). Whether v (SomeRanOut x used needs (Err h) c) (◌≡◌ {A = Outcome} (Err h) (Err h) × ComesSo x needs.entering (far_of (Err h)) c)) (sym out)
          (refl, subst (λ (e : Entering). ComesSo x e (far_of (Err h)) c) (sym none) tt),
      subst (λ (v : Bool). NowFits x (with_counts k (after_all (locks_of (Err h)) s.lock) (state_of j (Err h))) (locks_of (Err h) ++ locks) (cond v now (came id (refused r h) now).now)) (sym out)
          (subst (λ (d : Done). NowFits x (with_counts k (after_all (cond d.stored (release_of status.Done q q.held s.lock) []) s.lock) (undone_renewal s id q j d)) (cond d.stored (release_of status.Done q q.held s.lock) [] ++ locks)
          (came id (refused r h) now).now) (sym done)
          (subst (λ (new : State). NowFits x (with_counts k s.lock new) locks (came id (refused r h) now).now) (sym (idle j)) (counted-fits x s locks (came id (refused r h) now).now k s.lock same refl (refused-fits x s locks now fits id r h at)))),
    )

    abbrev Comes : Outcome → Bool → Option Judged → Type 0
    Comes o v j = MatchResult o (λ a. (v ≡ true) × IsConfirmed s q j a) (λ g. ((g ≡ Memory nothing_done) × Takes v j) ⊎ Late s q v j g)

    module _ (b : Numbered) (w : Write) (held : get s.shelf.bodies key ≡ Some b) (body : body_of key c ≡ Some w) (meta : CacheMeta) where
      abbrev Row : Outcome → EventRow
      Row o = confirm_row (kept meta) (far_of o) (Some w) r c

      abbrev KeptBy : Outcome → Type 0
      KeptBy o = ComesBy (Some (kept meta)) o (Row o)

      kept_ok : (a : Answer) → IsConfirmed s q (Some (kept meta)) a → KeptBy (Ok a)
      kept_ok (Revalidated es) p = (
        (refl, (room x s locks now fits locked id q r is f order b w held body meta p.0, in_turn x s locks now fits locked id q r is f order b w held body meta false es p.1)),
        renewal-leaves x s locks now fits locked id q r is f order b w held body meta k same es,
      )
      kept_ok _ p = absurd p

      kept_away : (g : TierFault) → ran_out (Err g) ≡ true → done_of g ≡ nothing_done → IsKeptOut s q.entry (weight_then q meta s.shelf) nothing_done g → KeptBy (Err g)
      kept_away g out done p = ran (Some (kept meta)) (Row (Err g)) g out done (no-room x used (Row (Err g)).needs c g (away x s locks now fits locked id q r is f order b w held body meta g p))

      kept_out : (g : TierFault) → IsKeptOut s q.entry (weight_then q meta s.shelf) nothing_done g → KeptBy (Err g)
      kept_out (Memory d) p = kept_away (Memory d) (ap (λ (y : Done). ran_out (Err (Memory y))) p.0) p.0 p
      kept_out (TooHeavy d) p = kept_away (TooHeavy d) (ap (λ (y : Done). ran_out (Err (TooHeavy y))) p.0) p.0 p
      kept_out (TooLong d) p = kept_away (TooLong d) (ap (λ (y : Done). ran_out (Err (TooLong y))) p.0) p.0 p
      kept_out (NumbersSpent d) p = kept_away (NumbersSpent d) (ap (λ (y : Done). ran_out (Err (NumbersSpent y))) p.0) p.0 p
      kept_out _ p = absurd p

      kept_short : (g : TierFault) → IsRenewedShort s q meta g → KeptBy (Err g)
      kept_short g p = subst (λ (y : TierFault). KeptBy (Err y)) (sym p.1) (
        (refl, (room x s locks now fits locked id q r is f order b w held body meta p.2, in_turn x s locks now fits locked id q r is f order b w held body meta true p.0 p.3)),
        cut-leaves x s locks now fits locked id q r is f order b w held body meta k same p.0,
      )

      kept_by : (o : Outcome) → Comes o true (Some (kept meta)) → KeptBy o
      kept_by (Ok a) p = kept_ok a p.1
      kept_by (Err g) p = elim p [
        | inl out ↦ memory (Some (kept meta)) (Row (Err g)) g out.0 refl
        | inr late ↦ elim late [
          | inl kept_away ↦ kept_out g kept_away
          | inr cut ↦ kept_short g cut
        ]
      ]

    not_kept_by : (w : Write) (reason : NoCacheReason) (o : Outcome) → Comes o true (Some (not_kept reason)) → ComesBy (Some (not_kept reason)) o (confirm_row (not_kept reason) (far_of o) (Some w) r c)
    not_kept_by w reason (Ok a) p = subst (λ (y : Answer). ComesBy (Some (not_kept reason)) (Ok y) (confirm_row (not_kept reason) (far_of (Ok y)) (Some w) r c)) (sym p.1)
        ((refl, tt), given-up-leaves x s locks now fits locked id q r is f status.GiveUp refl refl k same)
    not_kept_by w reason (Err g) p = elim p [
      | inl out ↦ memory (Some (not_kept reason)) (confirm_row (not_kept reason) (far_of (Err g)) (Some w) r c) g out.0 refl
      | inr late ↦ absurd late
    ]

    -- what was seen is the body still, or not
    abbrev RowBy : Option Judged → Outcome → Option Write → Type 0
    RowBy j o w = ComesBy j o (row_at r c j (far_of o) w)

    -- a head that can't be read, a body that is gone: no memory is taken
    refuse : (j : Judged) (g h : TierFault) → ran_out (Err h) ≡ false → done_of h ≡ nothing_done → (v : Bool) → (Takes v (Some j) → ⊥) → ((g ≡ Memory nothing_done) × Takes v (Some j)) ⊎ (g ≡ h) → ComesBy (Some j) (Err g) (refused r h)
    refuse j g h out done v none p = elim p [
      | inl full ↦ absurd (none full.1)
      | inr one ↦ turned_down (Some j) g h no_needs refl one out done
    ]

    unread : (o : Outcome) (v : Bool) (w : Option Write) → Comes o v None → RowBy None o w
    unread (Ok a) v w p = absurd p.1
    unread (Err g) v w p = elim p [
      | inl full ↦ memory None (unread_row (Some r)) g full.0 refl
      | inr late ↦ absurd late
    ]

    not_seen : (j : Option Judged) (o : Outcome) → Comes o false j → RowBy j o None
    not_seen None o p = unread o false None p
    not_seen (Some j) (Ok a) p = absurd cc
    not_seen (Some not_read) (Err g) p = refuse not_read g BadHead refl refl false (λ y. y) p
    not_seen (Some too_early) (Err g) p = refuse too_early g NotStored refl refl false (λ y. cc) p
    not_seen (Some (not_kept reason)) (Err g) p = refuse (not_kept reason) g NotStored refl refl false (λ y. cc) p
    not_seen (Some (kept meta)) (Err g) p = refuse (kept meta) g NotStored refl refl false (λ y. cc) p

    seen : (b : Numbered) (w : Write) → get s.shelf.bodies key ≡ Some b → body_of key c ≡ Some w → (j : Option Judged) (o : Outcome) → Comes o true j → RowBy j o (Some w)
    seen b w held body None o p = unread o true (Some w) p
    seen b w held body (Some not_read) (Ok a) p = absurd p.1
    seen b w held body (Some too_early) (Ok a) p = absurd p.1
    seen b w held body (Some not_read) (Err g) p = refuse not_read g BadHead refl refl true (λ y. y) p
    seen b w held body (Some too_early) (Err g) p = elim p [
      | inl full ↦ memory (Some too_early) (record (refused r BeforeEpoch) { needs = some_memory }) g full.0 refl
      | inr one ↦ turned_down (Some too_early) g BeforeEpoch some_memory refl one refl refl
    ]
    seen b w held body (Some (not_kept reason)) o p = not_kept_by w reason o p
    seen b w held body (Some (kept meta)) o p = kept_by b w held body meta o p

    by_seen : (v : Bool) (w : Option Write) → SeenAt s.shelf.bodies c key v w → (j : Option Judged) (o : Outcome) → Comes o v j → RowBy j o w
    by_seen true (Some w) there j o p = seen there.0 w there.1 there.2 j o p
    by_seen false None there j o p = not_seen j o p
    by_seen true None there j o p = absurd there
    by_seen false (Some w) there j o p = absurd there

    comes_of : (o : Outcome) → AllowsBy None s t (Revalidate id head given) (call o) o → Comes o (is_body_seen q s.shelf) (confirmed_for q (call o))
    comes_of (Ok a) p = of-open s id q (λ q. IsRevalidateAnswer s q (confirmed_for q (call (Ok a))) a) is p
    comes_of (Err g) p = elim p [
      | inl full ↦ inl (full.0, takes-is s q (is_body_seen q s.shelf) refl (confirmed_for q (call (Err g))) (of-open s id q (λ q. RevalidateTakes q s.shelf (confirmed_for q (call (Err g)))) is full.1))
      | inr late ↦ inr (late-is s q (is_body_seen q s.shelf) refl (confirmed_for q (call (Err g))) g (of-open s id q (λ q. IsRevalidateFault s q (confirmed_for q (call (Err g))) g) is late))
    ]

    -- ---- the checks

    can_is : can_revalidate q.phase q.gave_read ≡ can_revalidate r.phase r.gave_read
    can_is = ap (λ (y : Phase). can_revalidate y q.gave_read) f.phase ∙ ap (λ (y : Bool). can_revalidate r.phase y) f.gave_read

    abbrev RowComes : Outcome → LockChanges → State → Type 0
    RowComes o more new = ComesWith more new o (revalidate_by r.phase r.gave_read (confirmed_by r (call o)) (far_of o) r c)

    checked : (o : Outcome) (v : Bool) → can_revalidate q.phase q.gave_read ≡ v → AllowsBy (unless v WrongPhase) s t (Revalidate id head given) (call o) o → RowComes o (locks_of o) (state_of (confirmed_for q (call o)) o)
    checked (Ok a) false e p = absurd cc
    checked (Err g) false e p =
        let can : can_revalidate r.phase r.gave_read ≡ false = sym can_is ∙ e in
        let far = far_of (Err g) in
        let row : revalidate_by r.phase r.gave_read (confirmed_by r (call (Err g))) far r c ≡ refused r WrongPhase = revalidate-failed r c r.phase r.gave_read (confirmed_by r (call (Err g))) far can in
        subst (λ (y : EventRow). ComesBy (confirmed_for q (call (Err g))) (Err g) y) (sym row) (turned_down (confirmed_for q (call (Err g))) g WrongPhase no_needs refl (let one : g ≡ WrongPhase = cc in one) refl refl)
    checked o true e p =
        let can : can_revalidate r.phase r.gave_read ≡ true = sym can_is ∙ e in
        let W : Option Write = still r.seen (body_of key c) in
        let row : revalidate_by r.phase r.gave_read (confirmed_by r (call o)) (far_of o) r c ≡ row_at r c (confirmed_by r (call o)) (far_of o) W =
        revalidate-passed r c r.phase r.gave_read (confirmed_by r (call o)) (far_of o) can in
        subst (λ (y : EventRow). ComesBy (confirmed_for q (call o)) o y) (sym row)
        (subst (λ (j : Option Judged). ComesBy (confirmed_for q (call o)) o (row_at r c j (far_of o) W)) (judged_is o)
        (by_seen (is_body_seen q s.shelf) W (seen-at x s locks now fits q r f) (confirmed_for q (call o)) o (comes_of o p)))

    pub open-comes : (o : Outcome) → AllowsBy (unless (can_revalidate q.phase q.gave_read) WrongPhase) s t (Revalidate id head given) (call o) o
        → RowComes o (lock_changes_in s t (Revalidate id head given) o i.asked) (after_outcome s t (Revalidate id head given) (call o) o)
    open-comes o p = subst (λ (l : LockChanges). RowComes o l (after_outcome s t (Revalidate id head given) (call o) o)) (sym (locks_are o))
        (subst (λ (new : State). RowComes o (locks_of o) new) (sym (state_are o)) (checked o (can_revalidate q.phase q.gave_read) refl p))

  -- ---- the event

  abbrev row_for : Outcome → Option Request → EventRow
  row_for o v = row_of v (λ r. revalidate_by r.phase r.gave_read (confirmed_by r (call o)) (far_of o) r c)

  abbrev EventComes : Outcome → Option Request → Type 0
  EventComes o v =
      Answered x used o (row_for o v) c
      × NowFits x (with_counts k (after_all (lock_changes_in s t (Revalidate id head given) o i.asked) s.lock) (after_outcome s t (Revalidate id head given) (call o) o)) (lock_changes_in s t (Revalidate id head given) o i.asked ++ locks)
      (cond (ran_out o) now (came id (row_for o v) now).now)

  event_open : (o : Outcome) (q : Option state.Request) (v : Option Request) → get s.requests id ≡ q → now.request id ≡ v → OpenFits x fits.numbers fits.permits s.shelf c q v
      → AllowsBy (unless_open q (λ q. unless (can_revalidate q.phase q.gave_read) WrongPhase)) s t (Revalidate id head given) (call o) o → EventComes o v
  event_open o (Some q) None is at f p = absurd f
  event_open o None (Some r) is at f p = absurd f
  event_open (Ok a) None None is at f p = absurd cc
  event_open (Err g) None None is at f p =
      subst (λ (y : TierFault). EventComes (Err y) None) (let one : NoRequest ≡ g = cc in one) (
        (refl, tt),
        subst (λ (new : State). NowFits x (with_counts k s.lock new) locks (came id row_closed now).now)
            (sym (ap (λ (y : Option state.Request). by_request s y (λ q. undone_renewal s id q (confirmed_for q (call (Err NoRequest))) nothing_done)) is))
            (counted-fits x s locks (came id row_closed now).now k s.lock same refl (closed-fits x s locks now fits id at)),
      )
  event_open o (Some q) (Some r) is at f p = open-comes q r is at f o p

  pub event-comes : (o : Outcome) → AllowsBy (unless_open (get s.requests id) (λ q. unless (can_revalidate q.phase q.gave_read) WrongPhase)) s t (Revalidate id head given) (call o) o → EventComes o (now.request id)
  event-comes o p = event_open o (get s.requests id) (now.request id) refl refl (fits.requests id) p

pub revalidate-step : (x : Settings) (s : State) (locks : LockChanges) (now : Now) (fits : NowFits x s locks now) → IsLocked x.age s locks → IsOrderly now.changes → (used : ℕ) (t : MomentValue) (i : Inside) (id : ℕ) (head : List ℕ) (given : Option GivenMeta) (o : Outcome)
    → Allows s (call_at t (Revalidate id head given) i o) → Step x used s locks (call_at t (Revalidate id head given) i o) now
revalidate-step x s locks now fits locked order used t i id head given o p =
    let all = event-comes x s locks now fits locked order used t i id head given (writes_after s.shelf.writes i.began) (same-count s (tells_of_write (call_at t (Revalidate id head given) i o)) i.began p.begins) o p.outcome in
    record { right = record { read = p.read; outcome = all.0 }; fits = all.1 }
