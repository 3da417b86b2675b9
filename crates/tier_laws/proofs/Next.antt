-- Once a wait was polled past the permit's age, that permit waits no more, and the next that asks is given one.
use Rattle.std.proofs.Common.{◌≡◌, ℕ, ◌+◌, refl, ap, sym, ◌∙◌, true, false, cond, [], ◌∷◌, ◌++◌, length}
use Rattle.std.specs.Prelude.{Bool, List, Option, Some, None, Ok, Err, IfSome, is_some, not, ◌&&◌}
use Rattle.std.proofs.lemmas.Bool.{eq-eqb}
use Rattle.cache_words.specs.Time.{MomentValue}
use Rattle.cache_entries.specs.declared.rows.Tracked.{Tracked}
use Rattle.cache_entries.specs.Keys.{same_bytes}
use Rattle.cache_entries.specs.SameEntry.{same_bytes-tells}
use Rattle.cache_changes.specs.Changes.{StoredKey, stored_key}
use Rattle.cache_lock.specs.declared.status.LockStatus.{LockStatus}
use Rattle.cache_lock.specs.declared.status.LockStatus.TheVariants as status
use Rattle.tier_model.specs.declared.event.Action.TheVariants as on
use Rattle.tier_model.specs.declared.event.Answer.TheVariants as answer
use Rattle.tier_model.specs.declared.event.LockGiven.{LockGiven}
use Rattle.tier_model.specs.declared.event.LockGiven.TheVariants as lock
use Rattle.tier_model.specs.Calls.{Call, History, Outcome, extended}
use Rattle.tier_model.specs.State.{Settings, Phase, cache_key, stale}
use Rattle.tier_model.specs.Standings.{time_waited}
use Rattle.tier_model.specs.Answers.{is_fresh, is_past}
use Rattle.tier_promise.specs.Promise.{Write, Permit, Change, Changes, gives, ends, ended, unless_is, waiting, flying, first_of, shown, Hold, no_lock, waits, told, asked, hold_given, Request, Now, EventRow, Whether, ComesSo, SomeRanOut, far_of, ran_out, row_of, look_row, look_by, poll_row, after, now_of, IsRight, AreRight}
use Rattle.tier_laws.specs.Waits.{PollsWait, is_aged, NoOtherWaits, NoneGiven, given_by}
use Rattle.tier_laws.proofs.Says.{said-of}
use Rattle.tier_laws.proofs.Owners.{Scope, Own, AreOwned}
use Rattle.tier_laws.proofs.Turns.{InTurn}
use Rattle.tier_laws.proofs.Stands.{scope_of_call, call-turned, history-stands}
use Rattle.tier_laws.proofs.Polls.{now-is, row-is}

-- ---- the permit waits no more

module _ (k : StoredKey) (p : Permit) (c : Changes) (o : AreOwned c) (none : NoOtherWaits k p c) where
  -- it ended before, or ends now
  ended-none : (how : LockStatus) → ended p.number c ≡ Some how → waiting k c ≡ None
  ended-none how over = by_permit (waiting k c) refl none
    where
      by_permit : (v : Option Permit) → waiting k c ≡ v → IfSome v (λ x. x.number ≡ p.number) → v ≡ None
      by_permit None is same = refl
      by_permit (Some x) is same =
          let clash : None ≡ Some how = sym (o.waits k x is).1 ∙ ap (λ (n : ℕ). ended n c) same ∙ over in
          absurd cc

  ends-none : (how : LockStatus) → waiting k (ends p.number how ∷ c) ≡ None
  ends-none how = by_permit (waiting k c) none
    where
      by_permit : (v : Option Permit) → IfSome v (λ x. x.number ≡ p.number) → unless_is p.number v ≡ None
      by_permit None same = refl
      by_permit (Some x) same = ap (λ (v : Bool). cond v None (Some x)) (eq-eqb p.number x.number (sym same))

  polled-none : (over : Bool) (t : MomentValue) (first : Option MomentValue) (q : Request) → waiting k (extended c (poll_row (ended p.number c) true over t p first q).changes) ≡ None
  polled-none over t first q = by_end (ended p.number c) refl
    where
      by_end : (e : Option LockStatus) → ended p.number c ≡ e → waiting k (extended c (poll_row e true over t p first q).changes) ≡ None
      by_end None is = ends-none status.AgeTimeout
      by_end (Some how) is = ended-none how is

module _ (s : Settings) (used : ℕ) (loaded : List Tracked) (h : History) (c : Call) (id : ℕ) (q : Request) (p : Permit) (first : Option MomentValue) (polls : PollsWait s used loaded h c id q p first) where
  pub aged-none : is_aged s p c ≡ true → (k : StoredKey) → NoOtherWaits k p (now_of s loaded h).changes → waiting k (now_of s loaded (c ∷ h)).changes ≡ None
  aged-none aged k none =
      let now = now_of s loaded h in
      let t = c.event.moment in
      let over = is_past s.wait q.waited (time_waited first t) in
      ap (λ (n : Now). waiting k n.changes) (now-is s used loaded h c id q p first polls)
      ∙ ap (λ (r : EventRow). waiting k (extended now.changes r.changes)) (row-is s used loaded h c id q p first polls)
      ∙ ap (λ (v : Bool). waiting k (extended now.changes (poll_row (ended p.number now.changes) v over t p first q).changes)) aged
      ∙ polled-none k p now.changes (history-stands s used loaded h polls.right.1).owned none over t first q

-- ---- none waits until one is given

module _ (s : Scope) (k : StoredKey) (none : s.key ≡ Some k → s.gives ≡ false) where
  turn-none : (xs : List Change) (c : Changes) → InTurn s xs c → waiting k c ≡ None → waiting k (extended c xs) ≡ None
  turn-none [] c t is = is
  turn-none (x ∷ xs) c t is = turn-none xs (x ∷ c) t.1 (one x t.0)
    where
      one : (x : Change) → Own s x c → waiting k (x ∷ c) ≡ None
      one (gives p) own = by_key (same_bytes p.key k) refl
        where
          by_key : (v : Bool) → same_bytes p.key k ≡ v → cond v (Some p) (waiting k c) ≡ None
          by_key false e = is
          by_key true e = let no : true ≡ false = sym own.3 ∙ none (own.2 ∙ ap (λ (j : StoredKey). Some j) (same_bytes-tells.equal p.key k e)) in absurd cc
      one (ends n how) own = ap (unless_is n) is
      one _ own = is

pub since-none : (s : Settings) (used : ℕ) (loaded : List Tracked) (k : StoredKey) (since h : History) → AreRight s used loaded (since ++ h) → NoneGiven s loaded k since h
    → waiting k (now_of s loaded h).changes ≡ None → waiting k (now_of s loaded (since ++ h)).changes ≡ None
since-none s used loaded k [] h right none is = is
since-none s used loaded k (c ∷ since) h right none is =
    let now = now_of s loaded (since ++ h) in
    let t = call-turned s (used + length (since ++ h)) c now (history-stands s used loaded (since ++ h) right.1) right.0 in
    ap (waiting k) t.changes ∙ turn-none (scope_of_call c now) k none.0 t.row now.changes t.turn (since-none s used loaded k since h right.1 none.1 is)

-- ---- who asks is given one

module _ (t : MomentValue) (q : Request) (c : Changes) (asks : q.asks ≡ true) (none : waiting (stored_key q.entry) c ≡ None) where
  given-new : (b : Bool) → b ≡ true → told (asked b t q c) ≡ lock.Write
  given-new true is = ap (λ (v : Option Permit). told (hold_given v (record { number = length c; key = stored_key q.entry; given = t }))) none
  given-new false is = absurd cc

  -- a look-up that found nothing fresh
  by-row : (v : Option Write) (given : LockGiven) → given_by (look_row t q v c).outcome ≡ Some given → given ≡ lock.Write
  by-row None given is =
      let one : told (asked q.asks t q c) ≡ given = cc in
      sym one ∙ given-new q.asks asks
  by-row (Some w) given is = by_fresh (is_fresh t w.meta) refl is
    where
      by_fresh : (v : Bool) → is_fresh t w.meta ≡ v → given_by (Ok (answer.Found v (not (is_some (first_of (flying (stored_key q.entry) c)))) (told (asked (q.asks && not v) t q c)))) ≡ Some given → given ≡ lock.Write
      by_fresh true f is = absurd cc
      by_fresh false f is =
          let one : told (asked (q.asks && true) t q c) ≡ given = cc in
          sym one ∙ given-new (q.asks && true) (ap (λ (v : Bool). v && true) asks)

  by-look : (phase : Phase) (h : Hold) (given : LockGiven) → given_by (look_by phase h t q c).outcome ≡ Some given → given ≡ lock.Write
  by-look cache_key no_lock given is = by-row (shown (stored_key q.entry) c) given is
  by-look stale no_lock given is = by-row (shown (stored_key q.entry) c) given is
  by-look cache_key (waits p first) given is = absurd cc
  by-look stale (waits p first) given is = absurd cc
  by-look _ _ given is = absurd cc

pub is-given : (s : Settings) (used : ℕ) (look : Call) (now : Now) (other : ℕ) (r : Request) (given : LockGiven) → IsRight s used look now → look.event.action ≡ on.LookUp other → now.request other ≡ Some r
    → r.asks ≡ true → waiting (stored_key r.entry) now.changes ≡ None → given_by look.outcome ≡ Some given → given ≡ lock.Write
is-given s used look now other r given right is at asks none gave = by_room (ran_out look.outcome) refl (said-of s used look now (on.LookUp other) is right)
  where
    -- what ran out gave nothing
    ran-gave : (o : Outcome) → ran_out o ≡ true → given_by o ≡ Some given → ⊥
    ran-gave (Ok a) out gave = absurd cc
    ran-gave (Err f) out gave = absurd cc

    by_room : (v : Bool) → ran_out look.outcome ≡ v
        → Whether v (SomeRanOut s used (after s look look.event.moment (on.LookUp other) now).row.needs look.outcome now.changes)
        ((look.outcome ≡ (after s look look.event.moment (on.LookUp other) now).row.outcome) × ComesSo s (after s look look.event.moment (on.LookUp other) now).row.needs.entering (far_of look.outcome) now.changes)
        → given ≡ lock.Write
    by_room true out said = absurd (ran-gave look.outcome out gave)
    by_room false out said =
        by-look look.event.moment r now.changes asks none r.phase r.hold given
        (ap given_by (sym (said.0 ∙ ap (λ (v : Option Request). (row_of v (λ q. look_by q.phase q.hold look.event.moment q now.changes)).outcome) at)) ∙ gave)
