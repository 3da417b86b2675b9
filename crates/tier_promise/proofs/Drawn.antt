-- What the evictions of a lawful history's calls drew by its states they drew by the promise's rows.
use Rattle.cache_heads.specs.declared.given.GivenMeta.{GivenMeta}
use Rattle.std.proofs.Common.{◌≡◌, ℕ, ◌+◌, ◌<◌, refl, ap, sym, ◌∙◌, true, false, subst, cond, [], ◌∷◌, length}
use Rattle.std.specs.Prelude.{Bool, List, Option, Some, None, option_map, not, Ok, Err, MatchOption}
use Rattle.std.specs.FinMap.{get}
use Rattle.rand_core.specs.Stream.{Stream}
use Rattle.cache_words.specs.Time.{MomentValue}
use Rattle.cache_words.specs.Key.{CacheKeyValue}
use Rattle.cache_changes.specs.Changes.{Changes as Told, admits, reweighs, stored_key}
use Rattle.cache_changes.specs.Uses.{AreShardsOf, rows_of}
use Rattle.cache_changes.specs.Uses as uses
use Rattle.cache_entries.specs.Rows.{admitted as with_row}
use Rattle.cache_entries.specs.declared.entry.CacheEntryKey.{CacheEntryKey}
use Rattle.cache_entries.specs.declared.rows.Tracked.{Tracked}
use Rattle.cache_evict.specs.Managed.{Managed, Evicts, pick_by_draws}
use Rattle.cache_heads.specs.declared.meta.CacheMeta.{CacheMeta}
use Rattle.tier_model.specs.declared.event.Action.{Action}
use Rattle.tier_model.specs.declared.event.Action.TheVariants as on
use Rattle.tier_model.specs.declared.event.Answer.{Answer}
use Rattle.tier_model.specs.declared.event.Answer.TheVariants as answer
use Rattle.tier_model.specs.declared.event.Done.{Done}
use Rattle.tier_model.specs.declared.event.TierFault.{TierFault}
use Rattle.tier_model.specs.declared.event.TierFault.TheVariants as fault
use Rattle.tier_model.specs.declared.state.Body.{Body}
use Rattle.tier_model.specs.declared.whole.PutVerdict.{PutVerdict}
use Rattle.tier_model.specs.declared.whole.PutVerdict.TheVariants as whole
use Rattle.tier_model.specs.Keys.{Entry, entry_of, alone}
use Rattle.tier_model.specs.Response.{Judged, kept, not_kept, too_early, not_read}
use Rattle.tier_model.specs.Calls.{Call, History, Outcome, finished_in, finished_by, read_by, done_of, evicted_by, evicted_before, confirmed_of}
use Rattle.tier_model.specs.Histories.{Kept, Opening, changes_of}
use Rattle.tier_model.specs.Rows.{FinishedBody, Numbered, weight_for}
use Rattle.tier_model.specs.State.{Settings, Phase, stale, State, shards_of}
use Rattle.tier_model.specs.State as state
use Rattle.tier_model.specs.Answers.{admitted, finishing, confirmed_for, is_body_seen, reweighed, stored_alone, all_done}
use Rattle.tier_model.specs.After.{by_request, after}
use Rattle.tier_model.specs.Past.{state_of, lock_changes_of, IsLawful, AreTaken}
use Rattle.tier_model.proofs.CallLaws.{Inside, call_at}
use Rattle.tier_promise.specs.Promise.{Write, Changes, Request, EventRow, Now, Whether, Entering, nothing, a_use, a_body, a_renewal, HowFar, whole_way, cut, kept_out, far_by, far_of, gone_by, told_so, ComesSo, SomeRanOut, ran_out, puts, weighs, rows, rows_with, as_body, is_alive, body_of, still, finish_row, finish_by, refused, lands}
use Rattle.tier_promise.specs.Promise.{put_row, row_of, row_of_call, confirm_row, revalidate_row, revalidate_by, confirmed_by, now_of, ArePicked, WereDrawn}
use Rattle.tier_promise.specs.Draws.{weighed_for, evicts_from, AreDrawn, AreAllDrawn}
use Rattle.tier_promise.proofs.Listed.{gone-told, gone-renewed}
use Rattle.tier_promise.proofs.NowFits.{RequestFits, WriteFits, NowFits}
use Rattle.tier_promise.proofs.NowAll.{used_by, AreRight-lawful}
use Rattle.tier_promise.proofs.NowBeginSteps.{seen_same}
use Rattle.tier_promise.proofs.NowCalls.{keeps-all}
use Rattle.tier_promise.proofs.NowFinishes.{finishing-is, alive-is}
use Rattle.tier_promise.proofs.NowGone.{rows-put}
use Rattle.tier_promise.proofs.NowOrderOfUse.{uses-same}
use Rattle.tier_promise.proofs.NowRenewChecks.{SeenAt, seen-at}
use Rattle.tier_promise.proofs.NowRenewSteps.{managed_is, rows_then}
use Rattle.tier_promise.proofs.NowRequests.{IsSound}
use Rattle.tier_promise.proofs.NowSound.{IsSound-stands}
use Rattle.tier_promise.proofs.NowStart.{IsLocked-lawful}
use Rattle.tier_promise.proofs.NowUses.{Same}
use Rattle.tier_promise.proofs.NowUseEvents.{fits, past, the-request}
use Rattle.tier_promise.proofs.Alone.{makes_room, ListsNone, IsCalm, call-quiet, call-alone}
use Rattle.tier_promise.proofs.Limits.{none-ran}
use Rattle.tier_promise.proofs.Picks.{picked-so}

-- ---- none went

none-drawn : (s : State) (start : Option Managed) (o : Outcome) (words rest : Stream) → evicted_by o ≡ [] → AreDrawn s start o words rest → rest ≡ words
none-drawn s None o words rest none drawn = drawn
none-drawn s (Some m) o words rest none drawn = (subst (λ (es : List CacheEntryKey). Evicts (pick_by_draws (shards_of s)) m es words drawn.0 rest) none drawn.1).1

none-picked : (x : Settings) (es : List CacheEntryKey) (all : List Tracked) (words rest : Stream) → es ≡ [] → rest ≡ words → ArePicked x es all words rest
none-picked x es all words rest none is = subst (λ (l : List CacheEntryKey). ArePicked x l all words rest) (sym none) is

-- ---- a call

module _ (start : Opening) (h : History) (l : IsLawful start h) where
  abbrev x : Settings
  x = start.settings

  abbrev s : State
  s = state_of start h

  abbrev now : Now
  now = now_of x start.loaded h

  abbrev c : Changes
  c = now.changes

  abbrev N : ℕ
  N = shards_of s

  abbrev same : Same c (changes_of start h)
  same = uses-same start h l

  abbrev f : NowFits x s (lock_changes_of start h) now
  f = fits start h l same

  pos : 0 < x.shards
  pos = f.some

  sound : IsSound s
  sound = IsSound-stands start s h (past start h l same)

  -- the words picked from that order of use
  picked-from : (m : Managed) (all : List Tracked) (before : Told Kept) → all ≡ rows_of before → AreShardsOf x.shards m.shards all → (o : Outcome) → evicted_by o ≡ gone_by (far_of o) → (words rest : Stream)
      → AreDrawn s (Some m) o words rest → ArePicked x (gone_by (far_of o)) all words rest
  picked-from m all before are order o gone words rest drawn =
      subst (λ (es : List CacheEntryKey). ArePicked x es all words rest) gone (subst (λ (l : List Tracked). ArePicked x (evicted_by o) l words rest) (sym are)
      (picked-so x pos (evicted_by o) m drawn.0 before words rest (subst (λ (l : List Tracked). AreShardsOf x.shards m.shards l) are order)
      (subst (λ (n : ℕ). Evicts (pick_by_draws n) m (evicted_by o) words drawn.0 rest) (f.made).shards drawn.1)))

  abbrev Drawn : Option Managed → Entering → Outcome → Type 0
  Drawn start e o = (words rest : Stream) → AreDrawn s start o words rest → ArePicked x (gone_by (far_of o)) (rows_with e c) words rest

  -- a body is stored
  body-drawn : (e : Entry) (b : Body) (o : Outcome) → evicted_by o ≡ gone_by (far_of o) → Drawn (Some (admitted s (record { entry = e; body = b }))) (a_body (alone e) (weight_for b)) o
  body-drawn e b o gone words rest drawn = picked-from (admitted s (record { entry = e; body = b })) (rows (puts (alone e) (weight_for b) ∷ c)) (admits (alone e) (weight_for b) ∷ changes_of start h)
      (ap (with_row (alone e) (weight_for b)) same)
      (let a = rows-put x pos N (f.made).shards (alone e) s.managed c f.rows (weight_for b) in record { count = a.count; each = a.each }) o gone words rest drawn

  abbrev Says : EventRow → Outcome → Type 0
  Says row o = (o ≡ row.outcome) × ComesSo x row.needs.entering (far_of o) c

  abbrev RowDrawn : Option Managed → EventRow → Outcome → Type 0
  RowDrawn start row o = makes_room row.needs.entering ≡ true → Says row o → Drawn start row.needs.entering o

  -- ---- puts

  put-drawn : (key : CacheKeyValue) (pieces : List (List ℕ)) (given : Option GivenMeta) (o : Outcome) (v : Option PutVerdict) → RowDrawn (option_map (admitted s) (finished_in (on.Put key pieces given) v)) (put_row (entry_of key) v (far_of o) c) o
  put-drawn key pieces given o (Some (whole.Stored b)) room says = body-drawn (entry_of key) b o (gone-told x (alone (entry_of key)) (weight_for b) c (λ es. answer.Finished (length b.bytes) es) o says.0 says.1)
  put-drawn key pieces given o (Some (whole.Uncacheable reason)) room says = absurd cc
  put-drawn key pieces given o (Some whole.Incomplete) room says = absurd cc
  put-drawn key pieces given o (Some whole.BadHead) room says = absurd cc
  put-drawn key pieces given o (Some whole.BeforeEpoch) room says = absurd cc
  put-drawn key pieces given o None room says = absurd cc

  -- ---- finishes

  module _ (id : ℕ) (r : Request) (at : now.request id ≡ Some r) where
    abbrev q : state.Request
    q = (the-request start h l same id r at).0

    there : get s.requests id ≡ Some q
    there = (the-request start h l same id r at).1

    g : RequestFits x f.numbers f.permits s.shelf c q r
    g = (the-request start h l same id r at).2

    abbrev row_at : Outcome → Write → Bool → EventRow
    row_at o y v = cond v (finish_row y (as_body y c) (far_of o) r) (record (refused (record r { write = None }) fault.WriteRemoved) { changes = lands y.number false ∷ [] })

    finish-drawn : (o : Outcome) (u : Option ℕ) (v : Option Write) → q.write ≡ u → WriteFits f.numbers s.shelf.flying r.entry u v → RowDrawn (option_map (admitted s) (finishing q s.shelf)) (finish_by v (far_of o) r c) o
    finish-drawn o None None held w room says = absurd cc
    finish-drawn o (Some n) None held w room says = absurd w
    finish-drawn o None (Some y) held w room says = absurd w
    finish-drawn o (Some n) (Some y) held w room says = by_life (is_alive y c) refl room says
      where
        removed : (v u : Bool) → v ≡ true → v ≡ not u → u ≡ false
        removed true false e same = refl
        removed true true e same = absurd cc
        removed false u e same = absurd cc

        by_life : (v : Bool) → is_alive y c ≡ v → makes_room (row_at o y v).needs.entering ≡ true → Says (row_at o y v) o → Drawn (option_map (admitted s) (finishing q s.shelf)) (row_at o y v).needs.entering o
        by_life false alive room says = absurd cc
        by_life true alive room says =
            let gone : ((w.2).0).removed ≡ false = removed (is_alive y c) ((w.2).0).removed alive (alive-is x s (lock_changes_of start h) now f sound q r g n y held w) in
            let is : finishing q s.shelf ≡ Some (record { entry = r.entry; body = as_body y c }) =
            finishing-is x s (lock_changes_of start h) now f sound q r g n y held w ∙ ap (λ (v : Bool). cond v None (Some (record { entry = r.entry; body = as_body y c }))) gone in
            let entry : finishing q s.shelf ≡ Some (record { entry = y.entry; body = as_body y c }) = is ∙ ap (λ (e : Entry). Some (record { entry = e; body = as_body y c })) (sym w.1) in
            subst (λ (b : Option FinishedBody). Drawn (option_map (admitted s) b) (a_body (alone y.entry) (weight_for (as_body y c))) o) (sym entry)
            (body-drawn y.entry (as_body y c) o (gone-told x (alone y.entry) (weight_for (as_body y c)) c (λ es. answer.Finished (length (as_body y c).bytes) es) o says.0 says.1))

    -- ---- revalidations

    renewed-drawn : (o : Outcome) (meta : CacheMeta) (v : Bool) (w : Write) → is_body_seen q s.shelf ≡ v → SeenAt s.shelf.bodies c (stored_key r.entry) v (Some w)
        → RowDrawn (cond v (Some (reweighed s q meta)) None) (confirm_row (kept meta) (far_of o) (Some w) r c) o
    renewed-drawn o meta false w seen at room says words rest drawn = absurd at
    renewed-drawn o meta true w seen at room says words rest drawn =
        let locked = IsLocked-lawful start h l in
        let order = (keeps-all x (used_by start) start.loaded h (AreRight-lawful start h l)).order in
        let weight : ℕ = weight_for (as_body (record w { meta = meta }) c) in
        let m = managed_is x s (lock_changes_of start h) now f locked id q r there g order at.0 w at.1 at.2 meta in
        picked-from (reweighed s q meta) (rows (weighs (alone r.entry) weight ∷ c)) (reweighs (alone r.entry) weight ∷ changes_of start h) (ap (uses.reweighed (alone r.entry) weight) same)
        (subst (λ (y : Managed). AreShardsOf x.shards y.shards (rows (weighs (alone r.entry) weight ∷ c))) (sym m)
        (rows_then x s (lock_changes_of start h) now f locked id q r there g order at.0 w at.1 at.2 meta)) o
        (gone-renewed x (alone r.entry) weight c (λ es. answer.Revalidated es) o says.0 says.1) words rest drawn

    confirm-drawn : (o : Outcome) (j : Judged) (w : Option Write) → still r.seen (body_of (stored_key r.entry) c) ≡ w → RowDrawn (weighed_for s q (Some j)) (confirm_row j (far_of o) w r c) o
    confirm-drawn o not_read w is room says = absurd cc
    confirm-drawn o too_early None is room says = absurd cc
    confirm-drawn o (not_kept reason) None is room says = absurd cc
    confirm-drawn o (kept meta) None is room says = absurd cc
    confirm-drawn o too_early (Some w) is room says = absurd cc
    confirm-drawn o (not_kept reason) (Some w) is room says = absurd cc
    confirm-drawn o (kept meta) (Some w) is room says = renewed-drawn o meta (is_body_seen q s.shelf) w refl
        (subst (λ (y : Option Write). SeenAt s.shelf.bodies c (stored_key r.entry) (is_body_seen q s.shelf) y) is (seen-at x s (lock_changes_of start h) now f q r g)) room says

    judged-drawn : (o : Outcome) (j : Option Judged) → RowDrawn (weighed_for s q j) (revalidate_row j (far_of o) r c) o
    judged-drawn o None room says = absurd cc
    judged-drawn o (Some j) room says = confirm-drawn o j (still r.seen (body_of (stored_key r.entry) c)) refl room says

    revalidate-drawn : (o : Outcome) (phase : Phase) (gave : Bool) (j : Option Judged) → RowDrawn (weighed_for s q j) (revalidate_by phase gave j (far_of o) r c) o
    revalidate-drawn o stale false j room says = judged-drawn o j room says
    revalidate-drawn o _ _ j room says = absurd cc

  -- ---- each event

  of_request : (id : ℕ) (v : Option Request) → now.request id ≡ v → (go : Request → EventRow) (went : Option state.Request → Option Managed) (o : Outcome)
      → ((r : Request) (at : now.request id ≡ Some r) → RowDrawn (went (Some (q id r at))) (go r) o) → RowDrawn (went (get s.requests id)) (row_of v go) o
  of_request id None at go went o each = λ room says. absurd cc
  of_request id (Some r) at go went o each = subst (λ (y : Option state.Request). RowDrawn (went y) (go r) o) (sym (there id r at)) (each r at)

  module _ (t : MomentValue) (i : Inside) where
    finished : (id : ℕ) (o : Outcome) (r : Request) (at : now.request id ≡ Some r) → RowDrawn (option_map (admitted s) (finishing (q id r at) s.shelf)) (finish_by r.write (far_of o) r c) o
    finished id o r at = finish-drawn id r at o (q id r at).write r.write refl (g id r at).write

    abbrev call_of : ℕ → List ℕ → Option GivenMeta → Outcome → Call
    call_of id head given o = call_at t (on.Revalidate id head given) i o

    renewed : (id : ℕ) (head : List ℕ) (given : Option GivenMeta) (o : Outcome) (r : Request) (at : now.request id ≡ Some r)
        → RowDrawn (weighed_for s (q id r at) (confirmed_for (q id r at) (call_of id head given o))) (revalidate_by r.phase r.gave_read (confirmed_by r (call_of id head given o)) (far_of o) r c) o
    renewed id head given o r at =
        let judged : confirmed_for (q id r at) (call_of id head given o) ≡ confirmed_by r (call_of id head given o) =
        ap (λ (m : Option CacheMeta). confirmed_of m (call_of id head given o)) (seen_same f.numbers (q id r at).seen r.seen (g id r at).seen) in
        subst (λ (j : Option Judged). RowDrawn (weighed_for s (q id r at) j) (revalidate_by r.phase r.gave_read (confirmed_by r (call_of id head given o)) (far_of o) r c) o) (sym judged)
        (revalidate-drawn id r at o r.phase r.gave_read (confirmed_by r (call_of id head given o)))

    abbrev Row : Action → Outcome → EventRow
    Row action o = row_of_call x (call_at t action i o) now

    calm : (action : Action) (o : Outcome) → IsCalm action → RowDrawn (evicts_from s (call_at t action i o)) (Row action o) o
    calm action o still room says = let no : true ≡ false = sym room ∙ (call-quiet x (call_at t action i o) now t action still).0 in absurd cc

    each : (action : Action) (o : Outcome) → RowDrawn (evicts_from s (call_at t action i o)) (Row action o) o
    each (on.Put key pieces given) o = put-drawn key pieces given o (read_by (call_at t (on.Put key pieces given) i o))
    each (on.Finish id) o = of_request id (now.request id) refl (λ r. finish_by r.write (far_of o) r c) (λ y. option_map (admitted s) (by_request None y (λ q. finishing q s.shelf))) o (finished id o)
    each (on.Revalidate id head given) o = of_request id (now.request id) refl (λ r. revalidate_by r.phase r.gave_read (confirmed_by r (call_of id head given o)) (far_of o) r c)
        (λ y. by_request None y (λ q. weighed_for s q (confirmed_for q (call_of id head given o)))) o (renewed id head given o)
    each (on.Open id key asks) o = calm (on.Open id key asks) o tt
    each (on.LookUp id) o = calm (on.LookUp id) o tt
    each (on.Poll id) o = calm (on.Poll id) o tt
    each (on.Begin id head given) o = calm (on.Begin id head given) o tt
    each (on.Piece id bytes last) o = calm (on.Piece id bytes last) o tt
    each (on.Read id) o = calm (on.Read id) o tt
    each (on.Drop id) o = calm (on.Drop id) o tt
    each (on.Purge key) o = calm (on.Purge key) o tt

  -- a call of the history
  module _ (call : Call) (words rest : Stream) (drawn : AreDrawn s (evicts_from s call) call.outcome words rest) where
    abbrev row : EventRow
    row = row_of_call x call now

    abbrev Picked : Type 0
    Picked = ArePicked x (gone_by (far_of call.outcome)) (rows_with row.needs.entering c) words rest

    nothing-went : ListsNone call.outcome → Picked
    nothing-went none = none-picked x (gone_by (far_of call.outcome)) (rows_with row.needs.entering c) words rest none.0 (none-drawn s (evicts_from s call) call.outcome words rest none.1 drawn)

    by_room : (v : Bool) → makes_room row.needs.entering ≡ v → Whether v (Unit {0}) (ListsNone row.outcome) → Says row call.outcome → Picked
    by_room true room alone says = each call.event.moment (record { reading = call.reading; began = call.began; asked = call.asked }) call.event.action call.outcome room says words rest drawn
    by_room false room alone says = nothing-went (subst ListsNone (sym says.0) alone)

    by_ran : (used : ℕ) (v : Bool) → Whether v (SomeRanOut x used row.needs call.outcome c) (Says row call.outcome) → Picked
    by_ran used true out = nothing-went (none-ran x used row.needs call.outcome c out)
    by_ran used false says = by_room (makes_room row.needs.entering) refl (call-alone x call now call.event.moment call.event.action) says

    call-drawn : IsLawful start (call ∷ h) → Picked
    call-drawn lawful = by_ran (used_by start + length h) (ran_out call.outcome) ((AreRight-lawful start (call ∷ h) lawful).0).outcome

-- of calls after a lawful history
pub drawn-by_rows : (start : Opening) (h : History) (calls : List Call) (new : State) (words rest : Stream) → IsLawful start h → AreTaken (state_of start h) calls new → AreAllDrawn (state_of start h) calls words rest
    → WereDrawn start.settings (now_of start.settings start.loaded h) calls words rest
drawn-by_rows start h [] new words rest l taken drawn = drawn
drawn-by_rows start h (c ∷ calls) new words rest l taken drawn =
    (drawn.0, call-drawn start h l c words drawn.0 drawn.1 (taken.0, l), drawn-by_rows start (c ∷ h) calls new drawn.0 rest (taken.0, l) taken.1 drawn.2)
