-- After each lawful history the rows of the promise are the order of use that the history says.
use Rattle.cache_heads.specs.declared.given.GivenMeta.{GivenMeta}
use Rattle.std.proofs.Common.{◌≡◌, ℕ, ◌+◌, length, refl, sym, ◌∙◌, true, false, subst, cond, [], ◌∷◌}
use Rattle.std.specs.Prelude.{Bool, List, Option, Some, None}
use Rattle.cache_words.specs.Time.{MomentValue}
use Rattle.cache_changes.specs.Uses.{IsOrderOfUse}
use Rattle.cache_changes.proofs.UseLaws.{IsOrderOfUse-rows_of}
use Rattle.cache_entries.specs.declared.rows.Tracked.{Tracked}
use Rattle.tier_model.specs.declared.event.Action.{Action}
use Rattle.tier_model.specs.declared.event.Action.TheVariants as on
use Rattle.tier_model.specs.declared.event.TierFault.TheVariants as fault
use Rattle.tier_model.specs.Keys.{entry_of}
use Rattle.tier_model.specs.Calls.{Call, History, Outcome, extended, judged_of, read_by, opened_for}
use Rattle.tier_model.specs.Histories.{Opening, begun_from, renewal_from, seen_by, write_held, changes_of}
use Rattle.tier_model.specs.State.{Settings}
use Rattle.tier_model.specs.Past.{IsLawful}
use Rattle.tier_promise.specs.Promise.{Write, Changes, Request, EventRow, Now, rows, opened, open_row, look_by, poll_by, begin_by, confirmed_by, revalidate_by}
use Rattle.tier_promise.specs.Promise.{piece_by, finish_by, read_by_reader, drop_row, now_of, came_of, of_open, row_of, row_of_call, Whether, ComesSo, SomeRanOut, far_of, ran_out}
use Rattle.tier_promise.specs.Promise as now_is
use Rattle.tier_model.proofs.CallLaws.{Inside, call_at}
use Rattle.tier_promise.proofs.NowAll.{used_by, AreRight-lawful}
use Rattle.tier_promise.proofs.NowStart.{rows-loaded}
use Rattle.tier_promise.proofs.NowUses.{Same, IsUse, rows-ran}
use Rattle.tier_promise.proofs.NowUseEvents.{Next, refused-same, quiet-same, poll-rows, begin-rows, piece-rows, read-rows, drop-rows, look-same}
use Rattle.tier_promise.proofs.NowUseWrites.{write-same, put-same, purge-same}
use Rattle.tier_promise.proofs.NowUseRenewals.{revalidate-same}

module _ (start : Opening) (h : History) (l : IsLawful start h) (same : Same (now_of start.settings start.loaded h).changes (changes_of start h)) where
  abbrev x : Settings
  x = start.settings

  abbrev now : Now
  now = now_of x start.loaded h

  abbrev c : Changes
  c = now.changes

  abbrev Then : Call → Changes → Type 0
  Then call then = Next start h l same call then

  open_rows : (v : Option Request) (q : Request) → rows (extended c (open_row v q).changes) ≡ rows c
  open_rows None q = refl
  open_rows (Some r) q = refl

  module _ (t : MomentValue) (i : Inside) where
    -- an event of a request, by what is open
    by_open : (action : Action) (o : Outcome) (v : Option Request) (f : Request → Changes → EventRow) → o ≡ (row_of v (λ q. f q c)).outcome
        → ((r : Request) → v ≡ Some r → o ≡ (f r c).outcome → Then (call_at t action i o) (extended c (f r c).changes)) → Then (call_at t action i o) (extended c (row_of v (λ q. f q c)).changes)
    by_open action o None f e own = refused-same start h l same t i action fault.NoRequest o refl e
    by_open action o (Some r) f e own = own r refl e

    -- one that uses nothing
    unused : (action : Action) (o : Outcome) (id : ℕ) (f : Request → Changes → EventRow) → (IsUse action → ⊥) → ((r : Request) → rows (extended c (f r c).changes) ≡ rows c) → o ≡ (of_open id f now).row.outcome
        → Then (call_at t action i o) (of_open id f now).now.changes
    unused action o id f none is e = by_open action o (now.request id) f e (λ r at e. quiet-same start h l same t i action o (extended c (f r c).changes) none (is r))

    finished : (id : ℕ) (o : Outcome) (v : Option Request) → now.request id ≡ v → (e : o ≡ (row_of v (λ q. finish_by q.write (far_of o) q c)).outcome)
        → ComesSo x (row_of v (λ q. finish_by q.write (far_of o) q c)).needs.entering (far_of o) c → Then (call_at t (on.Finish id) i o) (extended c (row_of v (λ q. finish_by q.write (far_of o) q c)).changes)
    finished id o None at e so = refused-same start h l same t i (on.Finish id) fault.NoRequest o refl e
    finished id o (Some r) at e so = by_write r.write refl e so
      where
        by_write : (w : Option Write) → r.write ≡ w → o ≡ (finish_by w (far_of o) r c).outcome → ComesSo x (finish_by w (far_of o) r c).needs.entering (far_of o) c
            → Then (call_at t (on.Finish id) i o) (extended c (finish_by w (far_of o) r c).changes)
        by_write None has e so = refused-same start h l same t i (on.Finish id) fault.WrongPhase o refl e
        by_write (Some w) has e so = write-same start h l same id r at w has t i o e so

    abbrev renewal_at : ℕ → List ℕ → Option GivenMeta → Outcome → Option Request → EventRow
    renewal_at id head given o v = row_of v (λ q. revalidate_by q.phase q.gave_read (confirmed_by q (call_at t (on.Revalidate id head given) i o)) (far_of o) q c)

    renewed : (id : ℕ) (head : List ℕ) (given : Option GivenMeta) (o : Outcome) (v : Option Request) → now.request id ≡ v → o ≡ (renewal_at id head given o v).outcome → ComesSo x (renewal_at id head given o v).needs.entering (far_of o) c
        → Then (call_at t (on.Revalidate id head given) i o) (extended c (renewal_at id head given o v).changes)
    renewed id head given o None at e so = refused-same start h l same t i (on.Revalidate id head given) fault.NoRequest o refl e
    renewed id head given o (Some r) at e so = revalidate-same start h l same id r at t i head given r.phase r.gave_read o e so

    each : (action : Action) (o : Outcome) → o ≡ (came_of x (call_at t action i o) now).row.outcome → ComesSo x (came_of x (call_at t action i o) now).row.needs.entering (far_of o) c → Then (call_at t action i o) (came_of x (call_at t action i o) now).now.changes
    each (on.Open id key asks) o e so = quiet-same start h l same t i (on.Open id key asks) o (extended c (open_row (now.request id) (opened (entry_of key) asks)).changes) (λ none. none) (open_rows (now.request id) (opened (entry_of key) asks))
    each (on.LookUp id) o e so = by_open (on.LookUp id) o (now.request id) (λ q. look_by q.phase q.hold t q) e (λ r at is. look-same start h l same id r at t i r.phase r.hold o is)
    each (on.Poll id) o e so = unused (on.Poll id) o id (λ q. poll_by x q.hold t q) (λ none. none) (λ r. poll-rows start h l same x r.hold t r) e
    each (on.Begin id head given) o e so =
        let j = judged_of (call_at t (on.Begin id head given) i o) in
        unused (on.Begin id head given) o id (λ q. begin_by q.phase q.gave_read j q) (λ none. none) (λ r. begin-rows start h l same r.phase r.gave_read j r) e
    each (on.Revalidate id head given) o e so = renewed id head given o (now.request id) refl e so
    each (on.Piece id bytes last) o e so = unused (on.Piece id bytes last) o id (λ q. piece_by q.write bytes last q) (λ none. none) (λ r. piece-rows start h l same r.write bytes last r) e
    each (on.Finish id) o e so = finished id o (now.request id) refl e so
    each (on.Read id) o e so = unused (on.Read id) o id (λ q. read_by_reader q.reader q) (λ none. none) (λ r. read-rows start h l same r.reader r) e
    each (on.Drop id) o e so = unused (on.Drop id) o id (λ q c. drop_row q) (λ none. none) (λ r. drop-rows start h l same r) e
    each (on.Purge key) o e so = purge-same start h l same t i key [] None o e
    each (on.Put key pieces given) o e so = put-same start h l same t i key pieces given (read_by (call_at t (on.Put key pieces given) i o)) o e so

  then-same : (used : ℕ) (call : Call) → now_is.IsRight x used call now → Same (now_of x start.loaded (call ∷ h)).changes (changes_of start (call ∷ h))
  then-same used call right = by_room (ran_out call.outcome) refl right.outcome
    where
      by_room : (v : Bool) → ran_out call.outcome ≡ v
          → Whether v (SomeRanOut x used (row_of_call x call now).needs call.outcome c) ((call.outcome ≡ (row_of_call x call now).outcome) × ComesSo x (row_of_call x call now).needs.entering (far_of call.outcome) c)
          → Then call (cond v now (came_of x call now).now).changes
      by_room true out p = same
          ∙ sym (rows-ran start (λ id. begun_from start id (seen_by start id h) call h) (λ id. renewal_from (opened_for id h) (seen_by start id h) call) (λ id. write_held start id h) call h (changes_of start h)
          call.event.action call.outcome out)
      by_room false out p = each call.event.moment (record { reading = call.reading; began = call.began; asked = call.asked }) call.event.action call.outcome p.0 p.1

pub uses-same : (start : Opening) (h : History) → IsLawful start h → Same (now_of start.settings start.loaded h).changes (changes_of start h)
uses-same start [] l = sym (rows-loaded start.loaded)
uses-same start (call ∷ h) l = then-same start h l.1 (uses-same start h l.1) (used_by start + length h) call (AreRight-lawful start (call ∷ h) l).0

pub order-of-use : (start : Opening) (h : History) → IsLawful start h → IsOrderOfUse (rows (now_of start.settings start.loaded h).changes) (changes_of start h)
order-of-use start h l = subst (λ (all : List Tracked). IsOrderOfUse all (changes_of start h)) (sym (uses-same start h l)) (IsOrderOfUse-rows_of (changes_of start h))
