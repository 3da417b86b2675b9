-- What each call of a lawful history changes of the order of use is the same by the promise and by the history.
use Rattle.std.proofs.Common.{◌≡◌, ℕ, refl, ap, sym, ◌∙◌, true, false, subst, cond, [], ◌∷◌}
use Rattle.std.specs.Prelude.{◌&&◌, Bool, List, Option, Some, None, Ok, Err, is_some, not}
use Rattle.std.specs.FinMap.{get}
use Rattle.std.specs.Option.{option_or}
use Rattle.cache_words.specs.Time.{MomentValue, at_least, elapsed}
use Rattle.cache_changes.specs.Changes.{StoredKey, stored_key, Changes as Told, uses}
use Rattle.cache_changes.specs.Uses.{rows_of}
use Rattle.cache_entries.specs.Entry.{key_of}
use Rattle.cache_entries.specs.Rows.{used}
use Rattle.cache_heads.specs.declared.meta.CacheMeta.{CacheMeta}
use Rattle.cache_lock.specs.declared.status.LockStatus.TheVariants as status
use Rattle.tier_model.specs.declared.event.Action.{Action}
use Rattle.tier_model.specs.declared.event.Action.TheVariants as on
use Rattle.tier_model.specs.declared.event.Answer.TheVariants as answer
use Rattle.tier_model.specs.declared.event.TierFault.{TierFault}
use Rattle.tier_model.specs.declared.event.TierFault.TheVariants as fault
use Rattle.tier_model.specs.declared.state.Body.{Body}
use Rattle.tier_model.specs.Keys.{Entry, alone}
use Rattle.tier_model.specs.Response.{Judged, kept as keeps, not_kept, too_early, not_read}
use Rattle.tier_model.specs.Calls.{Call, History, Outcome, extended, done_of, opened_for}
use Rattle.tier_model.specs.Histories.{Kept, Opening, begun_from, renewal_from, seen_by, write_held, changes_of, look_changes, writes_begun}
use Rattle.tier_model.specs.Rows.{Numbered, weight_for}
use Rattle.tier_model.specs.Answers.{is_fresh}
use Rattle.tier_model.specs.State.{Settings, Phase, cache_key, stale, miss, State, shards_of}
use Rattle.tier_model.specs.State as state
use Rattle.tier_model.specs.Past.{state_of, lock_changes_of, IsLawful}
use Rattle.tier_promise.specs.Promise.{Write, Permit, Changes, Request, EventRow, Now, Hold, no_lock, holds, waits, ends, appends, bytes_of, is_done, body_of, as_body, flying, first_of, shown, rows, ended, asked, refused, now_of, row_of, of_open}
use Rattle.tier_promise.specs.Promise.{some_memory, look_found, look_absent, look_row, look_by, poll_by, begin_row, begin_by, piece_by, read_by_reader, left, drop_row, dropped, purge_row}
use Rattle.tier_promise.specs.Promise as now_is
use Rattle.tier_model.proofs.CallLaws.{Inside, call_at}
use Rattle.tier_model.proofs.OpenLaws.{IsOpen, hit_uses}
use Rattle.tier_model.proofs.ShownLaws.{shows}
use Rattle.tier_model.proofs.StandLaws.{Stands, Stands-lawful, opened_request}
use Rattle.tier_promise.proofs.NowFits.{BodyFits, RequestFits, OpenFits, NowFits}
use Rattle.tier_promise.proofs.NowAll.{NowFits-lawful}
use Rattle.tier_promise.proofs.NowLists.{extended-both}
use Rattle.tier_promise.proofs.NowUses.{Same, IsUse, rows-permits, rows-released, rows-dropped, rows-quiet, rows-refused}
use Rattle.tier_promise.proofs.NowWithin.{both-held}

module _ (start : Opening) (h : History) (l : IsLawful start h) (same : Same (now_of start.settings start.loaded h).changes (changes_of start h)) where
  abbrev pub s : State
  s = state_of start h

  abbrev pub now : Now
  now = now_of start.settings start.loaded h

  abbrev pub c : Changes
  c = now.changes

  abbrev pub all : Told Kept
  all = changes_of start h

  pub past : Stands start s h
  past = Stands-lawful start h l

  pub fits : NowFits start.settings s (lock_changes_of start h) now
  fits = NowFits-lawful start h l

  abbrev pub Next : Call → Changes → Type 0
  Next call then = Same then (changes_of start (call ∷ h))

  -- a refusal that had stored nothing
  pub refused-same : (t : MomentValue) (i : Inside) (action : Action) (f : TierFault) (o : Outcome) → (done_of f).stored ≡ false → o ≡ Err f → Next (call_at t action i o) c
  refused-same t i action f o none is = subst (λ (y : Outcome). Next (call_at t action i y) c) (sym is)
      (same ∙ sym (rows-refused start (λ id. begun_from start id (seen_by start id h) (call_at t action i (Err f)) h) (λ id. renewal_from (opened_for id h) (seen_by start id h) (call_at t action i (Err f)))
      (λ id. write_held start id h) (call_at t action i (Err f)) h all action f none))

  -- an event that uses nothing
  pub quiet-same : (t : MomentValue) (i : Inside) (action : Action) (o : Outcome) (then : Changes) → (IsUse action → ⊥) → rows then ≡ rows c → Next (call_at t action i o) then
  quiet-same t i action o then none is = is ∙ same
      ∙ sym (rows-quiet start (λ id. begun_from start id (seen_by start id h) (call_at t action i o) h) (λ id. renewal_from (opened_for id h) (seen_by start id h) (call_at t action i o))
      (λ id. write_held start id h) (call_at t action i o) h all action o none)

  -- ---- rows that use nothing

  pub poll-rows : (x : Settings) (hold : Hold) (t : MomentValue) (q : Request) → rows (extended c (poll_by x hold t q c).changes) ≡ rows c
  poll-rows x no_lock t q = refl
  poll-rows x (holds p) t q = refl
  poll-rows x (waits p first) t q = by_age (at_least (elapsed p.given t) x.age && not (is_some (ended p.number c)))
    where
      by_age : (v : Bool) → rows (extended c (cond v (ends p.number status.AgeTimeout ∷ []) [])) ≡ rows c
      by_age true = refl
      by_age false = refl

  begin_row-rows : (j : Option Judged) (q : Request) → rows (extended c (begin_row j q c).changes) ≡ rows c
  begin_row-rows (Some (keeps meta)) q = rows-released status.Done q.hold c _
  begin_row-rows (Some (not_kept reason)) q = rows-released status.GiveUp q.hold c c
  begin_row-rows (Some too_early) q = refl
  begin_row-rows (Some not_read) q = refl
  begin_row-rows None q = refl

  pub begin-rows : (phase : Phase) (gave : Bool) (j : Option Judged) (q : Request) → rows (extended c (begin_by phase gave j q c).changes) ≡ rows c
  begin-rows miss gave j q = begin_row-rows j q
  begin-rows stale false j q = begin_row-rows j q
  begin-rows _ _ j q = refl

  pub piece-rows : (o : Option Write) (bytes : List ℕ) (last : Bool) (q : Request) → rows (extended c (piece_by o bytes last q c).changes) ≡ rows c
  piece-rows None bytes last q = refl
  piece-rows (Some w) bytes last q = by_done (is_done w.number c)
    where
      by_done : (v : Bool) → rows (extended c (cond {A = EventRow} v (refused q fault.AfterEnd) (record { outcome = Ok answer.Written; changes = appends w.number bytes last ∷ []; request = Some q; needs = some_memory })).changes) ≡ rows c
      by_done true = refl
      by_done false = refl

  pub read-rows : (a : state.Reader) (q : Request) → rows (extended c (read_by_reader a q c).changes) ≡ rows c
  read-rows state.closed q = refl
  read-rows (state.unread bytes) q = refl
  read-rows state.spent q = refl
  read-rows (state.streaming n place) q = refl

  pub drop-rows : (q : Request) → rows (extended c (drop_row q).changes) ≡ rows c
  drop-rows q = ap rows (extended-both c (left q.write) (dropped q.hold)) ∙ rows-dropped q.hold (extended c (left q.write)) ∙ by_write q.write
    where
      by_write : (o : Option Write) → rows (extended c (left o)) ≡ rows c
      by_write None = refl
      by_write (Some w) = refl

  -- ---- look-ups

  module _ (id : ℕ) (r : Request) (at : now.request id ≡ Some r) where
    abbrev pub key : StoredKey
    key = stored_key r.entry

    -- the request of the state
    pub the-request : (q : state.Request) × (get s.requests id ≡ Some q) × RequestFits start.settings fits.numbers fits.permits s.shelf c q r
    the-request = by_open (get s.requests id) refl (subst (λ (v : Option Request). OpenFits start.settings fits.numbers fits.permits s.shelf c (get s.requests id) v) at (fits.requests id))
      where
        by_open : (o : Option state.Request) → get s.requests id ≡ o → OpenFits start.settings fits.numbers fits.permits s.shelf c o (Some r)
            → (q : state.Request) × (get s.requests id ≡ Some q) × RequestFits start.settings fits.numbers fits.permits s.shelf c q r
        by_open None e f = absurd f
        by_open (Some q) e f = (q, e, f)

    pub opens : IsOpen start id the-request.0 h
    opens = opened_request start s h past id the-request.0 the-request.1

    pub entry-is : key_of (the-request.0).entry ≡ r.entry
    entry-is = ap key_of the-request.2.entry

    -- a hit of a body uses its entry with the body's weight
    hit_rows : (w : Write) → body_of key c ≡ Some w → rows_of (extended all (look_changes (opened_for id h) all)) ≡ used (alone r.entry) (weight_for (as_body w c)) (rows_of all)
    hit_rows w is =
        let held = both-held fits.numbers (λ m. bytes_of m c) (λ m. is_done m c) key (get s.shelf.bodies key) w
        (subst (λ (o : Option Write). BodyFits fits.numbers (λ m. bytes_of m c) (λ m. is_done m c) key (get s.shelf.bodies key) o) is (fits.shelf.bodies key)) in
        let b : Numbered = held.0 in
        let body : b.body ≡ as_body w c = ap (λ (m : CacheMeta). record { bytes = b.body.bytes; meta = m }) held.3 ∙ ap (λ (y : List ℕ). record { bytes = y; meta = w.meta }) held.2 in
        let x = shows (shards_of s) (writes_begun start h) s.shelf.bodies s.shelf.flying s.managed all past.holds.leaves key b held.1 in
        let known : opened_for id h ≡ Some r.entry = opens.key ∙ ap (λ (e : Entry). Some e) entry-is in
        let changes : look_changes (opened_for id h) all ≡ uses (alone r.entry) (weight_for (as_body w c)) ∷ [] =
        ap (λ (o : Option Entry). look_changes o all) known ∙ hit_uses r.entry b all past.holds.leaves.orderly x ∙ ap (λ (y : Body). uses (alone r.entry) (weight_for y) ∷ []) body in
        ap (λ cs. rows_of (extended all cs)) changes

    module _ (t : MomentValue) (i : Inside) where
      abbrev call : Outcome → Call
      call o = call_at t (on.LookUp id) i o

      found-same : (complete : Bool) (hold : Hold) (w : Write) → (complete ≡ true → body_of key c ≡ Some w)
          → Next (call (Ok (answer.Found (is_fresh t w.meta) complete (now_is.told hold)))) (extended c (look_found t complete hold w r c).changes)
      found-same false hold w body = rows-permits hold c ∙ same
      found-same true hold w body = rows-permits hold _ ∙ ap (used (alone r.entry) (weight_for (as_body w c))) same ∙ sym (hit_rows w (body refl))

      complete_body : (u o : Option Write) (w : Write) → option_or u o ≡ Some w → not (is_some u) ≡ true → o ≡ Some w
      complete_body None o w is none = is
      complete_body (Some v) o w is none = absurd cc

      row-same : (o : Option Write) → shown key c ≡ o → (outcome : Outcome) → outcome ≡ (look_row t r o c).outcome → Next (call outcome) (extended c (look_row t r o c).changes)
      row-same None is outcome e = subst (λ (y : Outcome). Next (call y) (extended c (look_row t r None c).changes)) (sym e) (rows-permits (asked r.asks t r c) c ∙ same)
      row-same (Some w) is outcome e = subst (λ (y : Outcome). Next (call y) (extended c (look_row t r (Some w) c).changes)) (sym e)
          (found-same (not (is_some (first_of (flying key c)))) (asked (r.asks && not (is_fresh t w.meta)) t r c) w (complete_body (first_of (flying key c)) (body_of key c) w is))

      pub look-same : (phase : Phase) (hold : Hold) (outcome : Outcome) → outcome ≡ (look_by phase hold t r c).outcome → Next (call outcome) (extended c (look_by phase hold t r c).changes)
      look-same cache_key no_lock outcome e = row-same (shown key c) refl outcome e
      look-same stale no_lock outcome e = row-same (shown key c) refl outcome e
      look-same cache_key (waits p first) outcome e = refused-same t i (on.LookUp id) fault.Waiting outcome refl e
      look-same stale (waits p first) outcome e = refused-same t i (on.LookUp id) fault.Waiting outcome refl e
      look-same _ _ outcome e = refused-same t i (on.LookUp id) fault.WrongPhase outcome refl e
