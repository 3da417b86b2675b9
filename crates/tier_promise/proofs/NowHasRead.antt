-- Each right answer leaves readers that say what was read.
use Rattle.cache_heads.specs.declared.given.GivenMeta.{GivenMeta}
use Rattle.std.proofs.Common.{◌≡◌, ℕ, ◌+◌, refl, ap, sym, ◌∙◌, true, false, subst, cond, [], ◌∷◌, ◌==◌, length, inl, inr}
use Rattle.std.specs.Prelude.{◌&&◌, Bool, List, Option, Some, None, Ok, Err, is_some, not}
use Rattle.std.proofs.lemmas.Bool.{eqb-true, eq-eqb}
use Rattle.cache_words.specs.Time.{MomentValue}
use Rattle.cache_words.specs.Key.{CacheKeyValue}
use Rattle.cache_changes.specs.Changes.{stored_key}
use Rattle.cache_entries.specs.declared.rows.Tracked.{Tracked}
use Rattle.cache_lock.specs.declared.status.LockStatus.{LockStatus}
use Rattle.tier_model.specs.declared.event.Action.{Action}
use Rattle.tier_model.specs.declared.event.Action.TheVariants as on
use Rattle.tier_model.specs.declared.event.Answer.TheVariants as answer
use Rattle.tier_model.specs.declared.event.TierFault.{TierFault}
use Rattle.tier_model.specs.declared.event.TierFault.TheVariants as fault
use Rattle.tier_model.specs.Keys.{entry_of}
use Rattle.tier_model.specs.Response.{Judged, kept, not_kept, too_early, not_read}
use Rattle.tier_model.specs.Calls.{Call, History, Outcome, nothing_done, extended, is_end_of_reader, bytes_answered, bytes_given, read_by, judged_of}
use Rattle.tier_model.specs.Rows.{weight_for}
use Rattle.tier_model.specs.Answers.{is_fresh}
use Rattle.tier_model.specs.Checks.{has_reader}
use Rattle.tier_model.specs.State.{Settings, Phase, cache_key, stale, miss, Reader, closed, unread, spent, streaming}
use Rattle.tier_promise.specs.Promise.{Write, Permit, Change, Changes, Request, EventRow, Now, Hold, no_lock, holds, waits, bytes_of, is_done, is_alive, flying, first_of, shown, told, asked}
use Rattle.tier_promise.specs.Promise.{opened, refused, now_of, came, came_of, of_open, row_of, row_of_call, Whether, ComesSo, SomeRanOut, HowFar, far_of, ran_out, IsRight, AreRight}
use Rattle.tier_promise.specs.Promise.{open_row, look_found, look_absent, look_row, look_by, after_poll, poll_by, begin_row, begin_by}
use Rattle.tier_promise.specs.Promise.{no_needs, some_memory, has_news, finish_row, lands, appends, as_body, piece_by, read_on, reader_after, read_by_reader, drop_row, finish_by, still, confirm_row, confirmed_by, revalidate_by, purge_row, put_row, body_of}
use Rattle.tier_promise.specs.Readers.{HasReader, HasRead}
use Rattle.tier_promise.proofs.NowRows.{row_closed}
use Rattle.tier_model.proofs.CallLaws.{Inside, call_at, named_by}
use Rattle.tier_promise.proofs.NowReaders.{grows, others-stay, others-silent, keeps-reader, reads-more}

abbrev reads_of : Option Request → Reader
reads_of None = closed
reads_of (Some q) = q.reader

module _ (s : Settings) (loaded : List Tracked) (h : History) (before : (id : ℕ) (r : Request) → (now_of s loaded h).request id ≡ Some r → HasRead s loaded id r.reader (now_of s loaded h).changes h) where
  abbrev now : Now
  now = now_of s loaded h

  abbrev c : Changes
  c = now.changes

  abbrev Then : Call → Now → Type 0
  Then call new = (id : ℕ) (r : Request) → new.request id ≡ Some r → HasRead s loaded id r.reader new.changes (call ∷ h)

  abbrev Own : Call → ℕ → EventRow → Type 0
  Own call id row = (r : Request) → row.request ≡ Some r → HasRead s loaded id r.reader (extended c row.changes) (call ∷ h)

  -- an event of a request leaves all others
  of_request : (call : Call) (id : ℕ) (row : EventRow) → named_by call.event.action ≡ Some id → Own call id row → Then call (came id row now).now
  of_request call id row name own i r e = by_id (i == id) refl e
    where
      other : (i == id) ≡ false → named_by call.event.action ≡ Some i → ⊥
      other t is = let both : Some id ≡ Some i = sym name ∙ is in let same : i ≡ id = cc in let yes : (i == id) ≡ true = eq-eqb i id same in absurd cc

      by_id : (v : Bool) → (i == id) ≡ v → cond v row.request (now.request i) ≡ Some r → HasRead s loaded i r.reader (extended c row.changes) (call ∷ h)
      by_id true t e = subst (λ (j : ℕ). HasRead s loaded j r.reader (extended c row.changes) (call ∷ h)) (sym (eqb-true i id t)) (own r e)
      by_id false t e = keeps-reader s loaded h i call (others-stay call.event.action call.outcome i (other t)) (others-silent call.event.action call.outcome i (other t)) (extended c row.changes) (grows row.changes c) r.reader (before i r e)

  -- an event of none leaves all
  of_none : (call : Call) (xs : List Change) → ((i : ℕ) → named_by call.event.action ≡ Some i → ⊥) → Then call (record { changes = extended c xs; request = now.request })
  of_none call xs none i r e = keeps-reader s loaded h i call (others-stay call.event.action call.outcome i (none i)) (others-silent call.event.action call.outcome i (none i)) (extended c xs) (grows xs c) r.reader (before i r e)

  -- what a request that is closed has to read is nothing
  gone : (call : Call) (id : ℕ) (row : EventRow) → row.request ≡ None → Own call id row
  gone call id row none r e = let clash : None ≡ Some r = sym none ∙ e in absurd cc

  nothing : (call : Call) (id : ℕ) (row : EventRow) (q : Request) → row.request ≡ Some q → q.reader ≡ closed → Own call id row
  nothing call id row q is shut r e =
      let both : Some q ≡ Some r = sym is ∙ e in
      let same : q ≡ r = cc in
      subst (λ (a : Reader). HasRead s loaded id a (extended c row.changes) (call ∷ h)) (sym shut ∙ ap (λ (y : Request). y.reader) same) tt

  module _ (t : MomentValue) (i : Inside) (id : ℕ) where
    module _ (q : Request) (at : now.request id ≡ Some q) where
      -- the reader stays
      stays : (call : Call) (row : EventRow) (p : Request) → row.request ≡ Some p → p.reader ≡ q.reader → is_end_of_reader id call.event.action call.outcome ≡ false → bytes_given id call.event.action call.outcome ≡ [] → Own call id row
      stays call row p is same on none r e =
          let both : Some p ≡ Some r = sym is ∙ e in
          let one : p ≡ r = cc in
          subst (λ (a : Reader). HasRead s loaded id a (extended c row.changes) (call ∷ h)) (sym same ∙ ap (λ (y : Request). y.reader) one)
          (keeps-reader s loaded h id call on none (extended c row.changes) (grows row.changes c) q.reader (before id q at))

      -- at a refusal too
      stays_refused : (action : Action) (f : TierFault) (o : Outcome) → ((g : TierFault) → is_end_of_reader id action (Err g) ≡ false) → ((g : TierFault) → bytes_given id action (Err g) ≡ []) → o ≡ Err f → Own (call_at t action i o) id (refused q f)
      stays_refused action f o on none is = subst (λ (y : Outcome). Own (call_at t action i y) id (refused q f)) (sym is) (stays (call_at t action i (Err f)) (refused q f) q refl refl (on f) (none f))

      abbrev got : (call : Call) → HasReader s loaded id [] (call ∷ h)
      got call = record { call = call; before = h; request = q; split = refl; asked = at; last = tt }

      own_itself : (id == id) ≡ true
      own_itself = eq-eqb id id refl

      -- ---- look-ups

      look_refused : (f : TierFault) (o : Outcome) → o ≡ Err f → Own (call_at t (on.LookUp id) i o) id (refused q f)
      look_refused f o is = stays_refused (on.LookUp id) f o (λ g. refl) (λ g. refl) is

      found : (w : Write) → shown (stored_key q.entry) c ≡ Some w → (complete : Bool) (hold : Hold) → Own (call_at t (on.LookUp id) i (Ok (answer.Found (is_fresh t w.meta) complete (told hold)))) id (look_found t complete hold w q c)
      found w is true hold r e =
          let row = look_found t true hold w q c in
          let both : row.request ≡ Some r = e in
          let reads : unread (bytes_of w.number c) ≡ r.reader = ap (λ (o : Option Request). reads_of o) both in
          subst (λ (a : Reader). HasRead s loaded id a (extended c row.changes) (call_at t (on.LookUp id) i (Ok (answer.Found (is_fresh t w.meta) true (told hold))) ∷ h)) reads
          ([], (got (call_at t (on.LookUp id) i (Ok (answer.Found (is_fresh t w.meta) true (told hold)))), ap (λ (v : Bool). v && true) own_itself, (w, is, refl)), refl)
      found w is false hold r e =
          let row = look_found t false hold w q c in
          let both : row.request ≡ Some r = e in
          let reads : streaming w.number 0 ≡ r.reader = ap (λ (o : Option Request). reads_of o) both in
          subst (λ (a : Reader). HasRead s loaded id a (extended c row.changes) (call_at t (on.LookUp id) i (Ok (answer.Found (is_fresh t w.meta) false (told hold))) ∷ h)) reads
          ([], (got (call_at t (on.LookUp id) i (Ok (answer.Found (is_fresh t w.meta) false (told hold)))), inl (ap (λ (v : Bool). v && true) own_itself, (w, is, refl))), refl, (bytes_of w.number (extended c row.changes), refl))

      looked : (w : Option Write) → shown (stored_key q.entry) c ≡ w → (o : Outcome) → o ≡ (look_row t q w c).outcome → Own (call_at t (on.LookUp id) i o) id (look_row t q w c)
      looked None is o e = nothing (call_at t (on.LookUp id) i o) id (look_absent (asked q.asks t q c) q) _ refl refl
      looked (Some w) is o e =
          let complete : Bool = not (is_some (first_of (flying (stored_key q.entry) c))) in
          let hold : Hold = asked (q.asks && not (is_fresh t w.meta)) t q c in
          subst (λ (y : Outcome). Own (call_at t (on.LookUp id) i y) id (look_found t complete hold w q c)) (sym e) (found w is complete hold)

      look_own : (phase : Phase) (hold : Hold) (o : Outcome) → o ≡ (look_by phase hold t q c).outcome → Own (call_at t (on.LookUp id) i o) id (look_by phase hold t q c)
      look_own cache_key no_lock o e = looked (shown (stored_key q.entry) c) refl o e
      look_own stale no_lock o e = looked (shown (stored_key q.entry) c) refl o e
      look_own cache_key (waits p first) o e = look_refused fault.Waiting o e
      look_own stale (waits p first) o e = look_refused fault.Waiting o e
      look_own _ _ o e = look_refused fault.WrongPhase o e

      -- ---- begins

      begin_refused : (head : List ℕ) (given : Option GivenMeta) (f : TierFault) (o : Outcome) → o ≡ Err f → Own (call_at t (on.Begin id head given) i o) id (refused q f)
      begin_refused head given f o is = stays_refused (on.Begin id head given) f o (λ g. refl) (λ g. refl) is

      begun_own : (head : List ℕ) (given : Option GivenMeta) (j : Option Judged) (o : Outcome) → o ≡ (begin_row j q c).outcome → Own (call_at t (on.Begin id head given) i o) id (begin_row j q c)
      begun_own head given (Some (kept meta)) o e = subst (λ (y : Outcome). Own (call_at t (on.Begin id head given) i y) id (begin_row (Some (kept meta)) q c)) (sym e) begins_it
        where
          begins_it : Own (call_at t (on.Begin id head given) i (Ok answer.Begun)) id (begin_row (Some (kept meta)) q c)
          begins_it r is = subst (λ (a : Reader). HasRead s loaded id a (extended c (begin_row (Some (kept meta)) q c).changes) (call_at t (on.Begin id head given) i (Ok answer.Begun) ∷ h)) (ap (λ (y : Option Request). reads_of y) is)
              ([], (got (call_at t (on.Begin id head given) i (Ok answer.Begun)), inr (own_itself, refl)), refl, (bytes_of (length c) (extended c (begin_row (Some (kept meta)) q c).changes), refl))
      begun_own head given (Some (not_kept reason)) o e = nothing (call_at t (on.Begin id head given) i o) id (begin_row (Some (not_kept reason)) q c) _ refl refl
      begun_own head given (Some too_early) o e = begin_refused head given fault.BeforeEpoch o e
      begun_own head given (Some not_read) o e = begin_refused head given fault.BadHead o e
      begun_own head given None o e = begin_refused head given (fault.Memory nothing_done) o e

      begin_own : (head : List ℕ) (given : Option GivenMeta) (phase : Phase) (gave : Bool) (j : Option Judged) (o : Outcome) → o ≡ (begin_by phase gave j q c).outcome → Own (call_at t (on.Begin id head given) i o) id (begin_by phase gave j q c)
      begin_own head given miss gave j o e = begun_own head given j o e
      begin_own head given stale false j o e = begun_own head given j o e
      begin_own head given _ _ j o e = begin_refused head given fault.WrongPhase o e

      -- ---- reads

      reads_on : (a : Reader) → has_reader a ≡ true → q.reader ≡ a → Own (call_at t (on.Read id) i (Ok (read_on a c))) id (record { outcome = Ok (read_on a c); changes = []; request = Some (record q { reader = reader_after a c }); needs = record no_needs { memory = has_news a c } })
      reads_on a there has r is =
          let one : record q { reader = reader_after a c } ≡ r = cc in
          subst (λ (y : Request). HasRead s loaded id y.reader c (call_at t (on.Read id) i (Ok (read_on a c)) ∷ h)) one
          (reads-more s loaded h id (call_at t (on.Read id) i (Ok (read_on a c))) refl a there (ap (λ (v : Bool). cond v (bytes_answered (read_on a c)) []) own_itself)
          (subst (λ (y : Reader). HasRead s loaded id y c h) has (before id q at)))

      read_own : (a : Reader) → q.reader ≡ a → (o : Outcome) → o ≡ (read_by_reader a q c).outcome → Own (call_at t (on.Read id) i o) id (read_by_reader a q c)
      read_own closed has o e = stays_refused (on.Read id) fault.WrongPhase o (λ g. refl) (λ g. refl) e
      read_own (unread bytes) has o e = subst (λ (y : Outcome). Own (call_at t (on.Read id) i y) id (read_by_reader (unread bytes) q c)) (sym e) (reads_on (unread bytes) refl has)
      read_own spent has o e = subst (λ (y : Outcome). Own (call_at t (on.Read id) i y) id (read_by_reader spent q c)) (sym e) (reads_on spent refl has)
      read_own (streaming n place) has o e = subst (λ (y : Outcome). Own (call_at t (on.Read id) i y) id (read_by_reader (streaming n place) q c)) (sym e) (reads_on (streaming n place) refl has)

      -- ---- what leaves the reader

      -- an event that neither ends nor reads it
      quiet : (action : Action) (o : Outcome) (row : EventRow) → ((y : Outcome) → is_end_of_reader id action y ≡ false) → ((y : Outcome) → bytes_given id action y ≡ []) → reads_of row.request ≡ q.reader → Own (call_at t action i o) id row
      quiet action o row on none same r e = subst (λ (a : Reader). HasRead s loaded id a (extended c row.changes) (call_at t action i o ∷ h)) (sym same ∙ ap (λ (y : Option Request). reads_of y) e)
          (keeps-reader s loaded h id (call_at t action i o) (on o) (none o) (extended c row.changes) (grows row.changes c) q.reader (before id q at))

      polled : (o : Option LockStatus) (t : MomentValue) (p : Permit) (first : Option MomentValue) → (after_poll o t p first q).reader ≡ q.reader
      polled None t p first = refl
      polled (Some how) t p first = refl

      poll_reads : (hold : Hold) → reads_of (poll_by s hold t q c).request ≡ q.reader
      poll_reads (waits p first) = polled _ t p first
      poll_reads no_lock = refl
      poll_reads (holds p) = refl

      piece_reads : (o : Option Write) (bytes : List ℕ) (last : Bool) → reads_of (piece_by o bytes last q c).request ≡ q.reader
      piece_reads None bytes last = refl
      piece_reads (Some w) bytes last = by_done (is_done w.number c)
        where
          by_done : (v : Bool) → reads_of (cond v (refused q fault.AfterEnd) (record { outcome = Ok answer.Written; changes = appends w.number bytes last ∷ []; request = Some q; needs = some_memory })).request ≡ q.reader
          by_done true = refl
          by_done false = refl

      finish_reads : (o : Option Write) (far : HowFar) → reads_of (finish_by o far q c).request ≡ q.reader
      finish_reads None far = refl
      finish_reads (Some w) far = by_life (is_alive w c)
        where
          by_life : (v : Bool) → reads_of (cond {A = EventRow} v (finish_row w (as_body w c) far q) (record (refused (record q { write = None }) fault.WriteRemoved) { changes = lands w.number false ∷ [] })).request ≡ q.reader
          by_life true = refl
          by_life false = refl

      confirm_reads : (j : Judged) (far : HowFar) (w : Option Write) → reads_of (confirm_row j far w q c).request ≡ q.reader
      confirm_reads not_read far w = refl
      confirm_reads too_early far None = refl
      confirm_reads (not_kept reason) far None = refl
      confirm_reads (kept meta) far None = refl
      confirm_reads too_early far (Some w) = refl
      confirm_reads (not_kept reason) far (Some w) = refl
      confirm_reads (kept meta) far (Some w) = refl

      revalidate_reads : (phase : Phase) (gave : Bool) (j : Option Judged) (far : HowFar) → reads_of (revalidate_by phase gave j far q c).request ≡ q.reader
      revalidate_reads stale false None far = refl
      revalidate_reads stale false (Some j) far = confirm_reads j far (still q.seen (body_of (stored_key q.entry) c))
      revalidate_reads _ _ j far = refl

    -- ---- each event

    of_row : (action : Action) (o : Outcome) (f : Request → Changes → EventRow) → named_by action ≡ Some id → o ≡ (of_open id f now).row.outcome
        → ((q : Request) → now.request id ≡ Some q → o ≡ (f q c).outcome → Own (call_at t action i o) id (f q c)) → Then (call_at t action i o) (of_open id f now).now
    of_row action o f name is own = by_open (now.request id) refl is
      where
        by_open : (v : Option Request) → now.request id ≡ v → o ≡ (row_of v (λ q. f q c)).outcome → Then (call_at t action i o) (came id (row_of v (λ q. f q c)) now).now
        by_open None at is = of_request (call_at t action i o) id row_closed name (gone (call_at t action i o) id row_closed refl)
        by_open (Some q) at is = of_request (call_at t action i o) id (f q c) name (own q at is)

    open_own : (v : Option Request) → now.request id ≡ v → (key : CacheKeyValue) (asks : Bool) (o : Outcome) → Own (call_at t (on.Open id key asks) i o) id (open_row v (opened (entry_of key) asks))
    open_own None at key asks o = nothing (call_at t (on.Open id key asks) i o) id (open_row None (opened (entry_of key) asks)) (opened (entry_of key) asks) refl refl
    open_own (Some q) at key asks o = quiet q at (on.Open id key asks) o (refused q fault.IdInUse) (λ y. refl) (λ y. refl) refl

  each : (t : MomentValue) (i : Inside) (action : Action) (o : Outcome) → o ≡ (came_of s (call_at t action i o) now).row.outcome → Then (call_at t action i o) (came_of s (call_at t action i o) now).now
  each t i (on.Open id key asks) o is = of_request (call_at t (on.Open id key asks) i o) id (open_row (now.request id) (opened (entry_of key) asks)) refl (open_own t i id (now.request id) refl key asks o)
  each t i (on.LookUp id) o is = of_row t i id (on.LookUp id) o (λ q. look_by q.phase q.hold t q) refl is (λ q at e. look_own t i id q at q.phase q.hold o e)
  each t i (on.Poll id) o is = of_row t i id (on.Poll id) o (λ q. poll_by s q.hold t q) refl is (λ q at e. quiet t i id q at (on.Poll id) o (poll_by s q.hold t q c) (λ y. refl) (λ y. refl) (poll_reads t i id q at q.hold))
  each t i (on.Begin id head given) o is =
      let j = judged_of (call_at t (on.Begin id head given) i o) in
      of_row t i id (on.Begin id head given) o (λ q. begin_by q.phase q.gave_read j q) refl is (λ q at e. begin_own t i id q at head given q.phase q.gave_read j o e)
  each t i (on.Revalidate id head given) o is =
      let call : Call = call_at t (on.Revalidate id head given) i o in
      of_row t i id (on.Revalidate id head given) o (λ q. revalidate_by q.phase q.gave_read (confirmed_by q call) (far_of o) q) refl is
      (λ q at e. quiet t i id q at (on.Revalidate id head given) o (revalidate_by q.phase q.gave_read (confirmed_by q call) (far_of o) q c) (λ y. refl) (λ y. refl) (revalidate_reads t i id q at q.phase q.gave_read (confirmed_by q call) (far_of o)))
  each t i (on.Piece id bytes last) o is = of_row t i id (on.Piece id bytes last) o (λ q. piece_by q.write bytes last q) refl is
      (λ q at e. quiet t i id q at (on.Piece id bytes last) o (piece_by q.write bytes last q c) (λ y. refl) (λ y. refl) (piece_reads t i id q at q.write bytes last))
  each t i (on.Finish id) o is = of_row t i id (on.Finish id) o (λ q. finish_by q.write (far_of o) q) refl is
      (λ q at e. quiet t i id q at (on.Finish id) o (finish_by q.write (far_of o) q c) (λ y. refl) (λ y. refl) (finish_reads t i id q at q.write (far_of o)))
  each t i (on.Read id) o is = of_row t i id (on.Read id) o (λ q. read_by_reader q.reader q) refl is (λ q at e. read_own t i id q at q.reader refl o e)
  each t i (on.Drop id) o is = of_row t i id (on.Drop id) o (λ q c. drop_row q) refl is (λ q at e. gone (call_at t (on.Drop id) i o) id (drop_row q) refl)
  each t i (on.Purge key) o is = of_none (call_at t (on.Purge key) i o) (purge_row (entry_of key) c).changes (λ j e. absurd cc)
  each t i (on.Put key pieces given) o is = of_none (call_at t (on.Put key pieces given) i o) (put_row (entry_of key) (read_by (call_at t (on.Put key pieces given) i o)) (far_of o) c).changes (λ j e. absurd cc)

  -- a call that ran out changes nothing
  ended_not : (action : Action) (o : Outcome) (i : ℕ) → ran_out o ≡ true → is_end_of_reader i action o ≡ false
  ended_not action (Ok a) i out = absurd cc
  ended_not (on.LookUp j) (Err f) i out = refl
  ended_not (on.Begin j head given) (Err f) i out = refl
  ended_not (on.Drop j) (Err f) i out = refl
  ended_not _ (Err f) i out = refl

  given_not : (action : Action) (o : Outcome) (i : ℕ) → ran_out o ≡ true → bytes_given i action o ≡ []
  given_not action (Ok a) i out = absurd cc
  given_not (on.Read j) (Err f) i out = refl
  given_not _ (Err f) i out = refl

  pub then-read : (used : ℕ) (call : Call) → IsRight s used call now → (id : ℕ) (r : Request) → (now_of s loaded (call ∷ h)).request id ≡ Some r → HasRead s loaded id r.reader (now_of s loaded (call ∷ h)).changes (call ∷ h)
  then-read used call right = by_room (ran_out call.outcome) refl right.outcome
    where
      by_room : (v : Bool) → ran_out call.outcome ≡ v
          → Whether v (SomeRanOut s used (row_of_call s call now).needs call.outcome c)
          ((call.outcome ≡ (row_of_call s call now).outcome) × ComesSo s (row_of_call s call now).needs.entering (far_of call.outcome) c)
          → Then call (cond v now (came_of s call now).now)
      by_room true out w = λ id r e. keeps-reader s loaded h id call (ended_not call.event.action call.outcome id out) (given_not call.event.action call.outcome id out) c (grows [] c) r.reader (before id r e)
      by_room false out w = each call.event.moment (record { reading = call.reading; began = call.began; asked = call.asked }) call.event.action call.outcome w.0

pub reads-right : (s : Settings) (used : ℕ) (loaded : List Tracked) (h : History) → AreRight s used loaded h → (id : ℕ) (r : Request) → (now_of s loaded h).request id ≡ Some r → HasRead s loaded id r.reader (now_of s loaded h).changes h
reads-right s used loaded [] right id r e = absurd cc
reads-right s used loaded (call ∷ h) right id r e = then-read s loaded h (λ i q at. reads-right s used loaded h right.1 i q at) (used + length h) call right.0 id r e
