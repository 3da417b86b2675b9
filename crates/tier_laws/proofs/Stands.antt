-- After whatever calls are answered by their rows, each key's writes and permits are its own, and each call changes only what is its key's, or what
-- its outcome lists.
use Rattle.std.proofs.Common.{◌≡◌, ℕ, ◌+◌, refl, ap, sym, ◌∙◌, true, false, subst, cond, [], ◌∷◌, ◌++◌, ◌==◌, length, arith}
use Rattle.std.specs.Prelude.{Bool, List, Option, Some, None, Ok, IfSome, is_some, map, find}
use Rattle.std.specs.Option.{option_or}
use Rattle.std.proofs.lemmas.Bool.{eq-eqb}
use Rattle.cache_words.specs.Time.{MomentValue}
use Rattle.cache_words.specs.Key.{CacheKeyValue}
use Rattle.cache_entries.specs.declared.entry.CacheEntryKey.{CacheEntryKey}
use Rattle.cache_entries.specs.declared.rows.Tracked.{Tracked}
use Rattle.cache_entries.specs.Keys.{same_bytes}
use Rattle.cache_entries.specs.SameEntry.{same_bytes-tells}
use Rattle.cache_changes.specs.Changes.{StoredKey, stored_key}
use Rattle.tier_model.specs.declared.event.Action.{Action}
use Rattle.tier_model.specs.declared.event.Action.TheVariants as on
use Rattle.tier_model.specs.declared.event.Answer.TheVariants as answer
use Rattle.tier_model.specs.declared.state.Body.{Body}
use Rattle.tier_model.specs.declared.whole.PutVerdict.{PutVerdict}
use Rattle.tier_model.specs.declared.whole.PutVerdict.TheVariants as whole
use Rattle.tier_model.specs.Keys.{Entry, entry_of, alone}
use Rattle.tier_model.specs.Calls.{Call, History, Outcome, extended, evicted_by, judged_of, read_by}
use Rattle.tier_model.specs.Rows.{weight_for}
use Rattle.tier_model.specs.State.{Settings}
use Rattle.tier_promise.specs.Promise.{Write, Change, Changes, begins, appends, puts, takes, has_number, flying, body_of, bytes_of, shown, Request, Now, EventRow, HowFar, Whether, ComesSo, SomeRanOut, far_of, ran_out, row_of}
use Rattle.tier_promise.specs.Promise.{opened, open_row, look_by, poll_by, begin_by, confirmed_by, revalidate_by, piece_by, finish_by, read_by_reader, drop_row, purge_row, put_row, came, of_key, after, came_of, row_of_call, now_after, now_of, IsRight, AreRight}
use Rattle.tier_laws.specs.Keys.{key_of_request, key_of}
use Rattle.tier_laws.specs.Others.{lists}
use Rattle.tier_laws.proofs.Lists.{found-last}
use Rattle.tier_laws.proofs.Owners.{owner, Scope, AreOwned, owner-new, done-new}
use Rattle.tier_laws.proofs.Turns.{InTurn, takes_any, owned-kept, own-goes}
use Rattle.tier_laws.proofs.Rows.{scope_of, IsHeld, IsOwn, HasStored, held-kept, ran-none, ran-err, lands-so, lands-listed, finished-so}
use Rattle.tier_laws.proofs.Events.{look_by-own, poll_by-own, begin_by-own, piece-own, finish-own, revalidate_by-own, read-own, drop-own}

pub record Stands (now : Now) : Type 0 where
  pub owned : AreOwned now.changes
  pub held : (id : ℕ) (q : Request) → now.request id ≡ Some q → IsHeld q now.changes

module _ (now : Now) (st : Stands now) where
  abbrev c : Changes
  c = now.changes

  -- ---- opens, purges and puts

  open-own : (v : Option Request) → ((q : Request) → v ≡ Some q → IsHeld q c) → (e : Entry) (asks : Bool) (a : Action) → IsOwn (Some (stored_key e)) a (open_row v (opened e asks)) c
  open-own None held e asks a = record { turn = tt; listed = λ j l. absurd cc; finished = λ size es e. absurd cc; request = record { write = tt; hold = tt } }
  open-own (Some q) held e asks a = record { turn = tt; listed = λ j l. absurd cc; finished = λ size es e. absurd cc; request = held q refl }

  purge-own : (e : Entry) (key : CacheKeyValue) → IsOwn (Some (stored_key e)) (on.Purge key) (purge_row e c) c
  purge-own e key = record { turn = by_found (is_some (shown (stored_key e) c)); listed = λ j l. absurd cc; finished = λ size es e. absurd cc; request = tt }
    where
      by_found : (v : Bool) → InTurn (scope_of (Some (stored_key e)) (on.Purge key) (purge_row e c).outcome) (cond v (takes (alone e) ∷ []) []) c
      by_found true = (own-goes (scope_of (Some (stored_key e)) (on.Purge key) (purge_row e c).outcome) e c refl refl, tt)
      by_found false = tt

  stored-own : (set : Settings) (a : Action) (e : Entry) (b : Body) (far : HowFar) → ComesSo set (put_row e (Some (whole.Stored b)) far c).needs.entering far c → IsOwn (Some (stored_key e)) a (put_row e (Some (whole.Stored b)) far c) c
  stored-own set a e b far so =
      let w : Write = record { number = length c; entry = e; meta = b.meta } in
      let s : Scope = scope_of (Some (stored_key e)) a (put_row e (Some (whole.Stored b)) far c).outcome in
      let mine : owner w.number (appends w.number b.bytes true ∷ begins w ∷ c) ≡ Some (stored_key e) =
      ap (λ (y : Option StoredKey). option_or y (cond (length c == length c) (Some (stored_key e)) None)) (owner-new c st.owned (length c) (omega arith))
      ∙ ap (λ (v : Bool). cond v (Some (stored_key e)) None) (eq-eqb (length c) (length c) refl) in
      let sized : length (bytes_of w.number (appends w.number b.bytes true ∷ begins w ∷ c)) ≡ length b.bytes =
      ap (λ (l : List ℕ). length l)
      (ap (λ (v : Bool). cond v (bytes_of (length c) c ++ b.bytes) (bytes_of (length c) c)) (eq-eqb (length c) (length c) refl)
      ∙ ap (λ (l : List ℕ). l ++ b.bytes) (st.owned.unwritten (length c) (owner-new c st.owned (length c) (omega arith)))) in
      let in_flight : (j : StoredKey) → Some (stored_key e) ≡ Some j → is_some (find (has_number w.number) (flying j (appends w.number b.bytes true ∷ begins w ∷ c))) ≡ true =
      λ j key.
      let one : stored_key e ≡ j = cc in
      ap (λ (v : Bool). is_some (find (has_number w.number) (cond v (flying j c ++ w ∷ []) (flying j c)))) (ap (same_bytes (stored_key e)) (sym one) ∙ same_bytes-tells.itself (stored_key e))
      ∙ found-last (has_number w.number) (flying j c) w (eq-eqb (length c) (length c) refl) in
      record {
        turn = (
          (refl, refl),
          (
            ((stored_key e, mine, refl), done-new c st.owned (length c) (omega arith)),
            lands-so (stored_key e) a set (appends w.number b.bytes true ∷ begins w ∷ c) w (weight_for b) (length b.bytes) mine refl far (alone e) c so,
          ),
        );
        listed = λ j l. lands-listed j w (weight_for b) (length b.bytes) far (alone e) set c so l;
        finished = λ size es f j key none. finished-so j w (weight_for b) (length b.bytes) (appends w.number b.bytes true ∷ begins w ∷ c) sized (in_flight j key) far size es f none;
        request = tt;
      }

  put-own : (set : Settings) (a : Action) (e : Entry) (v : Option PutVerdict) (far : HowFar) → ComesSo set (put_row e v far c).needs.entering far c → IsOwn (Some (stored_key e)) a (put_row e v far c) c
  put-own set a e (Some (whole.Stored b)) far so = stored-own set a e b far so
  put-own set a e (Some (whole.Uncacheable reason)) far so = record { turn = tt; listed = λ j l. absurd cc; finished = λ size es e. absurd cc; request = tt }
  put-own set a e (Some whole.Incomplete) far so = record { turn = tt; listed = λ j l. absurd cc; finished = λ size es e. absurd cc; request = tt }
  put-own set a e (Some whole.BadHead) far so = record { turn = tt; listed = λ j l. absurd cc; finished = λ size es e. absurd cc; request = tt }
  put-own set a e (Some whole.BeforeEpoch) far so = record { turn = tt; listed = λ j l. absurd cc; finished = λ size es e. absurd cc; request = tt }
  put-own set a e None far so = record { turn = tt; listed = λ j l. absurd cc; finished = λ size es e. absurd cc; request = tt }

  -- ---- all events

  -- an event of a request, open or not
  module _ (id : ℕ) (a : Action) (P : EventRow → Type 0) (f : Request → Changes → EventRow) where
    of-request : P (row_of (now.request id) (λ q. f q c)) → ((q : Request) → now.request id ≡ Some q → P (f q c) → IsOwn (Some (stored_key q.entry)) a (f q c) c)
        → IsOwn (key_of_request (now.request id)) a (row_of (now.request id) (λ q. f q c)) c
    of-request p own = by_open (now.request id) refl p
      where
        by_open : (v : Option Request) → now.request id ≡ v → P (row_of v (λ q. f q c)) → IsOwn (key_of_request v) a (row_of v (λ q. f q c)) c
        by_open None at p = record { turn = tt; listed = λ j l. absurd cc; finished = λ size es e. absurd cc; request = tt }
        by_open (Some q) at p = own q at p

  pub after-own : (s : Settings) (call : Call) (t : MomentValue) (action : Action) → ComesSo s (after s call t action now).row.needs.entering (far_of call.outcome) c
      → IsOwn (key_of action now) action (after s call t action now).row c
  after-own s call t (on.Open id key asks) so = open-own (now.request id) (st.held id) (entry_of key) asks (on.Open id key asks)
  after-own s call t (on.LookUp id) so =
      of-request id (on.LookUp id) (λ row. Unit {0}) (λ q. look_by q.phase q.hold t q) tt (λ q at p. look_by-own c st.owned q (st.held id q at) (on.LookUp id) t q.phase q.hold)
  after-own s call t (on.Poll id) so =
      of-request id (on.Poll id) (λ row. Unit {0}) (λ q. poll_by s q.hold t q) tt (λ q at p. poll_by-own c st.owned q (st.held id q at) (on.Poll id) s t q.hold (st.held id q at).hold)
  after-own s call t (on.Begin id head given) so =
      of-request id (on.Begin id head given) (λ row. Unit {0}) (λ q. begin_by q.phase q.gave_read (judged_of call) q) tt
      (λ q at p. begin_by-own c st.owned q (st.held id q at) (on.Begin id head given) (judged_of call) q.phase q.gave_read)
  after-own s call t (on.Revalidate id head given) so =
      of-request id (on.Revalidate id head given) (λ row. ComesSo s row.needs.entering (far_of call.outcome) c) (λ q. revalidate_by q.phase q.gave_read (confirmed_by q call) (far_of call.outcome) q) so
      (λ q at p. revalidate_by-own c st.owned q (st.held id q at) (on.Revalidate id head given) refl s (confirmed_by q call) (far_of call.outcome) q.phase q.gave_read p)
  after-own s call t (on.Piece id bytes last) so =
      of-request id (on.Piece id bytes last) (λ row. Unit {0}) (λ q. piece_by q.write bytes last q) tt
      (λ q at p. piece-own c st.owned q (st.held id q at) (on.Piece id bytes last) q.write bytes last (st.held id q at).write)
  after-own s call t (on.Finish id) so =
      of-request id (on.Finish id) (λ row. ComesSo s row.needs.entering (far_of call.outcome) c) (λ q. finish_by q.write (far_of call.outcome) q) so
      (λ q at p. finish-own c st.owned q (st.held id q at) (on.Finish id) s q.write (far_of call.outcome) (st.held id q at).write p)
  after-own s call t (on.Read id) so =
      of-request id (on.Read id) (λ row. Unit {0}) (λ q. read_by_reader q.reader q) tt (λ q at p. read-own c st.owned q (st.held id q at) (on.Read id) q.reader)
  after-own s call t (on.Drop id) so = of-request id (on.Drop id) (λ row. Unit {0}) (λ q d. drop_row q) tt (λ q at p. drop-own c st.owned q (st.held id q at) (on.Drop id))
  after-own s call t (on.Purge key) so = purge-own (entry_of key) key
  after-own s call t (on.Put key pieces given) so = put-own s (on.Put key pieces given) (entry_of key) (read_by call) (far_of call.outcome) so

  -- ---- and then

  came-stands : (id : ℕ) (k : Option StoredKey) (a : Action) (row : EventRow) → IsOwn k a row c → Stands (came id row now).now
  came-stands id k a row own = record { owned = owned-kept (scope_of k a row.outcome) row.changes c st.owned own.turn; held = λ i q e. by_id i q (i == id) e }
    where
      of-row : (v : Option Request) (q : Request) → IfSome v (λ r. IsHeld r (extended c row.changes)) → v ≡ Some q → IsHeld q (extended c row.changes)
      of-row None q all e = absurd cc
      of-row (Some r) q all e = let one : r ≡ q = cc in subst (λ (y : Request). IsHeld y (extended c row.changes)) one all

      by_id : (i : ℕ) (q : Request) (t : Bool) → cond t row.request (now.request i) ≡ Some q → IsHeld q (extended c row.changes)
      by_id i q true e = of-row row.request q own.request e
      by_id i q false e = held-kept q row.changes c (st.held i q e)

  key-stands : (k : Option StoredKey) (a : Action) (row : EventRow) → IsOwn k a row c → Stands (of_key row now).now
  key-stands k a row own = record { owned = owned-kept (scope_of k a row.outcome) row.changes c st.owned own.turn; held = λ i q e. held-kept q row.changes c (st.held i q e) }

  pub after-stands : (s : Settings) (call : Call) (t : MomentValue) (action : Action) → IsOwn (key_of action now) action (after s call t action now).row c → Stands (after s call t action now).now
  after-stands s call t (on.Purge key) own = key-stands (key_of (on.Purge key) now) (on.Purge key) (after s call t (on.Purge key) now).row own
  after-stands s call t (on.Put key pieces given) own = key-stands (key_of (on.Put key pieces given) now) (on.Put key pieces given) (after s call t (on.Put key pieces given) now).row own
  after-stands s call t (on.Open id key asks) own = came-stands id (key_of (on.Open id key asks) now) (on.Open id key asks) (after s call t (on.Open id key asks) now).row own
  after-stands s call t (on.LookUp id) own = came-stands id (key_of (on.LookUp id) now) (on.LookUp id) (after s call t (on.LookUp id) now).row own
  after-stands s call t (on.Poll id) own = came-stands id (key_of (on.Poll id) now) (on.Poll id) (after s call t (on.Poll id) now).row own
  after-stands s call t (on.Begin id head given) own = came-stands id (key_of (on.Begin id head given) now) (on.Begin id head given) (after s call t (on.Begin id head given) now).row own
  after-stands s call t (on.Revalidate id head given) own = came-stands id (key_of (on.Revalidate id head given) now) (on.Revalidate id head given) (after s call t (on.Revalidate id head given) now).row own
  after-stands s call t (on.Piece id bytes last) own = came-stands id (key_of (on.Piece id bytes last) now) (on.Piece id bytes last) (after s call t (on.Piece id bytes last) now).row own
  after-stands s call t (on.Finish id) own = came-stands id (key_of (on.Finish id) now) (on.Finish id) (after s call t (on.Finish id) now).row own
  after-stands s call t (on.Read id) own = came-stands id (key_of (on.Read id) now) (on.Read id) (after s call t (on.Read id) now).row own
  after-stands s call t (on.Drop id) own = came-stands id (key_of (on.Drop id) now) (on.Drop id) (after s call t (on.Drop id) now).row own

-- the changes of a row come after those before
pub after-changes : (s : Settings) (call : Call) (t : MomentValue) (action : Action) (now : Now) → (after s call t action now).now.changes ≡ extended now.changes (after s call t action now).row.changes
after-changes s call t (on.Open id key asks) now = refl
after-changes s call t (on.LookUp id) now = refl
after-changes s call t (on.Poll id) now = refl
after-changes s call t (on.Begin id head given) now = refl
after-changes s call t (on.Revalidate id head given) now = refl
after-changes s call t (on.Piece id bytes last) now = refl
after-changes s call t (on.Finish id) now = refl
after-changes s call t (on.Read id) now = refl
after-changes s call t (on.Drop id) now = refl
after-changes s call t (on.Purge key) now = refl
after-changes s call t (on.Put key pieces given) now = refl

-- ---- calls

abbrev pub scope_of_call : Call → Now → Scope
scope_of_call call now = scope_of (key_of call.event.action now) call.event.action call.outcome

-- a right call changed this in turn, within its scope
pub record Turned (call : Call) (before after : Now) : Type 0 where
  pub row : List Change
  pub turn : InTurn (scope_of_call call before) row before.changes
  pub listed : (j : StoredKey) → lists j (evicted_by call.outcome) ≡ true → takes_any j row ≡ true
  pub finished : (size : ℕ) (es : List CacheEntryKey) → call.outcome ≡ Ok (answer.Finished size es) → HasStored (key_of call.event.action before) size es after.changes
  pub changes : after.changes ≡ extended before.changes row
  pub stands : Stands after

pub call-turned : (s : Settings) (used : ℕ) (call : Call) (now : Now) → Stands now → IsRight s used call now → Turned call now (now_after s call now)
call-turned s used call now st right = by_room (ran_out call.outcome) right.outcome
  where
    by_room : (v : Bool) → Whether v (SomeRanOut s used (row_of_call s call now).needs call.outcome now.changes)
        ((call.outcome ≡ (row_of_call s call now).outcome) × ComesSo s (row_of_call s call now).needs.entering (far_of call.outcome) now.changes)
        → Turned call now (cond v now (came_of s call now).now)
    by_room true p = record {
      row = [];
      turn = tt;
      listed = λ j l. let none : false ≡ true = sym (ap (lists j) (ran-none s used (row_of_call s call now).needs call.outcome now.changes p)) ∙ l in absurd cc;
      finished = λ size es e. absurd (ran-err s used (row_of_call s call now).needs call.outcome now.changes p (answer.Finished size es) e);
      changes = refl;
      stands = st;
    }
    by_room false p =
        let own = after-own now st s call call.event.moment call.event.action p.1 in
        record {
          row = (row_of_call s call now).changes;
          turn = subst (λ (o : Outcome). InTurn (scope_of (key_of call.event.action now) call.event.action o) (row_of_call s call now).changes now.changes) (sym p.0) own.turn;
          listed = λ j l. own.listed j (ap (λ (o : Outcome). lists j (evicted_by o)) (sym p.0) ∙ l);
          finished = λ size es e j key none.
              subst (λ (d : Changes). (w : Write) × (body_of j d ≡ Some w) × (length (bytes_of w.number d) ≡ size)) (sym (after-changes s call call.event.moment call.event.action now)) (own.finished size es (sym p.0 ∙ e) j key none);
          changes = after-changes s call call.event.moment call.event.action now;
          stands = after-stands now st s call call.event.moment call.event.action own;
        }

-- ---- histories

loaded-owned : (l : List Tracked) → AreOwned (map (λ r. puts r.entry r.weight) l)
loaded-owned [] = record {
  begun = λ n k e. absurd cc;
  given = λ n k e. absurd cc;
  over = λ n how e. absurd cc;
  done = λ n e. absurd cc;
  unwritten = λ n e. refl;
  flies = λ k. tt;
  stays = λ k w e. absurd cc;
  waits = λ k p e. absurd cc;
}
loaded-owned (r ∷ l) =
    let o = loaded-owned l in
    record {
      begun = λ n k e. let m = o.begun n k e in omega (arith, m);
      given = λ n k e. let m = o.given n k e in omega (arith, m);
      over = λ n how e. o.over n how e;
      done = λ n e. let m = o.done n e in omega (arith, m);
      unwritten = λ n e. o.unwritten n e;
      flies = λ k. o.flies k;
      stays = λ k w e. o.stays k w e;
      waits = λ k p e. o.waits k p e;
    }

pub history-stands : (s : Settings) (used : ℕ) (loaded : List Tracked) (h : History) → AreRight s used loaded h → Stands (now_of s loaded h)
history-stands s used loaded [] right = record { owned = loaded-owned loaded; held = λ id q e. absurd cc }
history-stands s used loaded (call ∷ h) right = (call-turned s (used + length h) call (now_of s loaded h) (history-stands s used loaded h right.1) right.0).stands
