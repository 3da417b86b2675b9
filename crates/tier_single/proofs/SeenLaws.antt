-- What is so of each state that a history leads to: its metas can be written, and a request whose find may be confirmed has seen one.
use Rattle.std.proofs.Common.{◌≡◌, ℕ, refl, sym, true, false, subst, cond, [], ◌∷◌}
use Rattle.std.specs.Prelude.{◌==◌, Bool, List, Option, Some, None, Ok, Err, option_map, is_some, IfSome}
use Rattle.std.specs.FinMap.{FinMap, get, get-empty, insert, remove}
use Rattle.std.specs.Ordering.{nat_cmp}
use Rattle.std.specs.Cmp.Lexicographic.{slice_cmp}
use Rattle.cache_words.specs.Time.{MomentValue}
use Rattle.cache_words.specs.Key.{CacheKeyValue}
use Rattle.cache_heads.specs.declared.meta.CacheMeta.{CacheMeta}
use Rattle.cache_lock.specs.State.{LockState}
use Rattle.cache_lock.specs.declared.status.LockStatus.{LockStatus}
use Rattle.cache_changes.specs.Changes.{stored_key}
use Rattle.cache_entries.specs.declared.entry.CacheEntryKey.{CacheEntryKey}
use Rattle.cache_entries.specs.Entry.{key_of}
use Rattle.tier_model.specs.Keys.{Entry, entry_of, stored_key_of}
use Rattle.tier_model.specs.declared.event.Action.{Action}
use Rattle.tier_model.specs.declared.event.Action.TheVariants.{Open, LookUp, Poll, Begin, Revalidate, Piece, Finish, Read, Drop, Purge, Put}
use Rattle.tier_model.specs.declared.event.Answer.{Answer}
use Rattle.tier_model.specs.declared.event.Answer.TheVariants.{Waited, Revalidated, Finished}
use Rattle.tier_model.specs.declared.event.Done.{Done}
use Rattle.tier_model.specs.declared.event.LockGiven.{LockGiven}
use Rattle.tier_model.specs.declared.event.LockGiven.TheVariants as lock
use Rattle.tier_model.specs.declared.event.TierFault.{TierFault}
use Rattle.tier_model.specs.Response.{Judged, kept}
use Rattle.tier_model.specs.Calls.{Call, History, Outcome, done_of, has_stored, judged_of, finished_by}
use Rattle.tier_model.specs.Histories.{Opening, is_landing}
use Rattle.tier_model.specs.Rows.{Numbered, FinishedBody}
use Rattle.tier_model.specs.Shelf.{Shelf, Look, absent, in_flight, finished, look, is_there}
use Rattle.tier_model.specs.State.{Phase, cache_key, hit, stale, miss, begun, disabled, revalidated, LockHold, nothing, permit, waits, Seen, Request, State, shards_of}
use Rattle.tier_model.specs.Checks.{can_revalidate}
use Rattle.tier_model.specs.Standings.{phase_absent, phase_found}
use Rattle.tier_model.specs.Locks.{is_wait}
use Rattle.tier_model.specs.Answers.{key_for, look_for, is_fresh, lock_given, seen_meta, confirmed_for, finishing}
use Rattle.tier_model.specs.After.{by_request, with_request, opened_request, looked, after_look, after_wait, after_begin, read_on, emptied, taken, on_write, pieced, after_flight, after_put, until, taken_back}
use Rattle.tier_model.specs.After.{undone, after_finish, finished_state, after_purge, confirmed, renewed_for, after_confirmed, undone_renewal, without_request, answered, refused, after_outcome, after}
use Rattle.tier_model.specs.Past.{state_of, HasPast}
use Rattle.tier_model.proofs.CallLaws.{at-insert, at-remove}
use Rattle.tier_single.proofs.DatedLaws.{IsDated, DatedIn, provenance-dated, IsDatedShelf, begun-dated, landed-dated, stored-dated, renewed-shelf, removed-dated, cleared-dated}
use Rattle.tier_single.proofs.GivenLaws.{finished-given, judged-given, confirmed-given, finishing-given}
use Rattle.tier_single.proofs.DatedLaws.{DatedLook, look-dated, pieced-dated}

-- ---- requests

-- what may be confirmed is there, and its meta can be written
pub record SeesBy (phase : Phase) (gave : Bool) (seen : Option Seen) : Type 0 where
  pub sees : can_revalidate phase gave ≡ true → is_some seen ≡ true
  pub dated : IfSome seen (λ x. IsDated x.meta)

abbrev pub Sees : Request → Type 0
Sees q = SeesBy q.phase q.gave_read q.seen

abbrev pub SeesIn : Option Request → Type 0
SeesIn o = IfSome o Sees

-- in other phases
unseen : (phase : Phase) (gave : Bool) → can_revalidate phase gave ≡ false → SeesBy phase gave None
unseen phase gave off = record { sees = λ on. absurd cc; dated = tt }

waiting_off : (old : Phase) → can_revalidate old true ≡ false
waiting_off cache_key = refl
waiting_off hit = refl
waiting_off stale = refl
waiting_off miss = refl
waiting_off begun = refl
waiting_off disabled = refl
waiting_off revalidated = refl

absent_off : (given : LockGiven) (old : Phase) → can_revalidate (phase_absent given old) (is_wait given) ≡ false
absent_off lock.None old = refl
absent_off lock.Write old = refl
absent_off lock.Read old = waiting_off old

found_sees : (fresh gave : Bool) (x : Seen) → IsDated x.meta → SeesBy (phase_found fresh) gave (cond fresh None (Some x))
found_sees true gave x d = record { sees = λ on. absurd cc; dated = tt }
found_sees false gave x d = record { sees = λ on. refl; dated = d }

looked_sees : (t : MomentValue) (q : Request) (l : Look) (locks : LockState) (shelf : Shelf) (h : IsDatedShelf shelf) → DatedLook shelf h l → Sees (looked t q l locks)
looked_sees t q absent locks shelf h d = unseen _ _ (absent_off (lock_given t q absent locks) q.phase)
looked_sees t q (in_flight f) locks shelf h d = found_sees (is_fresh t f.meta) (is_wait (lock_given t q (in_flight f) locks)) (record { number = f.number; meta = f.meta }) d
looked_sees t q (finished x) locks shelf h d = found_sees (is_fresh t x.body.meta) (is_wait (lock_given t q (finished x) locks)) (record { number = x.number; meta = x.body.meta }) d

waited_sees : (t : MomentValue) (outcome : Option LockStatus) (held : LockHold) (q : Request) → Sees q → Sees (after_wait t outcome held q)
waited_sees t None (waits n first) q h = h
waited_sees t (Some o) (waits n first) q h = h
waited_sees t None nothing q h = h
waited_sees t (Some o) nothing q h = h
waited_sees t None (permit n) q h = h
waited_sees t (Some o) (permit n) q h = h

-- the meta of what it has seen
pub seen-dated : (q : Request) → Sees q → IfSome (seen_meta q) IsDated
seen-dated q h = by_seen q.seen h.dated
  where
    by_seen : (o : Option Seen) → IfSome o (λ x. IsDated x.meta) → IfSome (option_map (λ (x : Seen). x.meta) o) IsDated
    by_seen None d = tt
    by_seen (Some x) d = d

-- ---- states

pub record Holds (s : State) : Type 0 where
  pub shelf : IsDatedShelf s.shelf
  pub requests : (id : ℕ) → SeesIn (get s.requests id)

sees_insert : (m : FinMap nat_cmp Request) (id : ℕ) (q : Request) → Sees q → ((j : ℕ) → SeesIn (get m j)) → (j : ℕ) → SeesIn (get (insert m id q) j)
sees_insert m id q sees h j = subst SeesIn (sym (at-insert m id q j)) (by_test (id == j))
  where
    by_test : (v : Bool) → SeesIn (cond v (Some q) (get m j))
    by_test true = sees
    by_test false = h j

sees_remove : (m : FinMap nat_cmp Request) (id : ℕ) → ((j : ℕ) → SeesIn (get m j)) → (j : ℕ) → SeesIn (get (remove m id) j)
sees_remove m id h j = subst SeesIn (sym (at-remove m id j)) (by_test (id == j))
  where
    by_test : (v : Bool) → SeesIn (cond v None (get m j))
    by_test true = tt
    by_test false = h j

of_open : (s : State) (o : Option Request) (f : Request → State) → SeesIn o → Holds s → ((q : Request) → Sees q → Holds (f q)) → Holds (by_request s o f)
of_open s None f sees h turns = h
of_open s (Some q) f sees h turns = turns q sees

module _ (s : State) (h : Holds s) where
  placed : (id : ℕ) (q : Request) → Sees q → Holds (with_request id q s)
  placed id q sees = record { shelf = h.shelf; requests = sees_insert s.requests id q sees h.requests }

  emptied_holds : (n : ℕ) (es : List CacheEntryKey) → Holds (emptied n es s)
  emptied_holds n es = record { shelf = cleared-dated s.shelf h.shelf es; requests = h.requests }

  taken_holds : (n : ℕ) (e : Entry) → Holds (taken n e s)
  taken_holds n e = record { shelf = removed-dated s.shelf h.shelf (stored_key e); requests = h.requests }

  purge_holds : (key : CacheKeyValue) (v : Bool) → Holds (after_purge s key v)
  purge_holds key false = h
  purge_holds key true = taken_holds (shards_of s) (entry_of key)

  look_holds : (t : MomentValue) (id : ℕ) (q : Request) → Holds (after_look s t id q (look_for q s.shelf))
  look_holds t id q = record {
    shelf = record { bodies = h.shelf.bodies; flying = h.shelf.flying };
    requests = sees_insert s.requests id _ (looked_sees t q (look_for q s.shelf) s.lock s.shelf h.shelf (look-dated s.shelf h.shelf (key_for q))) h.requests;
  }

  begin_holds : (id : ℕ) (q : Request) (j : Option Judged) → Sees q → IfSome j DatedIn → Holds (after_begin s id q j)
  begin_holds id q (Some (kept meta)) sees d =
      let flies = begun-dated s.shelf h.shelf (key_for q) _ (provenance-dated (seen_meta q) meta (seen-dated q sees) d) in
      record { shelf = record { bodies = flies.bodies; flying = flies.flying }; requests = sees_insert s.requests id _ (unseen begun q.gave_read refl) h.requests }
  begin_holds id q (Some _) sees d = given_up
    where
      given_up : Holds (after_begin s id q None)
      given_up = record { shelf = record { bodies = h.shelf.bodies; flying = h.shelf.flying }; requests = sees_insert s.requests id _ (unseen disabled q.gave_read refl) h.requests }
  begin_holds id q None sees d =
      record { shelf = record { bodies = h.shelf.bodies; flying = h.shelf.flying }; requests = sees_insert s.requests id _ (unseen disabled q.gave_read refl) h.requests }

  drop_holds : (id : ℕ) (q : Request) → Holds (without_request s id q)
  drop_holds id q =
      let lands = landed-dated s.shelf h.shelf false q.write in
      record { shelf = record { bodies = lands.bodies; flying = lands.flying }; requests = sees_remove s.requests id h.requests }

  flight_holds : (is_finished : Bool) (id : ℕ) (q : Request) → Sees q → Holds (after_flight is_finished s id q)
  flight_holds is_finished id q sees = record { shelf = landed-dated s.shelf h.shelf is_finished q.write; requests = sees_insert s.requests id (record q { write = None }) sees h.requests }

  -- the body was confirmed
  closed : (q : Request) → Sees (confirmed q)
  closed q = unseen revalidated q.gave_read refl

  renewed_holds : (id : ℕ) (q : Request) (meta : CacheMeta) → IsDated meta → Holds (renewed_for s id q meta)
  renewed_holds id q meta d = record { shelf = renewed-shelf s.shelf h.shelf (key_for q) meta d; requests = sees_insert s.requests id (confirmed q) (closed q) h.requests }

put_holds : (s : State) → Holds s → (n : Option ℕ) (b : Option FinishedBody) (a : Answer) → IfSome b (λ b. IsDated b.body.meta) → Holds (after_put s n b a)
put_holds s h n (Some b) (Finished told es) d = emptied_holds _ (record { shelf = stored-dated s.shelf h.shelf n b d; requests = h.requests }) (shards_of s) es
put_holds s h n (Some b) _ d = h
put_holds s h n None a d = h

undone_holds : (s : State) → Holds s → (b : Option FinishedBody) (done : Done) → Holds (undone s b done)
undone_holds s h None done = h
undone_holds s h (Some b) done = by_stored done.stored
  where
    by_stored : (v : Bool) → Holds (taken_back v s b done)
    by_stored false = h
    by_stored true =
        let with : State = record s { managed = until done.admitted s b } in
        let gone : Holds (emptied (shards_of s) done.evicted with) = emptied_holds with (record { shelf = h.shelf; requests = h.requests }) (shards_of s) done.evicted in
        taken_holds (emptied (shards_of s) done.evicted with) gone (shards_of s) b.entry

finish_holds : (s : State) → Holds s → (id : ℕ) (q : Request) (o : Outcome) → Sees q → Holds (finished_state s id q o)
finish_holds s h id q o sees = by_landing (is_landing o)
  where
    flies : (v : Bool) → Holds (after_flight v s id q)
    flies v = flight_holds s h v id q sees

    by_outcome : (o : Outcome) → Holds (after_finish (after_flight (has_stored o) s id q) q.write (finishing q s.shelf) o)
    by_outcome (Ok a) = put_holds (after_flight (has_stored (Ok a)) s id q) (flies (has_stored (Ok a))) q.write (finishing q s.shelf) a (finishing-given q s.shelf h.shelf)
    by_outcome (Err f) = undone_holds (after_flight (has_stored (Err f)) s id q) (flies (has_stored (Err f))) (finishing q s.shelf) (done_of f)

    by_landing : (v : Bool) → Holds (cond v (after_finish (after_flight (has_stored o) s id q) q.write (finishing q s.shelf) o) s)
    by_landing true = by_outcome o
    by_landing false = h

confirmed_holds : (s : State) → Holds s → (id : ℕ) (q : Request) (j : Option Judged) (a : Answer) → IfSome j DatedIn → Holds (after_confirmed s id q j a)
confirmed_holds s h id q (Some (kept meta)) (Revalidated es) d = emptied_holds (renewed_for s id q meta) (renewed_holds s h id q meta d) (shards_of s) es
confirmed_holds s h id q (Some (kept meta)) _ d = placed s h id (confirmed q) (closed s h q)
confirmed_holds s h id q (Some _) a d = placed s h id (confirmed q) (closed s h q)
confirmed_holds s h id q None a d = placed s h id (confirmed q) (closed s h q)

renewal_holds : (s : State) → Holds s → (id : ℕ) (q : Request) (j : Option Judged) (done : Done) → IfSome j DatedIn → Holds (undone_renewal s id q j done)
renewal_holds s h id q (Some (kept meta)) done d = by_stored done.stored
  where
    by_stored : (v : Bool) → Holds (cond v (taken (shards_of s) (key_of q.entry) (emptied (shards_of s) done.evicted (renewed_for s id q meta))) s)
    by_stored false = h
    by_stored true =
        let gone : Holds (emptied (shards_of s) done.evicted (renewed_for s id q meta)) = emptied_holds (renewed_for s id q meta) (renewed_holds s h id q meta d) (shards_of s) done.evicted in
        taken_holds (emptied (shards_of s) done.evicted (renewed_for s id q meta)) gone (shards_of s) (key_of q.entry)
renewal_holds s h id q (Some _) done d = h
renewal_holds s h id q None done d = h

-- ---- calls

module _ (s : State) (h : Holds s) (c : Call) where
  for_request : (id : ℕ) (f : Request → State) → ((q : Request) → Sees q → Holds (f q)) → Holds (by_request s (get s.requests id) f)
  for_request id f turns = of_open s (get s.requests id) f (h.requests id) h turns

  confirms_dated : (q : Request) → Sees q → IfSome (confirmed_for q c) DatedIn
  confirms_dated q sees = confirmed-given c.event.moment (seen_meta q) c.event.action c.reading (seen-dated q sees)

  finished_by_dated : IfSome (finished_by c) (λ b. IsDated b.body.meta)
  finished_by_dated = finished-given c.event.moment c.event.action c.reading

  answered_holds : (t : MomentValue) (action : Action) (a : Answer) → Holds (answered s t action c a)
  answered_holds t (Open id key asks) a = placed s h id (opened_request s.wait (entry_of key) asks) (unseen cache_key false refl)
  answered_holds t (LookUp id) a = for_request id (λ q. after_look s t id q (look_for q s.shelf)) (λ q sees. look_holds s h t id q)
  answered_holds t (Poll id) (Waited outcome) =
      for_request id (λ q. with_request id (after_wait t outcome q.held q) s) (λ q sees. placed s h id (after_wait t outcome q.held q) (waited_sees t outcome q.held q sees))
  answered_holds t (Poll id) _ = h
  answered_holds t (Begin id head given) a =
      for_request id (λ q. after_begin s id q (judged_of c)) (λ q sees. begin_holds s h id q (judged_of c) sees (judged-given c.event.moment c.event.action c.reading))
  answered_holds t (Revalidate id head given) a =
      for_request id (λ q. after_confirmed s id q (confirmed_for q c) a) (λ q sees. confirmed_holds s h id q (confirmed_for q c) a (confirms_dated q sees))
  answered_holds t (Piece id bytes last) a =
      for_request id (λ q. record s { shelf = on_write q.write (pieced bytes last) s.shelf }) (λ q sees. record { shelf = pieced-dated s.shelf h.shelf q.write bytes last; requests = h.requests })
  answered_holds t (Finish id) a = for_request id (λ q. finished_state s id q (Ok a)) (λ q sees. finish_holds s h id q (Ok a) sees)
  answered_holds t (Read id) a = for_request id (λ q. with_request id (record q { reader = read_on a q.reader }) s) (λ q sees. placed s h id (record q { reader = read_on a q.reader }) sees)
  answered_holds t (Drop id) a = for_request id (λ q. without_request s id q) (λ q sees. drop_holds s h id q)
  answered_holds t (Purge key) a = purge_holds s h key (is_there (look (stored_key_of key) s.shelf))
  answered_holds t (Put key pieces given) a = put_holds s h (Some s.shelf.writes) (finished_by c) a finished_by_dated

  refused_holds : (action : Action) (f : TierFault) → Holds (refused s action c f)
  refused_holds (Revalidate id head given) f =
      for_request id (λ q. undone_renewal s id q (confirmed_for q c) (done_of f)) (λ q sees. renewal_holds s h id q (confirmed_for q c) (done_of f) (confirms_dated q sees))
  refused_holds (Finish id) f = for_request id (λ q. finished_state s id q (Err f)) (λ q sees. finish_holds s h id q (Err f) sees)
  refused_holds (Put key pieces given) f = undone_holds s h (finished_by c) (done_of f)
  refused_holds _ f = h

  after_holds : Holds (after s c)
  after_holds = counted (by_outcome c.outcome)
    where
      by_outcome : (o : Outcome) → Holds (after_outcome s c.event.moment c.event.action c o)
      by_outcome (Ok a) = answered_holds c.event.moment c.event.action a
      by_outcome (Err f) = refused_holds c.event.action f

      counted : Holds (after_outcome s c.event.moment c.event.action c c.outcome) → Holds (after s c)
      counted x = record { shelf = record { bodies = x.shelf.bodies; flying = x.shelf.flying }; requests = x.requests }

holds_of : (start : Opening) (h : History) → Holds (state_of start h)
holds_of start [] = record {
  shelf = record { bodies = λ k. subst (λ (o : Option Numbered). IfSome o (λ x. IsDated x.body.meta)) (sym (get-empty (slice_cmp nat_cmp) k)) tt; flying = tt };
  requests = λ id. subst SeesIn (sym (get-empty nat_cmp id)) tt;
}
holds_of start (c ∷ h) = after_holds (state_of start h) (holds_of start h) c

-- a state with a past
pub holds-past : (start : Opening) (s : State) (h : History) → HasPast start s h → (id : ℕ) → SeesIn (get s.requests id)
holds-past start s h past id = subst (λ (x : State). SeesIn (get x.requests id)) (sym past.state) ((holds_of start h).requests id)
