-- What requests read, and that the readers of a write are counted, after each call.
use Rattle.std.proofs.Common.{◌≡◌, ℕ, ◌+◌, ◌<◌, refl, ap, sym, ◌∙◌, true, false, subst, cond, ◌∷◌, ◌==◌, arith}
use Rattle.std.specs.Prelude.{◌||◌, Bool, List, Option, Some, None, Ok, Err, MatchOption}
use Rattle.std.specs.FinMap.{FinMap, get, same_map, nat_cmp-IsAntisymmetric}
use Rattle.std.specs.Ordering.{nat_cmp}
use Rattle.std.proofs.lemmas.Cmp.{nat_cmp_total}
use Rattle.std.proofs.lemmas.Bool.{eqb-true}
use Rattle.cache_words.specs.Time.{MomentValue}
use Rattle.cache_words.specs.Key.{CacheKeyValue}
use Rattle.cache_entries.specs.Entry.{key_of}
use Rattle.cache_lock.specs.declared.status.LockStatus.{LockStatus}
use Rattle.cache_changes.specs.Changes.{Write, Change, Changes}
use Rattle.cache_changes.specs.Writes.{bytes_of, has_ended, lands, IsOrderly}
use Rattle.cache_changes.proofs.WriteLaws.{Life, life, life-tells, began_below}
use Rattle.tier_model.specs.declared.event.Action.TheVariants.{Finish}
use Rattle.tier_model.specs.declared.event.Answer.{Answer}
use Rattle.tier_model.specs.declared.event.Answer.TheVariants.{Finished, Revalidated}
use Rattle.tier_model.specs.declared.event.TierFault.{TierFault}
use Rattle.tier_model.specs.declared.event.Done.{Done}
use Rattle.tier_model.specs.Calls.{Call, History, Outcome, extended, done_of, has_stored}
use Rattle.tier_model.specs.Histories.{Kept, Opening, writes_begun, is_landing, write_held, finish_changes}
use Rattle.tier_model.specs.Histories.{changes_of}
use Rattle.tier_model.specs.Response.{Judged, kept}
use Rattle.tier_model.specs.Rows.{FinishedBody}
use Rattle.tier_model.specs.Shelf.{InFlight, Readers, landed, readers_left}
use Rattle.tier_model.specs.State.{LockHold, nothing, permit, waits, Reader, closed, unread, spent, streaming, Request, State, shards_of}
use Rattle.tier_model.specs.Answers.{finishing}
use Rattle.tier_model.specs.After.{with_reader, without_reader, by_request, on_write, pieced, after_wait, read_on, after_flight}
use Rattle.tier_model.specs.After.{emptied, taken, renewed_for, after_confirmed, undone_renewal, after_put, taken_back, undone, after_finish, finished_state, after_purge, after_outcome, after}
use Rattle.tier_model.specs.Past.{streams_by, streams, streamers}
use Rattle.tier_model.proofs.CallLaws.{changes_at, Inside, call_at, named_by, is_named, back_turn, land_turn, judged_for, turn, requests-after}
use Rattle.tier_model.proofs.WriteLaws.{WritesFit, changes_spare}
use Rattle.tier_model.proofs.LandLaws.{lander}
use Rattle.tier_model.proofs.OpenLaws.{Holds, IsOpen, Written, FlightAt, flight-at}
use Rattle.tier_model.proofs.WholeLaws.{all_came}
use Rattle.tier_model.proofs.ReaderLaws.{share, sum-turned, CountFits, count_on, landed_on, left_entry, at_key, turned_fits, CanStream, at-left}

-- the readers of each write are the requests that stream it
abbrev pub Counted : State → Changes Kept → Type 0
Counted s changes = (n : ℕ) → CountFits n (get s.shelf.readers n) (streamers n s.requests) changes

-- what leaves the readers of a shelf alone
pub put_readers : (s : State) (n : Option ℕ) (b : Option FinishedBody) (a : Answer) → (after_put s n b a).shelf.readers ≡ s.shelf.readers
put_readers s None (Some b) (Finished told es) = refl
put_readers s (Some n) (Some b) (Finished told es) = refl
put_readers s n (Some b) _ = refl
put_readers s n None a = refl

back_readers : (v : Bool) (s : State) (b : FinishedBody) (done : Done) → (taken_back v s b done).shelf.readers ≡ s.shelf.readers
back_readers false s b done = refl
back_readers true s b done = refl

pub undone_readers : (s : State) (b : Option FinishedBody) (done : Done) → (undone s b done).shelf.readers ≡ s.shelf.readers
undone_readers s (Some b) done = back_readers done.stored s b done
undone_readers s None done = refl

finish_readers : (s : State) (n : Option ℕ) (b : Option FinishedBody) (o : Outcome) → (after_finish s n b o).shelf.readers ≡ s.shelf.readers
finish_readers s n b (Ok a) = put_readers s n b a
finish_readers s n b (Err f) = undone_readers s b (done_of f)

pub purge_readers : (s : State) (key : CacheKeyValue) (v : Bool) → (after_purge s key v).shelf.readers ≡ s.shelf.readers
purge_readers s key false = refl
purge_readers s key true = refl

pub confirmed_readers : (s : State) (r : ℕ) (q : Request) (j : Option Judged) (a : Answer) → (after_confirmed s r q j a).shelf.readers ≡ s.shelf.readers
confirmed_readers s r q (Some (kept meta)) (Revalidated es) = refl
confirmed_readers s r q (Some (kept meta)) _ = refl
confirmed_readers s r q (Some _) a = refl
confirmed_readers s r q None a = refl

pub renewal_readers : (s : State) (r : ℕ) (q : Request) (j : Option Judged) (done : Done) → (undone_renewal s r q j done).shelf.readers ≡ s.shelf.readers
renewal_readers s r q (Some (kept meta)) done = by_stored done.stored
  where
    by_stored : (v : Bool) → (cond v (taken (shards_of s) (key_of q.entry) (emptied (shards_of s) done.evicted (renewed_for s r q meta))) s).shelf.readers ≡ s.shelf.readers
    by_stored true = refl
    by_stored false = refl
renewal_readers s r q (Some _) done = refl
renewal_readers s r q None done = refl

-- a wait, a refused revalidation, and a read leave what is streamed
pub wait_reader : (t : MomentValue) (outcome : Option LockStatus) (held : LockHold) (q : Request) → (after_wait t outcome held q).reader ≡ q.reader
wait_reader t None (waits n first) q = refl
wait_reader t None (permit n) q = refl
wait_reader t None nothing q = refl
wait_reader t (Some x) (waits n first) q = refl
wait_reader t (Some x) (permit n) q = refl
wait_reader t (Some x) nothing q = refl

pub back_reader : (j : Option Judged) (v : Bool) (q : Request) → (back_turn j v q).reader ≡ q.reader
back_reader (Some (kept meta)) true q = refl
back_reader (Some (kept meta)) false q = refl
back_reader (Some _) v q = refl
back_reader None v q = refl

pub read_streams : (n : ℕ) (a : Answer) (r : Reader) → streams_by n (read_on a r) ≡ streams_by n r
read_streams n a closed = refl
read_streams n a (unread bytes) = refl
read_streams n a spent = refl
read_streams n a (streaming m place) = refl

pub land_reader : (v : Bool) (q : Request) → (land_turn v q).reader ≡ q.reader
land_reader true q = refl
land_reader false q = refl

module _ (start : Opening) (s : State) (h : History) (l : Holds start s h) (opened : (r : ℕ) (q : Request) → get s.requests r ≡ Some q → IsOpen start r q h) (fits : WritesFit start h)
    (counts : Counted s (changes_of start h)) where
  -- the write of a number that is known began
  known_below : (n : ℕ) (x : Life Kept) → life n (changes_of start h) ≡ Some x → n < writes_begun start h
  known_below n x e =
      let known = life-tells n (changes_of start h) x e in
      subst (λ (m : ℕ). m < writes_begun start h) (sym known.number)
      (began_below (writes_begun start h) x.write (changes_of start h) l.leaves.below (record { since = known.since; before = known.before; split = known.split }))

  abbrev pub Next : Call → State → Type 0
  Next c new = Counted new (changes_of start (c ∷ h))

  -- where nothing lands, and readers and streams stay
  pub kept_counts : (c : Call) (new : State) → IsOrderly (changes_of start (c ∷ h)) → lander c.event.action c.outcome ≡ None → new.shelf.readers ≡ s.shelf.readers
      → ((n : ℕ) → streamers n new.requests ≡ streamers n s.requests) → Next c new
  kept_counts c new o none readers same n =
      subst (λ (m : FinMap nat_cmp Readers). CountFits n (get m n) (streamers n new.requests) (changes_of start (c ∷ h))) (sym readers)
      (subst (λ (k : ℕ). CountFits n (get s.shelf.readers n) k (changes_of start (c ∷ h))) (sym (same n))
      (count_on n (changes_at start c.event.action c.outcome c h (changes_of start h)) (changes_of start h) (get s.shelf.readers n) (streamers n s.requests) o
      (λ x e. changes_spare start n c.event.action c.outcome c h (known_below n x e) (λ r l. absurd cc)) (counts n)))

  -- where nothing lands, and a reader takes the place of another
  pub turned_counts : (c : Call) (new : State) (old fresh : Reader) → IsOrderly (changes_of start (c ∷ h)) → lander c.event.action c.outcome ≡ None
      → new.shelf.readers ≡ without_reader old (with_reader fresh s.shelf.readers)
      → ((n : ℕ) → CanStream n fresh (changes_of start (c ∷ h))) → ((n : ℕ) → streamers n new.requests + streams_by n old ≡ streamers n s.requests + streams_by n fresh) → Next c new
  turned_counts c new old fresh o none readers can same n =
      subst (λ (m : FinMap nat_cmp Readers). CountFits n (get m n) (streamers n new.requests) (changes_of start (c ∷ h))) (sym readers)
      (turned_fits n old fresh s.shelf.readers (streamers n s.requests) (streamers n new.requests) (changes_of start (c ∷ h)) (can n) (same n)
      (count_on n (changes_at start c.event.action c.outcome c h (changes_of start h)) (changes_of start h) (get s.shelf.readers n) (streamers n s.requests) o
      (λ x e. changes_spare start n c.event.action c.outcome c h (known_below n x e) (λ r l. absurd cc)) (counts n)))

  -- the sum over the requests, by the one that is named
  summed : (c : Call) (r : ℕ) (n : ℕ) → named_by c.event.action ≡ Some r
      → streamers n (after s c).requests + share (streams n) (get s.requests r) ≡ streamers n s.requests + share (streams n) (turn s c.event.moment c.event.action (judged_for s c) c.outcome (get s.requests r))
  summed c r n named =
      sum-turned (streams n) s.requests (after s c).requests r (turn s c.event.moment c.event.action (judged_for s c) c.outcome (get s.requests r))
      (λ q. requests-after s c q ∙ ap (λ (o : Option ℕ). cond (is_named q o) (turn s c.event.moment c.event.action (judged_for s c) c.outcome (get s.requests q)) (get s.requests q)) named
      ∙ sym (at_key s.requests r q (turn s c.event.moment c.event.action (judged_for s c) c.outcome)))

  pub by_open : (c : Call) (r : ℕ) (n : ℕ) (x : Option Request) → named_by c.event.action ≡ Some r → get s.requests r ≡ x
      → streamers n (after s c).requests + share (streams n) x ≡ streamers n s.requests + share (streams n) (turn s c.event.moment c.event.action (judged_for s c) c.outcome x)
  by_open c r n x named e =
      subst (λ (o : Option Request). streamers n (after s c).requests + share (streams n) o ≡ streamers n s.requests + share (streams n) (turn s c.event.moment c.event.action (judged_for s c) c.outcome o)) e (summed c r n named)

  even : (a b c : ℕ) → a + c ≡ b + c → a ≡ b
  even a b c e = omega (arith, e)

  same_share : (c : Call) (r : ℕ) (x : Option Request) → named_by c.event.action ≡ Some r → get s.requests r ≡ x
      → ((n : ℕ) → share (streams n) (turn s c.event.moment c.event.action (judged_for s c) c.outcome x) ≡ share (streams n) x) → (n : ℕ) → streamers n (after s c).requests ≡ streamers n s.requests
  same_share c r x named e same n = even _ _ (share (streams n) x) (by_open c r n x named e ∙ ap (λ (k : ℕ). streamers n s.requests + k) (same n))

  -- requests that are all as before
  pub same_requests : (new : FinMap nat_cmp Request) → ((q : ℕ) → get new q ≡ get s.requests q) → (n : ℕ) → streamers n new ≡ streamers n s.requests
  same_requests new e n = ap (streamers n) (same_map nat_cmp_total nat_cmp-IsAntisymmetric new s.requests e)

  -- ---- a write that lands

  module _ (r : ℕ) (q : Request) (opens : IsOpen start r q h) (x : Written start r q h) where
    abbrev flight : FlightAt x.write s.shelf.flying (changes_of start h)
    flight = flight-at (shards_of s) (writes_begun start h) s.shelf.bodies s.shelf.flying s.managed (changes_of start h) l.leaves x.write x.flies

    readers_are : (v : Bool) (n : ℕ) → get (on_write q.write (landed v) s.shelf).readers n
        ≡ cond (x.write.number == n) (left_entry flight.flight.bytes (v || flight.flight.ended) (get s.shelf.readers n)) (get s.shelf.readers n)
    readers_are v n =
        ap (λ (o : Option ℕ). get (on_write o (landed v) s.shelf).readers n) x.number
        ∙ ap (λ (f : Option InFlight). get (readers_left v x.write.number f s.shelf.readers) n) flight.at ∙ at-left n x.write.number v flight.flight s.shelf.readers

    -- the readers after it, with k requests as before
    pub landed_counts : (c : Call) (d : Change Kept) (cs : List (Change Kept)) (v : Bool) → changes_of start (c ∷ h) ≡ extended (changes_of start h) (d ∷ cs) → IsOrderly (changes_of start (c ∷ h))
        → lander c.event.action c.outcome ≡ Some r
        → lands x.write.number d ≡ true → ((n : ℕ) → bytes_of n (d ∷ changes_of start h) ≡ bytes_of n (changes_of start h))
        → (v || has_ended x.write.number (changes_of start h)) ≡ all_came x.write.number (d ∷ changes_of start h) → (n : ℕ)
        → CountFits n (get (on_write q.write (landed v) s.shelf).readers n) (streamers n s.requests) (changes_of start (c ∷ h))
    landed_counts c d cs v is o lander_is land same came n =
        subst (λ (y : Option Readers). CountFits n y (streamers n s.requests) (changes_of start (c ∷ h))) (sym (readers_are v n)) (by_number (x.write.number == n) refl)
      where
        whole : Bool
        whole = v || flight.flight.ended

        by_number : (t : Bool) → (x.write.number == n) ≡ t
            → CountFits n (cond t (left_entry flight.flight.bytes whole (get s.shelf.readers n)) (get s.shelf.readers n)) (streamers n s.requests) (changes_of start (c ∷ h))
        by_number true e =
            let one : x.write.number ≡ n = eqb-true x.write.number n e in
            subst (λ (past : Changes Kept). CountFits n (left_entry flight.flight.bytes whole (get s.shelf.readers n)) (streamers n s.requests) past) (sym is)
            (landed_on n d cs (changes_of start h) (get s.shelf.readers n) (streamers n s.requests) flight.flight.bytes whole (subst IsOrderly is o) (subst (λ (m : ℕ). lands m d ≡ true) one land) (same n)
            (flight.bytes ∙ ap (λ (m : ℕ). bytes_of m (changes_of start h)) one)
            (ap (λ e. v || e) flight.ended ∙ came ∙ ap (λ (m : ℕ). all_came m (d ∷ changes_of start h)) one) (counts n))
        by_number false e =
            count_on n (changes_at start c.event.action c.outcome c h (changes_of start h)) (changes_of start h) (get s.shelf.readers n) (streamers n s.requests) o
            (λ y known. changes_spare start n c.event.action c.outcome c h (known_below n y known)
            (λ k lands_k v held. let one : k ≡ r = let both : Some k ≡ Some r = sym lands_k ∙ lander_is in cc in
            let same_write : v ≡ x.write = let both : Some v ≡ Some x.write = sym held ∙ ap (λ (j : ℕ). write_held start j h) one ∙ x.held in cc in
            ap (λ (w : Write Kept). w.number == n) same_write ∙ e)) (counts n)

  -- a finish: its state, by whether the write lands
  landed_readers : (r : ℕ) (q : Request) (o : Outcome) → (after_finish (after_flight (has_stored o) s r q) q.write (finishing q s.shelf) o).shelf.readers ≡ (on_write q.write (landed (has_stored o)) s.shelf).readers
  landed_readers r q o = finish_readers (after_flight (has_stored o) s r q) q.write (finishing q s.shelf) o

  finish_same : (t : MomentValue) (i : Inside) (r : ℕ) (o : Outcome) (x : Option Request) → get s.requests r ≡ x → (n : ℕ)
      → streamers n (after s (call_at t (Finish r) i o)).requests ≡ streamers n s.requests
  finish_same t i r o None e = same_share (call_at t (Finish r) i o) r None refl e (λ n. refl)
  finish_same t i r o (Some q) e = same_share (call_at t (Finish r) i o) r (Some q) refl e (λ n. ap (streams_by n) (land_reader (is_landing o) q))

  -- what a finish that lands changes: first the write
  pub record Landing (w : Write Kept) (o : Outcome) : Type 0 where
    pub first : Change Kept
    pub rest : List (Change Kept)
    pub is : finish_changes (Some w) o (changes_of start h) ≡ first ∷ rest
    pub lands_it : lands w.number first ≡ true
    pub bytes : (n : ℕ) → bytes_of n (first ∷ changes_of start h) ≡ bytes_of n (changes_of start h)
    pub came : (has_stored o || has_ended w.number (changes_of start h)) ≡ all_came w.number (first ∷ changes_of start h)

  pub finish_lands : (t : MomentValue) (i : Inside) (r : ℕ) (q : Request) (o : Outcome) → get s.requests r ≡ Some q → (opens : IsOpen start r q h) → (x : Written start r q h)
      → is_landing o ≡ true → Landing x.write o
      → IsOrderly (changes_of start (call_at t (Finish r) i o ∷ h)) → Next (call_at t (Finish r) i o) (after s (call_at t (Finish r) i o))
  finish_lands t i r q o e opens x landing d orderly n =
      subst (λ (m : FinMap nat_cmp Readers). CountFits n (get m n) (streamers n (after s c).requests) (changes_of start (c ∷ h))) (sym readers)
      (subst (λ (k : ℕ). CountFits n (get (on_write q.write (landed (has_stored o)) s.shelf).readers n) k (changes_of start (c ∷ h))) (sym (finish_same t i r o (Some q) e n))
      (landed_counts r q opens x c d.first d.rest (has_stored o) (ap (λ (w : Option (Write Kept)). extended (changes_of start h) (finish_changes w o (changes_of start h))) x.held ∙ ap (extended (changes_of start h)) d.is) orderly
      (ap (λ v. cond v (Some r) None) landing) d.lands_it d.bytes d.came n))
    where
      c : Call
      c = call_at t (Finish r) i o

      by_outcome : (o : Outcome) → is_landing o ≡ true → (by_request s (Some q) (λ y. finished_state s r y o)).shelf.readers ≡ (on_write q.write (landed (has_stored o)) s.shelf).readers
      by_outcome o l = ap (λ v. (cond v (after_finish (after_flight (has_stored o) s r q) q.write (finishing q s.shelf) o) s).shelf.readers) l ∙ landed_readers r q o

      answered_is : (o : Outcome) → (after_outcome s t (Finish r) (call_at t (Finish r) i o) o).shelf.readers ≡ (by_request s (get s.requests r) (λ y. finished_state s r y o)).shelf.readers
      answered_is (Ok a) = refl
      answered_is (Err f) = refl

      readers : (after s c).shelf.readers ≡ (on_write q.write (landed (has_stored o)) s.shelf).readers
      readers = answered_is o ∙ ap (λ (y : Option Request). (by_request s y (λ z. finished_state s r z o)).shelf.readers) e ∙ by_outcome o landing

  -- one that doesn't
  pub finish_stays : (t : MomentValue) (i : Inside) (r : ℕ) (f : TierFault) → is_landing (Err f) ≡ false → IsOrderly (changes_of start (call_at t (Finish r) i (Err f) ∷ h))
      → Next (call_at t (Finish r) i (Err f)) (after s (call_at t (Finish r) i (Err f)))
  finish_stays t i r f stays orderly =
      kept_counts (call_at t (Finish r) i (Err f)) (after s (call_at t (Finish r) i (Err f))) orderly (ap (λ v. cond v (Some r) None) stays) (readers (get s.requests r)) (finish_same t i r (Err f) (get s.requests r) refl)
    where
      readers : (o : Option Request) → (by_request s o (λ q. finished_state s r q (Err f))).shelf.readers ≡ s.shelf.readers
      readers None = refl
      readers (Some q) = ap (λ v. (cond v (after_finish (after_flight (has_stored (Err f)) s r q) q.write (finishing q s.shelf) (Err f)) s).shelf.readers) stays

  -- an event of an open request that leaves its reader, and the readers, alone
  pub quiet_request : (c : Call) (r : ℕ) → IsOrderly (changes_of start (c ∷ h)) → lander c.event.action c.outcome ≡ None → named_by c.event.action ≡ Some r
      → (after s c).shelf.readers ≡ s.shelf.readers
      → ((n : ℕ) → share (streams n) (turn s c.event.moment c.event.action (judged_for s c) c.outcome (get s.requests r)) ≡ share (streams n) (get s.requests r)) → Next c (after s c)
  quiet_request c r orderly none named readers same = kept_counts c (after s c) orderly none readers (same_share c r (get s.requests r) named refl same)

  pub there : (o : Option Request) (P : Request → Type 0) → MatchOption o ⊥ P → (q : Request) × (o ≡ Some q) × P q
  there None P p = absurd p
  there (Some q) P p = (q, refl, p)

  pub request_readers : (o : Option Request) (f : Request → State) → ((q : Request) → (f q).shelf.readers ≡ s.shelf.readers) → (by_request s o f).shelf.readers ≡ s.shelf.readers
  request_readers None f e = refl
  request_readers (Some q) f e = e q

  pub pieced_readers : (o : Option ℕ) (bytes : List ℕ) (last : Bool) → (on_write o (pieced bytes last) s.shelf).readers ≡ s.shelf.readers
  pieced_readers None bytes last = refl
  pieced_readers (Some n) bytes true = refl
  pieced_readers (Some n) bytes false = refl
