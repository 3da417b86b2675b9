-- What an answer adds to the counts of a state.
use Rattle.std.proofs.Common.{◌≡◌, ℕ, ◌+◌, refl, ap, sym, ◌∙◌, true, false, subst, cond, [], ◌∷◌, length, arith}
use Rattle.std.specs.Prelude.{Bool, List, Option, Some, None, Ok, Err, MatchOption}
use Rattle.std.specs.FinMap.{get}
use Rattle.cache_words.specs.Time.{MomentValue}
use Rattle.cache_words.specs.Key.{CacheKeyValue}
use Rattle.tier_model.specs.declared.whole.PutVerdict.{PutVerdict}
use Rattle.tier_model.specs.declared.whole.PutVerdict.TheVariants as whole
use Rattle.tier_model.specs.declared.event.Action.{Action}
use Rattle.tier_model.specs.declared.event.Action.TheVariants.{Open, LookUp, Poll, Begin, Revalidate, Piece, Finish, Read, Drop, Purge, Put}
use Rattle.tier_model.specs.declared.event.Answer.{Answer}
use Rattle.tier_model.specs.declared.event.Answer.TheVariants.{Waited, Purged, Finished, Revalidated}
use Rattle.tier_model.specs.declared.event.Answer.TheVariants as answer
use Rattle.tier_model.specs.declared.event.LockGiven.{LockGiven}
use Rattle.tier_model.specs.declared.event.Done.{Done}
use Rattle.tier_model.specs.declared.event.TierFault.{TierFault}
use Rattle.tier_model.specs.Keys.{stored_key_of}
use Rattle.tier_model.specs.Response.{Judged, kept, not_kept, too_early, not_read}
use Rattle.tier_model.specs.Calls.{Call, History, Outcome, judged_of, read_by, finished_by, evicted_by, nothing_done, done_of, has_stored}
use Rattle.cache_evict.specs.Managed.{saturated}
use Rattle.tier_model.specs.Reports.{found_answers, absent_answers, evictions, is_found, is_absent}
use Rattle.tier_model.specs.Rows.{FinishedBody}
use Rattle.tier_model.specs.Shelf.{Shelf, Look, absent, in_flight, finished, look, is_there, past_place, readable}
use Rattle.tier_model.specs.State.{Reader, closed, unread, spent, streaming, Request, State, shards_of}
use Rattle.tier_model.specs.Answers.{look_for, lock_given, look_answer, next_by, read_answer, admitted, IsStored, IsPutAnswer, IsBeginAnswer, reweighed, confirmed_for, IsConfirmed, IsRevalidateAnswer, finishing, polled}
use Rattle.tier_model.specs.Step.{UseFits, IsAnswer}
use Rattle.tier_model.specs.After.{counted, counted_if, by_request, after_look, after_begin, after_flight, after_put, until, taken_back, undone, finished_state, after_purge, with_request, confirmed, after_confirmed, answered}
use Rattle.tier_model.proofs.RowSteps.{gone-count}

-- the counts of a state are those of its history
pub record Tallies (s : State) (h : History) : Type 0 where
  pub found : s.found ≡ saturated (found_answers h)
  pub absent : s.absent ≡ saturated (absent_answers h)
  pub evicted : s.managed.evicted_items ≡ saturated (evictions h)

-- what an outcome adds to the counts
pub record Counts (old new : State) (o : Outcome) : Type 0 where
  pub found : new.found ≡ counted_if (is_found o) old.found
  pub absent : new.absent ≡ counted_if (is_absent o) old.absent
  pub evicted : (k : ℕ) → old.managed.evicted_items ≡ saturated k → new.managed.evicted_items ≡ saturated (k + length (evicted_by o))

-- an outcome that reports of nothing counted
pub record IsQuiet (o : Outcome) : Type 0 where
  pub found : is_found o ≡ false
  pub absent : is_absent o ≡ false
  pub evicted : evicted_by o ≡ []

pub quiet : (s new : State) (o : Outcome) → new.found ≡ s.found → new.absent ≡ s.absent → new.managed.evicted_items ≡ s.managed.evicted_items → IsQuiet o → Counts s new o
quiet s new o f a e q = record {
  found = f ∙ ap (λ v. counted_if v s.found) (sym q.found);
  absent = a ∙ ap (λ v. counted_if v s.absent) (sym q.absent);
  evicted = λ k is. e ∙ is ∙ ap saturated (omega (arith, ap length q.evicted));
}

plain_quiet : (a : Answer) → is_found (Ok a) ≡ false → is_absent (Ok a) ≡ false → evicted_by (Ok a) ≡ [] → IsQuiet (Ok a)
plain_quiet a f b e = record { found = f; absent = b; evicted = e }

more_shown : (n m k : ℕ) → n ≡ saturated m → counted n k ≡ saturated (m + k)
more_shown n m k e = rw e (omega arith)

counted_on : (v : Bool) (n m : ℕ) → n ≡ saturated m → counted_if v n ≡ saturated (cond v (m + 1) m)
counted_on true n m e = more_shown n m 1 e
counted_on false n m e = e

pub Tallies-counted : (s new : State) (c : Call) (h : History) → Counts s new c.outcome → Tallies s h → Tallies new (c ∷ h)
Tallies-counted s new c h counts t = record {
  found = counts.found ∙ counted_on (is_found c.outcome) s.found (found_answers h) t.found;
  absent = counts.absent ∙ counted_on (is_absent c.outcome) s.absent (absent_answers h) t.absent;
  evicted = counts.evicted (evictions h) t.evicted;
}

-- an event of an open request
of_request : (o : Option Request) (P : Request → Type 0) → MatchOption o ⊥ P → (q : Request) × (o ≡ Some q) × P q
of_request None P p = absurd p
of_request (Some q) P p = (q, refl, p)

pub request_quiet : (s : State) (x : Option Request) (f : Request → State) (o : Outcome) → IsQuiet o → ((q : Request) → Counts s (f q) o) → Counts s (by_request s x f) o
request_quiet s None f o q h = quiet s s o refl refl refl q
request_quiet s (Some y) f o q h = h y

look_counts : (s : State) (t : MomentValue) (r : ℕ) (q : Request) (given : LockGiven) (l : Look) → Counts s (after_look s t r q l) (Ok (look_answer t given l))
look_counts s t r q given absent = record { found = refl; absent = refl; evicted = λ k e. e ∙ ap saturated (omega arith) }
look_counts s t r q given (in_flight f) = record { found = refl; absent = refl; evicted = λ k e. e ∙ ap saturated (omega arith) }
look_counts s t r q given (finished b) = record { found = refl; absent = refl; evicted = λ k e. e ∙ ap saturated (omega arith) }

request_counts : (s : State) (t : MomentValue) (r : ℕ) (x : Option Request) (a : Answer)
    → MatchOption x ⊥ (λ q. (a ≡ look_answer t (lock_given t q (look_for q s.shelf) s.lock) (look_for q s.shelf)) × UseFits s q (look_for q s.shelf))
    → Counts s (by_request s x (λ q. after_look s t r q (look_for q s.shelf))) (Ok a)
request_counts s t r None a p = absurd p
request_counts s t r (Some q) a p =
    subst (λ (y : Answer). Counts s (after_look s t r q (look_for q s.shelf)) (Ok y)) (sym p.0) (look_counts s t r q (lock_given t q (look_for q s.shelf) s.lock) (look_for q s.shelf))

next_quiet : (bytes : List ℕ) (over : Bool) → IsQuiet (Ok (next_by bytes over))
next_quiet [] true = record { found = refl; absent = refl; evicted = refl }
next_quiet [] false = record { found = refl; absent = refl; evicted = refl }
next_quiet (b ∷ bytes) over = record { found = refl; absent = refl; evicted = refl }

read_quiet : (r : Reader) (shelf : Shelf) → IsQuiet (Ok (read_answer r shelf))
read_quiet closed shelf = record { found = refl; absent = refl; evicted = refl }
read_quiet (unread bytes) shelf = record { found = refl; absent = refl; evicted = refl }
read_quiet spent shelf = record { found = refl; absent = refl; evicted = refl }
read_quiet (streaming n place) shelf = next_quiet (past_place place (readable n shelf)).0 (past_place place (readable n shelf)).1

begin_quiet : (j : Option Judged) (a : Answer) → IsBeginAnswer j a → IsQuiet (Ok a)
begin_quiet (Some (kept meta)) a p = subst (λ (y : Answer). IsQuiet (Ok y)) (sym p) (record { found = refl; absent = refl; evicted = refl })
begin_quiet (Some (not_kept reason)) a p = subst (λ (y : Answer). IsQuiet (Ok y)) (sym p) (record { found = refl; absent = refl; evicted = refl })
begin_quiet (Some too_early) a p = absurd p
begin_quiet (Some not_read) a p = absurd p
begin_quiet None a p = absurd p

begin_counts : (s : State) (r : ℕ) (q : Request) (j : Option Judged) (o : Outcome) → IsQuiet o → Counts s (after_begin s r q j) o
begin_counts s r q (Some (kept meta)) o h = quiet s (after_begin s r q (Some (kept meta))) o refl refl refl h
begin_counts s r q (Some (not_kept reason)) o h = quiet s (after_begin s r q (Some (not_kept reason))) o refl refl refl h
begin_counts s r q (Some too_early) o h = quiet s (after_begin s r q (Some too_early)) o refl refl refl h
begin_counts s r q (Some not_read) o h = quiet s (after_begin s r q (Some not_read)) o refl refl refl h
begin_counts s r q None o h = quiet s (after_begin s r q None) o refl refl refl h

-- a body that is renewed, or may not be kept
confirmed_counts : (s : State) (r : ℕ) (q : Request) (j : Option Judged) (a : Answer) → IsConfirmed s q j a → Counts s (after_confirmed s r q j a) (Ok a)
confirmed_counts s r q (Some (kept meta)) (Revalidated es) p = record { found = refl; absent = refl; evicted = λ k is. gone-count (shards_of s) k es (reweighed s q meta) is }
confirmed_counts s r q (Some (kept meta)) _ p = absurd p
confirmed_counts s r q (Some (not_kept reason)) a p =
    subst (λ (y : Answer). Counts s (with_request r (confirmed q) s) (Ok y)) (sym p) (quiet s (with_request r (confirmed q) s) (Ok (answer.Uncacheable reason)) refl refl refl (record { found = refl; absent = refl; evicted = refl }))
confirmed_counts s r q (Some too_early) a p = absurd p
confirmed_counts s r q (Some not_read) a p = absurd p
confirmed_counts s r q None a p = absurd p

confirms_counts : (s : State) (r : ℕ) (c : Call) (x : Option Request) (a : Answer) → MatchOption x ⊥ (λ q. IsRevalidateAnswer s q (confirmed_for q c) a)
    → Counts s (by_request s x (λ q. after_confirmed s r q (confirmed_for q c) a)) (Ok a)
confirms_counts s r c None a p = absurd p
confirms_counts s r c (Some q) a p = confirmed_counts s r q (confirmed_for q c) a p.1

-- a body that is stored, in a state with the same order of use
stored_counts : (s new : State) (n : Option ℕ) (b : FinishedBody) (a : Answer) → new.found ≡ s.found → new.absent ≡ s.absent → new.managed ≡ s.managed → IsStored s b a → Counts s (after_put new n (Some b) a) (Ok a)
stored_counts s new n b (Finished told es) f e m p = record {
  found = f;
  absent = e;
  evicted = λ k is. gone-count (shards_of new) k es (admitted new b) (ap (λ x. x.evicted_items) m ∙ is);
}
stored_counts s new n b _ f e m p = absurd p

until_count : (v : Bool) (s : State) (b : FinishedBody) → (until v s b).evicted_items ≡ s.managed.evicted_items
until_count false s b = refl
until_count true s b = refl

-- and one that is taken back
pub back_counts : (s new : State) (b : FinishedBody) (f : TierFault) → new.found ≡ s.found → new.absent ≡ s.absent → new.managed ≡ s.managed → (done_of f).stored ≡ true
    → Counts s (undone new (Some b) (done_of f)) (Err f)
back_counts s new b f g e m stored =
    subst (λ (v : Bool). Counts s (taken_back v new b (done_of f)) (Err f)) (sym stored) (record {
      found = g;
      absent = e;
      evicted = λ k is. gone-count (shards_of new) k (done_of f).evicted (until (done_of f).admitted new b) (until_count (done_of f).admitted new b ∙ ap (λ x. x.evicted_items) m ∙ is)
          ∙ ap (λ (v : Bool). saturated (k + length (cond v (done_of f).evicted []))) (sym stored);
    })

pub fault_quiet : (f : TierFault) → done_of f ≡ nothing_done → IsQuiet (Err f)
fault_quiet f d = record { found = refl; absent = refl; evicted = subst (λ (x : Done). cond x.stored x.evicted [] ≡ []) (sym d) refl }

pub quiet_undone : (s : State) (b : Option FinishedBody) (done : Done) → done ≡ nothing_done → undone s b done ≡ s
quiet_undone s (Some b) done e = rw e refl
quiet_undone s None done e = refl

put_counts : (s : State) (n : Option ℕ) (b : Option FinishedBody) (w : Option PutVerdict) (a : Answer) → IsPutAnswer s b w a → Counts s (after_put s n b a) (Ok a)
put_counts s n (Some b) w a p = stored_counts s s n b a refl refl refl p
put_counts s n None (Some (whole.Uncacheable reason)) (answer.Uncacheable shown) p = quiet s s (Ok (answer.Uncacheable shown)) refl refl refl (record { found = refl; absent = refl; evicted = refl })
put_counts s n None (Some (whole.Uncacheable reason)) _ p = absurd p
put_counts s n None (Some (whole.Stored body)) a p = absurd p
put_counts s n None (Some whole.Incomplete) a p = absurd p
put_counts s n None (Some whole.BadHead) a p = absurd p
put_counts s n None (Some whole.BeforeEpoch) a p = absurd p
put_counts s n None None a p = absurd p

finish_counts : (s new : State) (n : Option ℕ) (b : Option FinishedBody) (a : Answer) → new.found ≡ s.found → new.absent ≡ s.absent → new.managed ≡ s.managed → MatchOption b ⊥ (λ b. IsStored s b a)
    → Counts s (after_put new n b a) (Ok a)
finish_counts s new n None a f e m p = absurd p
finish_counts s new n (Some b) a f e m p = stored_counts s new n b a f e m p

finishes_counts : (s : State) (r : ℕ) (x : Option Request) (a : Answer) → MatchOption x ⊥ (λ q. MatchOption (finishing q s.shelf) ⊥ (λ b. IsStored s b a))
    → Counts s (by_request s x (λ q. finished_state s r q (Ok a))) (Ok a)
finishes_counts s r None a p = absurd p
finishes_counts s r (Some q) a p = finish_counts s (after_flight (has_stored (Ok a)) s r q) q.write (finishing q s.shelf) a refl refl refl p

purge_counts : (s : State) (key : CacheKeyValue) (v : Bool) → Counts s (after_purge s key v) (Ok (Purged v))
purge_counts s key true = quiet s (after_purge s key true) (Ok (Purged true)) refl refl refl (record { found = refl; absent = refl; evicted = refl })
purge_counts s key false = quiet s s (Ok (Purged false)) refl refl refl (record { found = refl; absent = refl; evicted = refl })

pub answer_counts : (s : State) (t : MomentValue) (action : Action) (c : Call) (a : Answer) → IsAnswer s t action c a → Counts s (answered s t action c a) (Ok a)
answer_counts s t (Open r key asks) c a p = quiet s (answered s t (Open r key asks) c a) (Ok a) refl refl refl (subst (λ (y : Answer). IsQuiet (Ok y)) (sym p) (record { found = refl; absent = refl; evicted = refl }))
answer_counts s t (LookUp r) c a p = request_counts s t r (get s.requests r) a p
answer_counts s t (Poll r) c a p =
    let q = of_request (get s.requests r) (λ q. a ≡ Waited (polled s.lock t q q.held)) p in
    subst (λ (y : Answer). Counts s (answered s t (Poll r) c y) (Ok y)) (sym q.2)
    (request_quiet s (get s.requests r) _ (Ok (Waited (polled s.lock t q.0 q.0.held))) (record { found = refl; absent = refl; evicted = refl })
    (λ y. quiet s _ (Ok (Waited (polled s.lock t q.0 q.0.held))) refl refl refl (record { found = refl; absent = refl; evicted = refl })))
answer_counts s t (Begin r head given) c a p =
    request_quiet s (get s.requests r) (λ q. after_begin s r q (judged_of c)) (Ok a) (begin_quiet (judged_of c) a p) (λ q. begin_counts s r q (judged_of c) (Ok a) (begin_quiet (judged_of c) a p))
answer_counts s t (Revalidate r head given) c a p = confirms_counts s r c (get s.requests r) a p
answer_counts s t (Piece r bytes last) c a p =
    let h : IsQuiet (Ok a) = subst (λ (y : Answer). IsQuiet (Ok y)) (sym p) (record { found = refl; absent = refl; evicted = refl }) in
    request_quiet s (get s.requests r) _ (Ok a) h (λ q. quiet s _ (Ok a) refl refl refl h)
answer_counts s t (Finish r) c a p = finishes_counts s r (get s.requests r) a p
answer_counts s t (Read r) c a p =
    let q = of_request (get s.requests r) (λ q. a ≡ read_answer q.reader s.shelf) p in
    let h : IsQuiet (Ok a) = subst (λ (y : Answer). IsQuiet (Ok y)) (sym q.2) (read_quiet q.0.reader s.shelf) in
    request_quiet s (get s.requests r) _ (Ok a) h (λ y. quiet s _ (Ok a) refl refl refl h)
answer_counts s t (Drop r) c a p =
    let h : IsQuiet (Ok a) = subst (λ (y : Answer). IsQuiet (Ok y)) (sym p) (record { found = refl; absent = refl; evicted = refl }) in
    request_quiet s (get s.requests r) _ (Ok a) h (λ y. quiet s _ (Ok a) refl refl refl h)
answer_counts s t (Purge key) c a p =
    subst (λ (y : Answer). Counts s (answered s t (Purge key) c y) (Ok y)) (sym p) (purge_counts s key (is_there (look (stored_key_of key) s.shelf)))
answer_counts s t (Put key pieces given) c a p = put_counts s (Some s.shelf.writes) (finished_by c) (read_by c) a p
