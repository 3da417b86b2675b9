-- What a call leaves of the order of use: its limits and the number of its shards.
use Rattle.std.proofs.Common.{ℕ, true, false, cond}
use Rattle.std.specs.Prelude.{Bool, Option, Some, None, Ok, Err}
use Rattle.std.specs.FinMap.{get}
use Rattle.cache_words.specs.Time.{MomentValue}
use Rattle.cache_words.specs.Key.{CacheKeyValue}
use Rattle.cache_heads.specs.declared.meta.CacheMeta.{CacheMeta}
use Rattle.cache_entries.specs.Entry.{key_of}
use Rattle.tier_model.specs.declared.event.Action.{Action}
use Rattle.tier_model.specs.declared.event.Action.TheVariants.{Open, LookUp, Poll, Begin, Revalidate, Piece, Finish, Read, Drop, Purge, Put}
use Rattle.tier_model.specs.declared.event.Answer.{Answer}
use Rattle.tier_model.specs.declared.event.Answer.TheVariants.{Waited, Revalidated, Finished}
use Rattle.tier_model.specs.declared.event.Done.{Done}
use Rattle.tier_model.specs.declared.event.TierFault.{TierFault}
use Rattle.tier_model.specs.Keys.{entry_of, alone, stored_key_of}
use Rattle.tier_model.specs.Evictions.{all_gone}
use Rattle.tier_model.specs.Response.{Judged, kept}
use Rattle.tier_model.specs.Calls.{Call, Outcome, done_of, has_stored, judged_of, finished_by}
use Rattle.tier_model.specs.Histories.{is_landing}
use Rattle.tier_model.specs.Rows.{FinishedBody, weight_for}
use Rattle.tier_model.specs.Shelf.{Look, absent, in_flight, finished, look, is_there}
use Rattle.tier_model.specs.State.{Settings, Request, State, shards_of}
use Rattle.tier_model.specs.Answers.{look_for, admitted, weight_then, reweighed, confirmed_for, finishing}
use Rattle.tier_model.specs.After.{by_request, after_look, managed_after, after_begin, after_flight, after_put, until, taken_back, undone, after_finish, finished_state, after_purge, emptied, taken, renewed_for, after_confirmed, undone_renewal}
use Rattle.tier_model.specs.After.{answered, refused, after_outcome, after}
use Rattle.tier_model.proofs.RowSteps.{IsMade, made-put, made-used, made-anew, made-out, made-gone}

module _ (x : Settings) where
  put_made : (s : State) (n : Option ℕ) (b : Option FinishedBody) (a : Answer) → IsMade x s.managed → IsMade x (after_put s n b a).managed
  put_made s n (Some b) (Finished told es) m = made-gone x (shards_of s) es (admitted s b) (made-put x (shards_of s) (alone b.entry) (weight_for b.body) s.managed m)
  put_made s n (Some b) _ m = m
  put_made s n None a m = m

  until_made : (v : Bool) (s : State) (b : FinishedBody) → IsMade x s.managed → IsMade x (until v s b)
  until_made false s b m = m
  until_made true s b m = made-put x (shards_of s) (alone b.entry) (weight_for b.body) s.managed m

  back_made : (v : Bool) (s : State) (b : FinishedBody) (done : Done) → IsMade x s.managed → IsMade x (taken_back v s b done).managed
  back_made false s b done m = m
  back_made true s b done m = made-out x (shards_of s) (alone b.entry) (all_gone (shards_of s) done.evicted (until done.admitted s b)) (made-gone x (shards_of s) done.evicted (until done.admitted s b) (until_made done.admitted s b m))

  undone_made : (s : State) (b : Option FinishedBody) (done : Done) → IsMade x s.managed → IsMade x (undone s b done).managed
  undone_made s (Some b) done m = back_made done.stored s b done m
  undone_made s None done m = m

  finish_made : (s : State) (n : Option ℕ) (b : Option FinishedBody) (o : Outcome) → IsMade x s.managed → IsMade x (after_finish s n b o).managed
  finish_made s n b (Ok a) m = put_made s n b a m
  finish_made s n b (Err f) m = undone_made s b (done_of f) m

  landing_made : (v : Bool) (s : State) (r : ℕ) (q : Request) (o : Outcome) → IsMade x s.managed → IsMade x (cond v (after_finish (after_flight (has_stored o) s r q) q.write (finishing q s.shelf) o) s).managed
  landing_made true s r q o m = finish_made (after_flight (has_stored o) s r q) q.write (finishing q s.shelf) o m
  landing_made false s r q o m = m

  purge_made : (s : State) (key : CacheKeyValue) (v : Bool) → IsMade x s.managed → IsMade x (after_purge s key v).managed
  purge_made s key false m = m
  purge_made s key true m = made-out x (shards_of s) (alone (entry_of key)) s.managed m

  look_made : (s : State) (q : Request) (l : Look) → IsMade x s.managed → IsMade x (managed_after s q l)
  look_made s q absent m = m
  look_made s q (in_flight f) m = m
  look_made s q (finished b) m = made-used x (shards_of s) q.entry (weight_for b.body) s.managed m

  begin_made : (s : State) (r : ℕ) (q : Request) (j : Option Judged) → IsMade x s.managed → IsMade x (after_begin s r q j).managed
  begin_made s r q (Some (kept meta)) m = m
  begin_made s r q (Some _) m = m
  begin_made s r q None m = m

  renewed_made : (s : State) (q : Request) (meta : CacheMeta) → IsMade x s.managed → IsMade x (reweighed s q meta)
  renewed_made s q meta m = made-anew x (shards_of s) q.entry (weight_then q meta s.shelf) s.managed m

  confirmed_made : (s : State) (r : ℕ) (q : Request) (j : Option Judged) (a : Answer) → IsMade x s.managed → IsMade x (after_confirmed s r q j a).managed
  confirmed_made s r q (Some (kept meta)) (Revalidated es) m = made-gone x (shards_of s) es (reweighed s q meta) (renewed_made s q meta m)
  confirmed_made s r q (Some (kept meta)) _ m = m
  confirmed_made s r q (Some _) a m = m
  confirmed_made s r q None a m = m

  unrenewed_made : (s : State) (r : ℕ) (q : Request) (j : Option Judged) (done : Done) → IsMade x s.managed → IsMade x (undone_renewal s r q j done).managed
  unrenewed_made s r q (Some (kept meta)) done m = by_stored done.stored
    where
      by_stored : (v : Bool) → IsMade x (cond v (taken (shards_of s) (key_of q.entry) (emptied (shards_of s) done.evicted (renewed_for s r q meta))) s).managed
      by_stored true = made-out x (shards_of s) (alone (key_of q.entry)) (all_gone (shards_of s) done.evicted (reweighed s q meta)) (made-gone x (shards_of s) done.evicted (reweighed s q meta) (renewed_made s q meta m))
      by_stored false = m
  unrenewed_made s r q (Some _) done m = m
  unrenewed_made s r q None done m = m

  request_made : (s : State) (o : Option Request) (f : Request → State) → IsMade x s.managed → ((q : Request) → IsMade x (f q).managed) → IsMade x (by_request s o f).managed
  request_made s None f m h = m
  request_made s (Some q) f m h = h q

  answer_made : (s : State) (t : MomentValue) (action : Action) (c : Call) (a : Answer) → IsMade x s.managed → IsMade x (answered s t action c a).managed
  answer_made s t (Open r key asks) c a m = m
  answer_made s t (LookUp r) c a m = request_made s (get s.requests r) (λ q. after_look s t r q (look_for q s.shelf)) m (λ q. look_made s q (look_for q s.shelf) m)
  answer_made s t (Poll r) c (Waited outcome) m = request_made s (get s.requests r) _ m (λ q. m)
  answer_made s t (Poll r) c _ m = m
  answer_made s t (Begin r head given) c a m = request_made s (get s.requests r) (λ q. after_begin s r q (judged_of c)) m (λ q. begin_made s r q (judged_of c) m)
  answer_made s t (Revalidate r head given) c a m = request_made s (get s.requests r) (λ q. after_confirmed s r q (confirmed_for q c) a) m (λ q. confirmed_made s r q (confirmed_for q c) a m)
  answer_made s t (Piece r bytes last) c a m = request_made s (get s.requests r) _ m (λ q. m)
  answer_made s t (Finish r) c a m = request_made s (get s.requests r) (λ q. finished_state s r q (Ok a)) m (λ q. landing_made true s r q (Ok a) m)
  answer_made s t (Read r) c a m = request_made s (get s.requests r) _ m (λ q. m)
  answer_made s t (Drop r) c a m = request_made s (get s.requests r) _ m (λ q. m)
  answer_made s t (Purge key) c a m = purge_made s key (is_there (look (stored_key_of key) s.shelf)) m
  answer_made s t (Put key pieces given) c a m = put_made s (Some s.shelf.writes) (finished_by c) a m

  refused_made : (s : State) (action : Action) (c : Call) (f : TierFault) → IsMade x s.managed → IsMade x (refused s action c f).managed
  refused_made s (Revalidate r head given) c f m =
      request_made s (get s.requests r) (λ q. undone_renewal s r q (confirmed_for q c) (done_of f)) m (λ q. unrenewed_made s r q (confirmed_for q c) (done_of f) m)
  refused_made s (Finish r) c f m = request_made s (get s.requests r) (λ q. finished_state s r q (Err f)) m (λ q. landing_made (is_landing (Err f)) s r q (Err f) m)
  refused_made s (Put key pieces given) c f m = undone_made s (finished_by c) (done_of f) m
  refused_made s _ c f m = m

pub made-after : (s : State) (c : Call) (x : Settings) → IsMade x s.managed → IsMade x (after s c).managed
made-after s c x m = by_outcome c.outcome
  where
    by_outcome : (o : Outcome) → IsMade x (after_outcome s c.event.moment c.event.action c o).managed
    by_outcome (Ok a) = answer_made x s c.event.moment c.event.action c a m
    by_outcome (Err f) = refused_made x s c.event.action c f m
