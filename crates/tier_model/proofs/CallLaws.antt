-- What a call does to open requests: to the one that it names, and nothing to the others.
use Rattle.std.proofs.Common.{◌≡◌, ℕ, refl, ap, sym, ◌∙◌, true, false, cond, ◌==◌}
use Rattle.std.specs.Prelude.{Bool, List, Option, Some, None, option_map, Ok, Err}
use Rattle.std.specs.FinMap.{FinMap, get, insert, remove, get-insert, get-remove}
use Rattle.std.specs.Ordering.{nat_cmp}
use Rattle.std.specs.Cmp.{unsigned_tied}
use Rattle.std.proofs.lemmas.Cmp.{nat_cmp_total, eq_by_cmp_equiv}
use Rattle.std.proofs.lemmas.Bool.{eqb-true, eq-eqb}
use Rattle.cache_words.specs.Time.{MomentValue}
use Rattle.cache_words.specs.Key.{CacheKeyValue}
use Rattle.cache_changes.specs.Changes.{Change, Changes}
use Rattle.cache_heads.specs.declared.meta.CacheMeta.{CacheMeta}
use Rattle.cache_entries.specs.Entry.{key_of}
use Rattle.head_parse.specs.Response.{Reading}
use Rattle.tier_model.specs.declared.event.Action.{Action}
use Rattle.tier_model.specs.declared.event.Action.TheVariants.{Open, LookUp, Poll, Begin, Revalidate, Piece, Finish, Read, Drop, Purge, Put}
use Rattle.tier_model.specs.declared.event.Answer.{Answer}
use Rattle.tier_model.specs.declared.event.Answer.TheVariants.{Waited, Revalidated, Finished}
use Rattle.tier_model.specs.declared.event.Done.{Done}
use Rattle.tier_model.specs.declared.event.TierFault.{TierFault}
use Rattle.tier_model.specs.Keys.{entry_of, stored_key_of}
use Rattle.tier_model.specs.Shelf.{is_there, look}
use Rattle.tier_model.specs.Calls.{Call, History, Outcome, done_of, has_stored, judged_of, finished_by}
use Rattle.tier_model.specs.Histories.{Kept, Opening, is_landing, changes_in, write_held, begun_by, renewal_by}
use Rattle.tier_model.specs.Response.{Judged, kept}
use Rattle.tier_model.specs.Rows.{FinishedBody}
use Rattle.tier_model.specs.State.{disabled, nothing, closed, Request, State, shards_of}
use Rattle.tier_model.specs.Answers.{look_for, confirmed_for, finishing}
use Rattle.tier_model.specs.After.{by_request, on_request, with_request, opened_request, looked, after_look, after_wait, after_begin, writing, after_flight, on_write, pieced, after_put}
use Rattle.tier_model.specs.After.{after_finish, finished_state, taken_back, undone, after_purge, emptied, taken, confirmed, renewed_for, after_confirmed, undone_renewal, without_request, read_on, answered, refused, after_outcome, after}

-- a call by its parts: a reading of its response or head, whether a write began, and whether a lock was given
pub record Inside : Type 0 where
  pub reading : Option Reading
  pub began : Bool
  pub asked : Bool

abbrev pub call_at : MomentValue → Action → Inside → Outcome → Call
call_at t action i outcome = record { event = record { moment = t; action = action }; outcome = outcome; reading = i.reading; began = i.began; asked = i.asked }

-- what a call changes, in the light of the calls before it
abbrev pub changes_at : Opening → Action → Outcome → Call → History → Changes Kept → List (Change Kept)
changes_at start action o c h before = changes_in start (λ id. begun_by start id c h) (λ id. renewal_by start id c h) (λ id. write_held start id h) action o c h before

-- the request that an event names
abbrev pub named_by : Action → Option ℕ
named_by (Open id key asks) = Some id
named_by (LookUp id) = Some id
named_by (Poll id) = Some id
named_by (Begin id head given) = Some id
named_by (Revalidate id head given) = Some id
named_by (Piece id bytes last) = Some id
named_by (Finish id) = Some id
named_by (Read id) = Some id
named_by (Drop id) = Some id
named_by (Purge key) = None
named_by (Put key pieces given) = None

abbrev pub is_named : ℕ → Option ℕ → Bool
is_named id None = false
is_named id (Some r) = r == id

pub itself : (i : ℕ) → (i == i) ≡ true
itself i = eq-eqb i i refl

-- ---- the request that is named

abbrev pub begin_turn : State → Option Judged → Request → Request
begin_turn s (Some (kept meta)) q = writing s.shelf.writes q
begin_turn s _ q = record q { phase = disabled; held = nothing; seen = None; reader = closed }

-- after a refused revalidation that had renewed the body, and after another one
abbrev pub back_turn : Option Judged → Bool → Request → Request
back_turn (Some (kept meta)) stored q = cond stored (confirmed q) q
back_turn _ stored q = q

abbrev pub land_turn : Bool → Request → Request
land_turn true q = record q { write = None }
land_turn false q = q

abbrev pub read_turn : Answer → Request → Request
read_turn a q = record q { reader = read_on a q.reader }

abbrev pub judged_at : State → Action → Call → Option Judged
judged_at s (Revalidate id head given) c = by_request None (get s.requests id) (λ q. confirmed_for q c)
judged_at s _ c = judged_of c

-- what the head of a begin or a revalidation gives
abbrev pub judged_for : State → Call → Option Judged
judged_for s c = judged_at s c.event.action c

-- what a call makes of the request that it names
abbrev pub turn : State → MomentValue → Action → Option Judged → Outcome → Option Request → Option Request
turn s t (Open id key asks) j (Ok a) o = Some (opened_request s.wait (entry_of key) asks)
turn s t (LookUp id) j (Ok a) o = option_map (λ q. looked t q (look_for q s.shelf) s.lock) o
turn s t (Poll id) j (Ok (Waited outcome)) o = option_map (λ q. after_wait t outcome q.held q) o
turn s t (Begin id head given) j (Ok a) o = option_map (begin_turn s j) o
turn s t (Revalidate id head given) j (Ok a) o = option_map confirmed o
turn s t (Revalidate id head given) j (Err f) o = option_map (back_turn j (done_of f).stored) o
turn s t (Finish id) j outcome o = option_map (land_turn (is_landing outcome)) o
turn s t (Read id) j (Ok a) o = option_map (read_turn a) o
turn s t (Drop id) j (Ok a) o = None
turn s t _ j _ o = o

pub at-insert : {X : Type 0} (m : FinMap nat_cmp X) (i : ℕ) (q : X) (id : ℕ) → get (insert m i q) id ≡ cond (i == id) (Some q) (get m id)
at-insert m i q id = get-insert nat_cmp_total m i q id ∙ ap (λ t. cond t (Some q) (get m id)) ((eq_by_cmp_equiv nat_cmp_total).symm id i ∙ unsigned_tied i id)

pub at-remove : {X : Type 0} (m : FinMap nat_cmp X) (i : ℕ) (id : ℕ) → get (remove m i) id ≡ cond (i == id) None (get m id)
at-remove m i id = get-remove nat_cmp_total m i id ∙ ap (λ t. cond t None (get m id)) ((eq_by_cmp_equiv nat_cmp_total).symm id i ∙ unsigned_tied i id)

-- what stores a body or takes it back leaves the requests alone
put_requests : (s : State) (n : Option ℕ) (b : Option FinishedBody) (a : Answer) → (after_put s n b a).requests ≡ s.requests
put_requests s n (Some b) (Finished told es) = refl
put_requests s n (Some b) _ = refl
put_requests s n None a = refl

back_requests : (v : Bool) (s : State) (b : FinishedBody) (done : Done) → (taken_back v s b done).requests ≡ s.requests
back_requests false s b done = refl
back_requests true s b done = refl

undone_requests : (s : State) (b : Option FinishedBody) (done : Done) → (undone s b done).requests ≡ s.requests
undone_requests s (Some b) done = back_requests done.stored s b done
undone_requests s None done = refl

finish_requests : (s : State) (n : Option ℕ) (b : Option FinishedBody) (o : Outcome) → (after_finish s n b o).requests ≡ s.requests
finish_requests s n b (Ok a) = put_requests s n b a
finish_requests s n b (Err f) = undone_requests s b (done_of f)

purge_requests : (s : State) (key : CacheKeyValue) (v : Bool) → (after_purge s key v).requests ≡ s.requests
purge_requests s key false = refl
purge_requests s key true = refl

-- the requests after a call: the one that is named turns, the others stay
abbrev Turned : State → MomentValue → Action → Option Judged → Outcome → ℕ → State → Type 0
Turned s t action j o id new = get new.requests id ≡ cond (is_named id (named_by action)) (turn s t action j o (get s.requests id)) (get s.requests id)

same_either : (v : Bool) (o : Option Request) → o ≡ cond v o o
same_either true o = refl
same_either false o = refl

-- an event of an open request that writes another in its place
placed : (s : State) (r id : ℕ) (f : Request → Request) (o : Option Request) → get s.requests r ≡ o
    → get (by_request s o (λ q. with_request r (f q) s)).requests id ≡ cond (r == id) (option_map f (get s.requests id)) (get s.requests id)
placed s r id f None e = by_id (r == id) refl
  where
    by_id : (v : Bool) → (r == id) ≡ v → get s.requests id ≡ cond v (option_map f (get s.requests id)) (get s.requests id)
    by_id true same =
        let none : get s.requests id ≡ None = ap (get s.requests) (sym (eqb-true r id same)) ∙ e in
        none ∙ sym (ap (option_map f) none)
    by_id false same = refl
placed s r id f (Some q) e = at-insert s.requests r (f q) id ∙ by_id (r == id) refl
  where
    by_id : (v : Bool) → (r == id) ≡ v → cond v (Some (f q)) (get s.requests id) ≡ cond v (option_map f (get s.requests id)) (get s.requests id)
    by_id true same = sym (ap (option_map f) (ap (get s.requests) (sym (eqb-true r id same)) ∙ e))
    by_id false same = refl

-- the same, whatever else the event does
placed_as : (s : State) (r id : ℕ) (f : Request → Request) (g : Request → State) → ((q : Request) → (g q).requests ≡ insert s.requests r (f q))
    → get (on_request s r g).requests id ≡ cond (r == id) (option_map f (get s.requests id)) (get s.requests id)
placed_as s r id f g h = by_there (get s.requests r) ∙ placed s r id f (get s.requests r) refl
  where
    by_there : (o : Option Request) → get (by_request s o g).requests id ≡ get (by_request s o (λ q. with_request r (f q) s)).requests id
    by_there None = refl
    by_there (Some q) = ap (λ (m : FinMap nat_cmp Request). get m id) (h q)

begin_requests : (s : State) (r : ℕ) (q : Request) (j : Option Judged) → (after_begin s r q j).requests ≡ insert s.requests r (begin_turn s j q)
begin_requests s r q (Some (kept meta)) = refl
begin_requests s r q (Some _) = refl
begin_requests s r q None = refl

confirm_requests : (s : State) (r : ℕ) (q : Request) (j : Option Judged) (a : Answer) → (after_confirmed s r q j a).requests ≡ insert s.requests r (confirmed q)
confirm_requests s r q (Some (kept meta)) (Revalidated evicted) = refl
confirm_requests s r q (Some (kept meta)) _ = refl
confirm_requests s r q (Some _) a = refl
confirm_requests s r q None a = refl

-- a revalidation that is refused
renewal_turned : (s : State) (r id : ℕ) (c : Call) (done : Done) → get (on_request s r (λ q. undone_renewal s r q (confirmed_for q c) done)).requests id
    ≡ cond (r == id) (option_map (back_turn (by_request None (get s.requests r) (λ q. confirmed_for q c)) done.stored) (get s.requests id)) (get s.requests id)
renewal_turned s r id c done = by_there (get s.requests r) refl
  where
    same_mapped : (v : Bool) (o : Option Request) → o ≡ cond v (option_map (λ q. q) o) o
    same_mapped true None = refl
    same_mapped true (Some q) = refl
    same_mapped false o = refl

    by_stored : (q : Request) → get s.requests r ≡ Some q → (meta : CacheMeta) (v : Bool)
        → get (cond v (taken (shards_of s) (key_of q.entry) (emptied (shards_of s) done.evicted (renewed_for s r q meta))) s).requests id
        ≡ cond (r == id) (option_map (λ x. cond v (confirmed x) x) (get s.requests id)) (get s.requests id)
    by_stored q e meta true = sym (ap (λ (o : Option Request). get (by_request s o (λ x. with_request r (confirmed x) s)).requests id) e) ∙ placed s r id confirmed (get s.requests r) refl
    by_stored q e meta false = same_mapped (r == id) (get s.requests id)

    by_head : (q : Request) → get s.requests r ≡ Some q → (j : Option Judged)
        → get (undone_renewal s r q j done).requests id ≡ cond (r == id) (option_map (back_turn j done.stored) (get s.requests id)) (get s.requests id)
    by_head q e (Some (kept meta)) = by_stored q e meta done.stored
    by_head q e (Some _) = same_mapped (r == id) (get s.requests id)
    by_head q e None = same_mapped (r == id) (get s.requests id)

    by_there : (o : Option Request) → get s.requests r ≡ o → get (by_request s o (λ q. undone_renewal s r q (confirmed_for q c) done)).requests id
        ≡ cond (r == id) (option_map (back_turn (by_request None o (λ q. confirmed_for q c)) done.stored) (get s.requests id)) (get s.requests id)
    by_there None e = same_mapped (r == id) (get s.requests id)
    by_there (Some q) e = by_head q e (confirmed_for q c)

finish_turned : (s : State) (r id : ℕ) (outcome : Outcome) → get (on_request s r (λ q. finished_state s r q outcome)).requests id
    ≡ cond (r == id) (option_map (land_turn (is_landing outcome)) (get s.requests id)) (get s.requests id)
finish_turned s r id outcome = by_landing (is_landing outcome)
  where
    by_same : (v : Bool) (o : Option Request) → o ≡ cond v (option_map (land_turn false) o) o
    by_same true None = refl
    by_same true (Some q) = refl
    by_same false o = refl

    kept_all : (o : Option Request) (v : Bool) → get (by_request s o (λ q. s)).requests id ≡ cond v (option_map (land_turn false) (get s.requests id)) (get s.requests id)
    kept_all None v = by_same v (get s.requests id)
    kept_all (Some q) v = by_same v (get s.requests id)

    by_landing : (l : Bool) → get (on_request s r (λ q. cond l (after_finish (after_flight (has_stored outcome) s r q) q.write (finishing q s.shelf) outcome) s)).requests id
        ≡ cond (r == id) (option_map (land_turn l) (get s.requests id)) (get s.requests id)
    by_landing true = placed_as s r id (land_turn true) (λ q. after_finish (after_flight (has_stored outcome) s r q) q.write (finishing q s.shelf) outcome) (λ q. finish_requests (after_flight (has_stored outcome) s r q) q.write (finishing q s.shelf) outcome)
    by_landing false = kept_all (get s.requests r) (r == id)

drop_turned : (s : State) (r id : ℕ) (o : Option Request) → get s.requests r ≡ o → get (by_request s o (λ q. without_request s r q)).requests id ≡ cond (r == id) None (get s.requests id)
drop_turned s r id None e = by_id (r == id) refl
  where
    by_id : (v : Bool) → (r == id) ≡ v → get s.requests id ≡ cond v None (get s.requests id)
    by_id true same = ap (get s.requests) (sym (eqb-true r id same)) ∙ e
    by_id false same = refl
drop_turned s r id (Some q) e = at-remove s.requests r id

answer_turned : (s : State) (t : MomentValue) (action : Action) (c : Call) (a : Answer) (id : ℕ) → Turned s t action (judged_at s action c) (Ok a) id (answered s t action c a)
answer_turned s t (Open r key asks) c a id = at-insert s.requests r (opened_request s.wait (entry_of key) asks) id
answer_turned s t (LookUp r) c a id = placed_as s r id (λ q. looked t q (look_for q s.shelf) s.lock) (λ q. after_look s t r q (look_for q s.shelf)) (λ q. refl)
answer_turned s t (Poll r) c (Waited outcome) id = placed s r id (λ q. after_wait t outcome q.held q) (get s.requests r) refl
answer_turned s t (Poll r) c _ id = same_either (r == id) (get s.requests id)
answer_turned s t (Begin r head given) c a id = placed_as s r id (begin_turn s (judged_of c)) (λ q. after_begin s r q (judged_of c)) (λ q. begin_requests s r q (judged_of c))
answer_turned s t (Revalidate r head given) c a id = placed_as s r id confirmed (λ q. after_confirmed s r q (confirmed_for q c) a) (λ q. confirm_requests s r q (confirmed_for q c) a)
answer_turned s t (Piece r bytes last) c a id = by_there (get s.requests r)
  where
    by_there : (o : Option Request) → get (by_request s o (λ q. record s { shelf = on_write q.write (pieced bytes last) s.shelf })).requests id ≡ cond (r == id) (get s.requests id) (get s.requests id)
    by_there None = same_either (r == id) (get s.requests id)
    by_there (Some q) = same_either (r == id) (get s.requests id)
answer_turned s t (Finish r) c a id = finish_turned s r id (Ok a)
answer_turned s t (Read r) c a id = placed s r id (read_turn a) (get s.requests r) refl
answer_turned s t (Drop r) c a id = drop_turned s r id (get s.requests r) refl
answer_turned s t (Purge key) c a id = ap (λ (m : FinMap nat_cmp Request). get m id) (purge_requests s key (is_there (look (stored_key_of key) s.shelf)))
answer_turned s t (Put key pieces given) c a id = ap (λ (m : FinMap nat_cmp Request). get m id) (put_requests s (Some s.shelf.writes) (finished_by c) a)

refused_turned : (s : State) (t : MomentValue) (action : Action) (c : Call) (f : TierFault) (id : ℕ) → Turned s t action (judged_at s action c) (Err f) id (refused s action c f)
refused_turned s t (Open r key asks) c f id = same_either (r == id) (get s.requests id)
refused_turned s t (LookUp r) c f id = same_either (r == id) (get s.requests id)
refused_turned s t (Poll r) c f id = same_either (r == id) (get s.requests id)
refused_turned s t (Begin r head given) c f id = same_either (r == id) (get s.requests id)
refused_turned s t (Revalidate r head given) c f id = renewal_turned s r id c (done_of f)
refused_turned s t (Piece r bytes last) c f id = same_either (r == id) (get s.requests id)
refused_turned s t (Finish r) c f id = finish_turned s r id (Err f)
refused_turned s t (Read r) c f id = same_either (r == id) (get s.requests id)
refused_turned s t (Drop r) c f id = same_either (r == id) (get s.requests id)
refused_turned s t (Purge key) c f id = refl
refused_turned s t (Put key pieces given) c f id = ap (λ (m : FinMap nat_cmp Request). get m id) (undone_requests s (finished_by c) (done_of f))

pub requests-after : (s : State) (c : Call) (id : ℕ) → Turned s c.event.moment c.event.action (judged_for s c) c.outcome id (after s c)
requests-after s c id = by_outcome c.outcome
  where
    by_outcome : (o : Outcome) → Turned s c.event.moment c.event.action (judged_for s c) o id (after_outcome s c.event.moment c.event.action c o)
    by_outcome (Ok a) = answer_turned s c.event.moment c.event.action c a id
    by_outcome (Err f) = refused_turned s c.event.moment c.event.action c f id
