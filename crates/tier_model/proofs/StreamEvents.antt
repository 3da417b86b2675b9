-- The readers of a write are counted after each call.
use Rattle.cache_heads.specs.declared.given.GivenMeta.{GivenMeta}
use Rattle.std.proofs.Common.{◌≡◌, ℕ, ◌+◌, refl, ap, sym, ◌∙◌, true, false, subst, cond, [], ◌∷◌, ◌==◌, inl, inr}
use Rattle.std.specs.Prelude.{◌||◌, List, Option, Some, None, option_map, is_some, not, find, Ok, Err, MatchOption}
use Rattle.std.specs.FinMap.{FinMap, get}
use Rattle.std.specs.Ordering.{nat_cmp}
use Rattle.std.proofs.lemmas.Bool.{eqb-true}
use Rattle.cache_words.specs.Time.{MomentValue}
use Rattle.cache_lock.specs.declared.status.LockStatus.{LockStatus}
use Rattle.cache_changes.specs.Changes.{stored_key, Write, begins, finishes, leaves}
use Rattle.cache_changes.specs.Writes.{has_ended, IsInFlight, IsOrderly}
use Rattle.cache_changes.proofs.WriteLaws.{life, life-flies, life_by, same_number}
use Rattle.cache_entries.specs.Entry.{key_of}
use Rattle.tier_model.specs.declared.event.Action.{Action}
use Rattle.tier_model.specs.declared.event.Action.TheVariants.{Open, LookUp, Poll, Begin, Revalidate, Piece, Finish, Read, Drop, Purge, Put}
use Rattle.tier_model.specs.declared.event.Answer.{Answer}
use Rattle.tier_model.specs.declared.event.Answer.TheVariants.{Waited, Finished}
use Rattle.tier_model.specs.declared.event.TierFault.{TierFault}
use Rattle.tier_model.specs.declared.event.TierFault.TheVariants.{IdInUse, WriteRemoved}
use Rattle.tier_model.specs.Response.{Judged, kept, not_kept, too_early, not_read}
use Rattle.tier_model.specs.Calls.{Call, History, Outcome, extended, done_of, judged_of, finished_by}
use Rattle.tier_model.specs.Histories.{Kept, Opening, writes_begun, is_landing, begun_by, begin_changes, drop_changes, settles, settles_back}
use Rattle.tier_model.specs.Histories.{finished_of, changes_of}
use Rattle.tier_model.specs.Rows.{FinishedBody}
use Rattle.tier_model.specs.Shelf.{Readers, flies_for, Look, absent, in_flight, finished, look, is_there, landed}
use Rattle.tier_model.specs.State.{closed, streaming, Request, State, shards_of}
use Rattle.tier_model.specs.Checks.{refusal, unless}
use Rattle.tier_model.specs.Answers.{key_for, look_for, confirmed_for, lock_given, look_answer, polled, finishing, IsStored, IsBeginAnswer, IsFinishFault}
use Rattle.tier_model.specs.Step.{IsAnswer, AllowsBy, Allows}
use Rattle.tier_model.specs.Keys.{alone, stored_key_of}
use Rattle.tier_model.specs.declared.event.LockGiven.{LockGiven}
use Rattle.tier_model.proofs.ShownLaws.{shows_flight}
use Rattle.tier_model.specs.After.{meta_for, with_reader, without_reader, by_request, on_write, without_request, reader_of, after_wait, after_look, after_begin, confirmed}
use Rattle.tier_model.specs.After.{after}
use Rattle.tier_model.specs.Past.{streams_by, streams, streamers}
use Rattle.tier_model.proofs.CallLaws.{Inside, call_at, changes_at, begin_turn, back_turn, judged_at, read_turn, requests-after}
use Rattle.tier_model.proofs.WriteLaws.{WritesFit}
use Rattle.tier_model.proofs.OpenLaws.{Holds, IsOpen, Written, the-write, no-write, look_flight, passed, unrefused, begun-is}
use Rattle.tier_model.proofs.EventLaws.{there_open, has_write}
use Rattle.tier_model.proofs.StoredLaws.{fault-stored, landing-stored, finish_check}
use Rattle.tier_model.proofs.WholeLaws.{came-finished, came-left}
use Rattle.tier_model.proofs.ReaderLaws.{share, CountFits, turned_fits, CanStream}
use Rattle.tier_model.proofs.StreamLaws.{Counted, wait_reader, put_readers, undone_readers, purge_readers, confirmed_readers, renewal_readers, back_reader, read_streams, Next, kept_counts, turned_counts, by_open}
use Rattle.tier_model.proofs.StreamLaws.{same_requests, landed_counts, Landing, finish_lands, finish_stays, quiet_request, there, request_readers, pieced_readers}

module _ (start : Opening) (s : State) (h : History) (l : Holds start s h) (opened : (r : ℕ) (q : Request) → get s.requests r ≡ Some q → IsOpen start r q h) (fits : WritesFit start h)
    (counts : Counted s (changes_of start h)) where
  -- a write that is found flies
  look_streams : (q : Request) (x : Look) → look_for q s.shelf ≡ x → (n : ℕ) → CanStream n (reader_of x) (changes_of start h)
  look_streams q absent e n = tt
  look_streams q (finished b) e n = tt
  look_streams q (in_flight f) e n = λ same.
      let x = shows_flight (shards_of s) (writes_begun start h) s.shelf.bodies s.shelf.flying s.managed (changes_of start h) l.leaves (key_for q) f
      (look_flight (find (flies_for (key_for q)) s.shelf.flying) (get s.shelf.bodies (key_for q)) f e) in
      let known = life-flies x.write (changes_of start h) l.leaves.orderly x.flying.flies in
      let one : x.write.number ≡ n = sym x.number ∙ eqb-true f.number n same in
      (record { write = x.write; flies = true; alive = known.0 }, ap (λ (m : ℕ). life m (changes_of start h)) (sym one) ∙ known.1, refl)

  look_counted : (t : MomentValue) (i : Inside) (r : ℕ) (q : Request) (x : Look) (given : LockGiven) → get s.requests r ≡ Some q → look_for q s.shelf ≡ x → lock_given t q x s.lock ≡ given
      → IsOrderly (changes_of start (call_at t (LookUp r) i (Ok (look_answer t given x)) ∷ h))
      → Next start s h l opened fits counts (call_at t (LookUp r) i (Ok (look_answer t given x))) (after s (call_at t (LookUp r) i (Ok (look_answer t given x))))
  look_counted t i r q x given e is gave orderly =
      turned_counts start s h l opened fits counts c (after s c) q.reader (reader_of x) orderly refl
      (ap (λ (o : Option Request). (by_request s o (λ q. after_look s t r q (look_for q s.shelf))).shelf.readers) e ∙ ap (λ (k : Look). without_reader q.reader (with_reader (reader_of k) s.shelf.readers)) is)
      (can x is)
      (λ n. by_open start s h l opened fits counts c r n (Some q) refl e ∙ ap (λ (k : Look). streamers n s.requests + streams_by n (reader_of k)) is)
    where
      c : Call
      c = call_at t (LookUp r) i (Ok (look_answer t given x))

      can : (k : Look) → look_for q s.shelf ≡ k → (n : ℕ) → CanStream n (reader_of k) (changes_of start (call_at t (LookUp r) i (Ok (look_answer t given k)) ∷ h))
      can absent is n = tt
      can (finished b) is n = tt
      can (in_flight f) is n = look_streams q (in_flight f) is n

  begin_counted : (t : MomentValue) (i : Inside) (r : ℕ) (head : List ℕ) (given : Option GivenMeta) (q : Request) (a : Answer) (j : Option Judged) → s.shelf.writes ≡ writes_begun start h
      → get s.requests r ≡ Some q → IsOpen start r q h
      → judged_of (call_at t (Begin r head given) i (Ok a)) ≡ j → IsBeginAnswer j a → IsOrderly (changes_of start (call_at t (Begin r head given) i (Ok a) ∷ h))
      → Next start s h l opened fits counts (call_at t (Begin r head given) i (Ok a)) (after s (call_at t (Begin r head given) i (Ok a)))
  begin_counted t i r head given q a (Some (kept meta)) count e opens is p orderly =
      turned_counts start s h l opened fits counts c (after s c) q.reader (streaming s.shelf.writes 0) orderly refl
      (ap (λ (o : Option Request). (by_request s o (λ q. after_begin s r q (judged_of c))).shelf.readers) e ∙ ap (λ (j : Option Judged). (after_begin s r q j).shelf.readers) is)
      can
      (λ n. by_open start s h l opened fits counts c r n (Some q) refl e ∙ ap (λ (j : Option Judged). streamers n s.requests + streams n (begin_turn s j q)) is)
    where
      c : Call
      c = call_at t (Begin r head given) i (Ok a)

      w : Write Kept
      w = record { number = writes_begun start h; key = stored_key (key_of q.entry); meta = record { entry = alone (key_of q.entry); meta = meta_for q meta } }

      begins_it : begun_by start r c h ≡ Some w
      begins_it = begun-is start r q h c opens meta is

      past : changes_of start (c ∷ h) ≡ begins w ∷ changes_of start h
      past = ap (λ (y : Answer). extended (changes_of start h) (changes_at start (Begin r head given) (Ok y) (call_at t (Begin r head given) i (Ok a)) h (changes_of start h))) p
          ∙ ap (λ (o : Option (Write Kept)). extended (changes_of start h) (begin_changes o)) begins_it

      can : (n : ℕ) → CanStream n (streaming s.shelf.writes 0) (changes_of start (c ∷ h))
      can n = λ same.
          let one : n ≡ writes_begun start h = sym (eqb-true s.shelf.writes n same) ∙ count in
          let new : (n == writes_begun start h) ≡ true = ap (λ (m : ℕ). m == writes_begun start h) one ∙ same_number (writes_begun start h) in
          (record { write = w; flies = true; alive = true }, ap (life n) past ∙ ap (λ v. life_by (cond v (Some w) None) (begins w) (life n (changes_of start h))) new, refl)
  begin_counted t i r head given q a (Some (not_kept reason)) count e opens is p orderly =
      turned_counts start s h l opened fits counts c (after s c) q.reader closed orderly refl
      (ap (λ (o : Option Request). (by_request s o (λ q. after_begin s r q (judged_of c))).shelf.readers) e ∙ ap (λ (j : Option Judged). (after_begin s r q j).shelf.readers) is)
      (λ n. tt)
      (λ n. by_open start s h l opened fits counts c r n (Some q) refl e ∙ ap (λ (j : Option Judged). streamers n s.requests + streams n (begin_turn s j q)) is)
    where
      c : Call
      c = call_at t (Begin r head given) i (Ok a)
  begin_counted t i r head given q a (Some too_early) count e opens is p orderly = absurd p
  begin_counted t i r head given q a (Some not_read) count e opens is p orderly = absurd p
  begin_counted t i r head given q a None count e opens is p orderly = absurd p

  drop_counted : (t : MomentValue) (i : Inside) (r : ℕ) (q : Request) (a : Answer) → get s.requests r ≡ Some q → IsOpen start r q h → IsOrderly (changes_of start (call_at t (Drop r) i (Ok a) ∷ h))
      → Next start s h l opened fits counts (call_at t (Drop r) i (Ok a)) (after s (call_at t (Drop r) i (Ok a)))
  drop_counted t i r q a e opens orderly n =
      subst (λ (m : FinMap nat_cmp Readers). CountFits n (get m n) (streamers n (after s c).requests) (changes_of start (c ∷ h))) (sym readers)
      (turned_fits n q.reader closed (on_write q.write (landed false) s.shelf).readers (streamers n s.requests) (streamers n (after s c).requests) (changes_of start (c ∷ h)) tt (by_open start s h l opened fits counts c r n (Some q) refl e) (by_write q.write refl))
    where
      c : Call
      c = call_at t (Drop r) i (Ok a)

      readers : (after s c).shelf.readers ≡ without_reader q.reader (on_write q.write (landed false) s.shelf).readers
      readers = ap (λ (o : Option Request). (by_request s o (λ q. without_request s r q)).shelf.readers) e

      by_write : (o : Option ℕ) → q.write ≡ o → CountFits n (get (on_write q.write (landed false) s.shelf).readers n) (streamers n s.requests) (changes_of start (c ∷ h))
      by_write None none =
          let no = no-write start r q h opens none in
          subst (λ (o : Option ℕ). CountFits n (get (on_write o (landed false) s.shelf).readers n) (streamers n s.requests) (changes_of start (c ∷ h))) (sym none)
          (subst (λ (w : Option (Write Kept)). CountFits n (get s.shelf.readers n) (streamers n s.requests) (extended (changes_of start h) (drop_changes w))) (sym no) (counts n))
      by_write (Some m) some =
          let x = the-write start r q h opens fits m some in
          landed_counts start s h l opened fits counts r q opens x c (leaves x.write.number) [] false (ap (λ (w : Option (Write Kept)). extended (changes_of start h) (drop_changes w)) x.held) orderly refl (same_number x.write.number) (λ n. refl)
          (sym (came-left x.write x.write.number (changes_of start h) l.leaves.orderly x.flies)) n

  was_closed : (o : Option Request) → unless (not (is_some o)) IdInUse ≡ None → o ≡ None
  was_closed None e = refl
  was_closed (Some q) e = absurd cc

  module _ (count : s.shelf.writes ≡ writes_begun start h) where
    stored_landing : (w : Write Kept) (b : FinishedBody) (a : Answer) → IsStored s b a → Landing start s h l opened fits counts w (Ok a)
    stored_landing w b (Finished m es) p = record {
      first = finishes w;
      rest = settles (finished_of (changes_of start h) w) es;
      is = refl;
      lands_it = same_number w.number;
      bytes = λ n. refl;
      came = sym (came-finished w (changes_of start h));
    }
    stored_landing w b _ p = absurd p

    removed_landing : (w : Write Kept) → IsInFlight w (changes_of start h) → Landing start s h l opened fits counts w (Err WriteRemoved)
    removed_landing w flies = record {
      first = leaves w.number;
      rest = [];
      is = refl;
      lands_it = same_number w.number;
      bytes = λ n. refl;
      came = sym (came-left w w.number (changes_of start h) l.leaves.orderly flies);
    }

    back_landing : (w : Write Kept) (f : TierFault) → (done_of f).stored ≡ true → Landing start s h l opened fits counts w (Err f)
    back_landing w WriteRemoved e = absurd cc
    back_landing w f e = record {
      first = finishes w;
      rest = settles_back (finished_of (changes_of start h) w) (done_of f);
      is = ap (λ v. cond v (finishes w ∷ settles_back (finished_of (changes_of start h) w) (done_of f)) []) e;
      lands_it = same_number w.number;
      bytes = λ n. refl;
      came = ap (λ v. v || has_ended w.number (changes_of start h)) e ∙ sym (came-finished w (changes_of start h));
    }

    stored_any : (w : Write Kept) (o : Option FinishedBody) (a : Answer) → MatchOption o ⊥ (λ b. IsStored s b a) → Landing start s h l opened fits counts w (Ok a)
    stored_any w None a p = absurd p
    stored_any w (Some b) a p = stored_landing w b a p

    answer_counted : (t : MomentValue) (i : Inside) (action : Action) (a : Answer) → refusal s action ≡ None → IsAnswer s t action (call_at t action i (Ok a)) a
        → IsOrderly (changes_of start (call_at t action i (Ok a) ∷ h))
        → Next start s h l opened fits counts (call_at t action i (Ok a)) (after s (call_at t action i (Ok a)))
    answer_counted t i (Open k key asks) a e p orderly =
        quiet_request start s h l opened fits counts (call_at t (Open k key asks) i (Ok a)) k orderly refl refl refl (λ n. sym (ap (share (streams n)) (was_closed (get s.requests k) e)))
    answer_counted t i (LookUp k) a e p orderly =
        let q = there start s h l opened fits counts (get s.requests k) _ p in
        let given = lock_given t q.0 (look_for q.0 s.shelf) s.lock in
        subst (λ (y : Answer). IsOrderly (changes_of start (call_at t (LookUp k) i (Ok y) ∷ h)) → Next start s h l opened fits counts (call_at t (LookUp k) i (Ok y)) (after s (call_at t (LookUp k) i (Ok y)))) (sym q.2.0)
        (look_counted t i k q.0 (look_for q.0 s.shelf) given q.1 refl refl) orderly
    answer_counted t i (Poll k) a e p orderly =
        let q = there start s h l opened fits counts (get s.requests k) _ p in
        subst (λ (y : Answer). IsOrderly (changes_of start (call_at t (Poll k) i (Ok y) ∷ h)) → Next start s h l opened fits counts (call_at t (Poll k) i (Ok y)) (after s (call_at t (Poll k) i (Ok y)))) (sym q.2)
        (λ orderly. quiet_request start s h l opened fits counts (call_at t (Poll k) i (Ok (Waited (polled s.lock t q.0 q.0.held)))) k orderly refl refl (request_readers start s h l opened fits counts (get s.requests k) _ (λ q. refl))
        (λ n. waited (polled s.lock t q.0 q.0.held) n (get s.requests k))) orderly
      where
        waited : (outcome : Option LockStatus) (n : ℕ) (o : Option Request) → share (streams n) (option_map (λ q. after_wait t outcome q.held q) o) ≡ share (streams n) o
        waited outcome n None = refl
        waited outcome n (Some q) = ap (streams_by n) (wait_reader t outcome q.held q)
    answer_counted t i (Begin k head given) a e p orderly =
        let q = passed (get s.requests k) _ e in
        begin_counted t i k head given q.0 a (judged_of (call_at t (Begin k head given) i (Ok a))) count q.1 (opened k q.0 q.1) refl p orderly
    answer_counted t i (Revalidate k head given) a e p orderly =
        quiet_request start s h l opened fits counts (call_at t (Revalidate k head given) i (Ok a)) k orderly refl refl
        (request_readers start s h l opened fits counts (get s.requests k) _ (λ q. confirmed_readers s k q (confirmed_for q (call_at t (Revalidate k head given) i (Ok a))) a)) (λ n. stays n (get s.requests k))
      where
        stays : (n : ℕ) (o : Option Request) → share (streams n) (option_map (λ q. confirmed q) o) ≡ share (streams n) o
        stays n None = refl
        stays n (Some q) = refl
    answer_counted t i (Piece k bytes last) a e p orderly =
        quiet_request start s h l opened fits counts (call_at t (Piece k bytes last) i (Ok a)) k orderly refl refl (request_readers start s h l opened fits counts (get s.requests k) _ (λ q. pieced_readers start s h l opened fits counts q.write bytes last)) (λ n. refl)
    answer_counted t i (Finish k) a e p orderly =
        let q = there_open start s h l count opened fits k _ e in
        let x = has_write start s h l count opened fits k q.0 q.2 q.3 in
        finish_lands start s h l opened fits counts t i k q.0 (Ok a) q.1 q.2 x refl (stored_any x.write (finishing q.0 s.shelf) a (subst (λ (o : Option Request). MatchOption o ⊥ (λ q. MatchOption (finishing q s.shelf) ⊥ (λ b. IsStored s b a))) q.1 p)) orderly
    answer_counted t i (Read k) a e p orderly =
        quiet_request start s h l opened fits counts (call_at t (Read k) i (Ok a)) k orderly refl refl (request_readers start s h l opened fits counts (get s.requests k) _ (λ q. refl)) (λ n. read n (get s.requests k))
      where
        read : (n : ℕ) (o : Option Request) → share (streams n) (option_map (read_turn a) o) ≡ share (streams n) o
        read n None = refl
        read n (Some q) = read_streams n a q.reader
    answer_counted t i (Drop k) a e p orderly =
        let q = passed (get s.requests k) _ e in
        drop_counted t i k q.0 a q.1 (opened k q.0 q.1) orderly
    answer_counted t i (Purge key) a e p orderly =
        kept_counts start s h l opened fits counts (call_at t (Purge key) i (Ok a)) (after s (call_at t (Purge key) i (Ok a))) orderly refl (purge_readers s key (is_there (look (stored_key_of key) s.shelf)))
        (same_requests start s h l opened fits counts (after s (call_at t (Purge key) i (Ok a))).requests (requests-after s (call_at t (Purge key) i (Ok a))))
    answer_counted t i (Put key pieces given) a e p orderly =
        kept_counts start s h l opened fits counts (call_at t (Put key pieces given) i (Ok a)) (after s (call_at t (Put key pieces given) i (Ok a))) orderly refl (put_readers s (Some s.shelf.writes) (finished_by (call_at t (Put key pieces given) i (Ok a))) a)
        (same_requests start s h l opened fits counts (after s (call_at t (Put key pieces given) i (Ok a))).requests (requests-after s (call_at t (Put key pieces given) i (Ok a))))

    late_finish : (t : MomentValue) (i : Inside) (r : ℕ) (q : Request) (f : TierFault) (b : Option FinishedBody) → get s.requests r ≡ Some q → IsOpen start r q h → Written start r q h
        → IsFinishFault s b f
        → IsOrderly (changes_of start (call_at t (Finish r) i (Err f) ∷ h)) → Next start s h l opened fits counts (call_at t (Finish r) i (Err f)) (after s (call_at t (Finish r) i (Err f)))
    late_finish t i r q f None e opens x gone orderly =
        finish_lands start s h l opened fits counts t i r q (Err f) e opens x (ap (λ (y : TierFault). is_landing (Err y)) gone)
        (subst (λ (y : TierFault). Landing start s h l opened fits counts x.write (Err y)) (sym gone) (removed_landing x.write x.flies)) orderly
    late_finish t i r q f (Some b) e opens x p orderly = elim p [
      | inl m ↦ finish_stays start s h l opened fits counts t i r f (ap (λ (y : TierFault). is_landing (Err y)) m) orderly
      | inr late ↦ finish_lands start s h l opened fits counts t i r q (Err f) e opens x (landing-stored f (fault-stored s b f late)) (back_landing x.write f (fault-stored s b f late)) orderly
    ]

    finish_refused : (t : MomentValue) (i : Inside) (r : ℕ) (f : TierFault) (o : Option TierFault) → refusal s (Finish r) ≡ o → AllowsBy o s t (Finish r) (call_at t (Finish r) i (Err f)) (Err f)
        → IsOrderly (changes_of start (call_at t (Finish r) i (Err f) ∷ h)) → Next start s h l opened fits counts (call_at t (Finish r) i (Err f)) (after s (call_at t (Finish r) i (Err f)))
    finish_refused t i r f (Some g) n p orderly =
        let same : f ≡ g = cc in
        finish_stays start s h l opened fits counts t i r f (ap (λ (y : TierFault). is_landing (Err y)) same ∙ finish_check (get s.requests r) g n) orderly
    finish_refused t i r f None n p orderly =
        let q = there_open start s h l count opened fits r _ n in
        elim p [
          | inl m ↦ absurd m.1
          | inr late ↦ late_finish t i r q.0 f (finishing q.0 s.shelf) q.1 q.2 (has_write start s h l count opened fits r q.0 q.2 q.3) (subst (λ (o : Option Request). MatchOption o ⊥ (λ q. IsFinishFault s (finishing q s.shelf) f)) q.1 late) orderly
        ]

    fault_counted : (t : MomentValue) (i : Inside) (action : Action) (f : TierFault) → AllowsBy (refusal s action) s t action (call_at t action i (Err f)) (Err f)
        → IsOrderly (changes_of start (call_at t action i (Err f) ∷ h))
        → Next start s h l opened fits counts (call_at t action i (Err f)) (after s (call_at t action i (Err f)))
    fault_counted t i (Finish k) f p orderly = finish_refused t i k f (refusal s (Finish k)) refl p orderly
    fault_counted t i (Put key pieces given) f p orderly =
        kept_counts start s h l opened fits counts (call_at t (Put key pieces given) i (Err f)) (after s (call_at t (Put key pieces given) i (Err f))) orderly refl (undone_readers s (finished_by (call_at t (Put key pieces given) i (Err f))) (done_of f))
        (same_requests start s h l opened fits counts (after s (call_at t (Put key pieces given) i (Err f))).requests (requests-after s (call_at t (Put key pieces given) i (Err f))))
    fault_counted t i (Purge key) f p orderly = counts
    fault_counted t i (Open k key asks) f p orderly = counts
    fault_counted t i (LookUp k) f p orderly = counts
    fault_counted t i (Poll k) f p orderly = counts
    fault_counted t i (Begin k head given) f p orderly = counts
    fault_counted t i (Revalidate k head given) f p orderly =
        quiet_request start s h l opened fits counts c k orderly refl refl (request_readers start s h l opened fits counts (get s.requests k) _ (λ q. renewal_readers s k q (confirmed_for q c) (done_of f)))
        (λ n. stays n (get s.requests k))
      where
        c : Call
        c = call_at t (Revalidate k head given) i (Err f)

        stays : (n : ℕ) (o : Option Request) → share (streams n) (option_map (back_turn (judged_at s (Revalidate k head given) c) (done_of f).stored) o) ≡ share (streams n) o
        stays n None = refl
        stays n (Some q) = ap (streams_by n) (back_reader (judged_at s (Revalidate k head given) c) (done_of f).stored q)
    fault_counted t i (Piece k bytes last) f p orderly = counts
    fault_counted t i (Read k) f p orderly = counts
    fault_counted t i (Drop k) f p orderly = counts

    pub Counted-after : (c : Call) → Allows s c → IsOrderly (changes_of start (c ∷ h)) → Counted (after s c) (changes_of start (c ∷ h))
    Counted-after c p orderly = by_outcome c.outcome p.outcome orderly
      where
        i : Inside
        i = record { reading = c.reading; began = c.began; asked = c.asked }

        by_outcome : (o : Outcome) → AllowsBy (refusal s c.event.action) s c.event.moment c.event.action (call_at c.event.moment c.event.action i o) o
            → IsOrderly (changes_of start (call_at c.event.moment c.event.action i o ∷ h))
            → Next start s h l opened fits counts (call_at c.event.moment c.event.action i o) (after s (call_at c.event.moment c.event.action i o))
        by_outcome (Ok a) p orderly =
            let q = unrefused s (refusal s c.event.action) c.event.moment c.event.action (call_at c.event.moment c.event.action i (Ok a)) a refl p in
            answer_counted c.event.moment i c.event.action a q.0 q.1 orderly
        by_outcome (Err f) p orderly = fault_counted c.event.moment i c.event.action f p orderly
