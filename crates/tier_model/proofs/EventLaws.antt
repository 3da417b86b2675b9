-- What each lawful call changes leaves what the state after it holds.
use Rattle.cache_heads.specs.declared.given.GivenMeta.{GivenMeta}
use Rattle.std.proofs.Common.{◌≡◌, ℕ, ◌+◌, refl, ap, sym, ◌∙◌, true, false, subst, cond, [], ◌∷◌, ◌++◌, inl, inr}
use Rattle.std.specs.Prelude.{Bool, List, Option, Some, None, is_some, Ok, Err, MatchOption, not, find}
use Rattle.std.specs.FinMap.{FinMap, get, insert}
use Rattle.std.specs.Ordering.{nat_cmp}
use Rattle.cache_words.specs.Time.{MomentValue}
use Rattle.cache_words.specs.Key.{CacheKeyValue}
use Rattle.cache_changes.specs.Changes.{StoredKey, stored_key, Write, Change, appends, finishes, uses}
use Rattle.cache_changes.specs.Writes.{has_ended, IsInFlight}
use Rattle.cache_entries.specs.declared.entry.CacheEntryKey.{CacheEntryKey}
use Rattle.cache_entries.specs.Entry.{key_of}
use Rattle.tier_model.specs.declared.event.Action.{Action}
use Rattle.tier_model.specs.declared.event.Action.TheVariants.{Open, LookUp, Poll, Begin, Revalidate, Piece, Finish, Read, Drop, Purge, Put}
use Rattle.tier_model.specs.declared.event.Answer.{Answer}
use Rattle.tier_model.specs.declared.event.Answer.TheVariants.{Waited, Begun, Purged}
use Rattle.tier_model.specs.declared.event.Answer.TheVariants as answer
use Rattle.tier_model.specs.declared.event.TierFault.{TierFault}
use Rattle.tier_model.specs.declared.event.TierFault.TheVariants.{WrongPhase, AfterEnd, WriteRemoved}
use Rattle.tier_model.specs.Keys.{Entry, entry_of, alone, stored_key_of}
use Rattle.tier_model.specs.Response.{Judged, kept, not_kept}
use Rattle.tier_model.specs.Calls.{Call, History, Outcome, extended, done_of, has_stored, judged_of, read_by, finished_by, is_begun, writes_after}
use Rattle.tier_model.specs.Histories.{Kept, Opening, writes_begun, look_changes, is_landing, write_held, begin_changes, finished_of, settles_back, finish_changes}
use Rattle.tier_model.specs.Histories.{piece_changes, changes_of}
use Rattle.tier_model.specs.Rows.{FinishedBody, weight_for}
use Rattle.tier_model.specs.declared.event.LockGiven.{LockGiven}
use Rattle.tier_model.specs.Shelf.{InFlight, flying_at, flies_for, Look, absent, in_flight, finished, look, is_there, landed, on_flying}
use Rattle.tier_model.specs.State.{Request, State, shards_of}
use Rattle.tier_model.specs.Checks.{refusal, unless, unless_open, piece_refusal, has_ended as ended_at}
use Rattle.tier_model.specs.Answers.{key_for, look_for, lock_given, look_answer, IsStored, IsBeginAnswer, IsFinishFault, finishing}
use Rattle.tier_model.specs.Step.{UseFits, IsAnswer, IsFault, AllowsBy, BeginsWrite, may_begin, tells_of_write, Allows}
use Rattle.tier_model.specs.After.{meta_for, by_request, on_request, with_request, on_write, pieced, read_on, after_wait, after_look, after_begin, after_flight, after_put, undone, after_finish, finished_state}
use Rattle.tier_model.specs.After.{after_purge, without_request, answered, refused, after_outcome}
use Rattle.tier_model.proofs.RenewEvents.{renewal_answered, renewal_refused}
use Rattle.tier_model.proofs.CallLaws.{Inside, call_at}
use Rattle.tier_model.proofs.WriteLaws.{WritesFit, flies_on}
use Rattle.tier_model.proofs.ChangeLaws.{more_bytes}
use Rattle.tier_model.proofs.ShownLaws.{shows}
use Rattle.tier_model.proofs.BoundLaws.{Keeps, keeps-used, keeps-cleared, keeps-begun, keeps-appended, keeps-ended, keeps-left}
use Rattle.tier_model.proofs.OpenLaws.{Holds, HoldsNext, begun-told, begun-is, look_finished, hit_uses, FlightAt, flight-at, IsOpen, Written, the-write, no-write, finishing-is, passed, test_passed}
use Rattle.tier_model.proofs.OpenLaws.{not_false, unrefused}
use Rattle.tier_model.proofs.StoredLaws.{idle, put_holds, quiet_holds, put_fault_holds, finish_holds, gone_holds, back_holds, fault-stored, landing-stored, finish_check}

-- ---- each event

module _ (start : Opening) (s : State) (h : History) (l : Holds start s h) (count : s.shelf.writes ≡ writes_begun start h)
    (opened : (r : ℕ) (q : Request) → get s.requests r ≡ Some q → IsOpen start r q h) (fits : WritesFit start h) where
  abbrev Next : State → Call → Type 0
  Next new c = HoldsNext s (writes_begun start h) c.began new (changes_of start (c ∷ h))

  still : (began : Bool) → HoldsNext s (writes_begun start h) began s (changes_of start h)
  still began = idle s (writes_begun start h) (changes_of start h) l began

  look_holds : (t : MomentValue) (i : Inside) (r : ℕ) (q : Request) (x : Look) (a : Answer) (given : LockGiven) → IsOpen start r q h → look_for q s.shelf ≡ x → a ≡ look_answer t given x
      → Next (after_look s t r q x) (call_at t (LookUp r) i (Ok a))
  look_holds t i r q absent a given opens is e = subst (λ (y : Answer). Next s (call_at t (LookUp r) i (Ok y))) (sym e) (still i.began)
  look_holds t i r q (in_flight f) a given opens is e = subst (λ (y : Answer). Next s (call_at t (LookUp r) i (Ok y))) (sym e) (still i.began)
  look_holds t i r q (finished b) a given opens is e =
      let key = key_of q.entry in
      let n = writes_begun start h in
      let there = look_finished (find (flies_for (key_for q)) s.shelf.flying) (get s.shelf.bodies (key_for q)) b is in
      let x = shows (shards_of s) n s.shelf.bodies s.shelf.flying s.managed (changes_of start h) l.leaves (stored_key key) b there.1 in
      let now = ap (λ (o : Option Entry). look_changes o (changes_of start h)) opens.key ∙ hit_uses key b (changes_of start h) l.leaves.orderly x ∙ ap (λ (o : CacheEntryKey). uses o (weight_for b.body) ∷ []) (sym opens.entry) in
      subst (λ (y : Answer). Next (after_look s t r q (finished b)) (call_at t (LookUp r) i (Ok y))) (sym e)
      (subst (λ (cs : List (Change Kept)). HoldsNext s n i.began (after_look s t r q (finished b)) (extended (changes_of start h) cs)) (sym now)
      (keeps-used (shards_of s) (writes_after n i.began) s.shelf.bodies s.shelf.flying s.managed (changes_of start h) (still i.began) q.entry (weight_for b.body)))

  request_holds : (t : MomentValue) (i : Inside) (r : ℕ) (a : Answer) (o : Option Request) → get s.requests r ≡ o
      → MatchOption o ⊥ (λ q. (a ≡ look_answer t (lock_given t q (look_for q s.shelf) s.lock) (look_for q s.shelf)) × UseFits s q (look_for q s.shelf))
      → Next (by_request s o (λ q. after_look s t r q (look_for q s.shelf))) (call_at t (LookUp r) i (Ok a))
  request_holds t i r a None e p = absurd p
  request_holds t i r a (Some q) e p = look_holds t i r q (look_for q s.shelf) a (lock_given t q (look_for q s.shelf) s.lock) (opened r q e) refl p.0

  -- an event that writes a request alone
  written_holds : (i : Inside) (c : Call) (o : Option Request) (r : ℕ) (f : Request → Request) → changes_of start (c ∷ h) ≡ changes_of start h → Next (by_request s o (λ q. with_request r (f q) s)) c
  written_holds i c None r f e = rw e (still c.began)
  written_holds i c (Some q) r f e = rw e (still c.began)

  begin_holds : (t : MomentValue) (i : Inside) (r : ℕ) (head : List ℕ) (given : Option GivenMeta) (q : Request) (a : Answer) (j : Option Judged) (may : Bool) → IsOpen start r q h
      → judged_of (call_at t (Begin r head given) i (Ok a)) ≡ j → IsBeginAnswer j a
      → BeginsWrite s may (is_begun (Ok a)) i.began → Next (after_begin s r q j) (call_at t (Begin r head given) i (Ok a))
  begin_holds t i r head given q a (Some (kept meta)) may opens is p x =
      let n = writes_begun start h in
      let k : StoredKey = stored_key (key_of q.entry) in
      let new : InFlight = record { number = n; key = k; meta = meta_for q meta; bytes = []; ended = false; removed = false } in
      let begins_it = begun-is start r q h (call_at t (Begin r head given) i (Ok Begun)) opens meta is in
      let began : i.began ≡ true = begun-told s may (is_begun (Ok a)) i.began x (ap (λ (y : Answer). is_begun (Ok y)) p) in
      let done = keeps-begun (shards_of s) n s.shelf.bodies s.shelf.flying s.managed (changes_of start h) l k (record { entry = alone (key_of q.entry); meta = meta_for q meta }) in
      rw (p, began, count) (subst (λ (o : Option (Write Kept)). Keeps (shards_of s) (n + 1) s.shelf.bodies (s.shelf.flying ++ new ∷ []) s.managed (extended (changes_of start h) (begin_changes o))) (sym begins_it) done)
  begin_holds t i r head given q a (Some (not_kept reason)) may opens is p x = subst (λ (y : Answer). Next s (call_at t (Begin r head given) i (Ok y))) (sym p) (still i.began)
  begin_holds t i r head given q a (Some _) may opens is p x = absurd p
  begin_holds t i r head given q a None may opens is p x = absurd p

  -- the write of a request that a piece may come to
  pub the-piece : (r : ℕ) (q : Request) → IsOpen start r q h → (m : ℕ) → q.write ≡ Some m
      → (x : Written start r q h) × (ended_at (flying_at m s.shelf.flying) ≡ has_ended x.write.number (changes_of start h))
  the-piece r q opens m e =
      let x = the-write start r q h opens fits m e in
      let f = flight-at (shards_of s) (writes_begun start h) s.shelf.bodies s.shelf.flying s.managed (changes_of start h) l.leaves x.write x.flies in
      let same : m ≡ x.write.number = let both : Some m ≡ Some x.write.number = sym e ∙ x.number in cc in
      (x, ap ended_at (ap (λ (k : ℕ). flying_at k s.shelf.flying) same ∙ f.at) ∙ f.ended)

  piece_holds : (t : MomentValue) (i : Inside) (r : ℕ) (bytes : List ℕ) (last : Bool) (q : Request) → IsOpen start r q h → piece_refusal q.write s.shelf ≡ None
      → Next (record s { shelf = on_write q.write (pieced bytes last) s.shelf }) (call_at t (Piece r bytes last) i (Ok answer.Written))
  piece_holds t i r bytes last q opens passes = by_write q.write refl passes
    where
      n : ℕ
      n = writes_begun start h

      pieces : (w : Write Kept) → IsInFlight w (changes_of start h) → has_ended w.number (changes_of start h) ≡ false → (v : Bool)
          → HoldsNext s n i.began (record s { shelf = pieced bytes v w.number s.shelf }) (extended (changes_of start h) (piece_changes (Some w) bytes v))
      pieces w flies more false = keeps-appended (shards_of s) (writes_after n i.began) s.shelf.bodies s.shelf.flying s.managed (changes_of start h) (still i.began) w flies bytes more
      pieces w flies more true =
          keeps-ended (shards_of s) (writes_after n i.began) s.shelf.bodies (on_flying w.number (more_bytes bytes) s.shelf.flying) s.managed (appends w.number bytes ∷ changes_of start h)
          (keeps-appended (shards_of s) (writes_after n i.began) s.shelf.bodies s.shelf.flying s.managed (changes_of start h) (still i.began) w flies bytes more)
          w (flies_on start w (changes_of start h) (appends w.number bytes ∷ []) (refl, tt) flies)

      by_write : (o : Option ℕ) → q.write ≡ o → piece_refusal o s.shelf ≡ None
          → Next (record s { shelf = on_write q.write (pieced bytes last) s.shelf }) (call_at t (Piece r bytes last) i (Ok answer.Written))
      by_write None e p = absurd cc
      by_write (Some m) e p =
          let x = the-piece r q opens m e in
          let more : has_ended x.0.write.number (changes_of start h) ≡ false = sym x.1 ∙ not_false _ (test_passed (not (ended_at (flying_at m s.shelf.flying))) AfterEnd p) in
          rw (x.0.number, x.0.held) (pieces x.0.write x.0.flies more last)

  -- a finish that did nothing
  quiet_finish : (o : Option (Write Kept)) (f : TierFault) → is_landing (Err f) ≡ false → finish_changes o (Err f) (changes_of start h) ≡ []
  quiet_finish None f e = refl
  quiet_finish (Some w) WriteRemoved e = absurd cc
  quiet_finish (Some w) f e = ap (λ v. cond v (finishes w ∷ settles_back (finished_of (changes_of start h) w) (done_of f)) []) e

  kept_state : (o : Option Request) (r : ℕ) (f : TierFault) → is_landing (Err f) ≡ false → by_request s o (λ q. finished_state s r q (Err f)) ≡ s
  kept_state None r f e = refl
  kept_state (Some q) r f e = ap (λ v. cond v (after_finish (after_flight (has_stored (Err f)) s r q) q.write (finishing q s.shelf) (Err f)) s) e

  quiet_finish_holds : (t : MomentValue) (i : Inside) (r : ℕ) (f : TierFault) → is_landing (Err f) ≡ false → Next (on_request s r (λ q. finished_state s r q (Err f))) (call_at t (Finish r) i (Err f))
  quiet_finish_holds t i r f e = rw (kept_state (get s.requests r) r f e, quiet_finish (write_held start r h) f e) (still i.began)

  module _ (t : MomentValue) (i : Inside) (r : ℕ) (q : Request) (x : Written start r q h) where
    f : FlightAt x.write s.shelf.flying (changes_of start h)
    f = flight-at (shards_of s) (writes_begun start h) s.shelf.bodies s.shelf.flying s.managed (changes_of start h) l.leaves x.write x.flies

    abbrev rs : FinMap nat_cmp Request
    rs = insert s.requests r (record q { write = None })

    landed_is : (v : Bool) → after_flight v s r q ≡ record s { shelf = landed v x.write.number s.shelf; requests = rs }
    landed_is v = ap (λ (o : Option ℕ). record s { shelf = on_write o (landed v) s.shelf; requests = rs }) x.number

    entry_is : (e : Entry) → q.entry ≡ alone e → x.write.meta.entry ≡ alone (key_of q.entry)
    entry_is e is = x.of_entry ∙ is ∙ ap (λ (y : CacheEntryKey). alone (key_of y)) (sym is)

  finish_answered : (t : MomentValue) (i : Inside) (r : ℕ) (q : Request) (a : Answer) → IsOpen start r q h → (x : Written start r q h) → MatchOption (finishing q s.shelf) ⊥ (λ b. IsStored s b a)
      → Next (finished_state s r q (Ok a)) (call_at t (Finish r) i (Ok a))
  finish_answered t i r q a opens x p = by_removed (f t i r q x).flight.removed refl (subst (λ (o : Option FinishedBody). MatchOption o ⊥ (λ b. IsStored s b a)) is p)
    where
      b : FinishedBody
      b = finished_of (changes_of start h) x.write

      is : finishing q s.shelf ≡ cond (f t i r q x).flight.removed None (Some b)
      is = finishing-is start r q h s.shelf x (f t i r q x)

      state_is : (f t i r q x).flight.removed ≡ false
          → finished_state s r q (Ok a) ≡ after_put (record s { shelf = landed (has_stored (Ok a)) x.write.number s.shelf; requests = rs t i r q x }) (Some x.write.number) (Some b) a
      state_is e =
          ap (λ (y : State). after_put y q.write (finishing q s.shelf) a) (landed_is t i r q x (has_stored (Ok a)))
          ∙ ap (λ (n : Option ℕ). after_put (record s { shelf = landed (has_stored (Ok a)) x.write.number s.shelf; requests = rs t i r q x }) n (finishing q s.shelf) a) x.number
          ∙ ap (λ (o : Option FinishedBody). after_put (record s { shelf = landed (has_stored (Ok a)) x.write.number s.shelf; requests = rs t i r q x }) (Some x.write.number) o a)
          (is ∙ ap (λ v. cond v None (Some b)) e)

      by_removed : (v : Bool) → (f t i r q x).flight.removed ≡ v → MatchOption (cond v None (Some b)) ⊥ (λ b. IsStored s b a) → Next (finished_state s r q (Ok a)) (call_at t (Finish r) i (Ok a))
      by_removed true e p = absurd p
      by_removed false e p =
          rw (state_is e, x.held)
          (finish_holds s (writes_begun start h) (changes_of start h) l x.write (key_of q.entry) x.flies x.of_key (x.of_entry ∙ opens.entry) (has_stored (Ok a)) (rs t i r q x) a i.began ((f t i r q x).alive.0 e) p)

  finish_refused : (t : MomentValue) (i : Inside) (r : ℕ) (q : Request) (g : TierFault) → IsOpen start r q h → (x : Written start r q h) → IsFinishFault s (finishing q s.shelf) g
      → get s.requests r ≡ Some q
      → Next (on_request s r (λ q. finished_state s r q (Err g))) (call_at t (Finish r) i (Err g))
  finish_refused t i r q g opens x p there = by_removed (f t i r q x).flight.removed refl (subst (λ (o : Option FinishedBody). IsFinishFault s o g) is p)
    where
      b : FinishedBody
      b = finished_of (changes_of start h) x.write

      is : finishing q s.shelf ≡ cond (f t i r q x).flight.removed None (Some b)
      is = finishing-is start r q h s.shelf x (f t i r q x)

      by_removed : (v : Bool) → (f t i r q x).flight.removed ≡ v → IsFinishFault s (cond v None (Some b)) g → Next (on_request s r (λ q. finished_state s r q (Err g))) (call_at t (Finish r) i (Err g))
      by_removed true e gone =
          rw (gone, there, landed_is t i r q x false, is, e, x.held)
          (gone_holds s (writes_begun start h) (changes_of start h) l x.write (key_of q.entry) x.flies x.of_key (x.of_entry ∙ opens.entry) i.began false (rs t i r q x))
      by_removed false e p = elim p [
        | inl memory ↦ quiet_finish_holds t i r g (ap (λ (y : TierFault). is_landing (Err y)) memory)
        | inr late ↦
            rw (there, landing-stored g (fault-stored s b g late), landed_is t i r q x (has_stored (Err g)), is, e, x.held)
            (back_holds s (writes_begun start h) (changes_of start h) l x.write (key_of q.entry) x.flies x.of_key (x.of_entry ∙ opens.entry) g i.began (has_stored (Err g)) (rs t i r q x) ((f t i r q x).alive.0 e) late)
      ]

  drop_holds : (t : MomentValue) (i : Inside) (r : ℕ) (a : Answer) (q : Request) → IsOpen start r q h → Next (without_request s r q) (call_at t (Drop r) i (Ok a))
  drop_holds t i r a q opens = by_write q.write refl
    where
      by_write : (o : Option ℕ) → q.write ≡ o → Next (without_request s r q) (call_at t (Drop r) i (Ok a))
      by_write None e = rw (e, no-write start r q h opens e) (still i.began)
      by_write (Some m) e =
          let x = the-write start r q h opens fits m e in
          rw (x.number, x.held) (keeps-left (shards_of s) (writes_after (writes_begun start h) i.began) s.shelf.bodies s.shelf.flying s.managed (changes_of start h) (still i.began) x.write x.flies)

  purged : (t : MomentValue) (i : Inside) (key : CacheKeyValue) (v : Bool) → Next (after_purge s key v) (call_at t (Purge key) i (Ok (Purged v)))
  purged t i key true = keeps-cleared (shards_of s) (writes_after (writes_begun start h) i.began) s.shelf.bodies s.shelf.flying s.managed (changes_of start h) (still i.began) (entry_of key)
  purged t i key false = still i.began

  -- the request that a passed check speaks of
  pub there_open : (r : ℕ) (check : Request → Option TierFault) → unless_open (get s.requests r) check ≡ None → (q : Request) × (get s.requests r ≡ Some q) × IsOpen start r q h × (check q ≡ None)
  there_open r check n = let x = passed (get s.requests r) check n in (x.0, x.1, opened r x.0 x.1, x.2)

  pub has_write : (r : ℕ) (q : Request) → IsOpen start r q h → unless (is_some q.write) WrongPhase ≡ None → Written start r q h
  has_write r q opens n = by_write q.write refl (test_passed (is_some q.write) WrongPhase n)
    where
      by_write : (o : Option ℕ) → q.write ≡ o → is_some o ≡ true → Written start r q h
      by_write None e there = absurd cc
      by_write (Some m) e there = the-write start r q h opens fits m e

  answer_holds : (t : MomentValue) (i : Inside) (action : Action) (a : Answer) → refusal s action ≡ None → IsAnswer s t action (call_at t action i (Ok a)) a
      → BeginsWrite s (may_begin s (call_at t action i (Ok a))) (tells_of_write (call_at t action i (Ok a))) i.began
      → Next (answered s t action (call_at t action i (Ok a)) a) (call_at t action i (Ok a))
  answer_holds t i (Open r key asks) a n p x = still i.began
  answer_holds t i (LookUp r) a n p x = request_holds t i r a (get s.requests r) refl p
  answer_holds t i (Poll r) (Waited outcome) n p x = written_holds i (call_at t (Poll r) i (Ok (Waited outcome))) (get s.requests r) r (λ q. after_wait t outcome q.held q) refl
  answer_holds t i (Poll r) _ n p x = still i.began
  answer_holds t i (Begin r head given) a n p x =
      let q = there_open r _ n in
      rw q.1 (begin_holds t i r head given q.0 a (judged_of (call_at t (Begin r head given) i (Ok a))) (may_begin s (call_at t (Begin r head given) i (Ok a))) q.2 refl p x)
  answer_holds t i (Revalidate r head given) a n p x = renewal_answered start s h l opened t i r head given a (get s.requests r) refl p
  answer_holds t i (Piece r bytes last) a n p x =
      let q = there_open r _ n in
      rw (p, q.1) (piece_holds t i r bytes last q.0 q.2 q.3)
  answer_holds t i (Finish r) a n p x =
      let q = there_open r _ n in
      rw q.1 (finish_answered t i r q.0 a q.2 (has_write r q.0 q.2 q.3) (subst (λ (o : Option Request). MatchOption o ⊥ (λ q. MatchOption (finishing q s.shelf) ⊥ (λ b. IsStored s b a))) q.1 p))
  answer_holds t i (Read r) a n p x = written_holds i (call_at t (Read r) i (Ok a)) (get s.requests r) r (λ q. record q { reader = read_on a q.reader }) refl
  answer_holds t i (Drop r) a n p x =
      let q = there_open r _ n in
      rw q.1 (drop_holds t i r a q.0 q.2)
  answer_holds t i (Purge key) a n p x =
      subst (λ (y : Answer). Next (answered s t (Purge key) (call_at t (Purge key) i (Ok y)) y) (call_at t (Purge key) i (Ok y))) (sym p) (purged t i key (is_there (look (stored_key_of key) s.shelf)))
  answer_holds t i (Put key pieces given) a n p x =
      let c : Call = call_at t (Put key pieces given) i (Ok a) in
      subst (λ (m : ℕ). Next (after_put s (Some m) (finished_by c) a) c) (sym count)
      (put_holds s (writes_begun start h) (changes_of start h) l (finished_by c) (read_by c) a i.began (may_begin s c) p x)

  finish_fault_holds : (t : MomentValue) (i : Inside) (r : ℕ) (g : TierFault) (o : Option TierFault) → refusal s (Finish r) ≡ o → AllowsBy o s t (Finish r) (call_at t (Finish r) i (Err g)) (Err g)
      → Next (on_request s r (λ q. finished_state s r q (Err g))) (call_at t (Finish r) i (Err g))
  finish_fault_holds t i r g None n p =
      let q = there_open r _ n in
      elim p [
        | inl m ↦ absurd m.1
        | inr late ↦ finish_refused t i r q.0 g q.2 (has_write r q.0 q.2 q.3) (subst (λ (o : Option Request). MatchOption o ⊥ (λ q. IsFinishFault s (finishing q s.shelf) g)) q.1 late) q.1
      ]
  finish_fault_holds t i r g (Some c) n p =
      let same : g ≡ c = cc in
      quiet_finish_holds t i r g (rw same (finish_check (get s.requests r) c n))

  put_fault : (t : MomentValue) (i : Inside) (key : CacheKeyValue) (pieces : List (List ℕ)) (given : Option GivenMeta) (g : TierFault) → IsFault s t (Put key pieces given) (call_at t (Put key pieces given) i (Err g)) g
      → BeginsWrite s (may_begin s (call_at t (Put key pieces given) i (Err g))) (tells_of_write (call_at t (Put key pieces given) i (Err g))) i.began
      → Next (undone s (finished_by (call_at t (Put key pieces given) i (Err g))) (done_of g)) (call_at t (Put key pieces given) i (Err g))
  put_fault t i key pieces given g p x = elim p [
    | inl m ↦ quiet_holds s (writes_begun start h) (changes_of start h) l (finished_by (call_at t (Put key pieces given) i (Err g))) g i.began (ap done_of m.0)
    | inr late ↦ put_fault_holds s (writes_begun start h) (changes_of start h) l (finished_by (call_at t (Put key pieces given) i (Err g))) (read_by (call_at t (Put key pieces given) i (Err g))) g i.began (may_begin s (call_at t (Put key pieces given) i (Err g))) late x
  ]

  fault_holds : (t : MomentValue) (i : Inside) (action : Action) (g : TierFault) → AllowsBy (refusal s action) s t action (call_at t action i (Err g)) (Err g)
      → BeginsWrite s (may_begin s (call_at t action i (Err g))) (tells_of_write (call_at t action i (Err g))) i.began
      → Next (refused s action (call_at t action i (Err g)) g) (call_at t action i (Err g))
  fault_holds t i (Finish r) g p x = finish_fault_holds t i r g (refusal s (Finish r)) refl p
  fault_holds t i (Revalidate r head given) g p x = renewal_refused start s h l opened t i r head given g (refusal s (Revalidate r head given)) refl p
  fault_holds t i (Put key pieces given) g p x = put_fault t i key pieces given g p x
  fault_holds t i _ g p x = still i.began

  -- each lawful call's changes leave what the state after it holds
  pub Holds-after : (c : Call) → Allows s c → Next (after_outcome s c.event.moment c.event.action c c.outcome) c
  Holds-after c p = by_outcome c.outcome p.outcome p.begins
    where
      i : Inside
      i = record { reading = c.reading; began = c.began; asked = c.asked }

      by_outcome : (o : Outcome) → AllowsBy (refusal s c.event.action) s c.event.moment c.event.action (call_at c.event.moment c.event.action i o) o
          → BeginsWrite s (may_begin s (call_at c.event.moment c.event.action i o)) (tells_of_write (call_at c.event.moment c.event.action i o)) i.began
          → Next (after_outcome s c.event.moment c.event.action (call_at c.event.moment c.event.action i o) o) (call_at c.event.moment c.event.action i o)
      by_outcome (Ok a) p x =
          let q = unrefused s (refusal s c.event.action) c.event.moment c.event.action (call_at c.event.moment c.event.action i (Ok a)) a refl p in
          answer_holds c.event.moment i c.event.action a q.0 q.1 x
      by_outcome (Err g) p x = fault_holds c.event.moment i c.event.action g p x
