-- What a request has to read is what its calls say, and each read gives it.
use Rattle.cache_heads.specs.declared.given.GivenMeta.{GivenMeta}
use Rattle.std.proofs.Common.{◌≡◌, ℕ, ◌+◌, refl, ap, sym, ◌∙◌, true, false, subst, cond, [], ◌∷◌, ◌++◌, ◌==◌, length, drop, arith, append_assoc, length-append, inl, inr}
use Rattle.std.specs.Prelude.{◌↔◌, ◌&&◌, Bool, List, Option, Some, None, option_map, find, Ok}
use Rattle.std.specs.FinMap.{get}
use Rattle.cache_words.specs.Time.{MomentValue}
use Rattle.cache_changes.specs.Changes.{stored_key, Write, Change, Changes}
use Rattle.cache_changes.specs.Writes.{bytes_of}
use Rattle.cache_changes.specs.Store.{store_of, has_number as held_number}
use Rattle.cache_changes.proofs.WriteLaws.{Life, life, life-tells, is_flight}
use Rattle.cache_changes.proofs.BodyLaws.{flight_life}
use Rattle.cache_changes.proofs.FlightLaws.{flying_of, flying_at-is}
use Rattle.cache_changes.proofs.LaterLaws.{bytes-later}
use Rattle.cache_entries.specs.Entry.{key_of}
use Rattle.tier_model.specs.declared.state.Body.{Body}
use Rattle.tier_model.specs.declared.event.Action.TheVariants.{LookUp, Begin, Read}
use Rattle.tier_model.specs.declared.event.Answer.{Answer}
use Rattle.tier_model.specs.declared.event.Answer.TheVariants.{Begun, Bytes, End}
use Rattle.tier_model.specs.declared.event.LockGiven.{LockGiven}
use Rattle.tier_model.specs.Keys.{alone}
use Rattle.tier_model.specs.Response.{Judged, kept, not_kept, too_early, not_read}
use Rattle.tier_model.specs.Calls.{Call, History, extended, judged_of, ends_reader, bytes_given, bytes_read, bytes_answered}
use Rattle.tier_model.specs.Histories.{Kept, Opening, writes_begun, changes_of, HasHit}
use Rattle.tier_model.specs.Reads.{HasStream, IsWhole}
use Rattle.tier_model.specs.Shelf.{InFlight, Readers, has_number, flying_at, flies_for, Look, absent, in_flight, finished, readable, past_place}
use Rattle.tier_model.specs.State.{Reader, closed, unread, spent, streaming, Request, State, shards_of}
use Rattle.tier_model.specs.Answers.{key_for, look_for, look_answer, next_by, next_of, read_answer, IsBeginAnswer}
use Rattle.tier_model.specs.After.{reader_of, meta_for, read_on}
use Rattle.tier_model.specs.Past.{plain, streams_by, streams, streamers, IsReadable, HasToRead}
use Rattle.tier_model.proofs.ShownLaws.{shows, shows_flight, body_shown}
use Rattle.tier_model.proofs.FlightLaws.{find-plain}
use Rattle.tier_model.proofs.CallLaws.{Inside, call_at, changes_at, itself, begin_turn}
use Rattle.tier_model.proofs.OpenLaws.{Holds, IsOpen, begun-is, flight-at, look_finished, look_flight}
use Rattle.tier_model.specs.Shelf.{readable_of, whole_of, is_whole}
use Rattle.tier_model.proofs.WholeLaws.{all_came, whole-came, came-flying}
use Rattle.tier_model.proofs.ReaderLaws.{sum-taken, CountFits, LeftBy}
use Rattle.tier_model.proofs.StreamLaws.{Counted}

append_nothing : (xs : List ℕ) → xs ++ [] ≡ xs
append_nothing [] = refl
append_nothing (x ∷ xs) = ap (λ (ys : List ℕ). x ∷ ys) (append_nothing xs)

drop_front : (xs ys : List ℕ) → drop (length xs) (xs ++ ys) ≡ ys
drop_front [] ys = refl
drop_front (x ∷ xs) ys = drop_front xs ys

-- the bytes of a write only grow
grown : (n : ℕ) (cs : List (Change Kept)) (changes : Changes Kept) → (new : List ℕ) × (bytes_of n (extended changes cs) ≡ bytes_of n changes ++ new)
grown n [] changes = ([], sym (append_nothing (bytes_of n changes)))
grown n (c ∷ cs) changes =
    let rest = grown n cs (c ∷ changes) in
    (bytes_of n (c ∷ []) ++ rest.0, rest.1 ∙ ap (λ (xs : List ℕ). xs ++ rest.0) (bytes-later n (c ∷ []) changes) ∙ append_assoc (bytes_of n changes) (bytes_of n (c ∷ [])) rest.0)

module _ (start : Opening) where
  abbrev longer_hit : (id : ℕ) (w : Write Kept) (since : History) (c : Call) (h : History) → ends_reader id c ≡ false → HasHit start id w since h → HasHit start id w (c ∷ since) (c ∷ h)
  longer_hit id w since c h e hit = record {
    call = hit.call;
    before = hit.before;
    entry = hit.entry;
    split = ap (λ (past : History). c ∷ past) hit.split;
    hit = hit.hit;
    of_entry = hit.of_entry;
    shows = hit.shows;
    last = (e, hit.last);
  }

  abbrev longer_stream : (id : ℕ) (w : Write Kept) (since : History) (c : Call) (h : History) → ends_reader id c ≡ false → HasStream start id w since h → HasStream start id w (c ∷ since) (c ∷ h)
  longer_stream id w since c h e stream = record { call = stream.call; before = stream.before; split = ap (λ (past : History). c ∷ past) stream.split; streams = stream.streams; last = (e, stream.last) }

  same_bytes_read : (id : ℕ) (since : History) (c : Call) → bytes_given id c.event.action c.outcome ≡ [] → bytes_read id (c ∷ since) ≡ bytes_read id since
  same_bytes_read id since c e = ap (λ (ys : List ℕ). bytes_read id since ++ ys) e ∙ append_nothing (bytes_read id since)

  -- a call that leaves a reader alone
  pub carry : (id : ℕ) (r : Reader) (c : Call) (h : History) → ends_reader id c ≡ false → bytes_given id c.event.action c.outcome ≡ [] → HasToRead start id r h → HasToRead start id r (c ∷ h)
  carry id closed c h e b fits = tt
  carry id (unread bytes) c h e b fits = (fits.0, c ∷ fits.1, longer_hit id fits.0 fits.1 c h e fits.2, same_bytes_read id fits.1 c b ∙ fits.3, fits.4)
  carry id spent c h e b fits = (fits.0, c ∷ fits.1, longer_hit id fits.0 fits.1 c h e fits.2, same_bytes_read id fits.1 c b ∙ fits.3)
  carry id (streaming n place) c h e b fits =
      let new = grown n (changes_at start c.event.action c.outcome c h (changes_of start h)) (changes_of start h) in
      let same = same_bytes_read id fits.1 c b in (
        fits.0,
        c ∷ fits.1,
        longer_stream id fits.0 fits.1 c h e fits.2,
        fits.3,
        fits.4 ∙ ap length (sym same),
        (fits.5.0 ++ new.0, new.1 ∙ ap (λ (xs : List ℕ). xs ++ new.0) fits.5.1 ∙ append_assoc (bytes_read id fits.1) fits.5.0 new.0 ∙ ap (λ (xs : List ℕ). xs ++ (fits.5.0 ++ new.0)) (sym same)),
      )

  abbrev pub ReadsFit : ℕ → Option Request → History → Type 0
  ReadsFit id None h = Unit {0}
  ReadsFit id (Some q) h = HasToRead start id q.reader h

  pub carry_all : (id : ℕ) (o : Option Request) (c : Call) (h : History) → ends_reader id c ≡ false → bytes_given id c.event.action c.outcome ≡ [] → ReadsFit id o h → ReadsFit id o (c ∷ h)
  carry_all id None c h e b fits = tt
  carry_all id (Some q) c h e b fits = carry id q.reader c h e b fits

  module _ (s : State) (h : History) (l : Holds start s h) (count : s.shelf.writes ≡ writes_begun start h)
      (opened : (r : ℕ) (q : Request) → get s.requests r ≡ Some q → IsOpen start r q h) (counts : Counted s (changes_of start h)) where
    -- what a request streams is there to read
    streamed : (r : ℕ) (q : Request) (n place : ℕ) → get s.requests r ≡ Some q → q.reader ≡ streaming n place
        → (x : Readers) × (get s.shelf.readers n ≡ Some x) × CountFits n (Some x) (streamers n s.requests) (changes_of start h)
    streamed r q n place e is = by_entry (get s.shelf.readers n) refl (counts n)
      where
        one : streams n q ≡ 1
        one = ap (streams_by n) is ∙ ap (λ v. cond v 1 0) (itself n)

        by_entry : (o : Option Readers) → get s.shelf.readers n ≡ o → CountFits n o (streamers n s.requests) (changes_of start h)
            → (x : Readers) × (get s.shelf.readers n ≡ Some x) × CountFits n (Some x) (streamers n s.requests) (changes_of start h)
        by_entry None there fits = let some = sum-taken (streams n) s.requests r (Some q) e in absurd (omega (arith, some, one, fits))
        by_entry (Some x) there fits = (x, there, fits)

    landed_none : (n : ℕ) (x : Life Kept) → life n (changes_of start h) ≡ Some x → x.flies ≡ false → flying_at n s.shelf.flying ≡ None
    landed_none n x e f =
        ap (find (has_number n)) l.leaves.flights ∙ find-plain (held_number n) (has_number n) (store_of (changes_of start h)).flying (λ f. refl)
        ∙ ap (option_map plain) (flying_at-is n (changes_of start h) l.leaves.orderly ∙ ap (flying_of (changes_of start h)) e ∙ by_flag x.flies f)
      where
        by_flag : (v : Bool) → v ≡ false → flying_of (changes_of start h) (Some (record x { flies = v })) ≡ None
        by_flag false e = refl
        by_flag true e = absurd cc

    whole_as : (n : ℕ) (v : Bool) → v ≡ all_came n (changes_of start h) → (v ≡ true) ↔ IsWhole n (changes_of start h)
    whole_as n v e = let came = whole-came n (changes_of start h) in (λ t. came.0 (sym e ∙ t), λ t. e ∙ came.1 t)

    pub readable_is : (r : ℕ) (q : Request) (n place : ℕ) → get s.requests r ≡ Some q → q.reader ≡ streaming n place → IsReadable s.shelf n (changes_of start h)
    readable_is r q n place e is =
        let x = streamed r q n place e is in
        by_flag x.0 x.1 x.2.2.0 x.2.2.1 x.2.2.0.flies refl x.2.2.2
      where
        by_flag : (x : Readers) → get s.shelf.readers n ≡ Some x → (y : Life Kept) → life n (changes_of start h) ≡ Some y → (v : Bool) → y.flies ≡ v
            → LeftBy v x.left x.whole (bytes_of n (changes_of start h)) (all_came n (changes_of start h)) → IsReadable s.shelf n (changes_of start h)
        by_flag x there y known true flies left =
            let tells = life-tells n (changes_of start h) y known in
            let f = flight-at (shards_of s) (writes_begun start h) s.shelf.bodies s.shelf.flying s.managed (changes_of start h) l.leaves y.write (is_flight n (changes_of start h) y known flies) in
            subst (λ (m : ℕ). IsReadable s.shelf m (changes_of start h)) (sym tells.number) (
              f.flight.ended,
              ap (λ (o : Option InFlight). readable_of o (get s.shelf.readers y.write.number)) f.at ∙ ap (λ (b : List ℕ). Some (b, f.flight.ended)) f.bytes,
              (λ over. inl (sym f.ended ∙ over), λ over. elim over [ inl end ↦ f.ended ∙ end | inr none ↦ absurd (none (y.write, refl, is_flight n (changes_of start h) y known flies)) ]),
              whole_as y.write.number (is_whole y.write.number s.shelf)
                  (ap (λ (o : Option InFlight). whole_of o (get s.shelf.readers y.write.number)) f.at ∙ f.ended ∙ sym (came-flying y.write (changes_of start h) l.leaves.orderly (is_flight n (changes_of start h) y known flies))),
            )
        by_flag x there y known false flies left = (
          true,
          ap (λ (o : Option InFlight). readable_of o (get s.shelf.readers n)) (landed_none n y known flies) ∙ ap (λ (o : Option Readers). readable_of None o) there
              ∙ ap (λ (o : Option (List ℕ)). option_map (λ bytes. (bytes, true)) o) left.0,
          (
            λ over. inr (λ flying.
                let known_again = flight_life n (changes_of start h) l.leaves.orderly flying in
                let both : y.flies ≡ true = let same : Some y ≡ Some (record { write = known_again.0; flies = true; alive = known_again.1 }) = sym known ∙ known_again.2 in flag_of same in
                absurd cc),
            λ over. refl,
          ),
          whole_as n (is_whole n s.shelf)
              (ap (λ (o : Option InFlight). whole_of o (get s.shelf.readers n)) (landed_none n y known flies) ∙ ap (λ (o : Option Readers). whole_of None o) there ∙ left.1),
        )
          where
            flag_of : {w : Write Kept} {a : Bool} → Some y ≡ Some (record { write = w; flies = true; alive = a }) → y.flies ≡ true
            flag_of {w = w} {a = a} same = let one : y ≡ record { write = w; flies = true; alive = a } = cc in ap (λ (z : Life Kept). z.flies) one

    -- ---- new readers

    pub looked_fits : (t : MomentValue) (i : Inside) (r : ℕ) (q : Request) (x : Look) (given : LockGiven) → IsOpen start r q h → look_for q s.shelf ≡ x
        → HasToRead start r (reader_of x) (call_at t (LookUp r) i (Ok (look_answer t given x)) ∷ h)
    looked_fits t i r q absent given opens e = tt
    looked_fits t i r q (in_flight f) given opens e =
        let x = shows_flight (shards_of s) (writes_begun start h) s.shelf.bodies s.shelf.flying s.managed (changes_of start h) l.leaves (key_for q) f
        (look_flight (find (flies_for (key_for q)) s.shelf.flying) (get s.shelf.bodies (key_for q)) f e) in (
          x.write,
          [],
          record { call = call_at t (LookUp r) i (Ok (look_answer t given (in_flight f))); before = h; split = refl; streams = inl (ap (λ v. v && true) (itself r), (key_of q.entry, opens.key, x.shown)); last = tt },
          sym x.number,
          refl,
          (bytes_of f.number (changes_of start h), refl),
        )
    looked_fits t i r q (finished b) given opens e =
        let there = look_finished (find (flies_for (key_for q)) s.shelf.flying) (get s.shelf.bodies (key_for q)) b e in
        let x = shows (shards_of s) (writes_begun start h) s.shelf.bodies s.shelf.flying s.managed (changes_of start h) l.leaves (key_for q) b there.1 in (
          x.write,
          [],
          record {
            call = call_at t (LookUp r) i (Ok (look_answer t given (finished b)));
            before = h;
            entry = key_of q.entry;
            split = refl;
            hit = ap (λ v. v && true) (itself r);
            of_entry = opens.key;
            shows = body_shown (shards_of s) (writes_begun start h) s.shelf.bodies s.shelf.flying s.managed (changes_of start h) l.leaves (key_for q) there.0 b x;
            last = tt;
          },
          refl,
          sym (ap (λ (p : Body). p.bytes) x.tells),
        )

    pub begun_fits : (t : MomentValue) (i : Inside) (r : ℕ) (head : List ℕ) (given : Option GivenMeta) (q : Request) (a : Answer) (j : Option Judged) → IsOpen start r q h
        → judged_of (call_at t (Begin r head given) i (Ok a)) ≡ j → IsBeginAnswer j a
        → HasToRead start r (begin_turn s j q).reader (call_at t (Begin r head given) i (Ok a) ∷ h)
    begun_fits t i r head given q a (Some (kept meta)) opens is p =
        subst (λ (y : Answer). HasToRead start r (streaming s.shelf.writes 0) (call_at t (Begin r head given) i (Ok y) ∷ h)) (sym p) (
          record { number = writes_begun start h; key = stored_key (key_of q.entry); meta = record { entry = alone (key_of q.entry); meta = meta_for q meta } },
          [],
          record {
            call = call_at t (Begin r head given) i (Ok Begun);
            before = h;
            split = refl;
            streams = inr (itself r, begun-is start r q h (call_at t (Begin r head given) i (Ok Begun)) opens meta is);
            last = tt;
          },
          sym count,
          refl,
          (bytes_of s.shelf.writes (changes_of start (call_at t (Begin r head given) i (Ok Begun) ∷ h)), refl),
        )
    begun_fits t i r head given q a (Some (not_kept reason)) opens is p = tt
    begun_fits t i r head given q a (Some too_early) opens is p = absurd p
    begun_fits t i r head given q a (Some not_read) opens is p = absurd p
    begun_fits t i r head given q a None opens is p = absurd p

    -- ---- reads

    next_bytes : (more : List ℕ) (over : Bool) → bytes_answered (next_by more over) ≡ more
    next_bytes [] true = refl
    next_bytes [] false = refl
    next_bytes (b ∷ bytes) over = refl

    -- what a reader of a write as it comes has ahead of it
    pub ahead : (r n place : ℕ) (fits : HasToRead start r (streaming n place) h) (x : IsReadable s.shelf n (changes_of start h)) → past_place place (readable n s.shelf) ≡ (fits.5.0, x.0)
    ahead r n place fits x =
        ap (past_place place) x.1 ∙ ap (λ (b : List ℕ). (drop place b, x.0)) fits.5.1
        ∙ ap (λ (k : ℕ). (drop k (bytes_read r fits.1 ++ fits.5.0), x.0)) fits.4 ∙ ap (λ (b : List ℕ). (b, x.0)) (drop_front (bytes_read r fits.1) fits.5.0)

    pub read_fits : (t : MomentValue) (i : Inside) (r : ℕ) (q : Request) (x : Reader) (a : Answer) → get s.requests r ≡ Some q → q.reader ≡ x → a ≡ read_answer x s.shelf
        → HasToRead start r x h → HasToRead start r (read_on a x) (call_at t (Read r) i (Ok a) ∷ h)
    read_fits t i r q closed a e is p fits = tt
    read_fits t i r q (unread bytes) a e is p fits =
        subst (λ (y : Answer). HasToRead start r spent (call_at t (Read r) i (Ok y) ∷ h)) (sym p) (
          fits.0,
          call_at t (Read r) i (Ok (Bytes bytes)) ∷ fits.1,
          longer_hit r fits.0 fits.1 (call_at t (Read r) i (Ok (Bytes bytes))) h refl fits.2,
          ap (λ (xs : List ℕ). xs ++ cond (r == r) bytes []) fits.3 ∙ ap (λ v. cond v bytes []) (itself r) ∙ fits.4,
        )
    read_fits t i r q spent a e is p fits =
        subst (λ (y : Answer). HasToRead start r spent (call_at t (Read r) i (Ok y) ∷ h)) (sym p) (
          fits.0,
          call_at t (Read r) i (Ok End) ∷ fits.1,
          longer_hit r fits.0 fits.1 (call_at t (Read r) i (Ok End)) h refl fits.2,
          ap (λ v. bytes_read r fits.1 ++ cond v [] []) (itself r) ∙ append_nothing (bytes_read r fits.1) ∙ fits.3,
        )
    read_fits t i r q (streaming n place) a e is p fits =
        let x = readable_is r q n place e is in
        let gave : bytes_answered a ≡ fits.5.0 = ap bytes_answered (p ∙ ap next_of (ahead r n place fits x)) ∙ next_bytes fits.5.0 x.0 in
        let read : bytes_read r (call_at t (Read r) i (Ok a) ∷ fits.1) ≡ bytes_read r fits.1 ++ fits.5.0 =
        ap (λ v. bytes_read r fits.1 ++ cond v (bytes_answered a) []) (itself r) ∙ ap (λ (xs : List ℕ). bytes_read r fits.1 ++ xs) gave in (
          fits.0,
          call_at t (Read r) i (Ok a) ∷ fits.1,
          longer_stream r fits.0 fits.1 (call_at t (Read r) i (Ok a)) h refl fits.2,
          fits.3,
          ap (λ (k : ℕ). k + length (bytes_answered a)) fits.4 ∙ ap (λ (xs : List ℕ). length (bytes_read r fits.1) + length xs) gave ∙ sym (length-append (bytes_read r fits.1) fits.5.0) ∙ ap length (sym read),
          ([], fits.5.1 ∙ sym read ∙ sym (append_nothing (bytes_read r (call_at t (Read r) i (Ok a) ∷ fits.1)))),
        )
