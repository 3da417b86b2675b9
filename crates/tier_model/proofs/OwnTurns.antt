-- What an event makes of the request that it names is what its own calls say.
use Rattle.cache_heads.specs.declared.given.GivenMeta.{GivenMeta}
use Rattle.std.proofs.Common.{◌≡◌, ℕ, ◌==◌, refl, ap, sym, ◌∙◌, true, false, subst, cond, ◌∷◌}
use Rattle.std.specs.Prelude.{Bool, List, Option, Some, None, option_map, Ok, ◌&&◌, MatchOption}
use Rattle.cache_words.specs.Time.{MomentValue}
use Rattle.cache_entries.specs.Entry.{key_of}
use Rattle.cache_changes.specs.Changes.{Write}
use Rattle.cache_changes.specs.Store.{Stored}
use Rattle.cache_lock.specs.declared.status.LockStatus.{LockStatus}
use Rattle.tier_model.specs.declared.event.Action.{Action}
use Rattle.tier_model.specs.declared.event.Action.TheVariants.{Open, LookUp, Poll, Begin, Revalidate, Finish, Read}
use Rattle.tier_model.specs.declared.event.Answer.{Answer}
use Rattle.tier_model.specs.declared.event.Answer.TheVariants.{Opened, Waited, Begun}
use Rattle.tier_model.specs.Keys.{Entry, entry_of, alone}
use Rattle.tier_model.specs.Response.{Judged, kept, not_kept}
use Rattle.tier_model.specs.Calls.{History, Outcome, is_confirmation, judged_of, opened_for, asks_lock}
use Rattle.tier_model.specs.Histories.{Kept, Opening, writes_begun, seen_after, shown_for, begun_by, is_landing, write_held, seen_by, changes_of}
use Rattle.tier_model.specs.Shelf.{Look, absent, in_flight, finished}
use Rattle.tier_model.specs.Standings.{no_lock, Wait, no_wait, hold_given, wait_polled, wait_after, wait_of}
use Rattle.tier_model.specs.Standings.{RequestStanding, own_opened, own_looked, own_begun, own_after, own_of, phase_absent, phase_found, no_reader, as_it_comes, reads_on}
use Rattle.tier_model.specs.State.{Phase, begun, disabled, revalidated, LockHold, nothing, permit, waits, Request, State, shards_of}
use Rattle.cache_words.specs.Key.{CacheKeyValue}
use Rattle.cache_entries.specs.declared.entry.CacheEntryKey.{CacheEntryKey}
use Rattle.tier_model.specs.Answers.{key_for, look_for, is_fresh, lock_given, look_answer, polled, IsBeginAnswer}
use Rattle.tier_model.specs.After.{seen_in, phase_of, reader_of, looked, after_wait, writing, confirmed, opened_request}
use Rattle.tier_model.specs.Past.{plain_seen, reads_in, own_in, wait_in}
use Rattle.tier_model.proofs.OtherLaws.{IsOther}
use Rattle.tier_model.proofs.CallLaws.{Inside, call_at, itself, begin_turn, land_turn, read_turn, turn}
use Rattle.tier_model.proofs.WriteLaws.{WritesFit, IsWriteOf}
use Rattle.tier_model.proofs.OpenLaws.{Holds, IsOpen, begun-is}
use Rattle.tier_model.proofs.ShownLaws.{IsSeen, sees, seen_found}
use Rattle.tier_model.specs.declared.event.LockGiven.{LockGiven}
use Rattle.tier_model.proofs.OwnSteps.{wait_look, own_wait, wait_wait, own_read}

-- what a look-up makes of what was seen
seen_look : (t : MomentValue) (r : ℕ) (given : LockGiven) (shown old : Option (Stored Kept)) (x : Look) → IsSeen x shown
    → seen_in t x ≡ option_map plain_seen (seen_after r shown (LookUp r) (Ok (look_answer t given x)) old)
seen_look t r given shown old absent is = sym (ap (λ v. option_map plain_seen (cond v None old)) (itself r))
seen_look t r given shown old (in_flight f) is =
    seen_found (is_fresh t f.meta) shown (record { number = f.number; meta = f.meta }) is ∙ sym (ap (λ v. option_map plain_seen (cond v (cond (is_fresh t f.meta) None shown) old)) (itself r))
seen_look t r given shown old (finished x) is =
    seen_found (is_fresh t x.body.meta) shown (record { number = x.number; meta = x.body.meta }) is
    ∙ sym (ap (λ v. option_map plain_seen (cond v (cond (is_fresh t x.body.meta) None shown) old)) (itself r))

module _ (start : Opening) where
  abbrev pub OpenFits : ℕ → Option Request → History → Type 0
  OpenFits id None h = opened_for id h ≡ None
  OpenFits id (Some q) h = IsOpen start id q h × (own_in q ≡ own_of id h) × (wait_in q ≡ wait_of id h) × (q.asks ≡ asks_lock id h)

  module _ (t : MomentValue) (i : Inside) (h : History) where
    -- a call that leaves a request alone
    pub kept_fits : (action : Action) (o : Outcome) (id : ℕ) → IsOther id t action o → (x : Option Request) → OpenFits id x h → OpenFits id x (call_at t action i o ∷ h)
    kept_fits action o id other None fits = other.key (opened_for id h) ∙ fits
    kept_fits action o id other (Some q) fits = (
      record {
        key = other.key (opened_for id h) ∙ fits.0.key;
        entry = fits.0.entry;
        seen = fits.0.seen ∙ ap (option_map plain_seen) (sym (other.seen (shown_for (opened_for id h) (changes_of start h)) (seen_by start id h)));
        write = fits.0.write ∙ ap (option_map (λ w. w.number)) (sym (other.write (begun_by start id (call_at t action i o) h) (write_held start id h)));
      },
      fits.1 ∙ sym (other.own (own_of id h)),
      fits.2 ∙ sym (other.wait (wait_of id h)),
      fits.3 ∙ sym (other.asks (asks_lock id h)),
    )

    module _ (s : State) (holds : Holds start s h) (count : s.shelf.writes ≡ writes_begun start h) (writes : WritesFit start h) where
      -- a request that isn't open has no write
      pub closed_none : (id : ℕ) → opened_for id h ≡ None → write_held start id h ≡ None
      closed_none id e = by_held (write_held start id h) refl
        where
          by_held : (o : Option (Write Kept)) → write_held start id h ≡ o → o ≡ None
          by_held None is = refl
          by_held (Some w) is = absurd (subst (λ (o : Option Entry). IsWriteOf start w o (changes_of start h)) e (writes.each id w is))

      pub look_fits : (r : ℕ) (q : Request) (l : Look) (a : Answer) → look_for q s.shelf ≡ l → a ≡ look_answer t (lock_given t q l s.lock) l → OpenFits r (Some q) h
          → OpenFits r (Some (looked t q l s.lock)) (call_at t (LookUp r) i (Ok a) ∷ h)
      look_fits r q l a found e fits =
          subst (λ (y : Answer). OpenFits r (Some (looked t q l s.lock)) (call_at t (LookUp r) i (Ok y) ∷ h)) (sym e)
          (by_look l refl)
        where
          shown : IsSeen l (shown_for (opened_for r h) (changes_of start h))
          shown = subst (λ (o : Option Entry). IsSeen l (shown_for o (changes_of start h))) (sym fits.0.key)
              (sees (shards_of s) (writes_begun start h) s.shelf.bodies s.shelf.flying s.managed (changes_of start h) holds.leaves (key_for q) l found)

          opens : IsOpen start r (looked t q l s.lock) (call_at t (LookUp r) i (Ok (look_answer t (lock_given t q l s.lock) l)) ∷ h)
          opens = record {
            key = fits.0.key;
            entry = fits.0.entry;
            seen = seen_look t r (lock_given t q l s.lock) (shown_for (opened_for r h) (changes_of start h)) (seen_by start r h) l shown;
            write = fits.0.write;
          }

          phase : q.phase ≡ (own_of r h).phase
          phase = ap (λ (x : RequestStanding). x.phase) fits.1

          waiting : wait_in (looked t q l s.lock) ≡ cond (r == r) (record (wait_of r h) { hold = hold_given (lock_given t q l s.lock) (wait_of r h).hold }) (wait_of r h)
          waiting =
              wait_look t q s.lock l ∙ ap (λ (w : Wait). record w { hold = hold_given (lock_given t q l s.lock) w.hold }) fits.2
              ∙ sym (ap (λ v. cond v (record (wait_of r h) { hold = hold_given (lock_given t q l s.lock) (wait_of r h).hold }) (wait_of r h)) (itself r))

          by_look : (k : Look) → l ≡ k → OpenFits r (Some (looked t q l s.lock)) (call_at t (LookUp r) i (Ok (look_answer t (lock_given t q l s.lock) l)) ∷ h)
          by_look absent e = (
            opens,
            ap (λ (k : Look). own_looked (phase_of t (lock_given t q l s.lock) k q.phase) (reads_in (reader_of k)) (lock_given t q l s.lock)) e
                ∙ ap (λ (p : Phase). own_looked (phase_absent (lock_given t q l s.lock) p) no_reader (lock_given t q l s.lock)) phase
                ∙ sym (ap (λ v. cond v (own_looked (phase_absent (lock_given t q l s.lock) (own_of r h).phase) no_reader (lock_given t q l s.lock)) (own_of r h)) (itself r))
                ∙ sym (ap (λ (k : Look). own_after r (LookUp r) (Ok (look_answer t (lock_given t q l s.lock) k)) (own_of r h)) e),
            waiting ∙ sym (ap (λ (k : Look). wait_after r t (LookUp r) (Ok (look_answer t (lock_given t q l s.lock) k)) (wait_of r h)) e),
            fits.3,
          )
          by_look (in_flight f) e = (
            opens,
            ap (λ (k : Look). own_looked (phase_of t (lock_given t q l s.lock) k q.phase) (reads_in (reader_of k)) (lock_given t q l s.lock)) e
                ∙ sym (ap (λ v. cond v (own_looked (phase_found (is_fresh t f.meta)) as_it_comes (lock_given t q l s.lock)) (own_of r h)) (itself r))
                ∙ sym (ap (λ (k : Look). own_after r (LookUp r) (Ok (look_answer t (lock_given t q l s.lock) k)) (own_of r h)) e),
            waiting ∙ sym (ap (λ (k : Look). wait_after r t (LookUp r) (Ok (look_answer t (lock_given t q l s.lock) k)) (wait_of r h)) e),
            fits.3,
          )
          by_look (finished b) e = (
            opens,
            ap (λ (k : Look). own_looked (phase_of t (lock_given t q l s.lock) k q.phase) (reads_in (reader_of k)) (lock_given t q l s.lock)) e
                ∙ sym (ap (λ v. cond v (own_looked (phase_found (is_fresh t b.body.meta)) (reads_in (reader_of (finished b))) (lock_given t q l s.lock)) (own_of r h)) (itself r))
                ∙ sym (ap (λ (k : Look). own_after r (LookUp r) (Ok (look_answer t (lock_given t q l s.lock) k)) (own_of r h)) e),
            waiting ∙ sym (ap (λ (k : Look). wait_after r t (LookUp r) (Ok (look_answer t (lock_given t q l s.lock) k)) (wait_of r h)) e),
            fits.3,
          )

      pub begin_fits : (r : ℕ) (head : List ℕ) (given : Option GivenMeta) (q : Request) (a : Answer) (j : Option Judged) → judged_of (call_at t (Begin r head given) i (Ok a)) ≡ j → IsBeginAnswer j a → OpenFits r (Some q) h
          → OpenFits r (Some (begin_turn s j q)) (call_at t (Begin r head given) i (Ok a) ∷ h)
      begin_fits r head given q a (Some (kept meta)) is p fits =
          subst (λ (y : Answer). OpenFits r (Some (writing s.shelf.writes q)) (call_at t (Begin r head given) i (Ok y) ∷ h)) (sym p) (
            record {
              key = fits.0.key;
              entry = fits.0.entry;
              seen = sym (ap (λ v. option_map plain_seen (cond v None (seen_by start r h))) (itself r));
              write = ap (λ (n : ℕ). Some n) count
                  ∙ sym (ap (λ v. option_map (λ (w : Write Kept). w.number) (cond v (begun_by start r (call_at t (Begin r head given) i (Ok Begun)) h) (write_held start r h))) (itself r)
                  ∙ ap (option_map (λ (w : Write Kept). w.number)) (begun-is start r q h (call_at t (Begin r head given) i (Ok Begun)) fits.0 meta is));
            },
            ap (own_begun begun as_it_comes) fits.1 ∙ sym (ap (λ v. cond v (own_begun begun as_it_comes (own_of r h)) (own_of r h)) (itself r)),
            ap (λ (w : Wait). record w { hold = no_lock }) fits.2 ∙ sym (ap (λ v. cond v (record (wait_of r h) { hold = no_lock }) (wait_of r h)) (itself r)),
            fits.3,
          )
      begin_fits r head given q a (Some (not_kept reason)) is p fits =
          subst (λ (y : Answer). OpenFits r (Some (begin_turn s (Some (not_kept reason)) q)) (call_at t (Begin r head given) i (Ok y) ∷ h)) (sym p) (
            record { key = fits.0.key; entry = fits.0.entry; seen = sym (ap (λ v. option_map plain_seen (cond v None (seen_by start r h))) (itself r)); write = fits.0.write },
            ap (own_begun disabled no_reader) fits.1 ∙ sym (ap (λ v. cond v (own_begun disabled no_reader (own_of r h)) (own_of r h)) (itself r)),
            ap (λ (w : Wait). record w { hold = no_lock }) fits.2 ∙ sym (ap (λ v. cond v (record (wait_of r h) { hold = no_lock }) (wait_of r h)) (itself r)),
            fits.3,
          )
      begin_fits r head given q a (Some _) is p fits = absurd p
      begin_fits r head given q a None is p fits = absurd p

      pub confirm_fits : (r : ℕ) (head : List ℕ) (given : Option GivenMeta) (o : Outcome) (q : Request) → is_confirmation o ≡ true → OpenFits r (Some q) h → OpenFits r (Some (confirmed q)) (call_at t (Revalidate r head given) i o ∷ h)
      confirm_fits r head given o q e fits = (
        record { key = fits.0.key; entry = fits.0.entry; seen = sym (ap (λ v. option_map plain_seen (cond v None (seen_by start r h))) ends); write = fits.0.write },
        ap (λ (x : RequestStanding). record x { phase = revalidated }) fits.1 ∙ sym (ap (λ v. cond v (record (own_of r h) { phase = revalidated }) (own_of r h)) ends),
        ap (λ (w : Wait). record w { hold = no_lock }) fits.2 ∙ sym (ap (λ v. cond v (record (wait_of r h) { hold = no_lock }) (wait_of r h)) ends),
        fits.3,
      )
        where
          ends : ((r == r) && is_confirmation o) ≡ true
          ends = ap (λ v. v && is_confirmation o) (itself r) ∙ e

      pub finish_fits : (r : ℕ) (o : Outcome) (x : Option Request) → OpenFits r x h → OpenFits r (option_map (land_turn (is_landing o)) x) (call_at t (Finish r) i o ∷ h)
      finish_fits r o None fits = fits
      finish_fits r o (Some q) fits = by_landing (is_landing o) refl
        where
          by_landing : (v : Bool) → is_landing o ≡ v → OpenFits r (Some (land_turn v q)) (call_at t (Finish r) i o ∷ h)
          by_landing true e = (
            record {
              key = fits.0.key;
              entry = fits.0.entry;
              seen = fits.0.seen;
              write = sym (ap (λ v. option_map (λ (w : Write Kept). w.number) (cond (v && is_landing o) None (write_held start r h))) (itself r)
                  ∙ ap (λ v. option_map (λ (w : Write Kept). w.number) (cond v None (write_held start r h))) e);
            },
            fits.1,
            fits.2,
            fits.3,
          )
          by_landing false e = (
            record {
              key = fits.0.key;
              entry = fits.0.entry;
              seen = fits.0.seen;
              write = fits.0.write ∙ sym (ap (λ v. option_map (λ (w : Write Kept). w.number) (cond (v && is_landing o) None (write_held start r h))) (itself r)
                  ∙ ap (λ v. option_map (λ (w : Write Kept). w.number) (cond v None (write_held start r h))) e);
            },
            fits.1,
            fits.2,
            fits.3,
          )

      pub open_fits : (k : ℕ) (key : CacheKeyValue) (asks : Bool) → opened_for k h ≡ None → OpenFits k (Some (opened_request s.wait (entry_of key) asks)) (call_at t (Open k key asks) i (Ok Opened) ∷ h)
      open_fits k key asks none = (
        record {
          key = ap (λ v. cond v (Some (entry_of key)) (opened_for k h)) (itself k);
          entry = refl;
          seen = sym (ap (λ v. option_map plain_seen (cond v None (seen_by start k h))) (itself k));
          write = sym (ap (option_map (λ (w : Write Kept). w.number)) (closed_none k none));
        },
        sym (ap (λ v. cond v own_opened (own_of k h)) (itself k)),
        sym (ap (λ v. cond v no_wait (wait_of k h)) (itself k)),
        sym (ap (λ v. cond v asks (asks_lock k h)) (itself k)),
      )

      pub poll_fits : (k : ℕ) (x : Option Request) (a : Answer) → MatchOption x ⊥ (λ q. a ≡ Waited (polled s.lock t q q.held)) → OpenFits k x h
          → OpenFits k (turn s t (Poll k) None (Ok a) x) (call_at t (Poll k) i (Ok a) ∷ h)
      poll_fits k None a p fits = absurd p
      poll_fits k (Some q) a p fits =
          subst (λ (y : Answer). OpenFits k (turn s t (Poll k) None (Ok y) (Some q)) (call_at t (Poll k) i (Ok y) ∷ h)) (sym p)
          (waited (polled s.lock t q q.held) q.held refl)
        where
          waited : (outcome : Option LockStatus) (held : LockHold) → q.held ≡ held → OpenFits k (Some (after_wait t outcome q.held q)) (call_at t (Poll k) i (Ok (Waited outcome)) ∷ h)
          waited outcome held e = (
            as_before outcome held e,
            own_wait t outcome q.held q ∙ fits.1,
            wait_wait t outcome q.held q ∙ ap (λ (w : Wait). wait_polled t outcome w.hold w) fits.2
                ∙ sym (ap (λ v. cond v (wait_polled t outcome (wait_of k h).hold (wait_of k h)) (wait_of k h)) (itself k)),
            (same outcome q.held).3 ∙ fits.3,
          )
            where
              same : (outcome : Option LockStatus) (held : LockHold) → ((after_wait t outcome held q).entry ≡ q.entry) × ((after_wait t outcome held q).write ≡ q.write)
                  × ((after_wait t outcome held q).seen ≡ q.seen) × ((after_wait t outcome held q).asks ≡ q.asks)
              same None (waits n first) = (refl, refl, refl, refl)
              same None (permit n) = (refl, refl, refl, refl)
              same None nothing = (refl, refl, refl, refl)
              same (Some x) (waits n first) = (refl, refl, refl, refl)
              same (Some x) (permit n) = (refl, refl, refl, refl)
              same (Some x) nothing = (refl, refl, refl, refl)

              as_before : (outcome : Option LockStatus) (held : LockHold) → q.held ≡ held → IsOpen start k (after_wait t outcome q.held q) (call_at t (Poll k) i (Ok (Waited outcome)) ∷ h)
              as_before outcome held e =
                  let one = same outcome q.held in
                  record {
                    key = fits.0.key ∙ ap (λ (y : CacheEntryKey). Some (key_of y)) (sym one.0);
                    entry = one.0 ∙ fits.0.entry ∙ ap (λ (y : CacheEntryKey). alone (key_of y)) (sym one.0);
                    seen = one.2 ∙ fits.0.seen;
                    write = one.1 ∙ fits.0.write;
                  }

      pub read_fits : (k : ℕ) (x : Option Request) (a : Answer) → OpenFits k x h → OpenFits k (option_map (read_turn a) x) (call_at t (Read k) i (Ok a) ∷ h)
      read_fits k None a fits = fits
      read_fits k (Some q) a fits = (
        record { key = fits.0.key; entry = fits.0.entry; seen = fits.0.seen; write = fits.0.write },
        own_read a q ∙ ap (λ (o : RequestStanding). record o { reads = reads_on o.reads }) fits.1
            ∙ sym (ap (λ v. cond v (record (own_of k h) { reads = reads_on (own_of k h).reads }) (own_of k h)) (itself k)),
        fits.2,
        fits.3,
      )
