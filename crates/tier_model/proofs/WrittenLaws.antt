-- What the changes of one write leave is what a tier's state holds.
use Rattle.std.proofs.Common.{◌≡◌, ℕ, ◌+◌, ◌≤◌, refl, ap, sym, ◌∙◌, true, false, subst, cond, [], ◌∷◌, length, arith}
use Rattle.std.specs.Prelude.{Bool, List, Option, Some, None, option_map, map, find, filter, not, ◌++◌}
use Rattle.std.specs.FinMap.{get}
use Rattle.std.proofs.Math.Nat.{le-max_right}
use Rattle.cache_entries.specs.declared.entry.CacheEntryKey.{CacheEntryKey}
use Rattle.cache_entries.specs.Keys.{same_bytes}
use Rattle.cache_entries.specs.SameEntry.{same_bytes-tells}
use Rattle.cache_changes.specs.Changes.{StoredKey, stored_key, Write, Changes, begins, appends, ends, finishes, leaves, removes, admits, departs}
use Rattle.cache_changes.specs.Writes.{bytes_of, has_ended, meta_of, IsOrderly, IsInFlight, IsAlive, IsBody}
use Rattle.cache_changes.specs.Store.{Stored, Flying, store_of, with_body, with_bytes, begun, ended, body_at, flying_at, stored_of, is_of, has_number as held_number}
use Rattle.cache_changes.specs.Uses.{rows_of}
use Rattle.cache_changes.specs.Bound.{measure_of}
use Rattle.cache_changes.proofs.FoundLaws.{store_of-is}
use Rattle.cache_changes.proofs.FlightLaws.{flying_of, flying_at-is}
use Rattle.cache_changes.proofs.ManyShards.{AreShardsOf-after}
use Rattle.cache_changes.proofs.WriteLaws.{same_number, fresh_life, fresh_bytes, fresh_end, fresh_meta, all_begin_less}
use Rattle.cache_evict.specs.Managed.{Managed, put_first, taken_out}
use Rattle.tier_model.specs.declared.state.Body.{Body}
use Rattle.tier_model.specs.Keys.{Entry, alone}
use Rattle.tier_model.specs.Calls.{extended}
use Rattle.tier_model.specs.Histories.{Kept, counts, kept_of, told_of, write_of, settles, stores, clears, finished_of}
use Rattle.tier_model.specs.Shelf.{InFlight, has_number, on_flying, marked as put_mark}
use Rattle.tier_model.specs.Past.{plain}
use Rattle.cache_entries.specs.Entry.{key_of}
use Rattle.tier_model.proofs.FlightLaws.{plain-append, plain-on, plain-landed, find-plain, landed-new}
use Rattle.tier_model.specs.Rows.{Numbered, Bodies, FinishedBody, with_body as put_body, without_body, without_bodies, weight_for}
use Rattle.tier_model.proofs.BodyLaws.{has_key, held-without, held-with, held-without_all, body_at-without, body_at-with, view, both_gone, both_there}
use Rattle.tier_model.proofs.ChangeLaws.{more_bytes, no_more, Leaves, unbound, just_began, no_body, leaves-same, marked_same, leaves-cleared}

-- a body counts no more than it weighs
counted_fits : (x : Stored Kept) → length x.bytes + counts x.meta ≤ weight_for (record { bytes = x.bytes; meta = x.meta.meta })
counted_fits x = le-max_right 1 (length x.bytes + counts x.meta)

module _ (N : ℕ) where
  -- a write begins, under the next number
  pub leaves-begun : (n : ℕ) (k : StoredKey) (meta : Kept) (bodies : Bodies) (fs : List InFlight) (m : Managed) (changes : Changes Kept) → Leaves N n bodies fs m changes
      → Leaves N (n + 1) bodies (fs ++ record { number = n; key = k; meta = meta.meta; bytes = []; ended = false; removed = false } ∷ []) m (begins (record { number = n; key = k; meta = meta }) ∷ changes)
  leaves-begun n k meta bodies fs m changes l =
      let w : Write Kept = record { number = n; key = k; meta = meta } in
      record {
        orderly = (l.below, l.orderly);
        below = (omega arith, all_begin_less n (n + 1) changes (omega arith) l.below);
        flights = ap (λ (xs : List InFlight). xs ++ plain (begun w) ∷ []) l.flights ∙ sym (plain-append (store_of changes).flying (begun w));
        bodies = l.bodies;
        some = l.some;
        rows = l.rows;
        lawful = l.lawful;
        tracks = (unbound (begins w) changes l.settled, tt, l.tracks);
        settled = refl;
      }

  -- bytes come to a write in flight
  pub leaves-appended : (n : ℕ) (w : Write Kept) (bytes : List ℕ) (bodies : Bodies) (fs : List InFlight) (m : Managed) (changes : Changes Kept) → IsInFlight w changes
      → has_ended w.number changes ≡ false
      → Leaves N n bodies fs m changes → Leaves N n bodies (on_flying w.number (more_bytes bytes) fs) m (appends w.number bytes ∷ changes)
  leaves-appended n w bytes bodies fs m changes flies more l = record {
    orderly = (((w, refl, flies), more), l.orderly);
    below = (tt, l.below);
    flights = ap (on_flying w.number (more_bytes bytes)) l.flights ∙ sym (plain-on w.number (with_bytes bytes) (more_bytes bytes) (store_of changes).flying (λ f. refl));
    bodies = l.bodies;
    some = l.some;
    rows = l.rows;
    lawful = l.lawful;
    tracks = (unbound (appends w.number bytes) changes l.settled, tt, l.tracks);
    settled = refl;
  }

  -- and no more
  pub leaves-ended : (n : ℕ) (w : Write Kept) (bodies : Bodies) (fs : List InFlight) (m : Managed) (changes : Changes Kept) → IsInFlight w changes
      → Leaves N n bodies fs m changes → Leaves N n bodies (on_flying w.number no_more fs) m (ends w.number ∷ changes)
  leaves-ended n w bodies fs m changes flies l = record {
    orderly = ((w, refl, flies), l.orderly);
    below = (tt, l.below);
    flights = ap (on_flying w.number no_more) l.flights ∙ sym (plain-on w.number ended no_more (store_of changes).flying (λ f. refl));
    bodies = l.bodies;
    some = l.some;
    rows = l.rows;
    lawful = l.lawful;
    tracks = (unbound (ends w.number) changes l.settled, tt, l.tracks);
    settled = refl;
  }

  -- a write is given up
  pub leaves-left : (n : ℕ) (w : Write Kept) (bodies : Bodies) (fs : List InFlight) (m : Managed) (changes : Changes Kept) → IsInFlight w changes
      → Leaves N n bodies fs m changes → Leaves N n bodies (filter (λ f. not (has_number w.number f)) fs) m (leaves w.number ∷ changes)
  leaves-left n w bodies fs m changes flies l = record {
    orderly = ((w, refl, flies), l.orderly);
    below = (tt, l.below);
    flights = ap (filter (λ f. not (has_number w.number f))) l.flights ∙ sym (plain-landed w.number (store_of changes).flying);
    bodies = l.bodies;
    some = l.some;
    rows = l.rows;
    lawful = l.lawful;
    tracks = (unbound (leaves w.number) changes l.settled, tt, l.tracks);
    settled = refl;
  }

  -- the write is there
  flight_there : (w : Write Kept) (changes : Changes Kept) → IsOrderly changes → IsInFlight w changes → IsAlive w changes
      → (f : Flying Kept) × (flying_at w.number (store_of changes) ≡ Some f) × (f.stored ≡ stored_of w changes)
  flight_there w changes o flies alive =
      let f : Flying Kept = record { stored = stored_of w changes; ended = has_ended w.number changes; removed = false } in
      (f, ((store_of-is changes o).flights w.number f).1 (refl, record { flies = flies; stored = refl; ended = refl; alive = (λ t. alive, λ a. refl) }), refl)

  -- a write is finished, and its entry admitted
  pub leaves-finished : (n : ℕ) (w : Write Kept) (bodies : Bodies) (fs : List InFlight) (m : Managed) (changes : Changes Kept) → IsInFlight w changes → IsAlive w changes
      → w.key ≡ stored_key (key_of w.meta.entry)
      → Leaves N n bodies fs m changes
      → Leaves N n (put_body w.number (finished_of changes w) bodies) (filter (λ f. not (has_number w.number f)) fs) (put_first N (alone (key_of w.meta.entry)) (weight_for (told_of changes w)) m)
      (extended changes (finishes w ∷ settles (finished_of changes w) []))
  leaves-finished n w bodies fs m changes flies alive key l = record {
    orderly = (tt, orderly);
    below = (tt, (tt, l.below));
    flights = ap (filter (λ f. not (has_number w.number f))) l.flights ∙ sym (plain-landed w.number (store_of changes).flying);
    bodies = λ k. held-with k w.number b bodies
        ∙ both_there (same_bytes (stored_key b.entry) k) (record { number = w.number; body = b.body }) x (get bodies k) (body_at k (store_of changes)) refl (l.bodies k)
        ∙ ap (λ (j : StoredKey). option_map view (cond (same_bytes j k) (Some x) (body_at k (store_of changes)))) (sym key)
        ∙ sym (ap (option_map view) (left k));
    some = l.some;
    rows = AreShardsOf-after {M = Kept} N (admits (alone b.entry) (weight_for b.body)) (alone b.entry) m.shards (rows_of changes) l.some refl l.rows;
    lawful = l.lawful;
    tracks = (subst (λ (j : StoredKey). same_bytes (stored_key b.entry) j ≡ true) (sym key) (same_bytes-tells.itself (stored_key b.entry)), enough, (unbound (finishes w) changes l.settled, tt, l.tracks));
    settled = refl;
  }
    where
      b : FinishedBody
      b = finished_of changes w

      x : Stored Kept
      x = stored_of w changes

      orderly : IsOrderly (finishes w ∷ changes)
      orderly = ((flies, alive), l.orderly)

      left : (k : StoredKey) → body_at k (store_of (finishes w ∷ changes)) ≡ cond (same_bytes w.key k) (Some x) (body_at k (store_of changes))
      left k =
          let there = flight_there w changes l.orderly flies alive in
          ap (λ (f : Option (Flying Kept)). find (is_of k) (with_body (option_map (λ g. g.stored) f) (store_of changes).bodies)) there.1
          ∙ ap (λ (y : Stored Kept). find (is_of k) (with_body (Some y) (store_of changes).bodies)) there.2 ∙ body_at-with k x (store_of changes).bodies

      enough : (v : Write Kept) → same_bytes (stored_key b.entry) v.key ≡ true → IsBody v.key v (finishes w ∷ changes) → measure_of counts v (finishes w ∷ changes) ≤ weight_for b.body
      enough v t i =
          let there : body_at v.key (store_of (finishes w ∷ changes)) ≡ Some (stored_of v (finishes w ∷ changes)) = ((store_of-is (finishes w ∷ changes) orderly).bodies v.key (stored_of v (finishes w ∷ changes))).1 (i, refl) in
          let here : body_at v.key (store_of (finishes w ∷ changes)) ≡ Some x = left v.key ∙ ap (λ t. cond t (Some x) (body_at v.key (store_of changes))) (ap (λ (j : StoredKey). same_bytes j v.key) key ∙ t) in
          let same : x ≡ stored_of v (finishes w ∷ changes) = cc in
          subst (λ (y : Stored Kept). length y.bytes + counts y.meta ≤ weight_for b.body) same (counted_fits x)

  -- a write is finished, and its key removed at once
  pub leaves-withdrawn : (n : ℕ) (w : Write Kept) (e : Entry) (bodies : Bodies) (fs : List InFlight) (m : Managed) (changes : Changes Kept) → IsInFlight w changes → IsAlive w changes
      → w.key ≡ stored_key e
      → Leaves N n bodies fs m changes
      → Leaves N n (without_body (stored_key e) bodies) (map (put_mark (Some (stored_key e))) (filter (λ f. not (has_number w.number f)) fs)) (taken_out N (alone e) m)
      (departs (alone e) ∷ removes (stored_key e) ∷ finishes w ∷ changes)
  leaves-withdrawn n w e bodies fs m changes flies alive key l = record {
    orderly = (tt, removed);
    below = (tt, (tt, (tt, l.below)));
    flights = marked_same N (Some (stored_key e)) (filter (λ f. not (has_number w.number f)) fs) (store_of (finishes w ∷ changes)).flying
        (ap (filter (λ f. not (has_number w.number f))) l.flights ∙ sym (plain-landed w.number (store_of changes).flying));
    bodies = λ k. held-without k (stored_key e) bodies ∙ both_gone (same_bytes (stored_key e) k) (get bodies k) (body_at k (store_of changes)) (l.bodies k)
        ∙ ap (option_map view) (hidden (same_bytes (stored_key e) k) (Some (stored_of w changes)) (body_at k (store_of changes))
        ∙ ap (λ (j : StoredKey). cond (same_bytes (stored_key e) k) None (cond (same_bytes j k) (Some (stored_of w changes)) (body_at k (store_of changes)))) (sym key)
        ∙ ap (cond (same_bytes (stored_key e) k) None) (sym (left k)) ∙ sym (body_at-without k (Some (stored_key e)) (store_of (finishes w ∷ changes)).bodies));
    some = l.some;
    rows = AreShardsOf-after {M = Kept} N (departs (alone e)) (alone e) m.shards (rows_of changes) l.some refl l.rows;
    lawful = l.lawful;
    tracks = (
      tt,
      λ v t i. no_body (stored_key e) v (finishes w ∷ changes) removed t i,
      (subst (λ (j : StoredKey). same_bytes (stored_key e) j ≡ true) (sym key) (same_bytes-tells.itself (stored_key e)), tt, (unbound (finishes w) changes l.settled, tt, l.tracks)),
    );
    settled = refl;
  }
    where
      removed : IsOrderly (removes (stored_key e) ∷ finishes w ∷ changes)
      removed = (tt, ((flies, alive), l.orderly))

      hidden : (v : Bool) (x o : Option (Stored Kept)) → cond v None o ≡ cond v None (cond v x o)
      hidden true x o = refl
      hidden false x o = refl

      left : (k : StoredKey) → body_at k (store_of (finishes w ∷ changes)) ≡ cond (same_bytes w.key k) (Some (stored_of w changes)) (body_at k (store_of changes))
      left k =
          let there = flight_there w changes l.orderly flies alive in
          ap (λ (f : Option (Flying Kept)). find (is_of k) (with_body (option_map (λ g. g.stored) f) (store_of changes).bodies)) there.1
          ∙ ap (λ (y : Stored Kept). find (is_of k) (with_body (Some y) (store_of changes).bodies)) there.2 ∙ body_at-with k (stored_of w changes) (store_of changes).bodies

  -- no write in flight has the next number
  none_new : (n : ℕ) (bodies : Bodies) (fs : List InFlight) (m : Managed) (changes : Changes Kept) → Leaves N n bodies fs m changes → find (has_number n) fs ≡ None
  none_new n bodies fs m changes l =
      ap (find (has_number n)) l.flights ∙ find-plain (held_number n) (has_number n) (store_of changes).flying (λ f. refl)
      ∙ ap (option_map plain) (flying_at-is n changes l.orderly ∙ ap (flying_of changes) (fresh_life n changes l.below))

  -- what is written at once is the body
  told_whole : (n : ℕ) (b : FinishedBody) (bodies : Bodies) (fs : List InFlight) (m : Managed) (changes : Changes Kept) → Leaves N n bodies fs m changes
      → told_of (appends n b.body.bytes ∷ begins (write_of n b) ∷ changes) (write_of n b) ≡ b.body
  told_whole n b bodies fs m changes l =
      ap (λ t. record { bytes = cond t (bytes_of n changes ++ b.body.bytes) (bytes_of n changes); meta = (meta_of (write_of n b) changes).meta }) (same_number n)
      ∙ ap (λ (xs : List ℕ). record { bytes = xs ++ b.body.bytes; meta = (meta_of (write_of n b) changes).meta }) (fresh_bytes n changes l.below l.orderly)
      ∙ ap (λ (k : Kept). record { bytes = b.body.bytes; meta = k.meta }) (fresh_meta (write_of n b) changes l.below l.orderly)

  -- a body is written whole and its entry admitted
  pub leaves-stored : (n : ℕ) (b : FinishedBody) (bodies : Bodies) (fs : List InFlight) (m : Managed) (changes : Changes Kept)
      → Leaves N n bodies fs m changes → Leaves N (n + 1) (put_body n b bodies) fs (put_first N (alone b.entry) (weight_for b.body) m) (extended changes (stores n b []))
  leaves-stored n b bodies fs m changes l =
      subst (λ (gs : List InFlight). Leaves N (n + 1) (put_body n b bodies) gs (put_first N (alone b.entry) (weight_for b.body) m) (extended changes (stores n b [])))
      (landed-new n (more_bytes b.body.bytes) new fs (none_new n bodies fs m changes l) (same_number n) (same_number n))
      (subst (λ (y : Body). Leaves N (n + 1) (put_body n (record { entry = b.entry; body = y }) bodies) landed (put_first N (alone b.entry) (weight_for y) m)
      (admits (alone b.entry) (weight_for y) ∷ finishes (write_of n b) ∷ written)) (told_whole n b bodies fs m changes l)
      (leaves-finished (n + 1) (write_of n b) bodies (on_flying n (more_bytes b.body.bytes) (fs ++ new ∷ [])) m written flies alive refl
      (leaves-appended (n + 1) (write_of n b) b.body.bytes bodies (fs ++ new ∷ []) m (begins (write_of n b) ∷ changes) (just_began (write_of n b) changes) (fresh_end n changes l.below l.orderly)
      (leaves-begun n (stored_key b.entry) (kept_of b) bodies fs m changes l))))
    where
      new : InFlight
      new = record { number = n; key = stored_key b.entry; meta = b.body.meta; bytes = []; ended = false; removed = false }

      landed : List InFlight
      landed = filter (λ f. not (has_number n f)) (on_flying n (more_bytes b.body.bytes) (fs ++ new ∷ []))

      written : Changes Kept
      written = appends n b.body.bytes ∷ begins (write_of n b) ∷ changes

      flies : IsInFlight (write_of n b) written
      flies = record { since = appends n b.body.bytes ∷ []; before = changes; split = refl; flies = (refl, tt) }

      alive : IsAlive (write_of n b) written
      alive = record { since = appends n b.body.bytes ∷ []; before = changes; split = refl; kept = (refl, tt); held = (refl, tt) }

  -- a body that is taken back leaves what was there, without what went
  pub leaves-back : (n i : ℕ) (b : FinishedBody) (es : List CacheEntryKey) (bodies : Bodies) (fs : List InFlight) (m : Managed) (changes : Changes Kept)
      → Leaves N n (without_bodies es (put_body i b bodies)) fs m changes
      → Leaves N n (without_body (stored_key b.entry) (without_bodies es bodies)) (map (put_mark (Some (stored_key b.entry))) fs) (taken_out N (alone b.entry) m) (extended changes (clears b.entry))
  leaves-back n i b es bodies fs m changes l =
      leaves-same N n (without_body (stored_key b.entry) (without_bodies es (put_body i b bodies))) (without_body (stored_key b.entry) (without_bodies es bodies))
      (map (put_mark (Some (stored_key b.entry))) fs) (taken_out N (alone b.entry) m) (extended changes (clears b.entry)) same
      (leaves-cleared N n b.entry (without_bodies es (put_body i b bodies)) fs m changes l)
    where
      none : (v w : Bool) (o p : Option Numbered) → cond v None (cond w None o) ≡ cond v None (cond w None (cond v p o))
      none true w o p = refl
      none false w o p = refl

      same : (k : StoredKey) → get (without_body (stored_key b.entry) (without_bodies es bodies)) k ≡ get (without_body (stored_key b.entry) (without_bodies es (put_body i b bodies))) k
      same k =
          held-without k (stored_key b.entry) (without_bodies es bodies) ∙ ap (cond (same_bytes (stored_key b.entry) k) None) (held-without_all k es bodies)
          ∙ none (same_bytes (stored_key b.entry) k) (has_key k es) (get bodies k) (Some (record { number = i; body = b.body }))
          ∙ sym (held-without k (stored_key b.entry) (without_bodies es (put_body i b bodies)) ∙ ap (cond (same_bytes (stored_key b.entry) k) None) (held-without_all k es (put_body i b bodies)
          ∙ ap (cond (has_key k es) None) (held-with k i b bodies)))
