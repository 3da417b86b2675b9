-- Look-ups: each is answered by its row, and leaves what the promise says then.
use Rattle.std.proofs.Common.{◌≡◌, ℕ, ◌≤◌, refl, ap, sym, ◌∙◌, true, false, subst, cond, ◌∷◌, ◌++◌, ◌==◌, length, arith}
use Rattle.std.specs.Prelude.{Bool, List, Option, Some, None, find, unwrap_or}
use Rattle.std.specs.FinMap.{get, insert}
use Rattle.cache_words.specs.Time.{MomentValue}
use Rattle.cache_changes.specs.Changes.{StoredKey, stored_key}
use Rattle.cache_changes.specs.Uses.{AreShardsOf}
use Rattle.cache_entries.specs.Rows.{weight_of}
use Rattle.cache_entries.specs.declared.entry.CacheEntryKey.{CacheEntryKey}
use Rattle.cache_heads.specs.declared.meta.CacheMeta.{CacheMeta}
use Rattle.cache_lock.specs.Answers.{to_wait_for}
use Rattle.cache_lock.specs.Changes.{Changes as LockChanges}
use Rattle.cache_lock.specs.State.{after_all}
use Rattle.tier_model.specs.declared.event.LockGiven.{LockGiven}
use Rattle.tier_model.specs.declared.state.Body.{Body}
use Rattle.tier_model.specs.Keys.{alone}
use Rattle.tier_model.specs.Calls.{extended}
use Rattle.tier_model.specs.Rows.{Numbered, weight_for}
use Rattle.tier_model.specs.Shelf.{InFlight, Readers, Look, absent, in_flight, finished, is_there, flies_for, flying_at, readable, readable_of}
use Rattle.tier_model.specs.State.{Settings, Phase, hit, stale, miss, LockHold, nothing, permit, Reader, closed, unread, streaming, Seen, State, shards_of}
use Rattle.tier_model.specs.State as state
use Rattle.tier_model.specs.Standings.{phase_absent, phase_found}
use Rattle.tier_model.specs.Locks as locks_said
use Rattle.tier_model.specs.Answers.{given_if, is_fresh, used}
use Rattle.tier_model.specs.After.{with_counts, turned, held_of, phase_of, seen_in, seen_past, reader_of, managed_after, counted, counted_if}
use Rattle.tier_promise.specs.Promise.{Write, Permit, Changes, Request, EventRow, Now, Hold, no_lock, holds, waits, puts, bytes_of, is_done, flying, rows, asked, told, permits_in, as_body, is_wait, use_of, look_found, look_absent, came}
use Rattle.tier_promise.specs.Promise as now_is
use Rattle.tier_model.proofs.CallLaws.{at-insert}
use Rattle.tier_model.proofs.RowSteps.{made-used}
use Rattle.tier_promise.proofs.NowLists.{found-holds}
use Rattle.tier_promise.proofs.NowFits.{Told, told_write, told_flight, BodyFits, SeenFits, ReaderFits, RequestFits, NowFits}
use Rattle.tier_promise.proofs.NowShelf.{shelf-puts}
use Rattle.tier_promise.proofs.NowLock.{lock-same}
use Rattle.tier_promise.proofs.NowRequests.{IsSound, flying-read}
use Rattle.tier_promise.proofs.NowQuiet.{IsLocked, open-quiet}
use Rattle.tier_promise.proofs.NowOthers.{OtherFits, other-start, other-turned, other-closed}
use Rattle.tier_promise.proofs.NowLooks.{changes_at, Given, told-is, given-fits, rows-used}

is_wait_told : (h : Hold) → locks_said.is_wait (told h) ≡ is_wait h
is_wait_told no_lock = refl
is_wait_told (holds p) = refl
is_wait_told (waits p first) = refl

phase_told : (h : Hold) (old : Phase) → phase_absent (told h) old ≡ cond (is_wait h) old miss
phase_told no_lock old = refl
phase_told (holds p) old = refl
phase_told (waits p first) old = refl

module _ (x : Settings) (s : State) (locks : LockChanges) (now : Now) (fits : NowFits x s locks now) (locked : IsLocked x.age s locks) (sound : IsSound s) (t : MomentValue) (id : ℕ) (q : state.Request) (r : Request)
    (f : RequestFits x fits.numbers fits.permits s.shelf now.changes q r) where
  abbrev c : Changes
  c = now.changes

  abbrev k : StoredKey
  k = stored_key r.entry

  -- a request after a look-up that finds that, and asks for the lock or doesn't
  abbrev pub looked_at : Bool → StoredKey → LockHold → Look → state.Request
  looked_at b key h l = record q {
    phase = phase_of t (given_if b (to_wait_for key s.lock)) l q.phase;
    held = held_of (given_if b (to_wait_for key s.lock)) (to_wait_for key s.lock) s.lock h;
    gave_read = locks_said.is_wait (given_if b (to_wait_for key s.lock));
    seen = seen_in t l;
    reader = reader_of l;
  }

  -- the state then
  abbrev pub state_at : Bool → StoredKey → LockHold → Look → State
  state_at b key h l = record s {
    managed = managed_after s q l;
    shelf = turned q.reader (reader_of l) s.shelf;
    requests = insert s.requests id (looked_at b key h l);
    found = counted_if (is_there l) s.found;
    absent = cond (is_there l) s.absent (counted s.absent 1);
  }

  abbrev pub Leaves : Bool → StoredKey → LockHold → Look → ℕ → EventRow → Type 0
  Leaves b key h l n row = NowFits x (with_counts n (after_all (changes_at b key (is_there l) t s.lock) s.lock) (state_at b key h l)) (changes_at b key (is_there l) t s.lock ++ locks) (came id row now).now

  abbrev pub ThereStill : Look → Type 0
  ThereStill l = (j n place : ℕ) (p : state.Request) → (id == j) ≡ false → get s.requests j ≡ Some p → p.reader ≡ streaming n place → (y : Readers) × (get (turned q.reader (reader_of l) s.shelf).readers n ≡ Some y)

  gave_read_is : (b : Bool) → locks_said.is_wait (given_if b (to_wait_for k s.lock)) ≡ is_wait (asked b t r c)
  gave_read_is b = ap locks_said.is_wait (told-is x s locks now fits locked t id r b) ∙ is_wait_told (asked b t r c)

  -- what is left, by what the lock gave
  module _ (b : Bool) (l : Look) (then : Changes) (phase : Phase) (seen : Option Seen) (reader : Reader) (g : Given x s locks now fits locked t id r b (is_there l) (managed_after s q l) (turned q.reader (reader_of l) s.shelf) then)
      (phase_is : phase_of t (given_if b (to_wait_for k s.lock)) l q.phase ≡ phase) (seen_is : SeenFits fits.numbers (seen_in t l) seen)
      (reader_is : ReaderFits fits.numbers (λ n. readable n (turned q.reader (reader_of l) s.shelf)) (λ n. bytes_of n (extended then (permits_in (asked b t r c)))) (λ n. is_done n (extended then (permits_in (asked b t r c))))
      (reader_of l) reader) where
    abbrev after_r : Request
    after_r = now_is.after_look phase (asked b t r c) seen reader r

    turned_fits : RequestFits x fits.numbers g.permits (turned q.reader (reader_of l) s.shelf) (extended then (permits_in (asked b t r c))) (looked_at b k nothing l) after_r
    turned_fits = record {
      entry = f.entry;
      asks = f.asks;
      wait = f.wait;
      phase = phase_is;
      waited = f.waited;
      gave_read = gave_read_is b;
      hold = g.hold;
      seen = seen_is;
      write = f.write;
      reader = reader_is;
    }

    pub left-so : (n : ℕ) → n ≡ s.shelf.writes
        → NowFits x (with_counts n (after_all (changes_at b k (is_there l) t s.lock) s.lock) (state_at b k nothing l)) (changes_at b k (is_there l) t s.lock ++ locks)
        (record { changes = extended then (permits_in (asked b t r c)); request = λ j. cond (j == id) (Some after_r) (now.request j) })
    left-so n same = subst (λ (m : ℕ). NowFits x (with_counts m (after_all (changes_at b k (is_there l) t s.lock) s.lock) (state_at b k nothing l)) (changes_at b k (is_there l) t s.lock ++ locks)
        (record { changes = extended then (permits_in (asked b t r c)); request = λ j. cond (j == id) (Some after_r) (now.request j) })) (sym same)
        (other-closed x s (with_counts s.shelf.writes (after_all (changes_at b k (is_there l) t s.lock) s.lock) (state_at b k nothing l)) now id fits.numbers g.permits (changes_at b k (is_there l) t s.lock ++ locks)
        (extended then (permits_in (asked b t r c))) (Some (looked_at b k nothing l)) (Some after_r) fits.wait fits.some (at-insert s.requests id (looked_at b k nothing l)) turned_fits g.others)

  -- ---- nothing is found

  pub leaves-absent : ThereStill absent → (b : Bool) (n : ℕ) → n ≡ s.shelf.writes → Leaves b k nothing absent n (look_absent (asked b t r c) r)
  leaves-absent there b n same =
      let o = other-turned x s now id fits.numbers fits.permits s.managed s.shelf locks s.lock.next c (other-start x s now id locks fits) q.reader closed there in
      let g = given-fits x s locks now fits locked t id r false s.managed (turned q.reader closed s.shelf) c (no_less (length c)) (λ m. refl) o b in
      left-so b absent c (cond (is_wait (asked b t r c)) r.phase miss) None closed g
      (ap (λ (y : LockGiven). phase_absent y q.phase) (told-is x s locks now fits locked t id r b) ∙ phase_told (asked b t r c) q.phase ∙ ap (λ (y : Phase). cond (is_wait (asked b t r c)) y miss) f.phase) tt tt n same
    where
      no_less : (n : ℕ) → n ≤ n
      no_less n = omega arith

  -- ---- a write in flight is found

  module _ (g : InFlight) (w : Write) (at : find (flies_for k) s.shelf.flying ≡ Some g) (sees : told_write w ≡ told_flight fits.numbers g) where
    flight_at : flying_at g.number s.shelf.flying ≡ Some g
    flight_at = found-holds (λ y. flying_at y.number s.shelf.flying ≡ Some y) (flies_for k) s.shelf.flying g sound.one at

    flight_named : fits.numbers g.number ≡ Some w.number
    flight_named = sym (ap (λ (y : Told). y.number) sees)

    pub flight-meta : g.meta ≡ w.meta
    flight-meta = sym (ap (λ (y : Told). y.meta) sees)

    read_is : readable_of (Some g) (get (turned q.reader (streaming g.number 0) s.shelf).readers g.number) ≡ Some (bytes_of w.number c, is_done w.number c)
    read_is =
        let y = flying-read fits.numbers s.shelf s.shelf.writes c fits.shelf g.number w.number flight_named g flight_at in
        ap (λ (b : List ℕ). let read : List ℕ × Bool = (b, g.ended) in Some read) y.0 ∙ ap (λ (d : Bool). let read : List ℕ × Bool = (bytes_of w.number c, d) in Some read) y.1

    seen_by : (u v : Bool) → u ≡ v → (a b : CacheMeta) → a ≡ b → SeenFits fits.numbers (cond u None (Some (record { number = g.number; meta = a }))) (cond v None (Some (record { number = w.number; meta = b })))
    seen_by true true e a b m = tt
    seen_by false false e a b m = (flight_named, m)
    seen_by true false e a b m = absurd cc
    seen_by false true e a b m = absurd cc

    pub leaves-flight : ThereStill (in_flight g) → (b : Bool) (n : ℕ) → n ≡ s.shelf.writes → Leaves b k nothing (in_flight g) n (look_found t false (asked b t r c) w r c)
    leaves-flight there b n same =
        let o = other-turned x s now id fits.numbers fits.permits s.managed s.shelf locks s.lock.next c (other-start x s now id locks fits) q.reader (streaming g.number 0) there in
        let y = given-fits x s locks now fits locked t id r true s.managed (turned q.reader (streaming g.number 0) s.shelf) c (no_less (length c)) (λ m. refl) o b in
        left-so b (in_flight g) c (cond (is_fresh t w.meta) hit stale) (seen_past t w.number w.meta) (streaming w.number 0) y
        (ap (λ (m : CacheMeta). phase_found (is_fresh t m)) flight-meta) (seen_by (is_fresh t g.meta) (is_fresh t w.meta) (ap (is_fresh t) flight-meta) g.meta w.meta flight-meta) (
          flight_named,
          refl,
          ap (λ (z : Option InFlight). readable_of z (get (turned q.reader (streaming g.number 0) s.shelf).readers g.number)) flight_at ∙ read_is
              ∙ ap (λ (b : List ℕ). let read : List ℕ × Bool = (b, is_done w.number c) in Some read) (sym (y.bytes w.number))
              ∙ ap (λ (d : Bool). let read : List ℕ × Bool = (bytes_of w.number (extended c (permits_in (asked b t r c))), d) in Some read) (sym (y.done w.number)),
          omega arith,
        )
        n same
      where
        no_less : (n : ℕ) → n ≤ n
        no_less n = omega arith

  -- ---- a body is found

  module _ (y : Numbered) (w : Write) (body : BodyFits fits.numbers (λ m. bytes_of m c) (λ m. is_done m c) k (Some y) (Some w)) where
    body_named : fits.numbers y.number ≡ Some w.number
    body_named = ap (λ (z : Told). z.number) body.0

    pub body-meta : y.body.meta ≡ w.meta
    body-meta = ap (λ (z : Told). z.meta) body.0

    pub body-is : y.body ≡ as_body w c
    body-is = ap (λ (m : CacheMeta). record { bytes = y.body.bytes; meta = m }) body-meta ∙ ap (λ (l : List ℕ). record { bytes = l; meta = w.meta }) body.1

    seen_body : (u v : Bool) → u ≡ v → (a b : CacheMeta) → a ≡ b → SeenFits fits.numbers (cond u None (Some (record { number = y.number; meta = a }))) (cond v None (Some (record { number = w.number; meta = b })))
    seen_body true true e a b m = tt
    seen_body false false e a b m = (body_named, m)
    seen_body true false e a b m = absurd cc
    seen_body false true e a b m = absurd cc

    abbrev weight : ℕ
    weight = unwrap_or (weight_of (alone r.entry) (rows c)) (weight_for (as_body w c))

    used_others : ThereStill (finished y) → OtherFits x fits.numbers fits.permits s now id (used s q.entry y.body) (turned q.reader (unread y.body.bytes) s.shelf) locks s.lock.next (puts (alone r.entry) weight ∷ c)
    used_others there =
        let o = other-turned x s now id fits.numbers fits.permits s.managed s.shelf locks s.lock.next c (other-start x s now id locks fits) q.reader (unread y.body.bytes) there in
        record {
          made = made-used x (shards_of s) q.entry (weight_for y.body) s.managed fits.made;
          order = subst (λ (e : CacheEntryKey). AreShardsOf x.shards (used s e y.body).shards (rows (puts (alone r.entry) weight ∷ c))) (sym f.entry)
              (subst (λ (z : Body). AreShardsOf x.shards (used s (alone r.entry) z).shards (rows (puts (alone r.entry) weight ∷ c))) (sym body-is) (rows-used x fits.some s fits.made.shards r.entry (as_body w c) c fits.rows));
          stored = shelf-puts fits.numbers s.shelf.bodies s.shelf.flying s.shelf.writes c o.stored (alone r.entry) weight;
          lock = lock-same fits.permits locks s.lock.next c o.lock (puts (alone r.entry) weight ∷ c) (omega arith) (λ m. refl) (λ j. refl);
          others = λ j apart. open-quiet x fits.numbers fits.permits fits.permits (turned q.reader (unread y.body.bytes) s.shelf) c (puts (alone r.entry) weight ∷ c) (λ m. refl) (λ m. refl) (λ m p h. h) (get s.requests j)
              (now.request j) (o.others j apart);
        }

    pub leaves-body : ThereStill (finished y) → (b : Bool) (n : ℕ) → n ≡ s.shelf.writes → Leaves b k nothing (finished y) n (look_found t true (asked b t r c) w r c)
    leaves-body there b n same =
        let g = given-fits x s locks now fits locked t id r true (used s q.entry y.body) (turned q.reader (unread y.body.bytes) s.shelf) (puts (alone r.entry) weight ∷ c) (omega arith) (λ m. refl) (used_others there) b in
        left-so b (finished y) (puts (alone r.entry) weight ∷ c) (cond (is_fresh t w.meta) hit stale) (seen_past t w.number w.meta) (unread (bytes_of w.number c)) g
        (ap (λ (m : CacheMeta). phase_found (is_fresh t m)) body-meta) (seen_body (is_fresh t y.body.meta) (is_fresh t w.meta) (ap (is_fresh t) body-meta) y.body.meta w.meta body-meta) body.1 n same
