-- Open requests stay what the promise says of them, where another event changes what is stored.
use Rattle.std.proofs.Common.{◌≡◌, ℕ, ◌≤◌, refl, ap, sym, ◌∙◌, true, false, cond, [], ◌∷◌, length, arith}
use Rattle.std.specs.Prelude.{Bool, List, Option, Some, None, option_map, option_and_then, map, filter, find, is_some}
use Rattle.std.specs.List.{AllByRecursion}
use Rattle.std.specs.FinMap.{get}
use Rattle.std.specs.Option.{option_or}
use Rattle.std.proofs.lemmas.Bool.{eqb-true}
use Rattle.cache_changes.specs.Changes.{StoredKey}
use Rattle.cache_changes.proofs.RowLaws.{find-map, find-passes}
use Rattle.tier_model.specs.Keys.{Entry}
use Rattle.tier_model.specs.Rows.{Numbered, Bodies}
use Rattle.tier_model.specs.Shelf.{InFlight, Readers, Shelf, look_by, is_there, has_number, flies_for, flying_at, marked, readable, readable_of}
use Rattle.tier_model.specs.State.{Settings, LockHold, nothing, permit, Reader, closed, unread, spent, streaming, Seen, State}
use Rattle.tier_model.specs.State as state
use Rattle.tier_promise.specs.Promise.{Write, Permit, Hold, no_lock, holds, waits, Changes, Request, bytes_of, is_done, flying, body_of, first_of, shown}
use Rattle.tier_promise.proofs.NowLists.{found-holds}
use Rattle.tier_promise.proofs.NowFits.{Numbers, Permits, Told, told_write, told_flight, IsFlight, BodyFits, ShelfFits, SeenFits, WriteFits, ReaderFits, HoldFits, RequestFits, OpenFits}

-- what a state is in itself, whatever the changes: a write in flight is found by its number, no two requests have one write, and the readers of a write
-- that a request reads as it comes are there
pub record IsSound (s : State) : Type 0 where
  pub one : AllByRecursion (λ g. flying_at g.number s.shelf.flying ≡ Some g) s.shelf.flying
  pub apart : (i j n : ℕ) (p q : state.Request) → get s.requests i ≡ Some p → get s.requests j ≡ Some q → p.write ≡ Some n → q.write ≡ Some n → i ≡ j
  pub readers : (id n place : ℕ) (q : state.Request) → get s.requests id ≡ Some q → q.reader ≡ streaming n place → (r : Readers) × (get s.shelf.readers n ≡ Some r)

-- ---- what is carried on

-- the write in flight of that number, with its key and its meta
abbrev pub Stays : ℕ → InFlight → List InFlight → Type 0
Stays n f fs = (g : InFlight) × (flying_at n fs ≡ Some g) × (g.key ≡ f.key) × (g.meta ≡ f.meta)

-- there is to read of a write what came of it, and no less than before
abbrev pub ReadsOn : ℕ → ℕ → Shelf → Changes → Changes → Type 0
ReadsOn n m shelf before now = (readable n shelf ≡ Some (bytes_of m now, is_done m now)) × (length (bytes_of m before) ≤ length (bytes_of m now))

-- the write and the reader of a request go on
pub record Carries (numbers more : Numbers) (old new : Shelf) (c next : Changes) (q : state.Request) : Type 0 where
  pub named : (n m : ℕ) → numbers n ≡ Some m → more n ≡ Some m
  pub flights : (n : ℕ) (f : InFlight) → q.write ≡ Some n → flying_at n old.flying ≡ Some f → Stays n f new.flying
  pub reads : (n place m : ℕ) → q.reader ≡ streaming n place → numbers n ≡ Some m → readable n old ≡ Some (bytes_of m c, is_done m c) → ReadsOn n m new c next

-- what a request holds, where permits are more
pub hold-carried : (permits then : Permits) → ((n : ℕ) (p : Permit) → permits n ≡ Some p → then n ≡ Some p) → (held : LockHold) (hold : Hold) → HoldFits permits held hold → HoldFits then held hold
hold-carried permits then more nothing no_lock f = tt
hold-carried permits then more (permit n) (holds p) f = more n p f
hold-carried permits then more (state.waits n first) (waits p since) f = (more n p f.0, f.1)
hold-carried permits then more nothing (holds p) f = absurd f
hold-carried permits then more nothing (waits p since) f = absurd f
hold-carried permits then more (permit n) no_lock f = absurd f
hold-carried permits then more (permit n) (waits p since) f = absurd f
hold-carried permits then more (state.waits n first) no_lock f = absurd f
hold-carried permits then more (state.waits n first) (holds p) f = absurd f

module _ (numbers more : Numbers) (old new : Shelf) (c next : Changes) where
  pub seen-carried : ((n m : ℕ) → numbers n ≡ Some m → more n ≡ Some m) → (x y : Option Seen) → SeenFits numbers x y → SeenFits more x y
  seen-carried named None None h = tt
  seen-carried named (Some x) (Some y) h = (named x.number y.number h.0, h.1)
  seen-carried named (Some x) None h = absurd h
  seen-carried named None (Some y) h = absurd h

  pub write-carried : (q : state.Request) → Carries numbers more old new c next q → (e : Entry) (o : Option ℕ) (v : Option Write) → q.write ≡ o → WriteFits numbers old.flying e o v → WriteFits more new.flying e o v
  write-carried q x e None None is h = tt
  write-carried q x e (Some n) (Some w) is h =
      let stays = x.flights n h.2.0 is h.2.1 in
      (x.named n w.number h.0, h.1, (stays.0, stays.1, stays.2 ∙ h.2.2, stays.3 ∙ h.2.3))
  write-carried q x e (Some n) None is h = absurd h
  write-carried q x e None (Some w) is h = absurd h

  abbrev Before : Reader → Reader → Type 0
  Before a b = ReaderFits numbers (λ n. readable n old) (λ m. bytes_of m c) (λ m. is_done m c) a b

  abbrev After : Reader → Reader → Type 0
  After a b = ReaderFits more (λ n. readable n new) (λ m. bytes_of m next) (λ m. is_done m next) a b

  pub reader-carried : (q : state.Request) → Carries numbers more old new c next q → (a b : Reader) → q.reader ≡ a → Before a b → After a b
  reader-carried q x closed closed is h = tt
  reader-carried q x (unread l) (unread k) is h = h
  reader-carried q x spent spent is h = tt
  reader-carried q x (streaming n place) (streaming m at) is h =
      let on = x.reads n place m is h.0 h.2 in
      (x.named n m h.0, h.1, on.0, omega (arith, on.1, h.3))
  reader-carried q x closed (unread k) is h = absurd h
  reader-carried q x closed spent is h = absurd h
  reader-carried q x closed (streaming m at) is h = absurd h
  reader-carried q x (unread l) closed is h = absurd h
  reader-carried q x (unread l) spent is h = absurd h
  reader-carried q x (unread l) (streaming m at) is h = absurd h
  reader-carried q x spent closed is h = absurd h
  reader-carried q x spent (unread k) is h = absurd h
  reader-carried q x spent (streaming m at) is h = absurd h
  reader-carried q x (streaming n place) closed is h = absurd h
  reader-carried q x (streaming n place) (unread k) is h = absurd h
  reader-carried q x (streaming n place) spent is h = absurd h

  -- a request goes on, where what it holds of the lock fits
  pub request-carried : (settings : Settings) (permits then : Permits) (q : state.Request) (p : Request) → Carries numbers more old new c next q
      → ((n : ℕ) (p : Permit) → permits n ≡ Some p → then n ≡ Some p)
      → RequestFits settings numbers permits old c q p → RequestFits settings more then new next q p
  request-carried settings permits then q p x permitted f = record {
    entry = f.entry;
    asks = f.asks;
    wait = f.wait;
    phase = f.phase;
    waited = f.waited;
    gave_read = f.gave_read;
    hold = hold-carried permits then permitted q.held p.hold f.hold;
    seen = seen-carried x.named q.seen p.seen f.seen;
    write = write-carried q x p.entry q.write p.write refl f.write;
    reader = reader-carried q x q.reader p.reader refl f.reader;
  }

  pub open-carried : (settings : Settings) (permits then : Permits) (o : Option state.Request) (v : Option Request) → ((q : state.Request) → o ≡ Some q → Carries numbers more old new c next q)
      → ((n : ℕ) (p : Permit) → permits n ≡ Some p → then n ≡ Some p)
      → OpenFits settings numbers permits old c o v → OpenFits settings more then new next o v
  open-carried settings permits then None None x permitted f = tt
  open-carried settings permits then (Some q) (Some p) x permitted f = request-carried settings permits then q p (x q refl) permitted f
  open-carried settings permits then (Some q) None x permitted f = absurd f
  open-carried settings permits then None (Some p) x permitted f = absurd f

-- ---- reading on

-- bytes after which none come
abbrev with_end : List ℕ → List ℕ × Bool
with_end bytes = (bytes, true)

-- what readers were left with of a write
abbrev pub left_of : ℕ → Shelf → Option (List ℕ)
left_of n shelf = option_and_then (λ r. r.left) (get shelf.readers n)

module _ (numbers : Numbers) (new : Shelf) (later : ℕ) (next : Changes) (f : ShelfFits numbers new.bodies new.flying later next) (n m : ℕ) (named : numbers n ≡ Some m) where
  -- of one in flight
  pub flying-read : (g : InFlight) → flying_at n new.flying ≡ Some g → (g.bytes ≡ bytes_of m next) × (g.ended ≡ is_done m next)
  flying-read g at =
      let is = found-holds (IsFlight numbers (λ i. bytes_of i next) (λ i. is_done i next)) (has_number n) new.flying g f.each at in
      let place : Some is.0 ≡ Some m = sym is.1 ∙ ap numbers (sym (eqb-true n g.number (find-passes (has_number n) new.flying g at))) ∙ named in
      let same : is.0 ≡ m = cc in
      (is.2 ∙ ap (λ (i : ℕ). bytes_of i next) same, is.3 ∙ ap (λ (i : ℕ). is_done i next) same)

  left_done : (o : Option (List ℕ)) (bytes : List ℕ) (done : Bool) → option_map with_end o ≡ Some (bytes, done) → (o ≡ Some bytes) × (done ≡ true)
  left_done None bytes done e = absurd cc
  left_done (Some b) bytes done e =
      let read : List ℕ × Bool = (bytes, done) in
      let pair : with_end b ≡ read = cc in
      (ap (λ (x : List ℕ × Bool). Some x.0) pair, sym (ap (λ (x : List ℕ × Bool). x.1) pair))

  -- where the event lands no write that is read, nothing more comes to one that is done, and its readers keep what they were left with
  pub reads-on : (old : Shelf) (c : Changes) → (flying_at n new.flying ≡ None → flying_at n old.flying ≡ None) → (flying_at n old.flying ≡ None → left_of n new ≡ left_of n old)
      → (is_done m c ≡ true → (bytes_of m next ≡ bytes_of m c) × (is_done m next ≡ true)) → length (bytes_of m c) ≤ length (bytes_of m next)
      → readable n old ≡ Some (bytes_of m c, is_done m c) → ReadsOn n m new c next
  reads-on old c lands left done longer e = (by_flight (flying_at n new.flying) refl, longer)
    where
      by_flight : (o : Option InFlight) → flying_at n new.flying ≡ o → readable_of o (get new.readers n) ≡ Some (bytes_of m next, is_done m next)
      by_flight (Some g) at = let is = flying-read g at in ap (λ (b : List ℕ). let read : List ℕ × Bool = (b, g.ended) in Some read) is.0 ∙ ap (λ (d : Bool). let read : List ℕ × Bool = (bytes_of m next, d) in Some read) is.1
      by_flight None at =
          let gone = lands at in
          let was : option_map with_end (left_of n old) ≡ Some (bytes_of m c, is_done m c) = ap (λ (o : Option InFlight). readable_of o (get old.readers n)) (sym gone) ∙ e in
          let is = left_done (left_of n old) (bytes_of m c) (is_done m c) was in
          let now = done is.1 in
          ap (option_map with_end) (left gone ∙ is.0) ∙ ap (λ (b : List ℕ). Some (with_end b)) (sym now.0) ∙ ap (λ (d : Bool). let read : List ℕ × Bool = (bytes_of m next, d) in Some read) (sym now.1)

-- ---- what a look-up finds

first_filtered : {X : Type 0} (p : X → Bool) (xs : List X) → find p xs ≡ find (λ x. true) (filter p xs)
first_filtered p [] = refl
first_filtered p (x ∷ xs) = by_test (p x) (first_filtered p xs)
  where
    by_test : (v : Bool) → find p xs ≡ find (λ y. true) (filter p xs) → cond v (Some x) (find p xs) ≡ find (λ y. true) (cond v (x ∷ filter p xs) (filter p xs))
    by_test true ih = refl
    by_test false ih = ih

first_seen : {X : Type 0} (told : X → Told) (ws : List Write) (xs : List X) → map told_write ws ≡ map told xs → option_map told_write (first_of ws) ≡ option_map told (find (λ x. true) xs)
first_seen told [] [] e = refl
first_seen told (w ∷ ws) [] e = absurd cc
first_seen told [] (x ∷ xs) e = absurd cc
first_seen told (w ∷ ws) (x ∷ xs) e = let head : told_write w ≡ told x = cc in ap (λ (t : Told). Some t) head

module _ (numbers : Numbers) (bodies : Bodies) (fs : List InFlight) (next : ℕ) (c : Changes) (f : ShelfFits numbers bodies fs next c) (k : StoredKey) where
  -- the first in flight
  pub first-flight : option_map told_write (first_of (flying k c)) ≡ option_map (told_flight numbers) (find (flies_for k) fs)
  first-flight = first_seen (told_flight numbers) (flying k c) (filter (flies_for k) fs) (f.flights k) ∙ ap (option_map (told_flight numbers)) (sym (first_filtered (flies_for k) fs))

  there_by : (bytes : ℕ → List ℕ) (done : ℕ → Bool) (o : Option InFlight) (w : Option Write) (x : Option Numbered) (v : Option Write) → option_map told_write w ≡ option_map (told_flight numbers) o
      → BodyFits numbers bytes done k x v → is_there (look_by o x) ≡ is_some (option_or w v)
  there_by bytes done (Some g) (Some w) x v e h = refl
  there_by bytes done (Some g) None x v e h = absurd cc
  there_by bytes done None (Some w) x v e h = absurd cc
  there_by bytes done None None (Some x) (Some v) e h = refl
  there_by bytes done None None (Some x) None e h = absurd h
  there_by bytes done None None None (Some v) e h = absurd h
  there_by bytes done None None None None e h = refl

  pub found-there : is_there (look_by (find (flies_for k) fs) (get bodies k)) ≡ is_some (shown k c)
  found-there = there_by (λ m. bytes_of m c) (λ m. is_done m c) (find (flies_for k) fs) (first_of (flying k c)) (get bodies k) (body_of k c) first-flight (f.bodies k)

-- ---- writes that are marked

pub marked-at : (j : Option StoredKey) (n : ℕ) (fs : List InFlight) → flying_at n (map (marked j) fs) ≡ option_map (marked j) (flying_at n fs)
marked-at j n fs = find-map (has_number n) (marked j) fs (λ g. refl)

pub marked-stays : (j : Option StoredKey) (n : ℕ) (f : InFlight) (fs : List InFlight) → flying_at n fs ≡ Some f → Stays n f (map (marked j) fs)
marked-stays j n f fs at = (marked j f, marked-at j n fs ∙ ap (option_map (marked j)) at, refl, refl)

was_none : {X Y : Type 0} (g : X → Y) (o : Option X) → option_map g o ≡ None → o ≡ None
was_none g None e = refl
was_none g (Some x) e = absurd cc

pub marked-none : (j : Option StoredKey) (n : ℕ) (fs : List InFlight) → flying_at n (map (marked j) fs) ≡ None → flying_at n fs ≡ None
marked-none j n fs e = was_none (marked j) (flying_at n fs) (sym (marked-at j n fs) ∙ e)
