-- Bodies and writes in flight stay those that the changes leave, as bytes come to a write, and it lands.
use Rattle.std.proofs.Common.{◌≡◌, ℕ, ◌≤◌, ◌<◌, refl, ap, sym, ◌∙◌, true, false, subst, cond, [], ◌∷◌, ◌++◌, ◌||◌, ◌==◌, length, arith}
use Rattle.std.specs.Prelude.{◌&&◌, Bool, List, Option, Some, None, option_map, not, map, filter, find}
use Rattle.std.specs.List.{AllByRecursion}
use Rattle.std.specs.FinMap.{get}
use Rattle.std.specs.Option.{option_or}
use Rattle.std.proofs.lemmas.Bool.{eqb-true, eq-eqb}
use Rattle.cache_entries.specs.Keys.{same_bytes}
use Rattle.cache_changes.specs.Changes.{StoredKey, stored_key}
use Rattle.cache_changes.proofs.RowLaws.{filter-swap, was_false, find-passes}
use Rattle.tier_model.specs.Rows.{Numbered, Bodies, FinishedBody, with_body}
use Rattle.tier_model.specs.Shelf.{InFlight, has_number, flies_for, flying_at, on_flying}
use Rattle.tier_promise.specs.Promise.{Write, Permit, Change, Changes, begins, appends, lands, puts, takes, gives, ends, bytes_of, is_done, flying, body_of, is_done}
use Rattle.tier_promise.specs.Promise as now
use Rattle.tier_model.proofs.BodyLaws.{held-with}
use Rattle.tier_promise.proofs.NowLists.{seen-changed, all-changed, all-filtered, seen-filtered, seen-found, found-kept, found-holds}
use Rattle.tier_promise.proofs.NowFits.{Numbers, Told, told_write, told_flight, told_body, IsFlight, BodyFits, ShelfFits}
use Rattle.tier_promise.proofs.NowShelf.{apart_number, or_true, of_key}

module _ (numbers : Numbers) (bodies : Bodies) (fs : List InFlight) (next : ℕ) (c : Changes) (f : ShelfFits numbers bodies fs next c) (n m : ℕ) (named : numbers n ≡ Some m) where
  abbrev was_bytes : ℕ → List ℕ
  was_bytes = λ i. bytes_of i c

  abbrev was_done : ℕ → Bool
  was_done = λ i. is_done i c

  -- numbers are one where those in the changes are
  pub same-place : (i j : ℕ) → numbers i ≡ Some j → (n == i) ≡ (m == j)
  same-place i j h = by_tests (n == i) (m == j) refl refl
    where
      by_tests : (u v : Bool) → (n == i) ≡ u → (m == j) ≡ v → u ≡ v
      by_tests true true s t = refl
      by_tests true false s t =
          let one : Some m ≡ Some j = sym named ∙ ap numbers (eqb-true n i s) ∙ h in
          let same : m ≡ j = cc in
          let yes : (m == j) ≡ true = eq-eqb m j same in
          absurd cc
      by_tests false true s t =
          let same : n ≡ i = f.apart n i m named (h ∙ ap (λ (x : ℕ). Some x) (sym (eqb-true m j t))) in
          let yes : (n == i) ≡ true = eq-eqb n i same in
          absurd cc
      by_tests false false s t = refl

  pub place-below : m < length c
  place-below = (f.below n m named).1

  not_fresh : (i : ℕ) → length c ≤ i → (m == i) ≡ false
  not_fresh i l = apart_number m i (λ h. absurd (omega (arith, l, h, place-below)))

  -- ---- bytes

  module _ (b : List ℕ) (open_yet : is_done m c ≡ false) where
    abbrev add : InFlight → InFlight
    add = λ g. record g { bytes = g.bytes ++ b }

    abbrev close : InFlight → InFlight
    close = λ g. record g { ended = true }

    abbrev bytes_now : ℕ → List ℕ
    bytes_now = λ i. cond (m == i) (bytes_of i c ++ b) (bytes_of i c)

    kept_told : (change : InFlight → InFlight) → ((g : InFlight) → told_flight numbers (change g) ≡ told_flight numbers g) → (g : InFlight) → told_flight numbers (cond (has_number n g) (change g) g) ≡ told_flight numbers g
    kept_told change h g = by_test (has_number n g)
      where
        by_test : (v : Bool) → told_flight numbers (cond v (change g) g) ≡ told_flight numbers g
        by_test true = h g
        by_test false = refl

    kept_flies : (change : InFlight → InFlight) (k : StoredKey) → ((g : InFlight) → flies_for k (change g) ≡ flies_for k g) → (g : InFlight) → flies_for k (cond (has_number n g) (change g) g) ≡ flies_for k g
    kept_flies change k h g = by_test (has_number n g)
      where
        by_test : (v : Bool) → flies_for k (cond v (change g) g) ≡ flies_for k g
        by_test true = h g
        by_test false = refl

    added_seen : (k : StoredKey) (gs : List InFlight) → map (told_flight numbers) (filter (flies_for k) (on_flying n add gs)) ≡ map (told_flight numbers) (filter (flies_for k) gs)
    added_seen k gs = seen-changed (flies_for k) (λ g. cond (has_number n g) (add g) g) (told_flight numbers) gs (kept_flies add k (λ g. refl)) (kept_told add (λ g. refl))

    closed_seen : (k : StoredKey) (gs : List InFlight) → map (told_flight numbers) (filter (flies_for k) (on_flying n close gs)) ≡ map (told_flight numbers) (filter (flies_for k) gs)
    closed_seen k gs = seen-changed (flies_for k) (λ g. cond (has_number n g) (close g) g) (told_flight numbers) gs (kept_flies close k (λ g. refl)) (kept_told close (λ g. refl))

    -- a write in flight with the bytes that came
    added : (still : ℕ → Bool) (g : InFlight) → IsFlight numbers was_bytes still g → IsFlight numbers bytes_now still (cond (has_number n g) (add g) g)
    added still g h = by_test (has_number n g) (same-place g.number h.0 h.1)
      where
        by_test : (v : Bool) → v ≡ (m == h.0) → IsFlight numbers bytes_now still (cond v (add g) g)
        by_test true t = (h.0, h.1, ap (λ (l : List ℕ). l ++ b) h.2 ∙ ap (λ (v : Bool). cond v (bytes_of h.0 c ++ b) (bytes_of h.0 c)) t, h.3)
        by_test false t = (h.0, h.1, h.2 ∙ ap (λ (v : Bool). cond v (bytes_of h.0 c ++ b) (bytes_of h.0 c)) t, h.3)

    closed : (bytes : ℕ → List ℕ) (g : InFlight) → IsFlight numbers bytes was_done g → IsFlight numbers bytes (λ i. (m == i) || is_done i c) (cond (has_number n g) (close g) g)
    closed bytes g h = by_test (has_number n g) (same-place g.number h.0 h.1)
      where
        by_test : (v : Bool) → v ≡ (m == h.0) → IsFlight numbers bytes (λ i. (m == i) || is_done i c) (cond v (close g) g)
        by_test true t = (h.0, h.1, h.2, ap (λ (v : Bool). v || is_done h.0 c) t)
        by_test false t = (h.0, h.1, h.2, h.3 ∙ ap (λ (v : Bool). v || is_done h.0 c) t)

    -- no bytes come to a body
    pub other : (i : ℕ) → is_done i c ≡ true → (m == i) ≡ false
    other i d = apart_number m i (λ h. let clash : is_done m c ≡ true = ap (λ (x : ℕ). is_done x c) h ∙ d in absurd cc)

    body_added : (still : ℕ → Bool) (k : StoredKey) (x : Option Numbered) (w : Option Write) → ((i : ℕ) → is_done i c ≡ true → still i ≡ true) → BodyFits numbers was_bytes was_done k x w
        → BodyFits numbers bytes_now still k x w
    body_added still k None None d h = tt
    body_added still k (Some x) (Some w) d h = (h.0, h.1 ∙ sym (ap (λ (v : Bool). cond v (bytes_of w.number c ++ b) (bytes_of w.number c)) (other w.number h.2)), d w.number h.2)
    body_added still k (Some x) None d h = absurd h
    body_added still k None (Some w) d h = absurd h

    fresh_bytes : (i : ℕ) → length c ≤ i → bytes_now i ≡ []
    fresh_bytes i l = ap (λ (v : Bool). cond v (bytes_of i c ++ b) (bytes_of i c)) (not_fresh i l) ∙ (f.fresh i l).0

    pub shelf-more : ShelfFits numbers bodies (on_flying n add fs) next (appends m b false ∷ c)
    shelf-more = record {
      below = λ i j h. let x = f.below i j h in (x.0, omega (arith, x.1));
      apart = f.apart;
      fresh = λ i h. let l : length c ≤ i = omega (arith, h) in (fresh_bytes i l, (f.fresh i l).1);
      flights = λ k. f.flights k ∙ sym (added_seen k fs);
      each = all-changed (IsFlight numbers was_bytes was_done) (IsFlight numbers bytes_now was_done) (λ g. cond (has_number n g) (add g) g) fs (added was_done) f.each;
      bodies = λ k. body_added was_done k (get bodies k) (body_of k c) (λ i d. d) (f.bodies k);
    }

    pub shelf-last : ShelfFits numbers bodies (on_flying n close (on_flying n add fs)) next (appends m b true ∷ c)
    shelf-last = record {
      below = λ i j h. let x = f.below i j h in (x.0, omega (arith, x.1));
      apart = f.apart;
      fresh = λ i h. let l : length c ≤ i = omega (arith, h) in (fresh_bytes i l, ap (λ (v : Bool). v || is_done i c) (not_fresh i l) ∙ (f.fresh i l).1);
      flights = λ k. f.flights k ∙ sym (added_seen k fs) ∙ sym (closed_seen k (on_flying n add fs));
      each = all-changed (IsFlight numbers bytes_now was_done) (IsFlight numbers bytes_now (λ i. (m == i) || is_done i c)) (λ g. cond (has_number n g) (close g) g) (on_flying n add fs) (closed bytes_now)
          (all-changed (IsFlight numbers was_bytes was_done) (IsFlight numbers bytes_now was_done) (λ g. cond (has_number n g) (add g) g) fs (added was_done) f.each);
      bodies = λ k. body_added (λ i. (m == i) || is_done i c) k (get bodies k) (body_of k c) (λ i d. or_true (m == i) (is_done i c) d) (f.bodies k);
    }

  -- ---- landing

  abbrev done_now : ℕ → Bool
  done_now = λ i. (m == i) || is_done i c

  -- the tests of both sides agree
  agrees : (w : Write) (g : InFlight) → IsFlight numbers was_bytes was_done g → told_write w ≡ told_flight numbers g → not (now.has_number m w) ≡ not (has_number n g)
  agrees w g h e = ap not (sym (same-place g.number w.number (sym (ap (λ (t : Told). t.number) e))))

  agrees-found : (w : Write) (g : InFlight) → IsFlight numbers was_bytes was_done g → told_write w ≡ told_flight numbers g → now.has_number m w ≡ has_number n g
  agrees-found w g h e = sym (same-place g.number w.number (sym (ap (λ (t : Told). t.number) e)))

  each_for : (k : StoredKey) → AllByRecursion (IsFlight numbers was_bytes was_done) (filter (flies_for k) fs)
  each_for k = all-filtered (IsFlight numbers was_bytes was_done) (IsFlight numbers was_bytes was_done) (flies_for k) fs (λ g t h. h) f.each

  landed_flights : (k : StoredKey)
      → map told_write (filter (λ w. not (now.has_number m w)) (flying k c)) ≡ map (told_flight numbers) (filter (flies_for k) (filter (λ g. not (has_number n g)) fs))
  landed_flights k =
      seen-filtered (IsFlight numbers was_bytes was_done) told_write (told_flight numbers) (λ w. not (now.has_number m w)) (λ g. not (has_number n g)) agrees (flying k c) (filter (flies_for k) fs)
      (each_for k) (f.flights k)
      ∙ ap (map (told_flight numbers)) (filter-swap (λ g. not (has_number n g)) (flies_for k) fs)

  landed_each : AllByRecursion (IsFlight numbers was_bytes done_now) (filter (λ g. not (has_number n g)) fs)
  landed_each = all-filtered (IsFlight numbers was_bytes was_done) (IsFlight numbers was_bytes done_now) (λ g. not (has_number n g)) fs
      (λ g t h. (h.0, h.1, h.2, h.3 ∙ sym (ap (λ (v : Bool). v || is_done h.0 c) (sym (same-place g.number h.0 h.1) ∙ was_false (has_number n g) t)))) f.each

  landed_body : (k : StoredKey) (x : Option Numbered) (w : Option Write) → BodyFits numbers was_bytes was_done k x w → BodyFits numbers was_bytes done_now k x w
  landed_body k None None h = tt
  landed_body k (Some x) (Some w) h = (h.0, h.1, or_true (m == w.number) (is_done w.number c) h.2)
  landed_body k (Some x) None h = absurd h
  landed_body k None (Some w) h = absurd h

  fresh_landed : (i : ℕ) → length c ≤ i → (bytes_of i c ≡ []) × (((m == i) || is_done i c) ≡ false)
  fresh_landed i l = ((f.fresh i l).0, ap (λ (v : Bool). v || is_done i c) (not_fresh i l) ∙ (f.fresh i l).1)

  -- a write is given up
  pub shelf-left : ShelfFits numbers bodies (filter (λ g. not (has_number n g)) fs) next (lands m false ∷ c)
  shelf-left = record {
    below = λ i j h. let x = f.below i j h in (x.0, omega (arith, x.1));
    apart = f.apart;
    fresh = λ i h. fresh_landed i (omega (arith, h));
    flights = landed_flights;
    each = landed_each;
    bodies = λ k. landed_body k (get bodies k) (body_of k c) (f.bodies k);
  }

  -- a write is a body from now on: it is the one in flight of its number, and no other of that number is
  module _ (one : AllByRecursion (λ g. flying_at g.number fs ≡ Some g) fs) (g : InFlight) (at : flying_at n fs ≡ Some g) (alive : g.removed ≡ false) where
    found_at : (k : StoredKey) → option_map told_write (find (now.has_number m) (flying k c)) ≡ option_map (told_flight numbers) (find (has_number n) (filter (flies_for k) fs))
    found_at k = seen-found (IsFlight numbers was_bytes was_done) told_write (told_flight numbers) (now.has_number m) (has_number n) agrees-found (flying k c) (filter (flies_for k) fs) (each_for k) (f.flights k)

    number_of : g.number ≡ n
    number_of = sym (eqb-true n g.number (find-passes (has_number n) fs g at))

    -- under its own key it is found, under another none is
    here : (k : StoredKey) → same_bytes g.key k ≡ true → find (has_number n) (filter (flies_for k) fs) ≡ Some g
    here k t = found-kept (has_number n) (flies_for k) fs g at (ap (λ (v : Bool). v && not g.removed) t ∙ ap not alive)

    nowhere : (k : StoredKey) → same_bytes g.key k ≡ false → (o : Option InFlight) → find (has_number n) (filter (flies_for k) fs) ≡ o → o ≡ None
    nowhere k t None e = refl
    nowhere k t (Some x) e =
        let both = found-holds (λ x. (flies_for k x ≡ true) × (flying_at x.number fs ≡ Some x)) (has_number n) (filter (flies_for k) fs) x
        (all-filtered (λ x. flying_at x.number fs ≡ Some x) (λ x. (flies_for k x ≡ true) × (flying_at x.number fs ≡ Some x)) (flies_for k) fs (λ x p h. (p, h)) one) e in
        let is : n ≡ x.number = eqb-true n x.number (find-passes (has_number n) (filter (flies_for k) fs) x e) in
        let same : Some x ≡ Some g = sym both.1 ∙ ap (λ (i : ℕ). flying_at i fs) (sym is) ∙ at in
        let flies : flies_for k g ≡ true = ap (flies_for k) (let one : g ≡ x = cc in one) ∙ both.0 in
        let not_of : flies_for k g ≡ false = ap (λ (v : Bool). v && not g.removed) t in
        absurd cc

    abbrev body : Numbered
    body = record { number = n; body = record { bytes = g.bytes; meta = g.meta } }

    told_back : (k : StoredKey) → g.key ≡ k → told_flight numbers g ≡ told_body numbers k body
    told_back k is = ap (λ (o : Option ℕ). record { number = o; key = g.key; meta = g.meta }) (ap numbers number_of) ∙ ap (λ (j : StoredKey). record { number = numbers n; key = j; meta = g.meta }) is

    flight_is : IsFlight numbers was_bytes was_done g
    flight_is = found-holds (IsFlight numbers was_bytes was_done) (has_number n) fs g f.each at

    bytes_are : g.bytes ≡ bytes_of m c
    bytes_are =
        let same : Some flight_is.0 ≡ Some m = sym flight_is.1 ∙ ap numbers number_of ∙ named in
        let is : flight_is.0 ≡ m = cc in
        flight_is.2 ∙ ap (λ (i : ℕ). bytes_of i c) is

    new_body : (k : StoredKey) → g.key ≡ k → (o old : Option Write) → option_map told_write o ≡ Some (told_flight numbers g) → BodyFits numbers was_bytes done_now k (Some body) (option_or o old)
    new_body k is None old e = absurd cc
    new_body k is (Some w) old e =
        let told : told_write w ≡ told_flight numbers g = cc in
        let place : Some w.number ≡ Some m = ap (λ (t : Told). t.number) told ∙ ap numbers number_of ∙ named in
        let number : w.number ≡ m = cc in
        (sym (told ∙ told_back k is), bytes_are ∙ ap (λ (i : ℕ). bytes_of i c) (sym number), ap (λ (v : Bool). v || is_done w.number c) (eq-eqb m w.number (sym number)))

    old_body : (k : StoredKey) (x : Option Numbered) (o w : Option Write) → option_map told_write o ≡ None → BodyFits numbers was_bytes done_now k x w → BodyFits numbers was_bytes done_now k x (option_or o w)
    old_body k x None w e h = h
    old_body k x (Some v) w e h = absurd cc

    bodies_of : (b : FinishedBody) → stored_key b.entry ≡ g.key → b.body ≡ body.body → (k : StoredKey)
        → BodyFits numbers was_bytes done_now k (get (with_body n b bodies) k) (option_or (find (now.has_number m) (flying k c)) (body_of k c))
    bodies_of b key is k =
        subst (λ (x : Option Numbered). BodyFits numbers was_bytes done_now k x (option_or (find (now.has_number m) (flying k c)) (body_of k c))) (sym (held-with k n b bodies)) (by_key (same_bytes (stored_key b.entry) k) refl)
      where
        by_key : (v : Bool) → same_bytes (stored_key b.entry) k ≡ v
            → BodyFits numbers was_bytes done_now k (cond v (Some (record { number = n; body = b.body })) (get bodies k)) (option_or (find (now.has_number m) (flying k c)) (body_of k c))
        by_key true t =
            let t' : same_bytes g.key k ≡ true = ap (λ (j : StoredKey). same_bytes j k) (sym key) ∙ t in
            subst (λ (y : Numbered). BodyFits numbers was_bytes done_now k (Some y) (option_or (find (now.has_number m) (flying k c)) (body_of k c))) (ap (λ y. record { number = n; body = y }) (sym is))
            (new_body k (of_key k g t') (find (now.has_number m) (flying k c)) (body_of k c) (found_at k ∙ ap (option_map (told_flight numbers)) (here k t')))
        by_key false t =
            let t' : same_bytes g.key k ≡ false = ap (λ (j : StoredKey). same_bytes j k) (sym key) ∙ t in
            old_body k (get bodies k) (find (now.has_number m) (flying k c)) (body_of k c) (found_at k ∙ ap (option_map (told_flight numbers)) (nowhere k t' (find (has_number n) (filter (flies_for k) fs)) refl))
            (landed_body k (get bodies k) (body_of k c) (f.bodies k))

    pub shelf-lands : (b : FinishedBody) → stored_key b.entry ≡ g.key → b.body ≡ body.body → ShelfFits numbers (with_body n b bodies) (filter (λ g. not (has_number n g)) fs) next (lands m true ∷ c)
    shelf-lands b key is = record {
      below = λ i j h. let x = f.below i j h in (x.0, omega (arith, x.1));
      apart = f.apart;
      fresh = λ i h. fresh_landed i (omega (arith, h));
      flights = landed_flights;
      each = landed_each;
      bodies = bodies_of b key is;
    }
