-- Bodies and writes in flight stay those that the changes leave, change by change.
use Rattle.std.proofs.Common.{◌≡◌, ℕ, ◌+◌, ◌≤◌, ◌<◌, refl, ap, sym, ◌∙◌, true, false, subst, cond, [], ◌∷◌, ◌++◌, ◌||◌, ◌==◌, length, arith}
use Rattle.std.specs.Prelude.{◌&&◌, Bool, List, Option, Some, None, not, map, filter}
use Rattle.std.specs.FinMap.{get}
use Rattle.std.proofs.lemmas.Bool.{eqb-true, eq-eqb}
use Rattle.std.proofs.lemmas.List.{map-append}
use Rattle.cache_entries.specs.Keys.{same_bytes}
use Rattle.cache_entries.specs.SameEntry.{same_bytes-tells}
use Rattle.cache_entries.specs.declared.entry.CacheEntryKey.{CacheEntryKey}
use Rattle.cache_heads.specs.declared.meta.CacheMeta.{CacheMeta}
use Rattle.cache_changes.specs.Changes.{StoredKey, stored_key, key_alone, is_key}
use Rattle.tier_model.specs.Keys.{Entry}
use Rattle.tier_model.specs.Rows.{Numbered, Bodies, without_key}
use Rattle.tier_model.specs.Shelf.{InFlight, flies_for, marked}
use Rattle.tier_promise.specs.Promise.{Write, Permit, Changes, begins, puts, weighs, takes, gives, ends, bytes_of, is_done, flying, body_of, is_done}
use Rattle.cache_lock.specs.declared.status.LockStatus.{LockStatus}
use Rattle.tier_model.proofs.BodyLaws.{held-without_key}
use Rattle.tier_promise.proofs.NowLists.{seen-changed, none-changed, all-changed, all-mapped, all-pushed, all-filtered, filter-pushed, seen-alike}
use Rattle.tier_promise.proofs.NowFits.{Numbers, Told, told_write, told_flight, IsFlight, BodyFits, ShelfFits}

same_number : (n : ℕ) → (n == n) ≡ true
same_number n = eq-eqb n n refl

pub apart_number : (i j : ℕ) → (i ≡ j → ⊥) → (i == j) ≡ false
apart_number i j h = by_test (i == j) refl
  where
    by_test : (v : Bool) → (i == j) ≡ v → v ≡ false
    by_test true e = absurd (h (eqb-true i j e))
    by_test false e = refl

-- ---- what leaves writes alone

module _ (numbers : Numbers) (bodies : Bodies) (fs : List InFlight) (next : ℕ) (c : Changes) (f : ShelfFits numbers bodies fs next c) where
  module _ (then : Changes) (longer : length c ≤ length then) (bytes : (n : ℕ) → bytes_of n then ≡ bytes_of n c) (done : (n : ℕ) → is_done n then ≡ is_done n c) (flies : (k : StoredKey) → flying k then ≡ flying k c)
      (stays : (k : StoredKey) → body_of k then ≡ body_of k c) where
    abbrev Fits : StoredKey → Option Numbered → Option Write → Type 0
    Fits k x w = BodyFits numbers (λ n. bytes_of n then) (λ n. is_done n then) k x w

    body_stays : (k : StoredKey) (x : Option Numbered) (w : Option Write) → BodyFits numbers (λ n. bytes_of n c) (λ n. is_done n c) k x w → Fits k x w
    body_stays k None None h = tt
    body_stays k (Some x) (Some w) h = (h.0, h.1 ∙ sym (bytes w.number), done w.number ∙ h.2)
    body_stays k (Some x) None h = absurd h
    body_stays k None (Some w) h = absurd h

    pub shelf-as-is : ShelfFits numbers bodies fs next then
    shelf-as-is = record {
      below = λ n m h. let b = f.below n m h in (b.0, omega (arith, b.1, longer));
      apart = f.apart;
      fresh = λ m h. let none = f.fresh m (omega (arith, h, longer)) in (bytes m ∙ none.0, done m ∙ none.1);
      flights = λ k. ap (map told_write) (flies k) ∙ f.flights k;
      each = all-mapped (IsFlight numbers (λ n. bytes_of n c) (λ n. is_done n c)) (IsFlight numbers (λ n. bytes_of n then) (λ n. is_done n then)) fs
          (λ g h. (h.0, h.1, h.2 ∙ sym (bytes h.0), h.3 ∙ sym (done h.0))) f.each;
      bodies = λ k. subst (λ (w : Option Write). Fits k (get bodies k) w) (sym (stays k)) (body_stays k (get bodies k) (body_of k c) (f.bodies k));
    }

  pub shelf-puts : (e : CacheEntryKey) (w : ℕ) → ShelfFits numbers bodies fs next (puts e w ∷ c)
  shelf-puts e w = shelf-as-is (puts e w ∷ c) (omega arith) (λ n. refl) (λ n. refl) (λ k. refl) (λ k. refl)

  pub shelf-weighs : (e : CacheEntryKey) (w : ℕ) → ShelfFits numbers bodies fs next (weighs e w ∷ c)
  shelf-weighs e w = shelf-as-is (weighs e w ∷ c) (omega arith) (λ n. refl) (λ n. refl) (λ k. refl) (λ k. refl)

  pub shelf-gives : (p : Permit) → ShelfFits numbers bodies fs next (gives p ∷ c)
  shelf-gives p = shelf-as-is (gives p ∷ c) (omega arith) (λ n. refl) (λ n. refl) (λ k. refl) (λ k. refl)

  pub shelf-ends : (n : ℕ) (how : LockStatus) → ShelfFits numbers bodies fs next (ends n how ∷ c)
  shelf-ends n how = shelf-as-is (ends n how ∷ c) (omega arith) (λ m. refl) (λ m. refl) (λ k. refl) (λ k. refl)

  -- a number is used up in vain
  pub shelf-later : (later : ℕ) → next ≤ later → ShelfFits numbers bodies fs later c
  shelf-later later l = record {
    below = λ n m h. let b = f.below n m h in (omega (arith, b.0, l), b.1);
    apart = f.apart;
    fresh = f.fresh;
    flights = f.flights;
    each = f.each;
    bodies = f.bodies;
  }

-- ---- removals

or_false : (a b : Bool) → b ≡ false → (a || b) ≡ a
or_false true b e = refl
or_false false b e = e

pub or_true : (a b : Bool) → b ≡ true → (a || b) ≡ true
or_true true b e = refl
or_true false b e = e

pub of_key : (k : StoredKey) (f : InFlight) → same_bytes f.key k ≡ true → f.key ≡ k
of_key k f t = same_bytes-tells.equal f.key k t

-- a write of another key flies on for it, and none of the key does
flies_on : (j : Option StoredKey) (k : StoredKey) (f : InFlight) → is_key k j ≡ false → flies_for k (marked j f) ≡ flies_for k f
flies_on j k f none = by_test (same_bytes f.key k) refl
  where
    by_test : (v : Bool) → same_bytes f.key k ≡ v → (v && not (f.removed || is_key f.key j)) ≡ (v && not f.removed)
    by_test false t = refl
    by_test true t = ap not (or_false f.removed (is_key f.key j) (ap (λ (x : StoredKey). is_key x j) (of_key k f t) ∙ none))

flies_no_more : (j : Option StoredKey) (k : StoredKey) (f : InFlight) → is_key k j ≡ true → flies_for k (marked j f) ≡ false
flies_no_more j k f gone = by_test (same_bytes f.key k) refl
  where
    by_test : (v : Bool) → same_bytes f.key k ≡ v → (v && not (f.removed || is_key f.key j)) ≡ false
    by_test false t = refl
    by_test true t = ap not (or_true f.removed (is_key f.key j) (ap (λ (x : StoredKey). is_key x j) (of_key k f t) ∙ gone))

module _ (numbers : Numbers) where
  gone_or : (bytes : ℕ → List ℕ) (done : ℕ → Bool) (k : StoredKey) (v : Bool) (x : Option Numbered) (w : Option Write) → BodyFits numbers bytes done k x w
      → BodyFits numbers bytes done k (cond v None x) (cond v None w)
  gone_or bytes done k true x w b = tt
  gone_or bytes done k false x w b = b

  -- an entry is out of the order of use, and what is stored under its key is removed, where it has no id
  pub shelf-takes : (e : CacheEntryKey) (bodies : Bodies) (fs : List InFlight) (next : ℕ) (c : Changes) → ShelfFits numbers bodies fs next c
      → ShelfFits numbers (without_key (key_alone e) bodies) (map (marked (key_alone e)) fs) next (takes e ∷ c)
  shelf-takes e bodies fs next c f = record {
    below = λ n m h. let b = f.below n m h in (b.0, omega (arith, b.1));
    apart = f.apart;
    fresh = λ m h. f.fresh m (omega (arith, h));
    flights = λ k. flights_of k (is_key k (key_alone e)) refl;
    each = all-changed (IsFlight numbers (λ m. bytes_of m c) (λ m. is_done m c)) (IsFlight numbers (λ m. bytes_of m c) (λ m. is_done m c)) (marked (key_alone e)) fs (λ g h. h) f.each;
    bodies = λ k. subst (λ (x : Option Numbered). BodyFits numbers (λ m. bytes_of m c) (λ m. is_done m c) k x (cond (is_key k (key_alone e)) None (body_of k c)))
        (sym (held-without_key k (key_alone e) bodies)) (gone_or (λ m. bytes_of m c) (λ m. is_done m c) k (is_key k (key_alone e)) (get bodies k) (body_of k c) (f.bodies k));
  }
    where
      flights_of : (k : StoredKey) (v : Bool) → is_key k (key_alone e) ≡ v
          → map told_write (cond v [] (flying k c)) ≡ map (told_flight numbers) (filter (flies_for k) (map (marked (key_alone e)) fs))
      flights_of k true t = sym (ap (map (told_flight numbers)) (none-changed (flies_for k) (marked (key_alone e)) fs (λ g. flies_no_more (key_alone e) k g t)))
      flights_of k false t = f.flights k ∙ sym (seen-changed (flies_for k) (marked (key_alone e)) (told_flight numbers) fs (λ g. flies_on (key_alone e) k g t) (λ g. refl))

-- ---- a write begins

-- with a number more
abbrev pub with_number : ℕ → ℕ → Numbers → Numbers
with_number n m numbers = λ i. cond (i == n) (Some m) (numbers i)

-- a write in flight that just began
abbrev pub new_flight : ℕ → StoredKey → CacheMeta → InFlight
new_flight n k meta = record { number = n; key = k; meta = meta; bytes = []; ended = false; removed = false }

pub number-more : (n m : ℕ) (numbers : Numbers) (i j : ℕ) → i < n → numbers i ≡ Some j → with_number n m numbers i ≡ Some j
number-more n m numbers i j l e = ap (λ (v : Bool). cond v (Some m) (numbers i)) (apart_number i n (λ h. absurd (omega (arith, l, h)))) ∙ e

module _ (numbers : Numbers) (bodies : Bodies) (fs : List InFlight) (n : ℕ) (c : Changes) (e : Entry) (meta : CacheMeta) (f : ShelfFits numbers bodies fs n c) where
  abbrev more : Numbers
  more = with_number n (length c) numbers

  abbrev w : Write
  w = record { number = length c; entry = e; meta = meta }

  abbrev bytes : ℕ → List ℕ
  bytes = λ m. bytes_of m c

  abbrev done : ℕ → Bool
  done = λ m. is_done m c

  pub named-more : (i m : ℕ) → numbers i ≡ Some m → more i ≡ Some m
  named-more i m h = number-more n (length c) numbers i m (f.below i m h).0 h

  pub named-new : more n ≡ Some (length c)
  named-new = ap (λ (v : Bool). cond v (Some (length c)) (numbers n)) (same_number n)

  told-more : (g : InFlight) → IsFlight numbers bytes done g → told_flight more g ≡ told_flight numbers g
  told-more g h = ap (λ (o : Option ℕ). record { number = o; key = g.key; meta = g.meta }) (named-more g.number h.0 h.1 ∙ sym h.1)

  body-more : (k : StoredKey) (x : Option Numbered) (v : Option Write) → BodyFits numbers bytes done k x v → BodyFits more bytes done k x v
  body-more k None None b = tt
  body-more k (Some x) (Some v) b =
      let is : numbers x.number ≡ Some v.number = ap (λ (t : Told). t.number) b.0 in
      (ap (λ (o : Option ℕ). record { number = o; key = k; meta = x.body.meta }) (named-more x.number v.number is ∙ sym is) ∙ b.0, b.1, b.2)
  body-more k (Some x) None b = absurd b
  body-more k None (Some v) b = absurd b

  below_by : (i m : ℕ) (v : Bool) → (i == n) ≡ v → cond v (Some (length c)) (numbers i) ≡ Some m → (i < n + 1) × (m < length (begins w ∷ c))
  below_by i m true t h = let at : i ≡ n = eqb-true i n t in let same : length c ≡ m = cc in (omega (arith, at), omega (arith, same))
  below_by i m false t h = let b = f.below i m h in (omega (arith, b.0), omega (arith, b.1))

  apart_by : (i j m : ℕ) (u v : Bool) → (i == n) ≡ u → (j == n) ≡ v → cond u (Some (length c)) (numbers i) ≡ Some m → cond v (Some (length c)) (numbers j) ≡ Some m → i ≡ j
  apart_by i j m true true s t g h = eqb-true i n s ∙ sym (eqb-true j n t)
  apart_by i j m true false s t g h = let b = f.below j m h in let same : length c ≡ m = cc in absurd (omega (arith, b.1, same))
  apart_by i j m false true s t g h = let b = f.below i m g in let same : length c ≡ m = cc in absurd (omega (arith, b.1, same))
  apart_by i j m false false s t g h = f.apart i j m g h

  all-seen : (k : StoredKey) → map (told_flight more) (filter (flies_for k) fs) ≡ map (told_flight numbers) (filter (flies_for k) fs)
  all-seen k = seen-alike (IsFlight numbers bytes done) (told_flight more) (told_flight numbers) (filter (flies_for k) fs) told-more
      (all-filtered (IsFlight numbers bytes done) (IsFlight numbers bytes done) (flies_for k) fs (λ g t h. h) f.each)

  new-seen : map told_write (w ∷ []) ≡ map (told_flight more) (new_flight n (stored_key e) meta ∷ [])
  new-seen = ap (λ (o : Option ℕ). record { number = o; key = stored_key e; meta = meta } ∷ []) (sym named-new)

  flights_of : (k : StoredKey) (v : Bool)
      → map told_write (cond v (flying k c ++ w ∷ []) (flying k c)) ≡ map (told_flight more) (filter (flies_for k) fs ++ cond (v && true) (new_flight n (stored_key e) meta ∷ []) [])
  flights_of k true =
      map-append told_write (flying k c) (w ∷ []) ∙ ap (λ (l : List Told). l ++ map told_write (w ∷ [])) (f.flights k ∙ sym (all-seen k))
      ∙ ap (λ (l : List Told). map (told_flight more) (filter (flies_for k) fs) ++ l) new-seen
      ∙ sym (map-append (told_flight more) (filter (flies_for k) fs) (new_flight n (stored_key e) meta ∷ []))
  flights_of k false =
      f.flights k ∙ sym (all-seen k) ∙ nothing (map (told_flight more) (filter (flies_for k) fs)) ∙ sym (map-append (told_flight more) (filter (flies_for k) fs) [])
    where
      nothing : (l : List Told) → l ≡ l ++ []
      nothing [] = refl
      nothing (x ∷ l) = ap (λ (r : List Told). x ∷ r) (nothing l)

  pub shelf-begins : ShelfFits more bodies (fs ++ new_flight n (stored_key e) meta ∷ []) (n + 1) (begins w ∷ c)
  shelf-begins = record {
    below = λ i m h. below_by i m (i == n) refl h;
    apart = λ i j m g h. apart_by i j m (i == n) (j == n) refl refl g h;
    fresh = λ m h. f.fresh m (omega (arith, h));
    flights = λ k. flights_of k (same_bytes (stored_key e) k) ∙ sym (ap (map (told_flight more)) (filter-pushed (flies_for k) fs (new_flight n (stored_key e) meta)));
    each = all-pushed (IsFlight more bytes done) fs (new_flight n (stored_key e) meta)
        (all-mapped (IsFlight numbers bytes done) (IsFlight more bytes done) fs (λ g h. (h.0, named-more g.number h.0 h.1, h.2, h.3)) f.each)
        (let none = f.fresh (length c) (omega arith) in (length c, named-new, sym none.0, sym none.1));
    bodies = λ k. body-more k (get bodies k) (body_of k c) (f.bodies k);
  }
