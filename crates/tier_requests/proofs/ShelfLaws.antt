-- What the store does, as a tier's state has it.
use Rattle.std.proofs.Common.{◌≡◌, ℕ, ◌+◌, refl, ap, sym, ◌∙◌, true, false, cond, [], ◌∷◌, ◌++◌}
use Rattle.std.specs.Prelude.{Bool, ◌||◌, List, Option, Some, None, option_map, option_and_then, find, map, nat_eq}
use Rattle.std.specs.Ordering.{nat_cmp}
use Rattle.std.specs.Cmp.Lexicographic.{pointwise, slice_cmp, nat_list_cmp_total}
use Rattle.std.specs.FinMap.{get, IsAntisymmetric, same_map, get-remove, nat_cmp-IsAntisymmetric, slice_cmp-IsAntisymmetric}
use Rattle.std.specs.Map.{lookup}
use Rattle.cache_entries.specs.Keys.{same_bytes}
use Rattle.cache_entries.specs.SameEntry.{same_bytes-tells, same-sym}
use Rattle.cache_heads.specs.declared.meta.CacheMeta.{CacheMeta}
use Rattle.cache_changes.specs.Changes.{StoredKey, removes}
use Rattle.cache_changes.specs.Store as store
use Rattle.cache_changes.specs.Store.{Stored, Flying, Store, is_of, body_at, flying_at, flies_for, after}
use Rattle.cache_store.specs.Agree.{settled, Agree}
use Rattle.cache_store.specs.Answers.{after_write, left, left_behind}
use Rattle.cache_store.specs.StoreState.{Reading, StoreState}
use Rattle.cache_store.specs.Misses.{begun}
use Rattle.cache_store.specs.Readers as readers
use Rattle.cache_store.specs.Readers.{Reader, SameStoreState, IsJoined, IsParted, PartsReader}
use Rattle.tier_model.specs.Rows.{Bodies, without_body}
use Rattle.tier_model.specs.Shelf as shelf
use Rattle.tier_model.specs.Shelf.{InFlight, Shelf, Look, look, look_by, readable, joined, parted, landed, removed}
use Rattle.tier_model.specs.After.{pieced}
use Rattle.tier_model.proofs.BodyLaws.{ties-same, body_at-without}
use Rattle.tier_model.proofs.Tables.{bytes_tied, get-keyed}
use Rattle.tier_requests.specs.Shelves.{found_in, row_of, bodies_in, flight_of, readers_of, shelf_of}
use Rattle.tier_requests.proofs.FlightLaws.{flights-append, flights-marked, flights-on, flights-landed, flights-found, flight-at, flights-agree}
use Rattle.tier_requests.proofs.ReadingLaws.{table_of, reading-found, table-same, table-joined, table-parted, table-left}

-- ---- bodies

apart : IsAntisymmetric (slice_cmp nat_cmp)
apart = slice_cmp-IsAntisymmetric nat_cmp-IsAntisymmetric

-- bodies that answer alike are one map
pub same-bodies : (m n : Bodies) → ((k : StoredKey) → get m k ≡ get n k) → m ≡ n
same-bodies = same_map nat_list_cmp_total apart

found_row : (k : StoredKey) (xs : List (Stored CacheMeta)) → lookup (pointwise nat_eq k) (map row_of xs) ≡ option_map found_in (find (is_of k) xs)
found_row k [] = refl
found_row k (x ∷ xs) = ap (λ t. cond t (Some (found_in x)) (lookup (pointwise nat_eq k) (map row_of xs))) (same-sym same_bytes same_bytes-tells k x.write.key) ∙ by_test (is_of k x) (found_row k xs)
  where
    by_test : (t : Bool) → lookup (pointwise nat_eq k) (map row_of xs) ≡ option_map found_in (find (is_of k) xs)
        → cond t (Some (found_in x)) (lookup (pointwise nat_eq k) (map row_of xs)) ≡ option_map found_in (cond t (Some x) (find (is_of k) xs))
    by_test true ih = refl
    by_test false ih = ih

-- the body of a key in a store
pub body-found : (k : StoredKey) (s : Store CacheMeta) → get (bodies_in s.bodies) k ≡ option_map found_in (body_at k s)
body-found k s = get-keyed (pointwise nat_eq) nat_list_cmp_total bytes_tied (map row_of s.bodies) k ∙ found_row k s.bodies

unsettled : (o : Option (Stored CacheMeta)) → option_map found_in o ≡ option_map found_in (option_map settled o)
unsettled None = refl
unsettled (Some x) = refl

-- stores that agree have the same bodies
pub agreed : (s t : Store CacheMeta) → Agree s t → (k : StoredKey) → option_map found_in (body_at k s) ≡ option_map found_in (body_at k t)
agreed s t a k = unsettled (body_at k s) ∙ ap (option_map found_in) (a.bodies k) ∙ sym (unsettled (body_at k t))

-- ---- readers

abbrev pub with_readers : StoreState → StoreState → Shelf
with_readers h0 h = record (shelf_of h0) { readers = table_of h.readings }

-- where only the readers changed
only-readers : (h0 h : StoreState) → h.store ≡ h0.store → h.next ≡ h0.next → shelf_of h ≡ with_readers h0 h
only-readers h0 h s n = λ i. record { bodies = bodies_in (s i).bodies; flying = map flight_of (s i).flying; readers = table_of h.readings; writes = n i }

pub shelf-same : (h0 h : StoreState) → SameStoreState h0 h → shelf_of h ≡ shelf_of h0
shelf-same h0 h e = only-readers h0 h e.store e.next ∙ ap (λ t. record (shelf_of h0) { readers = t }) (table-same h.readings h0.readings e.readings)

pub shelf-joined : (n : ℕ) (h0 h : StoreState) → IsJoined n h0 h → shelf_of h ≡ record (shelf_of h0) { readers = joined n (shelf_of h0).readers }
shelf-joined n h0 h e = only-readers h0 h e.store e.next ∙ ap (λ t. record (shelf_of h0) { readers = t }) (table-joined n h.readings h0.readings e.readings)

pub shelf-parted : (n : ℕ) (h0 h : StoreState) → IsParted n h0 h → shelf_of h ≡ record (shelf_of h0) { readers = parted n (shelf_of h0).readers }
shelf-parted n h0 h e = only-readers h0 h e.store e.next ∙ ap (λ t. record (shelf_of h0) { readers = t }) (table-parted n h.readings h0.readings e.readings)

-- ---- writes in flight

pub shelf-begun : (k : StoredKey) (meta : CacheMeta) (h : StoreState) → shelf_of (begun k meta h) ≡ record (shelf.begun k meta (shelf_of h)) { writes = h.next + 1 }
shelf-begun k meta h = ap (λ (fs : List InFlight). record (shelf_of h) { flying = fs; writes = h.next + 1 }) (flights-append h.store.flying (store.begun (record { number = h.next; key = k; meta = meta })))

-- bytes came to a write, and maybe its last
pub shelf-written : (n : ℕ) (bytes : List ℕ) (last : Bool) (h0 h : StoreState) → h ≡ record h0 { store = after_write n bytes last h0.store } → shelf_of h ≡ pieced bytes last n (shelf_of h0)
shelf-written n bytes last h0 h e = ap shelf_of e ∙ by_last last
  where
    added : (fs : List (Flying CacheMeta)) → map flight_of (store.on_flying n (store.with_bytes bytes) fs) ≡ shelf.on_flying n (λ f. record f { bytes = f.bytes ++ bytes }) (map flight_of fs)
    added fs = flights-on n (store.with_bytes bytes) (λ f. record f { bytes = f.bytes ++ bytes }) fs (λ f. refl)

    by_last : (last : Bool) → shelf_of (record h0 { store = after_write n bytes last h0.store }) ≡ pieced bytes last n (shelf_of h0)
    by_last false = ap (λ (fs : List InFlight). record (shelf_of h0) { flying = fs }) (added h0.store.flying)
    by_last true =
        ap (λ (fs : List InFlight). record (shelf_of h0) { flying = fs })
        (flights-on n store.ended (λ f. record f { ended = true }) (store.on_flying n (store.with_bytes bytes) h0.store.flying) (λ f. refl)
        ∙ ap (shelf.on_flying n (λ f. record f { ended = true })) (added h0.store.flying))

-- a write is in flight no more: its readers are left with its bytes
table-behind : (is_finished : Bool) (n : ℕ) (o : Option (Flying CacheMeta)) (h : StoreState) → table_of (left_behind is_finished n o h.readings) ≡ shelf.readers_left is_finished n (option_map flight_of o) (table_of h.readings)
table-behind is_finished n None h = refl
table-behind is_finished n (Some f) h = table-left n f.stored.bytes (is_finished || f.ended) h.readings

pub readers-landed : (is_finished : Bool) (n : ℕ) (h : StoreState) → table_of (left_behind is_finished n (flying_at n h.store) h.readings) ≡ (landed is_finished n (shelf_of h)).readers
readers-landed is_finished n h = table-behind is_finished n (flying_at n h.store) h ∙ ap (λ o. shelf.readers_left is_finished n o (table_of h.readings)) (sym (flight-at n h.store.flying))

-- a write is given up
pub shelf-left : (n : ℕ) (h : StoreState) → shelf_of (left n h) ≡ landed false n (shelf_of h)
shelf-left n h = λ i. record {
  bodies = bodies_in h.store.bodies;
  flying = flights-landed n h.store.flying i;
  readers = readers-landed false n h i;
  writes = h.next;
}

-- ---- what is shown

-- what a look-up finds, by what the store has
pub look-of : (k : StoredKey) (h : StoreState) → look k (shelf_of h) ≡ look_by (option_map flight_of (find (flies_for k) h.store.flying)) (option_map found_in (body_at k h.store))
look-of k h = rw (flights-found (flies_for k) (shelf.flies_for k) h.store.flying (λ f. refl), body-found k h.store) refl

-- what there is to read of a write
pub readable-same : (n : ℕ) (h : StoreState) → readable n (shelf_of h) ≡ readers.readable n h
readable-same n h = rw (flight-at n h.store.flying, reading-found n h.readings) (by_flight (flying_at n h.store) (readers.reading_at n h.readings))
  where
    by_flight : (f : Option (Flying CacheMeta)) (r : Option Reading) → shelf.readable_of (option_map flight_of f) (option_map readers_of r) ≡ readers.readable_of f (option_and_then (λ r. r.left) r)
    by_flight (Some f) r = refl
    by_flight None None = refl
    by_flight None (Some r) = refl

-- ---- removals

pub shelf-removed : (k : StoredKey) (h0 h : StoreState) → Agree h.store (after (removes k) h0.store) → h.next ≡ h0.next → h.readings ≡ h0.readings → shelf_of h ≡ removed k (shelf_of h0)
shelf-removed k h0 h agree next readings = λ i. record {
  bodies = bodies i;
  flying = (flights-agree h.store.flying (map (store.marked (Some k)) h0.store.flying) agree.flying ∙ flights-marked (Some k) h0.store.flying) i;
  readers = table_of (readings i);
  writes = next i;
}
  where
    removed_body : (j : StoredKey) → option_map found_in (body_at j (after (removes k) h0.store)) ≡ cond (same_bytes k j) None (get (bodies_in h0.store.bodies) j)
    removed_body j = ap (option_map found_in) (body_at-without j (Some k) h0.store.bodies) ∙ by_test (same_bytes k j) ∙ ap (cond (same_bytes k j) None) (sym (body-found j h0.store))
      where
        by_test : (t : Bool) → option_map found_in (cond t None (body_at j h0.store)) ≡ cond t None (option_map found_in (body_at j h0.store))
        by_test true = refl
        by_test false = refl

    bodies : bodies_in h.store.bodies ≡ without_body k (bodies_in h0.store.bodies)
    bodies = same-bodies (bodies_in h.store.bodies) (without_body k (bodies_in h0.store.bodies))
        (λ j. body-found j h.store ∙ agreed h.store (after (removes k) h0.store) agree j ∙ removed_body j
        ∙ sym (get-remove nat_list_cmp_total (bodies_in h0.store.bodies) k j ∙ ap (λ v. cond v None (get (bodies_in h0.store.bodies) j)) (ties-same j k)))
