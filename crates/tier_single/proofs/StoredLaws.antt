-- What the storing of a body, and what goes again, leave on the shelf.
use Rattle.std.proofs.Common.{◌≡◌, ◌≢◌, ℕ, ◌+◌, ◌-◌, ◌^◌, refl, ap, sym, ◌∙◌, true, false, subst, cond, inl, inr, [], ◌∷◌}
use Rattle.std.specs.Prelude.{◌==◌, ◌||◌, ⊤, Bool, List, Option, Some, None, option_map, map}
use Rattle.std.specs.FinMap.{get}
use Rattle.cache_entries.specs.Keys.{same_bytes}
use Rattle.cache_entries.specs.declared.entry.CacheEntryId.{CacheEntryId}
use Rattle.cache_entries.specs.declared.entry.CacheEntryKey.{CacheEntryKey}
use Rattle.cache_entries.specs.declared.entry.CacheEntryKey.TheVariants.{KeyOnly, Identified}
use Rattle.cache_heads.specs.declared.meta.CacheMeta.{CacheMeta}
use Rattle.cache_changes.specs.Changes.{StoredKey, stored_key, key_alone}
use Rattle.cache_changes.specs.Store as store
use Rattle.cache_changes.specs.Store.{Stored, Store, is_of, body_at}
use Rattle.cache_store.specs.Agree.{Agree}
use Rattle.cache_store.specs.Answers.{IsFinished}
use Rattle.cache_store.specs.StoreState.{StoreState, left_with}
use Rattle.cache_store.specs.Purges.{PurgeAnswer, entry_key, id_at}
use Rattle.cache_store.specs.Wholes.{Stores, GivenUp, whole_of}
use Rattle.cache_store.specs.declared.storage.PurgeOutcome.{PurgeOutcome}
use Rattle.request_store.specs.Stored.{Purged, Removed}
use Rattle.store_memory.specs.Misses.{are_numbers_spent}
use Rattle.tier_model.specs.Calls.{writes_after}
use Rattle.tier_model.specs.Rows.{Numbered, FinishedBody, with_body, without_key}
use Rattle.tier_model.specs.Shelf as shelf
use Rattle.tier_model.specs.Shelf.{InFlight, Readers, Shelf, marked, landed, stored, removed, cleared}
use Rattle.tier_model.proofs.BodyLaws.{body_at-with, held-with}
use Rattle.tier_requests.specs.Shelves.{found_in, bodies_in, flight_of, shelf_of}
use Rattle.tier_requests.proofs.FlightLaws.{flights-agree, flights-landed}
use Rattle.tier_requests.proofs.ReadingLaws.{Table, table_of, table-left}
use Rattle.tier_requests.proofs.ShelfLaws.{same-bodies, body-found, agreed, readers-landed, shelf-removed}

-- ---- a body in the place of what its key had

abbrev pub held_as : ℕ → FinishedBody → Numbered
held_as n b = record { number = n; body = b.body }

module _ (n : ℕ) (b : FinishedBody) (x : Stored CacheMeta) (key : x.write.key ≡ stored_key b.entry) (is : found_in x ≡ held_as n b) where
  put_body : (k : StoredKey) (s : Store CacheMeta) → option_map found_in (body_at k (record s { bodies = store.with_body (Some x) s.bodies })) ≡ cond (same_bytes (stored_key b.entry) k) (Some (held_as n b)) (get (bodies_in s.bodies) k)
  put_body k s =
      ap (option_map found_in) (body_at-with k x s.bodies) ∙ by_test (is_of k x) ∙ ap (λ (j : StoredKey). cond (same_bytes j k) (Some (held_as n b)) (option_map found_in (body_at k s))) key
      ∙ ap (cond (same_bytes (stored_key b.entry) k) (Some (held_as n b))) (sym (body-found k s))
    where
      by_test : (t : Bool) → option_map found_in (cond t (Some x) (body_at k s)) ≡ cond t (Some (held_as n b)) (option_map found_in (body_at k s))
      by_test true = ap (λ (y : Numbered). Some y) is
      by_test false = refl

  put-bodies : (s t : Store CacheMeta) (fs : List (store.Flying CacheMeta)) → Agree t (record { bodies = store.with_body (Some x) s.bodies; flying = fs }) → bodies_in t.bodies ≡ with_body n b (bodies_in s.bodies)
  put-bodies s t fs agree = same-bodies (bodies_in t.bodies) (with_body n b (bodies_in s.bodies))
      (λ k. body-found k t ∙ agreed t (record { bodies = store.with_body (Some x) s.bodies; flying = fs }) agree k ∙ put_body k s ∙ sym (held-with k n b (bodies_in s.bodies)))

-- ---- a body that is stored whole

-- a write without readers leaves none behind
no-readers : (n : ℕ) (bytes : List ℕ) (whole : Bool) (h : StoreState) → get (shelf_of h).readers n ≡ None → table_of (left_with n bytes whole h.readings) ≡ table_of h.readings
no-readers n bytes whole h none = table-left n bytes whole h.readings ∙ ap (λ (o : Option Readers). shelf.left_with n bytes whole o (table_of h.readings)) none

-- under a number that has no readers
pub shelf-whole : (spent : Bool) (b : FinishedBody) (h0 h : StoreState) → Stores spent (stored_key b.entry) b.body.meta b.body.bytes h0 h → get (shelf_of h0).readers h0.next ≡ None
    → shelf_of h ≡ stored h0.next b (record (shelf_of h0) { writes = h0.next + 1 })
shelf-whole spent b h0 h s none = λ i. record { bodies = bodies i; flying = flying i; readers = readers i; writes = s.next i }
  where
    bodies : bodies_in h.store.bodies ≡ with_body h0.next b (bodies_in h0.store.bodies)
    bodies = put-bodies h0.next b (whole_of (stored_key b.entry) b.body.meta b.body.bytes h0) refl refl h0.store h.store h0.store.flying s.store

    flying : map flight_of h.store.flying ≡ map flight_of h0.store.flying
    flying = flights-agree h.store.flying h0.store.flying s.store.flying

    readers : table_of h.readings ≡ table_of h0.readings
    readers = ap table_of s.readings ∙ no-readers h0.next b.body.bytes true h0 none

-- ---- a write that is finished

pub shelf-finished : (n : ℕ) (b : FinishedBody) (x : Stored CacheMeta) (h0 h : StoreState) → IsFinished n x h0 h → x.write.key ≡ stored_key b.entry → found_in x ≡ held_as n b
    → shelf_of h ≡ stored n b (landed true n (shelf_of h0))
shelf-finished n b x h0 h f key is = λ i. record { bodies = bodies i; flying = flying i; readers = readers i; writes = f.next i }
  where
    fs : List (store.Flying CacheMeta)
    fs = store.landed n h0.store.flying

    agree : Agree h.store (record { bodies = store.with_body (Some x) h0.store.bodies; flying = fs })
    agree = subst (λ (o : Option (Stored CacheMeta)). Agree h.store (record { bodies = store.with_body o h0.store.bodies; flying = fs })) f.shown (f.store (record x.write { number = n }) refl)

    bodies : bodies_in h.store.bodies ≡ with_body n b (bodies_in h0.store.bodies)
    bodies = put-bodies n b x key is h0.store h.store fs agree

    flying : map flight_of h.store.flying ≡ (landed true n (shelf_of h0)).flying
    flying = flights-agree h.store.flying fs agree.flying ∙ flights-landed n h0.store.flying

    readers : table_of h.readings ≡ (landed true n (shelf_of h0)).readers
    readers = ap table_of f.readings ∙ readers-landed true n h0

-- ---- a write that is given up before its body is stored

-- a write may begin where a number is left
abbrev pub CanBegin : ℕ → Bool → Type 0
CanBegin n true = n ≢ 2 ^ 64 - 1
CanBegin n false = Unit {0}

pub some-left : (n : ℕ) → (n == 2 ^ 64 - 1) ≡ false → n ≢ 2 ^ 64 - 1
some-left n none e =
    let same : (n == 2 ^ 64 - 1) ≡ true = ap (λ (m : ℕ). m == 2 ^ 64 - 1) e in
    absurd cc

-- all is as before, but that a write may have begun
pub record IsSpared (h0 h : StoreState) : Type 0 where
  pub began : Bool
  pub can : CanBegin h0.next began
  pub shelf : shelf_of h ≡ record (shelf_of h0) { writes = writes_after h0.next began }

pub spared : (h0 h : StoreState) → get (shelf_of h0).readers h0.next ≡ None → GivenUp (are_numbers_spent h0) h0 h → IsSpared h0 h
spared h0 h none g = elim g [
  | inl same ↦ record { began = false; can = tt; shelf = ap shelf_of same }
  | inr up ↦ record {
    began = true;
    can = some-left h0.next up.2;
    shelf = ap shelf_of up.3 ∙ ap (λ (t : Table). record (shelf_of h0) { readers = t; writes = h0.next + 1 }) (no-readers h0.next up.0 up.1 h0 none);
  }
]

-- ---- removals

abbrev pub no_ids : StoreState → StoredKey → Option CacheEntryId
no_ids h k = None

-- in a store without ids, an entry without an id names its key, and one with an id none
named_alone : (e : CacheEntryKey) → entry_key (λ k. None) e ≡ key_alone e
named_alone (KeyOnly key) = refl
named_alone (Identified key id) = refl

-- no key marks nothing
marks_none : (fs : List InFlight) → map (marked None) fs ≡ fs
marks_none [] = refl
marks_none (f ∷ fs) = (λ i. record f { removed = by_test f.removed i } ∷ marks_none fs i)
  where
    by_test : (v : Bool) → (v || false) ≡ v
    by_test true = refl
    by_test false = refl

one_purged : (o : Option StoredKey) (outcome : PurgeOutcome) (h0 h : StoreState) → PurgeAnswer o (id_at (λ k. None) o) h0 outcome h
    → shelf_of h ≡ record (shelf_of h0) { bodies = without_key o (shelf_of h0).bodies; flying = map (marked o) (shelf_of h0).flying }
one_purged None outcome h0 h a = ap shelf_of a.1 ∙ ap (λ (fs : List InFlight). record (shelf_of h0) { flying = fs }) (sym (marks_none (shelf_of h0).flying))
one_purged (Some k) outcome h0 h a = shelf-removed k h0 h a.1 a.2 a.3

-- what is stored of these entries goes
pub shelf-purged : (es : List CacheEntryKey) (h0 h : StoreState) → Purged (λ (h : StoreState). h) no_ids (λ h cause h'. ⊤) es h0 h → shelf_of h ≡ cleared es (shelf_of h0)
shelf-purged [] h0 h p = ap shelf_of p
shelf-purged (e ∷ es) h0 h p =
    let one = one_purged (key_alone e) p.1 h0 p.0 (subst (λ (o : Option StoredKey). PurgeAnswer o (id_at (λ k. None) o) h0 p.1 p.0) (named_alone e) p.2.answer) in
    shelf-purged es p.0 h p.3 ∙ ap (cleared es) one

pub shelf-taken : (k : StoredKey) (h0 h : StoreState) → Removed (λ (h : StoreState). h) no_ids (λ h cause h'. ⊤) k h0 h → shelf_of h ≡ removed k (shelf_of h0)
shelf-taken k h0 h r = shelf-removed k h0 h r.1.answer.1 r.1.answer.2 r.1.answer.3
