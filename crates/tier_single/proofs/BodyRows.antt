-- The bodies of a store: how many there are, what they have together, a purge of one, and what the store shows of a history.
use Rattle.std.proofs.Common.{◌≡◌, ℕ, ◌+◌, ◌-◌, ◌^◌, min, refl, ap, sym, ◌∙◌, arith, true, false, subst, cond, [], ◌∷◌, length}
use Rattle.std.specs.Prelude.{Bool, List, Option, Some, None, option_map, is_some, find, map, nat_eq}
use Rattle.std.specs.Option.{option_or}
use Rattle.std.specs.List.{IsDistinct, sum_by}
use Rattle.std.specs.Cmp.Lexicographic.{pointwise, nat_list_cmp_total}
use Rattle.std.specs.FinMap.{get, len, values}
use Rattle.std.specs.Map.{keys_of, values_of}
use Rattle.std.proofs.lemmas.List.Sums.{sum_by-cons}
use Rattle.cache_entries.specs.declared.entry.CacheEntryId.{CacheEntryId}
use Rattle.cache_heads.specs.declared.meta.CacheMeta.{CacheMeta}
use Rattle.cache_changes.specs.Changes.{StoredKey, Write}
use Rattle.cache_changes.specs.Writes.{IsBody}
use Rattle.cache_changes.specs.Store.{Stored, Flying, flies_for, body_at, is_found_at}
use Rattle.cache_store.specs.StoreState.{StoreState}
use Rattle.cache_store.specs.Purges.{PurgeAnswer}
use Rattle.cache_store.specs.declared.storage.PurgeOutcome.{PurgeOutcome}
use Rattle.cache_store.specs.declared.storage.PurgeOutcome.TheVariants.{Purged, NotFound}
use Rattle.tier_model.specs.declared.state.Body.{Body}
use Rattle.tier_model.specs.After.{counted}
use Rattle.tier_model.specs.Calls.{History}
use Rattle.tier_model.specs.Histories.{Kept, Opening, told_of, writes_begun, changes_of}
use Rattle.tier_model.specs.Past.{HasPast}
use Rattle.tier_model.specs.Rows.{Numbered, Bodies}
use Rattle.tier_model.specs.Shelf.{Shelf, look, look_by, is_there, removed}
use Rattle.tier_model.specs.State.{State, shards_of}
use Rattle.tier_model.proofs.Carried.{body-past}
use Rattle.tier_model.proofs.ShownLaws.{is_held}
use Rattle.tier_model.proofs.StandLaws.{Stands, Stands-lawful}
use Rattle.tier_model.proofs.Tables.{bytes_tied, sum-keyed, len-keyed}
use Rattle.tier_requests.specs.Shelves.{found_in, row_of, bodies_in, flight_of, shelf_of}
use Rattle.tier_requests.proofs.ShelfLaws.{body-found, look-of, shelf-removed}
use Rattle.tier_single.specs.Bodies.{is_purged, ShowsBodies}

-- ---- all bodies together

keys_are : (xs : List (Stored CacheMeta)) → keys_of (map row_of xs) ≡ map (λ (x : Stored CacheMeta). x.write.key) xs
keys_are [] = refl
keys_are (x ∷ xs) = ap (λ (ks : List StoredKey). x.write.key ∷ ks) (keys_are xs)

rows_many : (xs : List (Stored CacheMeta)) → length (map row_of xs) ≡ length xs
rows_many [] = refl
rows_many (x ∷ xs) = omega (arith, rows_many xs)

rows_sum : (f : Body → ℕ) (xs : List (Stored CacheMeta)) → sum_by (λ (b : Numbered). f b.body) (values_of (map row_of xs)) ≡ sum_by (λ (x : Stored CacheMeta). f (found_in x).body) xs
rows_sum f [] = refl
rows_sum f (x ∷ xs) =
    sum_by-cons (λ (b : Numbered). f b.body) (found_in x) (values_of (map row_of xs)) ∙ ap (λ (n : ℕ). f (found_in x).body + n) (rows_sum f xs) ∙ sym (sum_by-cons (λ (y : Stored CacheMeta). f (found_in y).body) x xs)

-- a sum that a store counts up to 2^64 - 1
pub counted-from : (n : ℕ) → min n (2 ^ 64 - 1) ≡ counted 0 n
counted-from n = omega arith

module _ (xs : List (Stored CacheMeta)) (unique : IsDistinct (pointwise nat_eq) (map (λ (x : Stored CacheMeta). x.write.key) xs)) where
  rows_unique : IsDistinct (pointwise nat_eq) (keys_of (map row_of xs))
  rows_unique = subst (λ (ks : List StoredKey). IsDistinct (pointwise nat_eq) ks) (sym (keys_are xs)) unique

  pub bodies-count : len (bodies_in xs) ≡ length xs
  bodies-count = len-keyed (pointwise nat_eq) nat_list_cmp_total bytes_tied (map row_of xs) rows_unique ∙ rows_many xs

  pub bodies-sum : (f : Body → ℕ) → sum_by (λ (b : Numbered). f b.body) (values (bodies_in xs)) ≡ sum_by (λ (x : Stored CacheMeta). f (found_in x).body) xs
  bodies-sum f = sum-keyed (pointwise nat_eq) nat_list_cmp_total bytes_tied (λ (b : Numbered). f b.body) (map row_of xs) rows_unique ∙ rows_sum f xs

-- ---- a purge

-- what a look-up finds is there where the store finds something
there-found : (k : StoredKey) (h : StoreState) → is_there (look k (shelf_of h)) ≡ is_found_at k h.store
there-found k h = ap is_there (look-of k h) ∙ by_find (find (flies_for k) h.store.flying) (body_at k h.store)
  where
    by_find : (f : Option (Flying CacheMeta)) (b : Option (Stored CacheMeta)) → is_there (look_by (option_map flight_of f) (option_map found_in b)) ≡ is_some (option_or (option_map (λ f. f.stored) f) b)
    by_find (Some f) b = refl
    by_find None (Some b) = refl
    by_find None None = refl

is_told : (v : Bool) (id : Option CacheEntryId) → is_purged (cond v (Purged id) NotFound) ≡ v
is_told true id = refl
is_told false id = refl

-- a purge of a key that was named so
pub purged-shelf : (k j : StoredKey) (id : Option CacheEntryId) (outcome : PurgeOutcome) (h0 h : StoreState) → j ≡ k → PurgeAnswer (Some j) id h0 outcome h
    → (shelf_of h ≡ removed k (shelf_of h0)) × (is_purged outcome ≡ is_there (look k (shelf_of h0)))
purged-shelf k j id outcome h0 h e a =
    let b : PurgeAnswer (Some k) id h0 outcome h = subst (λ (x : StoredKey). PurgeAnswer (Some x) id h0 outcome h) e a in
    (shelf-removed k h0 h b.1 b.2 b.3, ap is_purged b.0 ∙ is_told (is_found_at k h0.store) id ∙ sym (there-found k h0))

-- ---- what is shown

-- each body of a past is held, with its number, its bytes and its meta
held_whole : (start : Opening) (s : State) (past : History) → HasPast start s past → (k : StoredKey) (w : Write Kept) → IsBody k w (changes_of start past)
    → get s.shelf.bodies k ≡ Some (record { number = w.number; body = told_of (changes_of start past) w })
held_whole start s past p k w i =
    let stands : Stands start s past = subst (λ (x : State). Stands start x past) (sym p.state) (Stands-lawful start past p.lawful) in
    let x = is_held (shards_of s) (writes_begun start past) s.shelf.bodies s.shelf.flying s.managed (changes_of start past) stands.holds.leaves k w i in
    x.1 ∙ ap (λ (b : Numbered). Some b) x.2

-- the store shows the bodies of a past
pub shows-bodies : (start : Opening) (s : State) (past : History) (h : StoreState) → shelf_of h ≡ s.shelf → HasPast start s past → ShowsBodies h start past
shows-bodies start s past h e p =
    let same : bodies_in h.store.bodies ≡ s.shelf.bodies = ap (λ (x : Shelf). x.bodies) e in
    record {
      bodies = λ k w i. sym (body-found k h.store) ∙ ap (λ (m : Bodies). get m k) same ∙ held_whole start s past p k w i;
      others = λ k x there. body-past start s past p k (found_in x).body
          (ap (option_map (λ (b : Numbered). b.body)) (sym (ap (λ (m : Bodies). get m k) same) ∙ body-found k h.store ∙ ap (option_map found_in) there));
      flights = ap (λ (x : Shelf). x.flying) e ∙ p.matches.flights;
      writes = ap (λ (x : Shelf). x.writes) e ∙ p.matches.writes;
    }
