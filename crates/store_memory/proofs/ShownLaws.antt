-- What a look-up shows.
use Rattle.std.proofs.Common.{◌≡◌, ℕ, ◌≤◌, refl, ap, sym, ◌∙◌, true, false, subst, cond, nat_eq}
use Rattle.std.specs.Prelude.{Bool, List, Option, Some, None, option_map, not, ◌&&◌, find}
use Rattle.std.specs.Map.{lookup}
use Rattle.std.specs.BTreeMap as tree
use Rattle.std.specs.BTreeMap.{BTreeMap}
use Rattle.std.specs.Ordering.{nat_cmp}
use Rattle.std.specs.Cmp.Lexicographic.{pointwise}
use Rattle.cache_heads.specs.declared.meta.CacheMeta.{CacheMeta}
use Rattle.cache_entries.specs.Keys.{same_bytes}
use Rattle.cache_entries.specs.SameEntry.{same_bytes-tells}
use Rattle.cache_changes.specs.Changes.{StoredKey}
use Rattle.cache_changes.specs.Store.{Stored, Flying, is_of, has_number, flies_for}
use Rattle.store_memory.specs.declared.flight.Body.{Body}
use Rattle.store_memory.specs.declared.flight.Flight.{Flight}
use Rattle.cache_store.specs.Answers.{in_flight, finished, look_of, streamed_of}
use Rattle.store_memory.specs.Kept.{seen, stored_flight, flights_of, body_of, bodies_of, IsSound}
use Rattle.store_memory.proofs.RowLaws.{ascends}
use Rattle.store_memory.proofs.SeenLaws.{Alive}
use Rattle.store_memory.proofs.FirstLaws.{flying-seen, first-seen, none-seen, body-found}

pub key-is : (f : Flight) (k : StoredKey) (o : Option Flight) → o ≡ Some f → option_map (λ g. g.key) o ≡ Some k → f.key ≡ k
key-is f k o e h = let found : Some f.key ≡ Some k = sym (ap (option_map (λ (g : Flight). g.key)) e) ∙ h in cc

pub shown-flight : (alive : Alive) (flights : BTreeMap ℕ Flight) (next : ℕ) (k : StoredKey) (n : ℕ) (f : Flight) (body : Option (Stored CacheMeta)) → IsSound alive flights next → alive k n ≡ true
    → ((m : ℕ) → alive k m ≡ true → n ≤ m) → tree.get nat_cmp flights n ≡ Some f → Some (in_flight (stored_flight (n, f))) ≡ look_of (find (flies_for k) (flights_of alive flights.entries)) body
shown-flight alive flights next k n f body s here least e =
    sym (ap (λ (o : Option (Flying CacheMeta)). look_of o body) (first-seen alive k n f here least (key-is f k (tree.get nat_cmp flights n) e (s.known k n here)) flights.entries (ascends flights.entries s.ordered) e))

pub shown-rest : (alive : Alive) (flights : List (ℕ × Flight)) (k : StoredKey) (bodies : List (StoredKey × Body)) (o : Option Body) → ((m : ℕ) → alive k m ≡ false) → lookup (pointwise nat_eq k) bodies ≡ o
    → option_map finished (option_map (λ b. body_of (k, b)) o) ≡ look_of (find (flies_for k) (flights_of alive flights)) (find (is_of k) (bodies_of bodies))
shown-rest alive flights k bodies o none e =
    sym (ap (λ (p : Option (Flying CacheMeta)). look_of p (find (is_of k) (bodies_of bodies))) (none-seen alive k none flights)
    ∙ ap (option_map finished) (body-found k bodies ∙ ap (option_map (λ b. body_of (k, b))) e))

-- one write by its number
none-option : (alive : Alive) (k : StoredKey) (n : ℕ) → alive k n ≡ false → (o : Option Flight) → streamed_of k (option_map (λ f. seen alive (n, f)) o) ≡ None
none-option alive k n h None = refl
none-option alive k n h (Some f) = by_test (same_bytes f.key k) (alive f.key n) refl refl
  where
    by_test : (v w : Bool) → same_bytes f.key k ≡ v → alive f.key n ≡ w → cond (v && not (not w)) (Some (in_flight (stored_flight (n, f)))) None ≡ None
    by_test true true e h2 = let here : alive k n ≡ true = subst (λ (j : StoredKey). alive j n ≡ true) (same_bytes-tells.equal f.key k e) h2 in absurd cc
    by_test true false e h2 = refl
    by_test false w e h2 = refl

pub streamed-none : (alive : Alive) (flights : BTreeMap ℕ Flight) (k : StoredKey) (n : ℕ) → alive k n ≡ false → None ≡ streamed_of k (find (has_number n) (flights_of alive flights.entries))
streamed-none alive flights k n h = sym (ap (streamed_of k) (flying-seen alive n flights.entries) ∙ none-option alive k n h (tree.get nat_cmp flights n))

pub streamed-alive : (alive : Alive) (flights : BTreeMap ℕ Flight) (next : ℕ) (k : StoredKey) (n : ℕ) (f : Flight) → IsSound alive flights next → alive k n ≡ true → tree.get nat_cmp flights n ≡ Some f
    → Some (in_flight (stored_flight (n, f))) ≡ streamed_of k (find (has_number n) (flights_of alive flights.entries))
streamed-alive alive flights next k n f s here e = sym (ap (streamed_of k) (flying-seen alive n flights.entries ∙ ap (option_map (λ g. seen alive (n, g))) e) ∙ by_test (flies_for k (seen alive (n, f))) flies)
  where
    key : f.key ≡ k
    key = key-is f k (tree.get nat_cmp flights n) e (s.known k n here)

    flies : flies_for k (seen alive (n, f)) ≡ true
    flies = rw (key, same_bytes-tells.itself k, here) refl

    by_test : (v : Bool) → v ≡ true → cond v (Some (in_flight (stored_flight (n, f)))) None ≡ Some (in_flight (stored_flight (n, f)))
    by_test true t = refl
    by_test false t = absurd cc
