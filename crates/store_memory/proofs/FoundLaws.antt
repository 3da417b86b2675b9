-- Whether a removal finds anything: a body, or an alive write in flight.
use Rattle.std.proofs.Common.{◌≡◌, ℕ, ◌≤◌, refl, ap, sym, ◌∙◌, true, false, nat_eq}
use Rattle.std.specs.Prelude.{Bool, List, Option, Some, None, option_map, is_some, IfSome, IfNone, ◌||◌, find}
use Rattle.std.specs.Option.{option_or}
use Rattle.std.specs.Map.{lookup}
use Rattle.std.specs.BTreeMap as tree
use Rattle.std.specs.BTreeMap.{BTreeMap}
use Rattle.std.specs.Ordering.{nat_cmp}
use Rattle.std.specs.Cmp.Lexicographic.{pointwise}
use Rattle.cache_heads.specs.declared.meta.CacheMeta.{CacheMeta}
use Rattle.cache_changes.specs.Changes.{StoredKey}
use Rattle.cache_changes.specs.Store.{Stored, Flying, is_of, flies_for}
use Rattle.store_memory.specs.declared.flight.Body.{Body}
use Rattle.store_memory.specs.declared.flight.Flight.{Flight}
use Rattle.store_memory.specs.Kept.{flights_of, body_of, bodies_of, IsSound}
use Rattle.store_memory.proofs.RowLaws.{ascends}
use Rattle.store_memory.proofs.SeenLaws.{Alive}
use Rattle.store_memory.proofs.FirstLaws.{first-seen, none-seen, body-found}
use Rattle.store_memory.proofs.ShownLaws.{key-is}

or_true : (v : Bool) → (v || true) ≡ true
or_true true = refl
or_true false = refl

or_false : (v : Bool) → (v || false) ≡ v
or_false true = refl
or_false false = refl

some_body : (k : StoredKey) (o : Option Body) → is_some (option_map (λ b. body_of (k, b)) o) ≡ is_some o
some_body k None = refl
some_body k (Some b) = refl

module _ (alive : Alive) (flights : BTreeMap ℕ Flight) (next : ℕ) (k : StoredKey) (sound : IsSound alive flights next) where
  flying-some : (n : ℕ) → alive k n ≡ true → ((m : ℕ) → alive k m ≡ true → n ≤ m) → (o : Option Flight) → tree.get nat_cmp flights n ≡ o
      → (body : Option (Stored CacheMeta)) → true ≡ is_some (option_or (option_map (λ f. f.stored) (find (flies_for k) (flights_of alive flights.entries))) body)
  flying-some n here least None e body = absurd (let known = sound.known k n here in let none : None ≡ Some k = sym (ap (option_map (λ (f : Flight). f.key)) e) ∙ known in cc)
  flying-some n here least (Some f) e body =
      sym (ap (λ (o : Option (Flying CacheMeta)). is_some (option_or (option_map (λ f. f.stored) o) body))
      (first-seen alive k n f here least (key-is f k (tree.get nat_cmp flights n) e (sound.known k n here)) flights.entries (ascends flights.entries sound.ordered) e))

  -- the least alive number of the key, if there is one, and whether it has a body
  pub found : (bodies : List (StoredKey × Body)) (stored : Bool) (first : Option ℕ) → stored ≡ is_some (lookup (pointwise nat_eq k) bodies)
      → IfSome first (λ n. (alive k n ≡ true) × ((m : ℕ) → alive k m ≡ true → n ≤ m)) → IfNone first ((m : ℕ) → alive k m ≡ false)
      → (stored || is_some first) ≡ is_some (option_or (option_map (λ f. f.stored) (find (flies_for k) (flights_of alive flights.entries))) (find (is_of k) (bodies_of bodies)))
  found bodies stored None e some none =
      or_false stored ∙ e ∙ sym (some_body k (lookup (pointwise nat_eq k) bodies)) ∙ ap is_some (sym (body-found k bodies))
      ∙ sym (ap (λ (o : Option (Flying CacheMeta)). is_some (option_or (option_map (λ f. f.stored) o) (find (is_of k) (bodies_of bodies)))) (none-seen alive k none flights.entries))
  found bodies stored (Some n) e some none =
      or_true stored ∙ flying-some n some.0 some.1 (tree.get nat_cmp flights n) refl (find (is_of k) (bodies_of bodies))
