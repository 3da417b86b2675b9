-- What look-ups show, and what another meta changes.
use Rattle.std.proofs.Common.{arith, ◌≡◌, ℕ, refl, ap, sym, ◌∙◌, true, false, subst, cond, [], ◌∷◌}
use Rattle.std.specs.Prelude.{◌==◌, Bool, List, Option, Some, None, option_map, find, map}
use Rattle.std.specs.Option.{option_or}
use Rattle.std.specs.List.{AllByRecursion}
use Rattle.std.proofs.lemmas.Bool.{eqb-true}
use Rattle.std.proofs.lemmas.Bool.Decides.{nat_tests}
use Rattle.cache_heads.specs.declared.meta.CacheMeta.{CacheMeta}
use Rattle.cache_entries.specs.Keys.{same_bytes}
use Rattle.cache_entries.specs.SameEntry.{same_bytes-tells}
use Rattle.cache_changes.specs.Changes.{StoredKey, renews}
use Rattle.cache_changes.specs.Store.{Stored, Flying, Store, is_of, has_number, body_at, flies_for, shown_at, renewed, renewed_flying, after}
use Rattle.cache_changes.proofs.RowLaws.{find-map}
use Rattle.cache_store.specs.Agree.{settled, settled_flying, Agree}
use Rattle.cache_store.specs.Answers.{finished, look_of, look_up}
use Rattle.cache_store.specs.StoreState.{StoreState}
use Rattle.cache_store.specs.Renewals.{stored_with, IsRenewed}
use Rattle.cache_store.specs.Laws.{write_shown, NoneFlies, IsOwnNumber}

-- the write that is shown
pub look-shown : (k : StoredKey) (s : Store CacheMeta) → option_map write_shown (look_up k s) ≡ shown_at k s
look-shown k s = by_options (find (flies_for k) s.flying) (body_at k s)
  where
    by_options : (o : Option (Flying CacheMeta)) (b : Option (Stored CacheMeta)) → option_map write_shown (look_of o b) ≡ option_or (option_map (λ f. f.stored) o) b
    by_options (Some f) b = refl
    by_options None None = refl
    by_options None (Some x) = refl

-- none is found where none passes the test
none-passes : {X : Type 0} (p : X → Bool) (xs : List X) → find p xs ≡ None → AllByRecursion (λ x. p x ≡ false) xs
none-passes p [] e = tt
none-passes p (x ∷ xs) e = by_test (p x) refl e (none-passes p xs)
  where
    by_test : (v : Bool) → p x ≡ v → cond v (Some x) (find p xs) ≡ None → (find p xs ≡ None → AllByRecursion (λ y. p y ≡ false) xs) → (p x ≡ false) × AllByRecursion (λ y. p y ≡ false) xs
    by_test true t e ih = absurd cc
    by_test false t e ih = (t, ih e)

none-found : {X : Type 0} (p : X → Bool) (xs : List X) → AllByRecursion (λ x. p x ≡ false) xs → find p xs ≡ None
none-found p [] h = refl
none-found p (x ∷ xs) h = rw h.0 (none-found p xs h.1)

-- a body is shown where no write of its key flies alive
pub body-shown : (k : StoredKey) (s : Store CacheMeta) (x : Stored CacheMeta) → look_up k s ≡ Some (finished x) → NoneFlies k s × (body_at k s ≡ Some x)
body-shown k s x e = by_options (find (flies_for k) s.flying) (body_at k s) refl refl e
  where
    by_options : (o : Option (Flying CacheMeta)) (b : Option (Stored CacheMeta)) → find (flies_for k) s.flying ≡ o → body_at k s ≡ b → look_of o b ≡ Some (finished x)
        → NoneFlies k s × (body_at k s ≡ Some x)
    by_options (Some f) b h t e = absurd cc
    by_options None None h t e = absurd cc
    by_options None (Some y) h t e = (none-passes (flies_for k) s.flying h, cc)

pub shows-body : (k : StoredKey) (s : Store CacheMeta) (x : Stored CacheMeta) → NoneFlies k s → body_at k s ≡ Some x → look_up k s ≡ Some (finished x)
shows-body k s x h t = rw (none-found (flies_for k) s.flying h, t) refl

-- another meta for the writes of a number
same-of : (n : ℕ) (meta : CacheMeta) (k : StoredKey) (x : Stored CacheMeta) → is_of k (renewed n meta x) ≡ is_of k x
same-of n meta k x = by_test (n == x.write.number)
  where
    by_test : (v : Bool) → is_of k (cond v (record x { meta = meta }) x) ≡ is_of k x
    by_test true = refl
    by_test false = refl

other-number : (n : ℕ) (meta : CacheMeta) (x : Stored CacheMeta) → (n == x.write.number) ≡ false → renewed n meta x ≡ x
other-number n meta x e = rw e refl

own-number : (change : CacheMeta → CacheMeta) (x : Stored CacheMeta) → settled (stored_with change x) ≡ settled (renewed x.write.number (change x.meta) x)
own-number change x = by_test (x.write.number == x.write.number) (grind (arith, nat_tests))
  where
    by_test : (v : Bool) → v ≡ true → settled (stored_with change x) ≡ settled (cond v (record x { meta = change x.meta }) x)
    by_test true e = refl
    by_test false e = absurd cc

none-renewed : (n : ℕ) (meta : CacheMeta) (fs : List (Flying CacheMeta)) → find (has_number n) fs ≡ None → map (renewed_flying n meta) fs ≡ fs
none-renewed n meta [] e = refl
none-renewed n meta (f ∷ fs) e = by_test (has_number n f) refl e (none-renewed n meta fs)
  where
    by_test : (v : Bool) → has_number n f ≡ v → cond v (Some f) (find (has_number n) fs) ≡ None → (find (has_number n) fs ≡ None → map (renewed_flying n meta) fs ≡ fs)
        → renewed_flying n meta f ∷ map (renewed_flying n meta) fs ≡ f ∷ fs
    by_test true t e ih = absurd cc
    by_test false t e ih = λ i. record f { stored = other-number n meta f.stored t i } ∷ ih e i

-- a body with another meta is what the change of its write leaves
pub renewed-agrees : (key : StoredKey) (change : CacheMeta → CacheMeta) (x : Stored CacheMeta) (old new : StoreState) → body_at key old.store ≡ Some x → IsOwnNumber key x.write.number old.store
    → IsRenewed key change old new → Agree new.store (after (renews x.write.number (change x.meta)) old.store)
renewed-agrees key change x old new e own r = record {
  bodies = λ k. ap (option_map settled) (r.bodies k) ∙ by_key k (same_bytes key k) refl
      ∙ sym (ap (option_map settled) (find-map (is_of k) (renewed n meta) old.store.bodies (same-of n meta k)));
  flying = ap (map settled_flying) (r.flying ∙ sym (none-renewed n meta old.store.flying own.flying));
}
  where
    n : ℕ
    n = x.write.number

    meta : CacheMeta
    meta = change x.meta

    others : (k : StoredKey) → same_bytes key k ≡ false → (o : Option (Stored CacheMeta)) → body_at k old.store ≡ o → option_map settled o ≡ option_map settled (option_map (renewed n meta) o)
    others k t None h = refl
    others k t (Some y) h = by_test (n == y.write.number) refl
      where
        by_test : (v : Bool) → (n == y.write.number) ≡ v → Some (settled y) ≡ Some (settled (cond v (record y { meta = meta }) y))
        by_test true u = let same : same_bytes key k ≡ true = own.bodies k y h (sym (eqb-true n y.write.number u)) in absurd cc
        by_test false u = refl

    by_key : (k : StoredKey) (v : Bool) → same_bytes key k ≡ v
        → option_map settled (cond v (option_map (stored_with change) (body_at key old.store)) (body_at k old.store)) ≡ option_map settled (option_map (renewed n meta) (body_at k old.store))
    by_key k true t =
        let here : body_at k old.store ≡ Some x = subst (λ (j : StoredKey). body_at j old.store ≡ Some x) (same_bytes-tells.equal key k t) e in
        rw (e, here) (ap (λ (y : Stored CacheMeta). Some y) (own-number change x))
    by_key k false t = others k t (body_at k old.store) refl
