-- The state says which changes may come.
use Rattle.std.proofs.Common.{◌≡◌, ℕ, refl, ap, sym, ◌∙◌, true, false, subst, inl, inr}
use Rattle.std.specs.Prelude.{◌↔◌, ◌⊎◌, List, Option, Some, None, is_some}
use Rattle.cache_entries.specs.SameEntry.{same_bytes-tells}
use Rattle.cache_changes.specs.Changes.{StoredKey, Write, Changes, appends, finishes, renews}
use Rattle.cache_changes.specs.Writes.{has_ended, IsInFlight, IsAlive, IsBody, IsNumberInFlight, IsStored, MayCome, IsOrderly}
use Rattle.cache_changes.specs.Store.{Stored, Flying, stored_of, body_at, flying_at, store_of}
use Rattle.cache_changes.proofs.FlightLaws.{flight, flying_of, flying_at-is}
use Rattle.cache_changes.proofs.BodyLaws.{flight_life, life-both}
use Rattle.cache_changes.proofs.StateLaws.{flying-tells, bodies-are}

-- a write in flight is in the state
flight_there : {M : Type 0} (n : ℕ) (changes : Changes M) → IsOrderly changes → IsNumberInFlight n changes → (f : Flying M) × (flying_at n (store_of changes) ≡ Some f)
flight_there n changes o h =
    let known = flight_life n changes o h in
    (flight known.0 known.1 changes, flying_at-is n changes o ∙ ap (flying_of changes) known.2)

there_flies : {M : Type 0} (n : ℕ) (changes : Changes M) (f : Flying M) → IsOrderly changes → flying_at n (store_of changes) ≡ Some f → IsNumberInFlight n changes
there_flies n changes f o e = let t = flying-tells n changes f o e in (f.stored.write, t.0, t.1.flies)

ended_there : {M : Type 0} (n : ℕ) (changes : Changes M) (f : Flying M) → IsOrderly changes → flying_at n (store_of changes) ≡ Some f → f.ended ≡ has_ended n changes
ended_there n changes f o e = let t = flying-tells n changes f o e in t.1.ended ∙ ap (λ (m : ℕ). has_ended m changes) t.0

pub flies-is : {M : Type 0} (changes : Changes M) → IsOrderly changes → (n : ℕ) → (is_some (flying_at n (store_of changes)) ≡ true) ↔ IsNumberInFlight n changes
flies-is {M = M} changes o n = (λ t. by_flight (flying_at n (store_of changes)) refl t, λ h. ap is_some (flight_there n changes o h).1)
  where
    by_flight : (f : Option (Flying M)) → flying_at n (store_of changes) ≡ f → is_some f ≡ true → IsNumberInFlight n changes
    by_flight None e t = absurd cc
    by_flight (Some f) e t = there_flies n changes f o e

pub append-is : {M : Type 0} (changes : Changes M) → IsOrderly changes → (n : ℕ) (bytes : List ℕ)
    → ((f : Flying M) × (flying_at n (store_of changes) ≡ Some f) × (f.ended ≡ false)) ↔ MayCome (appends n bytes) changes
append-is changes o n bytes = (
  λ h. (there_flies n changes h.0 o h.1, sym (ended_there n changes h.0 o h.1) ∙ h.2),
  λ m. let there = flight_there n changes o m.0 in (there.0, there.1, ended_there n changes there.0 o there.1 ∙ m.1),
)

pub finish-is : {M : Type 0} (changes : Changes M) → IsOrderly changes → (w : Write M)
    → ((f : Flying M) × (flying_at w.number (store_of changes) ≡ Some f) × (f.stored.write ≡ w) × (f.removed ≡ false)) ↔ MayCome (finishes w) changes
finish-is {M = M} changes o w = (
  λ h. let t = (flying-tells w.number changes h.0 o h.1).1 in subst (λ (v : Write M). IsInFlight v changes × IsAlive v changes) h.2 (t.flies, t.alive.0 h.3),
  λ m. (flight w true changes, flying_at-is w.number changes o ∙ ap (flying_of changes) (life-both w changes o m.0 m.1), refl, refl),
)

pub renew-is : {M : Type 0} (changes : Changes M) → IsOrderly changes → (n : ℕ) (meta : M)
    → ((is_some (flying_at n (store_of changes)) ≡ true) ⊎ ((k : StoredKey) × (x : Stored M) × (body_at k (store_of changes) ≡ Some x) × (x.write.number ≡ n))) ↔ MayCome (renews n meta) changes
renew-is {M = M} changes o n meta = (
  λ h. elim h [ inl f ↦ inl ((flies-is changes o n).0 f) | inr b ↦ inr (stored b.0 b.1 b.2 b.3) ],
  λ m. elim m [ inl f ↦ inl ((flies-is changes o n).1 f) | inr b ↦ inr (b.0.key, stored_of b.0 changes, (bodies-are changes o b.0.key (stored_of b.0 changes)).1 (b.2, refl), b.1) ],
)
  where
    stored : (k : StoredKey) (x : Stored M) → body_at k (store_of changes) ≡ Some x → x.write.number ≡ n → IsStored n changes
    stored k x e number =
        let body = ((bodies-are changes o k x).0 e).0 in
        (x.write, number, subst (λ (j : StoredKey). IsBody j x.write changes) (sym (same_bytes-tells.equal x.write.key k body.of_key)) body)
