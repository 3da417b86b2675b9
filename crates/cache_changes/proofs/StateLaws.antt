-- The bodies and writes in flight of the state are just those of the changes.
use Rattle.std.proofs.Common.{◌≡◌, ℕ, refl, ap, sym, ◌∙◌, true, false, subst, cond}
use Rattle.std.specs.Prelude.{Bool, ◌↔◌, Option, Some, None, not}
use Rattle.cache_changes.specs.Changes.{StoredKey, Write, Changes}
use Rattle.cache_changes.specs.Writes.{body_now, IsBody, IsOrderly}
use Rattle.cache_changes.specs.Store.{Stored, Flying, IsFlight, stored_of, body_at, flying_at, store_of}
use Rattle.cache_changes.proofs.WriteLaws.{Life, life, life-flies, is_flight, is_alive, life_number}
use Rattle.cache_changes.proofs.FlightLaws.{live, flight, flying_of, flying_at-is}
use Rattle.cache_changes.proofs.BodyLaws.{body_now-is, body_now-of, body_at-is, stored_in, life-both, one_life}

-- ---- writes in flight

flight_there : {M : Type 0} (changes : Changes M) (o : Option (Life M)) (f : Flying M) → flying_of changes o ≡ Some f → (w : Write M) × (a : Bool) × (o ≡ Some (live w a)) × (flight w a changes ≡ f)
flight_there changes None f e = absurd cc
flight_there {M = M} changes (Some x) f e = by_flag x.flies e
  where
    by_flag : (t : Bool) → cond t (Some (flight x.write x.alive changes)) None ≡ Some f → (w : Write M) × (a : Bool) × (Some (record x { flies = t }) ≡ Some (live w a)) × (flight w a changes ≡ f)
    by_flag true e = (x.write, x.alive, refl, cc)
    by_flag false e = absurd cc

-- what is known of a write that the state has in flight
pub known_flight : {M : Type 0} (n : ℕ) (changes : Changes M) (f : Flying M) → IsOrderly changes → flying_at n (store_of changes) ≡ Some f
    → (w : Write M) × (a : Bool) × (life n changes ≡ Some (live w a)) × (flight w a changes ≡ f)
known_flight n changes f o e = flight_there changes (life n changes) f (sym (flying_at-is n changes o) ∙ e)

pub was_true : (a : Bool) → not a ≡ false → a ≡ true
was_true true e = refl
was_true false e = absurd cc

flight_is : {M : Type 0} (w : Write M) (a : Bool) (changes : Changes M) → IsOrderly changes → life w.number changes ≡ Some (live w a) → IsFlight (flight w a changes) changes
flight_is w a changes o e = record {
  flies = is_flight w.number changes (live w a) e refl;
  stored = refl;
  ended = refl;
  alive = (
    λ t. is_alive w.number changes (live w a) e (was_true a t),
    λ alive. ap (λ x. not x.alive) (one_life (live w a) (live w true) (sym e ∙ life-both w changes o (is_flight w.number changes (live w a) e refl) alive)),
  );
}

pub flying-tells : {M : Type 0} (n : ℕ) (changes : Changes M) (f : Flying M) → IsOrderly changes → flying_at n (store_of changes) ≡ Some f → (f.stored.write.number ≡ n) × IsFlight f changes
flying-tells {M = M} n changes f o e =
    let k = known_flight n changes f o e in
    let number : n ≡ k.0.number = life_number n changes (live k.0 k.1) k.2 in
    subst (λ (g : Flying M). (g.stored.write.number ≡ n) × IsFlight g changes) k.3
    (sym number, flight_is k.0 k.1 changes o (ap (λ (m : ℕ). life m changes) (sym number) ∙ k.2))

one_flight : {M : Type 0} (f : Flying M) (a : Bool) (changes : Changes M) → IsFlight f changes → f.removed ≡ not a → flight f.stored.write a changes ≡ f
one_flight f a changes h r = λ i. record { stored = sym h.stored i; ended = sym h.ended i; removed = sym r i }

flying-told : {M : Type 0} (n : ℕ) (changes : Changes M) (f : Flying M) → IsOrderly changes → f.stored.write.number ≡ n → IsFlight f changes → flying_at n (store_of changes) ≡ Some f
flying-told {M = M} n changes f o number h =
    subst (λ (m : ℕ). flying_at m (store_of changes) ≡ Some f) number (by_alive known.0 known.1)
  where
    known : (a : Bool) × (life f.stored.write.number changes ≡ Some (live f.stored.write a))
    known = life-flies f.stored.write changes o h.flies

    dead : (r : Bool) → f.removed ≡ r → life f.stored.write.number changes ≡ Some (live f.stored.write false) → r ≡ true
    dead true e k = refl
    dead false e k =
        sym (ap (λ (x : Life M). not x.alive) (one_life (live f.stored.write false) (live f.stored.write true) (sym k ∙ life-both f.stored.write changes o h.flies (h.alive.0 e))))

    by_alive : (a : Bool) → life f.stored.write.number changes ≡ Some (live f.stored.write a) → flying_at f.stored.write.number (store_of changes) ≡ Some f
    by_alive true k =
        flying_at-is f.stored.write.number changes o ∙ ap (flying_of changes) k
        ∙ ap (λ (g : Flying M). Some g) (one_flight f true changes h (h.alive.1 (is_alive f.stored.write.number changes (live f.stored.write true) k refl)))
    by_alive false k =
        flying_at-is f.stored.write.number changes o ∙ ap (flying_of changes) k
        ∙ ap (λ (g : Flying M). Some g) (one_flight f false changes h (dead f.removed refl k))

pub flights-are : {M : Type 0} (changes : Changes M) → IsOrderly changes → (n : ℕ) (f : Flying M)
    → (flying_at n (store_of changes) ≡ Some f) ↔ ((f.stored.write.number ≡ n) × IsFlight f changes)
flights-are changes o n f = (flying-tells n changes f o, λ h. flying-told n changes f o h.0 h.1)

-- ---- bodies

body-tells : {M : Type 0} (k : StoredKey) (changes : Changes M) (x : Stored M) → IsOrderly changes → (o : Option (Write M)) → body_now k changes ≡ o → stored_in changes o ≡ Some x
    → IsBody k x.write changes × (x ≡ stored_of x.write changes)
body-tells k changes x o None is e = absurd cc
body-tells {M = M} k changes x o (Some w) is e =
    let same : stored_of w changes ≡ x = cc in
    subst (λ (y : Stored M). IsBody k y.write changes × (y ≡ stored_of y.write changes)) same (body_now-is k changes w o is, refl)

pub bodies-are : {M : Type 0} (changes : Changes M) → IsOrderly changes → (k : StoredKey) (x : Stored M) → (body_at k (store_of changes) ≡ Some x) ↔ (IsBody k x.write changes × (x ≡ stored_of x.write changes))
bodies-are {M = M} changes o k x = (
  λ e. body-tells k changes x o (body_now k changes) refl (sym (body_at-is k changes o) ∙ e),
  λ h. body_at-is k changes o ∙ ap (stored_in changes) (body_now-of k changes x.write o h.0) ∙ ap (λ (y : Stored M). Some y) (sym h.1),
)
