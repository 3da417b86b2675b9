-- The body that a store shows, where it is fresh.
use Rattle.std.proofs.Common.{◌≡◌, ℕ, refl, ap, sym, ◌∙◌, Bool, true, false, cond, Some, None, Option, List}
use Rattle.std.specs.Prelude.{option_map, is_some, find}
use Rattle.cache_words.specs.Time.{MomentValue}
use Rattle.cache_heads.specs.declared.meta.CacheMeta.{CacheMeta}
use Rattle.cache_changes.specs.Changes.{StoredKey}
use Rattle.cache_changes.specs.Store.{Stored, Flying, flies_for, body_at}
use Rattle.cache_store.specs.Answers.{look_of, look_up}
use Rattle.cache_store.specs.StoreState.{StoreState}
use Rattle.store_memory.specs.Shown.{whole_shown}
use Rattle.tier_model.specs.declared.state.Body.{Body}
use Rattle.tier_model.specs.Answers.{is_fresh}
use Rattle.tier_model.specs.Shelf.{Look, look, look_by}
use Rattle.tier_requests.specs.Shelves.{found_in, flight_of, shelf_of}
use Rattle.tier_requests.proofs.ShelfLaws.{look-of}
use Rattle.tier_single.specs.Hits.{hit_at, weighed_body}

-- with what it weighs, unless it is stale
abbrev fresh_of : MomentValue → Option (CacheMeta × List ℕ × ℕ) → Option (Body × ℕ)
fresh_of t None = None
fresh_of t (Some f) = cond (is_fresh t f.0) (Some (record { bytes = f.1; meta = f.0 }, f.2)) None

module _ (t : MomentValue) where
  by_test : (v : Bool) (b : Body) → cond v (Some (weighed_body b)) None ≡ option_map weighed_body (cond v (Some b) None)
  by_test true b = refl
  by_test false b = refl

  by_store : (f : Option (Flying CacheMeta)) (b : Option (Stored CacheMeta))
      → fresh_of t (whole_shown (look_of f b)) ≡ option_map weighed_body (hit_at t (look_by (option_map flight_of f) (option_map found_in b)))
  by_store (Some f) b = refl
  by_store None (Some x) = by_test (is_fresh t x.meta) (found_in x).body
  by_store None None = refl

  module _ (k : StoredKey) (h : StoreState) where
    abbrev there : Option Body
    there = hit_at t (look k (shelf_of h))

    shown : (o : Option (CacheMeta × List ℕ × ℕ)) → o ≡ whole_shown (look_up k h.store) → fresh_of t o ≡ option_map weighed_body there
    shown o e = ap (fresh_of t) e ∙ by_store (find (flies_for k) h.store.flying) (body_at k h.store) ∙ sym (ap (λ (l : Look). option_map weighed_body (hit_at t l)) (look-of k h))

    pub none-shown : None ≡ whole_shown (look_up k h.store) → None ≡ option_map weighed_body there
    none-shown e = shown None e

    module _ (m : CacheMeta) (bytes : List ℕ) (w : ℕ) (e : Some (m, bytes, w) ≡ whole_shown (look_up k h.store)) where
      pub stale-shown : is_fresh t m ≡ false → None ≡ option_map weighed_body there
      stale-shown f = sym (ap (λ (v : Bool). cond v (Some (record { bytes = bytes; meta = m }, w)) None) f) ∙ shown (Some (m, bytes, w)) e

      pub fresh-shown : is_fresh t m ≡ true → Some (record { bytes = bytes; meta = m }, w) ≡ option_map weighed_body there
      fresh-shown f = sym (ap (λ (v : Bool). cond v (Some (record { bytes = bytes; meta = m }, w)) None) f) ∙ shown (Some (m, bytes, w)) e

      some_there : (o : Option Body) (p : Body × ℕ) → Some p ≡ option_map weighed_body o → is_some o ≡ true
      some_there None p e = absurd cc
      some_there (Some b) p e = refl

      pub some-shown : is_fresh t m ≡ true → is_some there ≡ true
      some-shown f = some_there there (record { bytes = bytes; meta = m }, w) (fresh-shown f)
