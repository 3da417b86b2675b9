-- What a store shows is what a look-up finds.
use Rattle.std.proofs.Common.{◌≡◌, refl, ap, sym, ◌∙◌, Option, Some, None}
use Rattle.std.specs.Prelude.{ℕ, Bool, List, option_map, find}
use Rattle.std.specs.Option.{option_or}
use Rattle.cache_words.specs.Time.{DurationValue}
use Rattle.cache_words.specs.Key.{CacheKeyValue, key_of, combined}
use Rattle.cache_heads.specs.declared.meta.CacheMeta.{CacheMeta}
use Rattle.cache_changes.specs.Changes.{StoredKey}
use Rattle.cache_changes.specs.Store.{Stored, Flying, flies_for, body_at, shown_at}
use Rattle.cache_store.specs.StoreState.{StoreState}
use Rattle.store_memory.specs.declared.meta.ShownMeta.{ShownMeta}
use Rattle.store_memory.specs.Shown.{meta_shown}
use Rattle.request_cache.specs.Request.{stored_at}
use Rattle.tier_model.specs.declared.event.TierFault.{TierFault}
use Rattle.tier_model.specs.Shelf.{Shelf, look, look_by}
use Rattle.tier_model.specs.State.{Request}
use Rattle.tier_model.specs.Checks.{look_refusal}
use Rattle.tier_model.specs.Answers.{key_for, look_for}
use Rattle.tier_requests.specs.Shelves.{found_in, flight_of, shelf_of}
use Rattle.tier_requests.specs.Plain.{Driven, plain_of}
use Rattle.tier_requests.specs.Shown.{meta_found, unless_refused, meta_for_look}
use Rattle.tier_requests.proofs.ShelfLaws.{look-of}
use Rattle.tier_requests.proofs.FindLaws.{key-stored}

by_store : (f : Option (Flying CacheMeta)) (b : Option (Stored CacheMeta))
    → option_map (λ (x : Stored CacheMeta). x.meta) (option_or (option_map (λ (f : Flying CacheMeta). f.stored) f) b) ≡ meta_found (look_by (option_map flight_of f) (option_map found_in b))
by_store (Some f) b = refl
by_store None (Some x) = refl
by_store None None = refl

-- the meta that a store lends is that of what is found
pub shown-meta : (k : StoredKey) (h : StoreState) (m : Option ShownMeta) → option_map meta_shown m ≡ option_map (λ x. x.meta) (shown_at k h.store) → option_map meta_shown m ≡ meta_found (look k (shelf_of h))
shown-meta k h m e = e ∙ by_store (find (flies_for k) h.store.flying) (body_at k h.store) ∙ sym (ap meta_found (look-of k h))

-- the stored key of a request
pub key-of : (d : Driven) (asks : Bool) (wait : Option DurationValue) (gave : Bool) (n : ℕ) (share : Option CacheMeta) (bytes : Option (List ℕ)) (key : CacheKeyValue) (at : StoredKey) → d.key ≡ Some key → at ≡ combined (key_of key)
    → key_for (plain_of d asks wait gave n share bytes) ≡ at
key-of d asks wait gave n share bytes key at there same = key-stored d.key ∙ ap stored_at there ∙ sym same

-- a request that may not look up is shown nothing
pub shown-refused : (q : Request) (shelf : Shelf) (f : TierFault) → look_refusal q ≡ Some f → meta_for_look q shelf ≡ None
shown-refused q shelf f e = ap (λ (o : Option TierFault). unless_refused o (meta_found (look_for q shelf))) e

-- one that may is shown what is found under its key
pub shown-let : (q : Request) (shelf : Shelf) (k : StoredKey) → key_for q ≡ k → look_refusal q ≡ None → (found : Option CacheMeta) → found ≡ meta_found (look k shelf) → found ≡ meta_for_look q shelf
shown-let q shelf k same e found is =
    is ∙ sym (ap (λ (j : StoredKey). meta_found (look j shelf)) same) ∙ sym (ap (λ (o : Option TierFault). unless_refused o (meta_found (look_for q shelf))) e)
