-- The finished body that a store has is that of the tier's state.
use Rattle.std.proofs.Common.{◌≡◌, List, ℕ, refl, ap, sym, ◌∙◌, Option, Some, None}
use Rattle.std.specs.Prelude.{option_map}
use Rattle.std.specs.FinMap.{get}
use Rattle.cache_changes.specs.Changes.{StoredKey}
use Rattle.cache_changes.specs.Store.{Stored, body_at}
use Rattle.cache_heads.specs.declared.meta.CacheMeta.{CacheMeta}
use Rattle.cache_store.specs.StoreState.{StoreState}
use Rattle.tier_model.specs.Rows.{Numbered}
use Rattle.tier_model.specs.Shelf.{Shelf}
use Rattle.tier_model.specs.State.{State}
use Rattle.tier_requests.specs.Shelves.{found_in, shelf_of}
use Rattle.tier_requests.proofs.ShelfLaws.{body-found}
use Rattle.gateway_state.specs.AtTier.{finished_at}

abbrev shown : Numbered → CacheMeta × List ℕ
shown n = (n.body.meta, n.body.bytes)

by_found : (o : Option (Stored CacheMeta)) → option_map {U = CacheMeta × List ℕ} (λ x. (x.meta, x.bytes)) o ≡ option_map shown (option_map found_in o)
by_found None = refl
by_found (Some x) = refl

pub finished-of : (k : StoredKey) (h : StoreState) (s : State) → shelf_of h ≡ s.shelf → option_map {U = CacheMeta × List ℕ} (λ x. (x.meta, x.bytes)) (body_at k h.store) ≡ finished_at k s
finished-of k h s e = by_found (body_at k h.store) ∙ (ap (option_map shown) (sym (body-found k h.store)) ∙ ap (λ (x : Shelf). option_map shown (get x.bodies k)) e)
