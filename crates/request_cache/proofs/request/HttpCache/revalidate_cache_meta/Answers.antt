use Rattle.std.proofs.Common.{◌≡◌, ap, sym, ◌∙◌, Option, Some}
use Rattle.cache_words.specs.Key.{CacheKeyValue}
use Rattle.cache_entries.specs.declared.entry.CacheEntryId.{CacheEntryId}
use Rattle.cache_changes.specs.Store.{body_at}
use Rattle.cache_heads.specs.Merged.{renewed_from}
use Rattle.request_store.specs.Admissions.{rules_of, cache_of}
use Rattle.request_store.specs.Entries.{entry_at}
use Rattle.request_cache.specs.Request.{Request, stored_at}
use Rattle.request_cache.specs.Revalidations.{id_found}
use Rattle.request_cache.proofs.RenewLaws.{fits_then, then_settled, refused_then, revalidated_as}
use Rattle.request_cache.proofs.request.HttpCache.revalidate_cache_meta.Goals as goal

-- an entry that was weighed anew fits
pub settle_entry-requires : goal.settle_entry-requires
settle_entry-requires g c there =
    fits_then (rules_of g.S.Contents.held g.S.Contents.ids g.S.Storage.purged_as g.S.Storage.is_spent g.S.Miss.HandleMiss.told g.E.EvictionManager.shard_count g.E.EvictionManager.weighed g.E.EvictionManager.pick)
    _ _ _ _ _ _ _ _ c.in-Ok.entry (c.in-Ok.ensures.renewed (g.R.Rng.stream c.args.rng.now)) there

pub returns-in-Ok-clause-revalidated : goal.returns-in-Ok-clause-revalidated
returns-in-Ok-clause-revalidated g c =
    let rules = rules_of g.S.Contents.held g.S.Contents.ids g.S.Storage.purged_as g.S.Storage.is_spent g.S.Miss.HandleMiss.told g.E.EvictionManager.shard_count g.E.EvictionManager.weighed g.E.EvictionManager.pick in
    let words = g.R.Rng.stream c.args.rng.now in
    let old = cache_of c.args.parts.now.store (g.E.EvictionManager.managed c.args.parts.now.manager) words in
    let has_key : Some c.in-Some.key ≡ c.args.self.now.key = sym c.in-Some.is ∙ ap (λ (r : Request g.row.S-Hit.Denot g.row.S-Miss.Denot). r.key) c.self.view_is in
    revalidated_as rules g.S.Contents.weigh (λ k. body_at k (g.S.Contents.held c.args.parts.now.store).store) old _ _ _ _ _ _ _ _ _ _ (ap stored_at has_key)
    (ap (λ (id : Option CacheEntryId). entry_at (Some c.in-Some.key) id) c.id_found-id.ensures ∙ ap (λ (k : Option CacheKeyValue). entry_at k (id_found g.S.Hit.HandleHit.id c.args.self.now.reader)) has_key)
    (ap (λ (r : Request g.row.S-Hit.Denot g.row.S-Miss.Denot). r.evicts) c.self.view_is)
    (c.renewed_from-meta.ensures ∙ ap (λ (r : Request g.row.S-Hit.Denot g.row.S-Miss.Denot). renewed_from r.meta c.args.meta) c.self.view_is)
    (then_settled rules _ _ _ _ _ old _ _ c.in-Ok.entry c.settle_entry.result _ (c.in-Ok.ensures.renewed words) c.settle_entry.ensures.settled)

pub returns-in-Err-clause-revalidated : goal.returns-in-Err-clause-revalidated
returns-in-Err-clause-revalidated g c =
    let rules = rules_of g.S.Contents.held g.S.Contents.ids g.S.Storage.purged_as g.S.Storage.is_spent g.S.Miss.HandleMiss.told g.E.EvictionManager.shard_count g.E.EvictionManager.weighed g.E.EvictionManager.pick in
    let words = g.R.Rng.stream c.args.rng.now in
    let old = cache_of c.args.parts.now.store (g.E.EvictionManager.managed c.args.parts.now.manager) words in
    let has_key : Some c.in-Some.key ≡ c.args.self.now.key = sym c.in-Some.is ∙ ap (λ (r : Request g.row.S-Hit.Denot g.row.S-Miss.Denot). r.key) c.self.view_is in
    revalidated_as rules g.S.Contents.weigh (λ k. body_at k (g.S.Contents.held c.args.parts.now.store).store) old _ _ _ _ _ _ _ _ _ _ (ap stored_at has_key)
    (ap (λ (id : Option CacheEntryId). entry_at (Some c.in-Some.key) id) c.id_found-id.ensures ∙ ap (λ (k : Option CacheKeyValue). entry_at k (id_found g.S.Hit.HandleHit.id c.args.self.now.reader)) has_key)
    (ap (λ (r : Request g.row.S-Hit.Denot g.row.S-Miss.Denot). r.evicts) c.self.view_is)
    (c.renewed_from-meta.ensures ∙ ap (λ (r : Request g.row.S-Hit.Denot g.row.S-Miss.Denot). renewed_from r.meta c.args.meta) c.self.view_is)
    (refused_then rules _ _ _ _ _ old _ _ c.in-Err.fault (c.in-Err.ensures.renewed words))
