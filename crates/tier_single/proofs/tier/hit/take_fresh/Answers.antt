use Rattle.std.proofs.Common.{◌≡◌, Some, ap, subst, ◌∙◌}
use Rattle.std.specs.Prelude.{option_map}
use Rattle.cache_words.specs.Key.{Key, key_of, combined}
use Rattle.cache_entries.specs.declared.entry.CacheEntryKey.{CacheEntryKey}
use Rattle.cache_changes.specs.Changes.{StoredKey}
use Rattle.request_store.specs.Admissions.{compact}
use Rattle.tier_model.specs.Keys.{alone, entry_of, stored_key_of}
use Rattle.tier_model.specs.Shelf.{look}
use Rattle.tier_requests.specs.Shelves.{shelf_of}
use Rattle.tier_single.specs.Hits.{UsesEntry, weighed_hit, weighed_body, hit_at}
use Rattle.tier_single.proofs.HitAnswers.{used-hit}
use Rattle.tier_single.proofs.tier.hit.take_fresh.Goals as goal

pub returns-in-Ok-Some : goal.returns-in-Ok-Some
returns-in-Ok-Some g c =
    let same : key_of c.in-Ok.kept ≡ key_of c.args.key.now = c.in-Ok.ensures in
    let at : c.combined_bin.result ≡ stored_key_of c.args.key.now = c.combined_bin.ensures ∙ ap combined same in
    let entry : alone (entry_of c.in-Ok.kept) ≡ alone (entry_of c.args.key.now) = ap (λ (k : Key). alone (compact k)) same in
    let used =
    subst (λ (e : CacheEntryKey). UsesEntry g.E.EvictionManager.shard_count g.E.EvictionManager.weighed e c.in-Ok-Some.weight (g.E.EvictionManager.managed c.args.manager.now) c.use_fresh-used.result (g.E.EvictionManager.managed c.use_fresh-used.new.manager))
    entry c.use_fresh-used.ensures
    in
    let is =
    subst (λ (k : StoredKey). Some (weighed_hit (c.in-Ok-Some.hit, c.in-Ok-Some.weight)) ≡ option_map weighed_body (hit_at c.args.moment (look k (shelf_of c.args.store.now)))) at (rw c.in-Ok-Some.field-0-is at c.in-Ok-Some.ensures)
    in
    rw c.handed.ensures
    (used-hit g.E.EvictionManager.shard_count g.E.EvictionManager.weighed (alone (entry_of c.args.key.now)) (hit_at c.args.moment (look (stored_key_of c.args.key.now) (shelf_of c.args.store.now))) c.in-Ok-Some.hit c.in-Ok-Some.weight
    (g.E.EvictionManager.managed c.args.manager.now) c.use_fresh-used.result (g.E.EvictionManager.managed c.use_fresh-used.new.manager) is used)
