use Rattle.cache_words.specs.Key.{key_of}
use Rattle.request_store.specs.Admissions.{rules_of}
use Rattle.request_puts.proofs.PutLaws.{entry-of, refused, admitted, taken-back, taken-back-as-put}
use Rattle.request_puts.proofs.put.admit.put_body.Goals as goal

pub returns-in_default-clause-put : goal.returns-in_default-clause-put
returns-in_default-clause-put g c =
    let out = c.unstored.ensures in
    refused (rules_of g.S.Contents.held g.S.Contents.ids g.S.Storage.purged_as g.S.Storage.is_spent g.S.Miss.HandleMiss.told g.E.EvictionManager.shard_count g.E.EvictionManager.weighed g.E.EvictionManager.pick) (key_of c.args.key.now) c.args.meta c.args.body
    c.args.parts.now.store c.unstored.new.store (g.E.EvictionManager.managed c.args.parts.now.manager) (g.R.Rng.stream c.args.rng.now) out.0 c.unstored.result out.1 out.2

pub returns-in-Err-clause-put : goal.returns-in-Err-clause-put
returns-in-Err-clause-put g c =
    refused (rules_of g.S.Contents.held g.S.Contents.ids g.S.Storage.purged_as g.S.Storage.is_spent g.S.Miss.HandleMiss.told g.E.EvictionManager.shard_count g.E.EvictionManager.weighed g.E.EvictionManager.pick) (key_of c.args.key.now) c.args.meta c.args.body
    c.args.parts.now.store c.store_whole.new.self (g.E.EvictionManager.managed c.args.parts.now.manager) (g.R.Rng.stream c.args.rng.now)
    c.in-Err.fault c.told_of_store.result c.in-Err.ensures.stored c.told_of_store.ensures

pub returns-in-Ok-admit-clause-put : goal.returns-in-Ok-admit-clause-put
returns-in-Ok-admit-clause-put g c =
    admitted (rules_of g.S.Contents.held g.S.Contents.ids g.S.Storage.purged_as g.S.Storage.is_spent g.S.Miss.HandleMiss.told g.E.EvictionManager.shard_count g.E.EvictionManager.weighed g.E.EvictionManager.pick) (key_of c.args.key.now) c.args.meta c.args.body
    c.args.parts.now.store c.store_whole.new.self (g.E.EvictionManager.managed c.args.parts.now.manager) (g.R.Rng.stream c.args.rng.now)
    c.in-Ok-store_whole.done.1 c.in-Ok-store_whole.done.0 c.from_entry_id-entry.result c.len-size.result c.admit.new.parts.store (g.E.EvictionManager.managed c.admit.new.parts.manager) (g.R.Rng.stream c.admit.new.rng)
    c.in-Ok-admit.evicted (c.in-Ok-store_whole.ensures.ids, c.in-Ok-store_whole.ensures.told) c.in-Ok-store_whole.ensures.stored (entry-of c.in-Ok.compact _ _ _ c.in-Ok.ensures.0 c.from_entry_id-entry.ensures) c.len-size.ensures.value c.in-Ok-admit.ensures.admitted

pub returns-clause-put : goal.returns-clause-put
returns-clause-put g c =
    let back = taken-back-as-put (rules_of g.S.Contents.held g.S.Contents.ids g.S.Storage.purged_as g.S.Storage.is_spent g.S.Miss.HandleMiss.told g.E.EvictionManager.shard_count g.E.EvictionManager.weighed g.E.EvictionManager.pick)
    c.in-Ok-store_whole.done.0 c.from_entry_id-entry.result c.in-Err-admit.fault _ _ c.in-Err-admit.ensures.admitted in
    taken-back (rules_of g.S.Contents.held g.S.Contents.ids g.S.Storage.purged_as g.S.Storage.is_spent g.S.Miss.HandleMiss.told g.E.EvictionManager.shard_count g.E.EvictionManager.weighed g.E.EvictionManager.pick) (key_of c.args.key.now) c.args.meta c.args.body
    c.args.parts.now.store c.store_whole.new.self (g.E.EvictionManager.managed c.args.parts.now.manager) (g.R.Rng.stream c.args.rng.now)
    c.in-Ok-store_whole.done.1 c.in-Ok-store_whole.done.0 c.from_entry_id-entry.result c.len-size.result c.admit.new.parts.store (g.E.EvictionManager.managed c.admit.new.parts.manager) (g.R.Rng.stream c.admit.new.rng)
    c.told_of_admission.result (c.in-Ok-store_whole.ensures.ids, c.in-Ok-store_whole.ensures.told) c.in-Ok-store_whole.ensures.stored (entry-of c.in-Ok.compact _ _ _ c.in-Ok.ensures.0 c.from_entry_id-entry.ensures) (rw c.told_of_admission.ensures back)
