use Rattle.std.proofs.Common.{ap, sym, ◌∙◌}
use Rattle.request_store.specs.Admissions.{rules_of}
use Rattle.request_cache.specs.Request.{Request}
use Rattle.request_cache.proofs.FinishLaws.{out-of-memory}
use Rattle.request_cache.proofs.request.HttpCache.finish_miss_handler.Goals as goal

pub returns-in-None-clause-finished : goal.returns-in-None-clause-finished
returns-in-None-clause-finished g c =
    out-of-memory (rules_of g.S.Contents.held g.S.Contents.ids g.S.Storage.purged_as g.S.Storage.is_spent g.S.Miss.HandleMiss.told g.E.EvictionManager.shard_count g.E.EvictionManager.weighed g.E.EvictionManager.pick)
    g.S.Miss.HandleMiss.number g.S.Miss.HandleMiss.id g.S.Miss.HandleMiss.tag c.in-Some-take.writer c.in-Err-Memory.writer c.args.self.now.writer c.args.self.now.key c.args.self.now.evicts c.out_of_memory.result
    c.args.parts.now.store c.store_body.new.store (g.E.EvictionManager.managed c.args.parts.now.manager) (g.R.Rng.stream c.args.rng.now)
    (ap (λ (r : Request g.row.S-Hit.Denot g.row.S-Miss.Denot). r.writer) (sym c.self.view_is) ∙ (let taken = c.take.ensures.value in let some = c.in-Some-take.is in cc))
    c.out_of_memory.ensures
    (rw c.in-Err-Memory.field-0-is at c.in-Err-Memory.ensures)
