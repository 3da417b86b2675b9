use Rattle.cache_words.specs.Key.{key_of}
use Rattle.request_store.specs.Admissions.{rules_of}
use Rattle.request_puts.specs.Response.{joined, Gives}
use Rattle.request_puts.specs.declared.put.whole.ResponseVerdict.TheVariants.{Cacheable}
use Rattle.request_puts.proofs.PutLaws.{puts-of}
use Rattle.request_puts.proofs.put.CachePutCtx.cache_put.Goals as goal

pub returns-in-Cacheable-clause-put : goal.returns-in-Cacheable-clause-put
returns-in-Cacheable-clause-put g c =
    puts-of (rules_of g.S.Contents.held g.S.Contents.ids g.S.Storage.purged_as g.S.Storage.is_spent g.S.Miss.HandleMiss.told g.E.EvictionManager.shard_count g.E.EvictionManager.weighed g.E.EvictionManager.pick) (key_of c.args.self.now.key)
    (Gives c.args.self.now.max_file_size_bytes (g.C.CachePut.verdict c.args.self.now.cache_put c.args.moment) (joined c.args.pieces.now)) (Cacheable c.in-Cacheable.meta c.in-Cacheable.body)
    c.put_body.result _ _ (rw c.in-Cacheable.is at c.in-Ok.ensures.whole) c.put_body.ensures.put
