use Rattle.std.proofs.lemmas.List.{take_more}
use Rattle.request_store.proofs.PurgeLaws.{purged-more}
use Rattle.request_store.proofs.purges.purge_all.Goals as goal

pub loop-entry-preserved : goal.loop-entry-preserved
loop-entry-preserved g c =
    rw (take_more c.args.evicted.now c.loop-entry.entry-index c.entry-item.result c.loop-entry-test.true, ← c.entry-item.is)
    (purged-more g.S.Contents.held g.S.Contents.ids g.S.Storage.purged_as _ c.entry-item.result _ _ _ c.purge.result c.loop-entry.invariant (record {
      answer = c.purge.ensures.purged;
      ids_then = c.purge.ensures.ids;
      caused = c.purge.ensures.cause;
    }))
