use Rattle.cache_words.specs.Key.{combined, key_of}
use Rattle.cache_store.specs.declared.storage.StoreFault.TheVariants.{Memory}
use Rattle.cache_store.proofs.WholeLaws.{left-begun}
use Rattle.request_puts.proofs.put.admit.unstored.Goals as goal

pub returns-in-Ok : goal.returns-in-Ok
returns-in-Ok g c = (
  Memory,
  left-begun g.S.Miss.HandleMiss.number (g.S.Storage.is_spent (g.S.Contents.held c.args.store.now)) (combined (key_of c.args.key.now)) c.args.meta c.in-Ok.miss (g.S.Contents.held c.args.store.now)
      (g.S.Contents.held c.get_miss_handler_owned.new.self) (g.S.Contents.held c.leave.new.store) c.in-Ok.ensures.begun c.leave.ensures.left,
  c.told_of_store.ensures,
)
