use Rattle.cache_store.specs.Answers.{look_up}
use Rattle.store_memory.proofs.OwnLaws.{reader-shown}
use Rattle.store_memory.proofs.cache.MemCache.read_shown.Goals as goal

pub returns : goal.returns
returns g c =
    reader-shown (look_up c.args.key.now c.args.self.now.store) c.args.self.now c.look_held-found.new.self c.look_held-found.result c.without_meta.result c.look_held-found.ensures c.without_meta.ensures
