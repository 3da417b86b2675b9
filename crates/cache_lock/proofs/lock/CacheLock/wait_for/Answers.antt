use Rattle.std.proofs.Common.{refl, sym}
use Rattle.std.specs.FinMap.{get}
use Rattle.cache_lock.proofs.GivenBack.{spent_there}
use Rattle.cache_lock.proofs.lock.CacheLock.wait_for.Goals as goal

pub returns-else-name_again-clause-refused : goal.returns-else-name_again-clause-refused
returns-else-name_again-clause-refused g c = spent_there c.args.self.now c.args.number (get c.args.self.now.cores c.args.number) refl c.requires (sym c.if-name_again.ensures.answer)
