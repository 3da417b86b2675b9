use Rattle.std.proofs.Common.{rules}
use Rattle.cache_evict.proofs.tracker.Tracker.put_borrowed.Goals as goal

pub put_new-requires : goal.put_new-requires
put_new-requires g c = (search rules, (rw c.in_ok-copy.ensures.copy c.in_ok-copy.ensures.room, rw c.in_ok-copy.ensures.copy c.in_ok-copy.ensures.hash))
