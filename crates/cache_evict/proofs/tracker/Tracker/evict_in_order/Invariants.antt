use Rattle.rand_core.specs.Stream.{Stream}
use Rattle.cache_evict.specs.Managed.{Evicts, pick_first, total_items}
use Rattle.cache_evict.proofs.tracker.Tracker.evict_in_order.Given as goal

abbrev pub invariant-steps : goal.invariant-steps
invariant-steps g l = (s : Stream) → Evicts pick_first l.fn.self l.gone.items s l.self s

abbrev pub decreases-steps : goal.decreases-steps
decreases-steps g l = total_items l.self
