use Rattle.cache_evict.specs.Managed.{Evicts, pick_by_draws, total_items}
use Rattle.cache_evict.proofs.tracker.Tracker.evict_by_draws.Given as goal

abbrev pub invariant-steps : goal.invariant-steps
invariant-steps g l = Evicts (pick_by_draws g.row.N) l.fn.self l.gone.items (g.R.Rng.stream l.fn.rng) l.self (g.R.Rng.stream l.rng)

abbrev pub decreases-steps : goal.decreases-steps
decreases-steps g l = total_items l.self
