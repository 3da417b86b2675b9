use Rattle.std.proofs.Common.{◌≡◌}
use Rattle.cache_evict.specs.Managed.{pick_by_draws, put_first, weight_after}
use Rattle.cache_evict.proofs.FaultLaws.{stops_at_once, stops_later, fits_then}
use Rattle.cache_evict.proofs.lru.ManagerEvictionManager.increment_weight.Goals as goal

pub returns-in-Ok-clause-fits : goal.returns-in-Ok-clause-fits
returns-in-Ok-clause-fits g c =
    let same : c.increment.new.self ≡ put_first g.row.N c.args.item.now (weight_after g.row.N c.args.item.now c.args.delta c.args.max_weight c.args.self.now) c.args.self.now = rw (← c.self.view_is) c.in-Ok.ensures.ok in
    fits_then c.evict_by_draws.result g.row.N (put_first g.row.N c.args.item.now (weight_after g.row.N c.args.item.now c.args.delta c.args.max_weight c.args.self.now) c.args.self.now) c.increment.new.self same c.shards_are_within.ensures

pub returns-in-Ok-clause-refused : goal.returns-in-Ok-clause-refused
returns-in-Ok-clause-refused g c =
    let same : c.increment.new.self ≡ put_first g.row.N c.args.item.now (weight_after g.row.N c.args.item.now c.args.delta c.args.max_weight c.args.self.now) c.args.self.now = rw (← c.self.view_is) c.in-Ok.ensures.ok in
    stops_later (pick_by_draws g.row.N) g.row.N c.args.item.now (weight_after g.row.N c.args.item.now c.args.delta c.args.max_weight c.args.self.now) c.args.self.now c.increment.new.self c.evict_by_draws.new.self
    (g.R.Rng.stream c.args.rng.now) (g.R.Rng.stream c.evict_by_draws.new.rng) c.evict_by_draws.result same c.shards_are_within.ensures c.evict_by_draws.ensures.refused

pub returns-in-Err-clause-refused : goal.returns-in-Err-clause-refused
returns-in-Err-clause-refused g c =
    stops_at_once (pick_by_draws g.row.N) g.row.N c.args.item.now (weight_after g.row.N c.args.item.now c.args.delta c.args.max_weight c.args.self.now) c.args.self.now c.increment.new.self (g.R.Rng.stream c.args.rng.now) c.of.result c.in-Err.refusal
    c.of.ensures.why c.of.ensures.none (rw (← c.self.view_is) c.in-Err.ensures.why) (rw (← c.self.view_is) c.in-Err.ensures.err)
