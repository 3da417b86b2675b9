use Rattle.std.proofs.Common.{ℕ}
use Rattle.cache_evict.specs.Managed.{pick_first}
use Rattle.tier_loads.proofs.InTurn.{run-one, tracked-stays}
use Rattle.tier_loads.proofs.Picks.{only-first}
use Rattle.tier_loads.proofs.managers.one_list_holds_by_loads.Goals as goal

abbrev weighed : ℕ → ℕ
weighed size = size

pub returns-clause-held : goal.returns-clause-held
returns-clause-held c = λ weight limit watermark steps m r. (run-one pick_first only-first weighed weight limit watermark steps m r).shards

pub returns-clause-tracked : goal.returns-clause-tracked
returns-clause-tracked c = λ weight limit watermark steps m r e.
    tracked-stays weight limit watermark e steps m (run-one pick_first only-first weighed weight limit watermark steps m r)
