use Rattle.std.proofs.Common.{ℕ, max}
use Rattle.cache_evict.specs.Managed.{pick_by_draws}
use Rattle.tier_loads.proofs.OneShard.{one_call}
use Rattle.tier_loads.proofs.InTurn.{run-one, tracked-stays}
use Rattle.tier_loads.proofs.Picks.{draws-first}
use Rattle.tier_loads.proofs.managers.one_shard_holds_by_loads.Goals as goal

abbrev weighed : ℕ → ℕ
weighed size = max size 1

pub returns-clause-call : goal.returns-clause-call
returns-clause-call c = λ weight limit watermark call old new gone s rest before u h o d.
    one_call limit watermark (pick_by_draws 1) draws-first weight weighed call old new gone s rest before u h o d

pub returns-clause-held : goal.returns-clause-held
returns-clause-held c = λ weight limit watermark steps m r. (run-one (pick_by_draws 1) draws-first weighed weight limit watermark steps m r).shards

pub returns-clause-tracked : goal.returns-clause-tracked
returns-clause-tracked c = λ weight limit watermark steps m r e.
    tracked-stays weight limit watermark e steps m (run-one (pick_by_draws 1) draws-first weighed weight limit watermark steps m r)
