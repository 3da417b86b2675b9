use Rattle.std.proofs.Common.{ℕ, max, List, Option}
use Rattle.cache_entries.specs.declared.entry.CacheEntryKey.{CacheEntryKey}
use Rattle.cache_evict.specs.Managed.{Managed, pick_by_draws}
use Rattle.curve_loads.specs.Steps.{Step, held}
use Rattle.tier_loads.specs.Calls.{IsOne, IsRun}
use Rattle.tier_loads.proofs.InTurn.{run-one, front-two, tracked-two}
use Rattle.tier_loads.proofs.Picks.{draws-first}
use Rattle.tier_loads.proofs.managers.a_greater_limit_loses_nothing.Goals as goal

abbrev weighed : ℕ → ℕ
weighed size = max size 1

run : (weight : CacheEntryKey → ℕ) (limit : ℕ) (watermark : Option ℕ) (steps : List Step) (m : Managed) → IsRun (pick_by_draws 1) weighed weight limit watermark steps m
    → IsOne limit watermark (held weight limit watermark steps) m
run = run-one (pick_by_draws 1) draws-first weighed

pub returns-clause-front : goal.returns-clause-front
returns-clause-front c = λ weight limit limit' watermark watermark' steps m m' l a r r'.
    front-two weight limit limit' watermark watermark' l a steps m m' (run weight limit watermark steps m r) (run weight limit' watermark' steps m' r')

pub returns-clause-tracked : goal.returns-clause-tracked
returns-clause-tracked c = λ weight limit limit' watermark watermark' steps m m' l a r r' e h.
    tracked-two weight limit limit' watermark watermark' l a steps m m' (run weight limit watermark steps m r) (run weight limit' watermark' steps m' r') e h
