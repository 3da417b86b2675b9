use Rattle.std.proofs.Common.{ℕ, List, ap}
use Rattle.cache_entries.specs.declared.entry.CacheEntryKey.{CacheEntryKey}
use Rattle.cache_entries.specs.declared.rows.Tracked.{Tracked}
use Rattle.lru_core.specs.Cores.{Core}
use Rattle.cache_evict.specs.Managed.{fresh}
use Rattle.lru_numbers.specs.Names.{name_at}
use Rattle.cache_evict.proofs.GoneLaws.{fresh_seen, IsNumbered-fresh}
use Rattle.cache_evict.proofs.tracker.Tracker.new.Goals as goal

pub invariant_of-result : goal.invariant_of-result
invariant_of-result g c =
    IsNumbered-fresh g.row.N (name_at c.in_ok-numbers.numbers) c.in_ok-core.core.shards c.requires (λ i. ap (λ (l : List (CacheEntryKey × ℕ)). name_at l i) c.in_ok-numbers.ensures) (ap (λ (core : Core ℕ). core.shards) c.in_ok-core.ensures)

pub returns : goal.returns
returns g c = rw c.in_ok-core.ensures (ap (λ (l : List (List Tracked)). record (fresh g.row.N c.args.limit c.args.watermark) { shards = l }) (fresh_seen (name_at c.in_ok-numbers.numbers) g.row.N))
