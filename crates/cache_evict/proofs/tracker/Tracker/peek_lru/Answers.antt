use Rattle.lru_numbers.specs.Names.{name_at}
use Rattle.cache_evict.proofs.TextLaws.{none_last, entry_last}
use Rattle.cache_evict.proofs.tracker.Tracker.peek_lru.Goals as goal

pub returns-in_err-number : goal.returns-in_err-number
returns-in_err-number g c =
    rw (c.from_residual.ensures, ← c.self.view_is) (none_last g.row.N (name_at c.self.inside.numbers) c.self.inside.core c.self.inside.evicted_size c.self.inside.evicted_items c.args.shard c.self.invariant c.requires c.in_err-number.ensures)

pub returns : goal.returns
returns g c =
    let last = c.in_ok-number.ensures in
    rw (← c.self.view_is) (entry_last g.row.N (name_at c.self.inside.numbers) c.self.inside.core c.self.inside.evicted_size c.self.inside.evicted_items c.args.shard c.self.invariant c.requires
    last.0 last.1 c.in_ok-number.number.now c.in_ok-number._weight c.entry_of.result last.2 c.entry_of.ensures)
