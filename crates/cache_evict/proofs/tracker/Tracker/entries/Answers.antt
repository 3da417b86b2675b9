use Rattle.cache_entries.specs.declared.entry.CacheEntryKey.{CacheEntryKey}
use Rattle.std.proofs.Common.{◌∙◌, ◌++◌, ap, sym, rules, List, ℕ, map}
use Rattle.std.specs.Prelude.{◌≡◌}
use Rattle.lru_numbers.specs.Names.{name_at}
use Rattle.cache_evict.specs.Numbered.{row_of_pair, entry_of_pair}
use Rattle.cache_evict.proofs.TextLaws.{named, shown}
use Rattle.cache_evict.proofs.EntryLaws.{entries-of-rows}
use Rattle.cache_entries.specs.declared.rows.Tracked.{Tracked}
use Rattle.cache_evict.proofs.tracker.Tracker.entries.Goals as goal

pub add_entries-requires : goal.add_entries-requires
add_entries-requires g c =
    let all = named g.row.N (name_at c.self.inside.numbers) c.self.inside.core c.self.inside.evicted_size c.self.inside.evicted_items c.args.shard c.self.invariant c.requires in
    let same = c.iter.ensures in
    search rules

pub returns-in-Ok : goal.returns-in-Ok
returns-in-Ok g c =
    let names = name_at c.self.inside.numbers in
    rw (← c.self.view_is) (c.in-Ok.ensures ∙ ap (λ (l : List CacheEntryKey). l ++ map (entry_of_pair names) c.iter.result) c.new-out.ensures.items ∙ entries-of-rows names c.iter.result
    ∙ ap (λ (l : List (ℕ × ℕ)). map (λ (r : Tracked). r.entry) (map (row_of_pair names) l)) c.iter.ensures
    ∙ ap (λ (l : List Tracked). map (λ (r : Tracked). r.entry) l) (sym (shown g.row.N names c.self.inside.core c.self.inside.evicted_size c.self.inside.evicted_items c.args.shard c.self.invariant c.requires)))
