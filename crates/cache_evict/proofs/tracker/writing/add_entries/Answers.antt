use Rattle.std.proofs.Common.{◌++◌, map}
use Rattle.lru_numbers.specs.Names.{name_at}
use Rattle.cache_evict.specs.Numbered.{entry_of_pair}
use Rattle.cache_evict.proofs.EntryLaws.{entries-more}
use Rattle.cache_evict.proofs.tracker.writing.add_entries.Goals as goal

pub rows-preserved : goal.rows-preserved
rows-preserved g c =
    let names = name_at c.args.numbers.now in
    let one = c.in-Some.ensures.steps in
    let named = rw one at c.rows.invariant.named in
    record {
      all = entries-more names c.rows.out.items c.add_entry.new.out.items (c.args.out.now.items ++ map (entry_of_pair names) c.args.rows) (c.in-Some.number.now, c.in-Some._weight) c.rows.left c.next.new.self
          c.rows.invariant.all one (c.in_ok-add_entry.ensures c.in-Some._weight);
      named = named.1;
    }
