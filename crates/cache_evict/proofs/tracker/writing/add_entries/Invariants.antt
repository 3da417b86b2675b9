use Rattle.std.proofs.Common.{◌≡◌, ◌++◌, map}
use Rattle.lru_numbers.specs.Names.{name_at}
use Rattle.cache_evict.specs.Numbered.{entry_of_pair, AreNamed}
use Rattle.cache_evict.proofs.tracker.writing.add_entries.Given as goal

-- the entries so far, and those of the numbers that are left, are all entries
abbrev pub invariant-rows : goal.invariant-rows
invariant-rows g l = record {
  all : l.out.items ++ map (entry_of_pair (name_at l.numbers)) l.left ≡ l.initial.out.items ++ map (entry_of_pair (name_at l.numbers)) l.initial.left;
  named : AreNamed (name_at l.numbers) l.left;
}
