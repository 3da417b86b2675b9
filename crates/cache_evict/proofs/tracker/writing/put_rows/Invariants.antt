use Rattle.std.proofs.Common.{◌≡◌, ◌++◌, map}
use Rattle.std.specs.Prelude.{flat_map}
use Rattle.std.specs.List.{AllByRecursion}
use Rattle.cache_entries.specs.RowText.{row_text}
use Rattle.cache_entries.specs.Writable.{IsRow}
use Rattle.cache_evict.specs.Loads.{HasLongTag}
use Rattle.lru_numbers.specs.Names.{name_at}
use Rattle.cache_evict.specs.Numbered.{row_of_pair, AreNamed}
use Rattle.cache_evict.proofs.tracker.writing.put_rows.Given as goal

-- what is written, and the text of the rows that are left, are the text of all rows
abbrev pub invariant-rows : goal.invariant-rows
invariant-rows g l = record {
  text : l.out.items ++ flat_map row_text (map (row_of_pair (name_at l.numbers)) l.left) ≡ l.initial.out.items ++ flat_map row_text (map (row_of_pair (name_at l.numbers)) l.initial.left);
  named : AreNamed (name_at l.numbers) l.left;
  fits : AllByRecursion IsRow (map (row_of_pair (name_at l.numbers)) l.left) → AllByRecursion IsRow (map (row_of_pair (name_at l.numbers)) l.initial.left);
  long : HasLongTag (map (row_of_pair (name_at l.numbers)) l.left) → HasLongTag (map (row_of_pair (name_at l.numbers)) l.initial.left);
}
