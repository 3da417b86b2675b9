use Rattle.std.proofs.Common.{◌≡◌, ◌++◌, map}
use Rattle.std.specs.Prelude.{flat_map, drop}
use Rattle.cache_entries.specs.RowText.{row_text}
use Rattle.cache_evict.specs.Loads.{HasLongTag}
use Rattle.lru_async_manager.specs.Texts.{row_of_pair}
use Rattle.lru_async_manager.proofs.texts.put_rows.Given as goal

-- what is written, and the text of the rows that are left, are the text of all rows
abbrev pub invariant-rows : goal.invariant-rows
invariant-rows l = record {
  text : l.out.items ++ flat_map row_text (map row_of_pair (drop l.pair-index l.pairs)) ≡ l.initial.out.items ++ flat_map row_text (map row_of_pair l.pairs);
  long : HasLongTag (map row_of_pair (drop l.pair-index l.pairs)) → HasLongTag (map row_of_pair l.pairs);
  fits : HasLongTag (map row_of_pair l.pairs) → HasLongTag (map row_of_pair (drop l.pair-index l.pairs));
}
