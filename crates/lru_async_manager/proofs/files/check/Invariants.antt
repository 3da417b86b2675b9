use Rattle.std.proofs.Common.{◌≡◌, ◌-◌}
use Rattle.cache_entries.specs.RowText.{recency_at, rows_until}
use Rattle.lru_async_manager.proofs.files.check.Given as goal

-- the rows that are left end as the text does
abbrev pub invariant-rows : goal.invariant-rows
invariant-rows l = (recency_at l.fn.bytes).1 ≡ (rows_until (l.count - l.counter) l.cursor.rest.now).1
