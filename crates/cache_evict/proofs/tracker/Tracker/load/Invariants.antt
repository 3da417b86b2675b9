use Rattle.std.proofs.Common.{◌-◌}
use Rattle.cache_entries.specs.RowText.{recency_at}
use Rattle.cache_evict.specs.Loads.{loaded}
use Rattle.cache_evict.proofs.LoadLaws.{HasLoaded}
use Rattle.cache_evict.proofs.tracker.Tracker.load.Given as goal

-- the rows that are left to be read are those of the text, after the ones that were put
abbrev pub invariant-rows : goal.invariant-rows
invariant-rows g l = HasLoaded (loaded l.fn.again g.row.N) (recency_at l.fn.bytes) l.fn.self (l.count - l.counter) l.cursor.rest.now l.self
