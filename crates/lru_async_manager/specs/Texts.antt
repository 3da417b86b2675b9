-- Entries with their weights as rows in the order of use.
use Rattle.std.specs.Prelude.{ℕ}
use Rattle.cache_entries.specs.declared.entry.CacheEntryKey.{CacheEntryKey}
use Rattle.cache_entries.specs.declared.rows.Tracked.{Tracked}

-- an entry and its weight as a row
abbrev pub row_of_pair : CacheEntryKey × ℕ → Tracked
row_of_pair pair = record { entry = pair.0; weight = pair.1 }
