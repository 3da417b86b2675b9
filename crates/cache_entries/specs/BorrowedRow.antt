-- Which row a borrowed one's fields say.
use Rattle.cache_entries.specs.declared.rows.Tracked.{Tracked}
use Rattle.cache_entries.specs.declared.pack.BorrowedRow.{BorrowedRow}
use Rattle.cache_entries.specs.BorrowedEntry.{borrowed_entry}

abbrev pub borrowed_row : BorrowedRow → Tracked
borrowed_row r = record { entry = borrowed_entry r.entry; weight = r.weight }
