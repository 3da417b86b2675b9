-- Rows in the order of use as MessagePack.
use Rattle.std.specs.Prelude.{ℕ, zero, suc, List, [], ◌∷◌, ◌++◌, Option, Some, None, Result, Ok, Err}
use Rattle.cache_words.specs.declared.pack.fault.PackFault.{PackFault}
use Rattle.cache_words.specs.Forms.{Stands, shortest, numbers, arrays}
use Rattle.cache_words.specs.Items.{Spelling, SpellBoth, SpellItems, SpellArray, Reader, array_text}
use Rattle.cache_words.specs.Reading.{◌>>=◌, number_at, array_of_at}
use Rattle.cache_entries.specs.declared.rows.Tracked.{Tracked}
use Rattle.cache_entries.specs.EntryText.{entry_text, SpellsEntry, entry_at}

-- a row: an array of its entry and its weight
abbrev pub row_text : Tracked → List ℕ
row_text r = shortest arrays 2 ++ (entry_text r.entry ++ shortest numbers r.weight)

-- an order of use: an array of its rows, latest first
abbrev pub recency_text : List Tracked → List ℕ
recency_text rows = array_text row_text rows

abbrev pub SpellsRow : Spelling Tracked
SpellsRow r text = SpellItems 2 (SpellBoth SpellsEntry (Stands numbers)) (r.entry, r.weight) text

abbrev pub SpellsRecency : Spelling (List Tracked)
SpellsRecency rows text = SpellArray SpellsRow rows text

unfoldable pub row_at : Reader Tracked
row_at bytes = do
  rest ← array_of_at 2 bytes
  e ← entry_at rest
  w ← number_at numbers e.1
  Ok (record { entry = e.0; weight = w.0 }, w.1)

-- rows that were read, and the fault that ended it, if any
abbrev pub RowsRead : Type 0
RowsRead = List Tracked × Option PackFault

-- a row, and those after it; or the fault in its place
abbrev pub then_rows : Result (Tracked × List ℕ) PackFault → (List ℕ → RowsRead) → RowsRead
then_rows (Ok x) more = (x.0 ∷ (more x.1).0, (more x.1).1)
then_rows (Err e) more = ([], Some e)

-- so many rows from the front on, until one can't be read
unfoldable pub rows_until : ℕ → List ℕ → RowsRead
rows_until zero bytes = ([], None)
rows_until (suc n) bytes = then_rows (row_at bytes) (rows_until n)

-- of the length of the array, and what is after it
abbrev pub counted_rows : Result (ℕ × List ℕ) PackFault → RowsRead
counted_rows (Ok n) = rows_until n.0 n.1
counted_rows (Err e) = ([], Some e)

-- the rows of an order of use, until one can't be read
abbrev pub recency_at : List ℕ → RowsRead
recency_at bytes = counted_rows (number_at arrays bytes)
