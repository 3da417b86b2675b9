use Rattle.cache_words.proofs.CursorLaws.{taken_ok, taken_err}
use Rattle.cache_entries.specs.BorrowedRow.{borrowed_row}
use Rattle.cache_entries.specs.RowText.{SpellsRow, row_at}
use Rattle.cache_entries.proofs.RowLaws.{row_agrees}
use Rattle.cache_entries.proofs.pack.reading.take_row.Goals as goal

pub returns-in-Ok : goal.returns-in-Ok
returns-in-Ok c =
    rw (← c.checked.ensures.same) (taken_ok borrowed_row row_at SpellsRow row_agrees c.checked.result.now _ _ c.checked.ensures.fits c.in-Ok.ensures)

pub returns-in-Err : goal.returns-in-Err
returns-in-Err c = rw (← c.checked.ensures.same) (taken_err borrowed_row row_at SpellsRow row_agrees c.checked.result.now _ c.in-Err.ensures)
