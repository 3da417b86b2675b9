use Rattle.cache_words.proofs.ReadingLaws.{one_spelling}
use Rattle.cache_entries.specs.EntryText.{SpellsEntry, entry_at}
use Rattle.cache_entries.specs.RowText.{SpellsRow, row_at}
use Rattle.cache_entries.proofs.EntryLaws.{entry_agrees}
use Rattle.cache_entries.proofs.RowLaws.{row_agrees}
use Rattle.cache_entries.proofs.laws.one_spelling.Goals as goal

pub returns : goal.returns
returns c = record { entry = one_spelling entry_at SpellsEntry entry_agrees; row = one_spelling row_at SpellsRow row_agrees }
