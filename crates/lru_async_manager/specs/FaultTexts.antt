-- What a missing text of a shard says, and one whose rows weren't put.
use Rattle.std.specs.Prelude.{ℕ, List, codes}
use Rattle.lru_async.specs.FaultTexts.{tail_fault_text}
use Rattle.cache_words.specs.FaultTexts.{fault_text}
use Rattle.lru_async_manager.specs.declared.fault.RowsFault.{RowsFault}
use Rattle.lru_async_manager.specs.declared.fault.RowsFault.TheVariants as rows
use Rattle.lru_async_manager.specs.declared.fault.TextFault.{TextFault}
use Rattle.lru_async_manager.specs.declared.fault.TextFault.TheVariants.{Memory, Closed, TooLong}

abbrev pub text_fault_text : TextFault → List ℕ
text_fault_text Memory = codes "out of memory"
text_fault_text Closed = codes "the shard's actor has ended"
text_fault_text TooLong = codes "too many entries, or a tag that is too long"

abbrev pub rows_fault_text : RowsFault → List ℕ
rows_fault_text (rows.Text fault) = fault_text fault
rows_fault_text rows.Memory = codes "out of memory"
rows_fault_text (rows.Put fault) = tail_fault_text fault
