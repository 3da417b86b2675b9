use Rattle.cache_entries.proofs.WrittenLaws.{entry_spelled, row_spelled, recency_spelled}
use Rattle.cache_entries.proofs.laws.written_is_spelled.Goals as goal

pub returns : goal.returns
returns c = record { entry = entry_spelled; row = row_spelled; recency = recency_spelled }
