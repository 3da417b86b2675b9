use Rattle.cache_entries.proofs.RowLaws.{recency_again, recency_takes}
use Rattle.cache_entries.proofs.laws.rows_are_spelled.Goals as goal

pub returns : goal.returns
returns c = record { again = recency_again; found = recency_takes }
