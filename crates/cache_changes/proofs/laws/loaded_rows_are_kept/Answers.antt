use Rattle.cache_changes.proofs.UseLaws.{rows_of-admissions}
use Rattle.cache_changes.proofs.laws.loaded_rows_are_kept.Goals as goal

pub returns : goal.returns
returns g c = λ rows d. rows_of-admissions _ rows d
