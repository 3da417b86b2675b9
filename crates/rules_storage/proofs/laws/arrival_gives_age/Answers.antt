use Rattle.rules_storage.specs.Ages.{second, date_value, age_value, arrival}
use Rattle.std.specs.Prelude.{◌/◌}
use Rattle.rules_storage.proofs.AgeLaws.{age_law_by}
use Rattle.rules_storage.proofs.laws.arrival_gives_age.Goals as goal

pub returns : goal.returns
unfolding arrival
returns c = λ lines asked came now o. age_law_by o.trusts_date (came / second) (date_value lines came) (age_value lines) asked came now
