use Rattle.std.proofs.Common.{ap}
use Rattle.std.specs.Prelude.{◌/◌, ◌*◌, pos}
use Rattle.std.specs.Int.{int_max}
use Rattle.rules_storage.specs.Ages.{second, date_value, age_value, arrival}
use Rattle.rules_storage.proofs.AgeLaws.{age_law_by, below}
use Rattle.rules_storage.proofs.laws.fresh_is_younger.Goals as goal

pub returns : goal.returns
unfolding arrival
returns c = λ lines asked came now life o fresh.
    below _ (pos (life * second)) _ (ap (int_max (pos 0)) (age_law_by o.trusts_date (came / second) (date_value lines came) (age_value lines) asked came now)) fresh
