use Rattle.rules_storage.proofs.Staying.{stays, keeps}
use Rattle.rules_storage.proofs.laws.what_is_good_stays.Goals as goal

pub returns : goal.returns
returns c = record {
  taken = λ r method p asked came code kept o good gone. stays r method p asked came code kept o good gone;
  replaced = λ r method p asked came code kept o good gone error. keeps r method p asked came code kept o good gone error;
}
