use Rattle.rules_storage.proofs.Clean.{is_a_get, is_no_304}
use Rattle.rules_storage.proofs.laws.kept_answers_a_get.Goals as goal

pub returns : goal.returns
returns c = record {
  method = λ r method s p kept o none. is_a_get r method p s kept o none;
  status = λ r method s p kept o none. is_no_304 r method p s kept o none;
}
