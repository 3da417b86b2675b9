use Rattle.rules_storage.specs.Judge.{kept_from}
use Rattle.rules_storage.proofs.Clean.{no_cookie}
use Rattle.rules_storage.proofs.laws.kept_has_no_cookie.Goals as goal

pub returns : goal.returns
returns c = λ r method s p asked came o off none. no_cookie r method p s (kept_from s p asked came o) o off none
