use Rattle.rules_laws.proofs.Uses.{stale_use}
use Rattle.rules_laws.proofs.using.what_is_stale_may_be_used.Goals as goal

pub returns : goal.returns
returns c = λ request kept now o h. stale_use request kept now o h
