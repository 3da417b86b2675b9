use Rattle.example_proxy.proofs.Found.{answers-taken}
use Rattle.example_proxy.proofs.proxy.ask.Goals as goal

pub returns : goal.returns
returns g c = answers-taken _ _ _ _ _ _ c.step.ensures
