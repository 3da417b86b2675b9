use Rattle.gateway_steps.proofs.OneWay.{one_way}
use Rattle.gateway_steps.proofs.laws.sides_go_one_way.Goals as goal

pub returns : goal.returns
returns c = one_way
