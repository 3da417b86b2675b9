use Rattle.gateway_exchanges.proofs.TableLaws.{ok-map}
use Rattle.gateway.proofs.Decided.{decided}
use Rattle.gateway.proofs.sharing.act.Goals as goal

pub returns : goal.returns
returns c = ok-map _ c.act_by_verdict.ensures.done (decided c.args.verdict.does _ _ _ _)
