use Rattle.gateway_exchanges.specs.Places.{keys_in}
use Rattle.gateway_exchanges.proofs.TableLaws.{index-left}
use Rattle.gateway_exchanges.proofs.table.Table.leave_key.Goals as goal

pub invariant_of-self : goal.invariant_of-self
invariant_of-self c =
    record { numbered = c.self.invariant.numbered; index = rw c.leave_key.ensures (index-left (keys_in c.self.inside.by_key) c.args.key.now c.args.x c.self.invariant.index) }
