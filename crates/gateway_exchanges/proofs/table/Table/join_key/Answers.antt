use Rattle.gateway_exchanges.specs.Places.{keys_in}
use Rattle.gateway_exchanges.proofs.TableLaws.{index-joined, index-either}
use Rattle.gateway_exchanges.proofs.table.Table.join_key.Goals as goal

pub invariant_of-self : goal.invariant_of-self
invariant_of-self c =
    record { numbered = c.self.invariant.numbered; index = index-either c.join_key.result (keys_in c.self.inside.by_key) _ _ c.join_key.ensures.ok c.join_key.ensures.err (index-joined (keys_in c.self.inside.by_key) c.args.key.now c.args.x c.self.invariant.index) c.self.invariant.index }
