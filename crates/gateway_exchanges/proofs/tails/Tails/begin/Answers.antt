use Rattle.tier_model.proofs.Tables.{insert-table}
use Rattle.gateway_exchanges.proofs.tails.Tails.begin.Goals as goal

pub returns-clause-ok : goal.returns-clause-ok
returns-clause-ok c =
    rw (← c.self.view_is, ← c.new.ensures) (insert-table c.self.inside.open.entries c.insert.new.self.entries c.args.x c.new.result c.in_ok-insert.ensures.updates.0)
