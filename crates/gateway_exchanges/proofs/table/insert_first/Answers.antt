use Rattle.std.proofs.Common.{◌∙◌, ap, [], ◌∷◌, ◌++◌}
use Rattle.gateway_exchanges.specs.Places.{numbers_in, keys_in}
use Rattle.gateway_exchanges.proofs.Places.{insert-key}
use Rattle.std.specs.FinMap.{insert}
use Rattle.gateway_exchanges.proofs.table.insert_first.Goals as goal

pub returns-clause-ok : goal.returns-clause-ok
returns-clause-ok c =
    insert-key numbers_in c.args.by_key.now.entries c.insert.new.self.entries c.args.key.now c.push_reserved.new.self c.in_ok-insert.ensures.updates.0
    ∙ ap (insert (keys_in c.args.by_key.now) c.args.key.now) (c.push_reserved.ensures.items ∙ ap (λ l. l ++ c.args.x ∷ []) c.in_ok-numbers.ensures.items)
