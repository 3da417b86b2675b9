use Rattle.std.proofs.Common.{◌∙◌, ap, [], ◌∷◌, ◌++◌}
use Rattle.store_memory.proofs.RowLaws.{insert_entry-last}
use Rattle.store_memory.proofs.flights.put.Goals as goal

pub returns-in-Ok-insert-clause-ok : goal.returns-in-Ok-insert-clause-ok
returns-in-Ok-insert-clause-ok c = (
  c.in-Ok-insert.ensures.entries ∙ insert_entry-last c.args.number c.in-Ok.kept c.args.flights.now.entries c.requires
      ∙ ap (λ f. c.args.flights.now.entries ++ (c.args.number, f) ∷ []) c.in-Ok.ensures,
  c.in-Ok-insert.ensures.ordered,
)
