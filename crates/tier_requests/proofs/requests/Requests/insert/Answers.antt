use Rattle.std.proofs.Common.{◌≡◌, Some, None, nat_eq, sym, ◌∙◌}
use Rattle.std.specs.Map.{lookup}
use Rattle.tier_model.proofs.Tables.{get-table, insert-table}
use Rattle.tier_requests.proofs.requests.Requests.insert.Goals as goal
use Rattle.tier_requests.proofs.requests.Requests.insert.Goals.{in-Ok+in-None, in-Err}

pub unreachable-requires : goal.unreachable-requires
unreachable-requires g c =
    let none : lookup (nat_eq c.args.id) c.self.inside.table.entries ≡ None = sym (get-table c.self.inside.table.entries c.args.id) ∙ rw (← c.self.view_is) at c.requires in
    let here : lookup (nat_eq c.args.id) c.self.inside.table.entries ≡ Some c.in-Some.field-0 = sym c.in-Ok.ensures.old ∙ c.in-Some.is in
    absurd cc

pub returns-clause-ok : goal.returns-clause-ok
returns-clause-ok g c =
    elim c.match-insert.branch [
      | in-Ok+in-None w ↦ rw (w.result-is, ← c.self.view_is) (insert-table c.self.inside.table.entries c.insert.new.self.entries c.args.id c.args.request w.in-Ok.ensures.updates.0)
      | in-Err w ↦ rw w.result-is tt
    ]
