use Rattle.lru_core.proofs.Filters.{moved, some_first}
use Rattle.lru_core.proofs.lru_unit.LruUnit.access.Goals as goal

pub invariant_of-self : goal.invariant_of-self
invariant_of-self g c =
    let m = moved c.args.key c.self.inside.rows in
    rw c.promote.ensures.after (rw (m.0, m.1) c.self.invariant)

pub returns-clause-found : goal.returns-clause-found
returns-clause-found g c = rw (← c.self.view_is) (some_first _ _ c.promote.ensures.found)
