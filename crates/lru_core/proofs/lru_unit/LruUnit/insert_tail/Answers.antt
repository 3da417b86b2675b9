use Rattle.std.proofs.Common.{rules, ◌≢◌, []}
use Rattle.lru_core.specs.Rows.{only, a_row}
use Rattle.lru_core.proofs.Ordering.{left_as_is}
use Rattle.lru_core.proofs.lru_unit.LruUnit.insert_tail.Goals as goal

pub returns-then-is_some-clause-last : goal.returns-then-is_some-clause-last
returns-then-is_some-clause-last g c =
    let n : only c.args.key c.self.inside.rows ≢ [] = search rules in
    rw (← c.self.view_is) (left_as_is (a_row c.args.key c.args.item c.args.weight) c.self.inside.rows n)

pub returns-clause-after : goal.returns-clause-after
returns-clause-after g c = search rules

pub returns-clause-last : goal.returns-clause-last
returns-clause-last g c = search rules
