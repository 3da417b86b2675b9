use Rattle.lru_core.proofs.Filters.{none_first, referred}
use Rattle.lru_core.proofs.lru_unit.LruUnit.need_promote.Goals as goal

pub returns-then-is_some : goal.returns-then-is_some
returns-then-is_some g c =
    let there = referred c.get.result _ c.if-is_some.ensures c.get.ensures in
    let near = none_first _ _ c.is_near_head.ensures in
    rw (← c.self.view_is) (λ t. (there, near.0 t), λ p. near.1 p.1)
