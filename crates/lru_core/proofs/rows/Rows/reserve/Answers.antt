use Rattle.lru_core.proofs.Tabled.{relooked}
use Rattle.lru_core.proofs.rows.Rows.reserve.Goals as goal

pub invariant_of-self : goal.invariant_of-self
invariant_of-self g c = relooked _ _ _ _ c.room_for.ensures.same c.self.invariant

pub invariant_of-self-2 : goal.invariant_of-self-2
invariant_of-self-2 g c = rw c.reserve.ensures.same (relooked _ _ _ _ c.room_for.ensures.same c.self.invariant)
