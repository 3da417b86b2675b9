use Rattle.lru_core.proofs.Pairs.{slots_full}
use Rattle.lru_core.proofs.rows.Rows.iter.Goals as goal

pub returns : goal.returns
returns g c = rw (c.iter.ensures, ← c.self.view_is) (slots_full _ _ (λ j h. let r = c.self.invariant.named j h in (r.0, r.1)))
