use Rattle.std.proofs.Common.{sym}
use Rattle.lru_core.proofs.Tabled.{tabled_length}
use Rattle.lru_core.proofs.rows.Rows.len.Goals as goal

pub returns : goal.returns
returns g c = rw (c.len.ensures, ← c.self.view_is) (sym (tabled_length _ _ _ c.self.invariant))
