use Rattle.std.proofs.Common.{sym}
use Rattle.std.proofs.lemmas.Bool.{false≢true}
use Rattle.lru_core.proofs.Tabled.{near_found, near_absent}
use Rattle.lru_core.proofs.rows.Rows.is_near_head.Goals as goal

pub returns-in-Some : goal.returns-in-Some
returns-in-Some g c = rw (c.is_near_head.ensures, ← c.self.view_is) (near_found _ _ _ c.self.invariant c.args.key c.in-Some.i c.args.limit (sym c.in-Some.ensures))

pub returns-in-None : goal.returns-in-None
returns-in-None g c =
    let e = near_absent _ _ _ c.self.invariant c.args.key c.args.limit (sym c.in-None.ensures) in
    (λ t. absurd (false≢true t), λ n. absurd (n (rw (← c.self.view_is) e)))
