use Rattle.std.proofs.Common.{◌≡◌, ◌+◌, max, arith}
use Rattle.lru_core.proofs.lru_unit.raised.Goals as goal

pub returns-in-Some : goal.returns-in-Some
returns-in-Some c =
    let a = c.max.ensures in
    let b = c.min.ensures in
    let s = c.saturating_add.ensures in
    rw c.in-Some.is (omega arith, omega arith)

pub returns-in-None : goal.returns-in-None
returns-in-None c =
    let e : max c.args.old (c.args.old + c.args.delta) ≡ c.args.old + c.args.delta = omega arith in
    rw (c.in-None.is, e) c.checked_add.ensures
