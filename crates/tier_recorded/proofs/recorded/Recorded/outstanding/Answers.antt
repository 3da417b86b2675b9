use Rattle.std.proofs.Common.{arith}
use Rattle.tier_recorded.proofs.MarkLaws.{gathered-most}
use Rattle.tier_recorded.proofs.recorded.Recorded.outstanding.Goals as goal

pub overflow_sub-result : goal.overflow_sub-result
overflow_sub-result g c =
    let most = gathered-most c.self.inside.seats.items c.self.inside.gathered.items c.self.inside.history.items c.self.invariant.2 in
    omega (arith, most, c.len.ensures, c.len-2.ensures, c.self.inside.seats.ok.0, c.self.inside.gathered.ok.0)

pub returns : goal.returns
returns g c =
    let most = gathered-most c.self.inside.seats.items c.self.inside.gathered.items c.self.inside.history.items c.self.invariant.2 in
    rw (← c.self.view_is) (omega (arith, most, c.len.ensures, c.len-2.ensures, c.self.inside.seats.ok.0, c.self.inside.gathered.ok.0))
