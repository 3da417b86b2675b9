use Rattle.std.proofs.Common.{arith}
use Rattle.std.proofs.lemmas.List.{length_push}
use Rattle.tier_recorded.specs.Seats.{stranger}
use Rattle.tier_recorded.proofs.SeatLaws.{seated-seat}
use Rattle.tier_recorded.proofs.recorded.Recorded.pass.Goals as goal

pub invariant_of-self : goal.invariant_of-self
invariant_of-self g c = rw c.in_default.ensures.items c.self.invariant

pub invariant_of-self-2 : goal.invariant_of-self-2
invariant_of-self-2 g c =
    let longer = length_push c.self.inside.seats.items stranger in
    rw (c.push_reserved.ensures.items, c.in-Ok.ensures.items) (
      c.self.invariant.0,
      c.self.invariant.1,
      seated-seat _ _ _ c.self.invariant.2,
      c.self.invariant.3,
      omega (arith, longer, c.split_off-share.ensures.parts_left, c.self.invariant.4),
      omega (arith, c.split_off-share.ensures.amount_left, c.self.invariant.5),
      c.self.invariant.6,
    )
