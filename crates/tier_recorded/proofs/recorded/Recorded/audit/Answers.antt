use Rattle.std.proofs.Common.{◌≡◌, length, arith, sym, ◌∙◌}
use Rattle.tier_recorded.proofs.MarkLaws.{closed-callers, closed-strangers}
use Rattle.tier_recorded.proofs.recorded.Recorded.audit.Goals as goal

pub invariant_of-self : goal.invariant_of-self
invariant_of-self g c = (
  c.self.invariant.0,
  c.self.invariant.1,
  c.self.invariant.2,
  c.audit.ensures.total ∙ c.self.invariant.3,
  omega (arith, c.audit.ensures.parts, c.self.invariant.4),
  c.audit.ensures.amount ∙ c.self.invariant.5,
  c.self.invariant.6,
)

pub returns-clause-closed : goal.returns-clause-closed
returns-clause-closed g c =
    let all : length c.self.inside.gathered.items ≡ length c.self.inside.seats.items = rw (← c.self.view_is) at c.requires in
    let parts : c.self.inside.owner.parts ≡ g.L.Ledger.parts = omega (arith, all, c.self.invariant.4, c.self.invariant.6) in
    record {
      callers = closed-callers c.self.inside.seats.items c.self.inside.gathered.items c.self.inside.history.items c.self.invariant.2 all;
      strangers = closed-strangers c.self.inside.seats.items c.self.inside.gathered.items c.self.inside.history.items c.self.invariant.2;
      total_is = sym c.self.invariant.3 ∙ sym (c.audit.ensures.whole parts) ∙ c.self.invariant.5;
    }

pub returns-clause-replayed : goal.returns-clause-replayed
returns-clause-replayed g c = c.self.invariant.0

pub returns-clause-turns : goal.returns-clause-turns
returns-clause-turns g c = c.self.invariant.1
