use Rattle.std.proofs.Common.{ap, sym, refl, arith, Some}
use Rattle.lru_core.proofs.Filters.{single, weight-reweighed, reweighed_absent}
use Rattle.lru_core.proofs.lru_unit.LruUnit.set_weight.Goals as goal

pub returns-in_default-clause-after : goal.returns-in_default-clause-after
returns-in_default-clause-after g c =
    let n = c.in_default.ensures.none in
    rw (← c.self.view_is, reweighed_absent c.args.key c.args.weight c.self.inside.rows n.0) refl

pub invariant_of-self : goal.invariant_of-self
invariant_of-self g c =
    let r = single _ _ c.reweigh-before.ensures.value in
    let q = weight-reweighed c.args.key c.args.weight r.0 c.self.inside.rows r.1 in
    let v = c.self.invariant in
    let s = c.in-Some.ensures.some in
    rw (c.reweigh-before.ensures.after, q.0, q.1) (omega (arith, v.0, s.2), omega (arith, v.0, s.2), v.2)

pub returns-clause-before : goal.returns-clause-before
returns-clause-before g c =
    let r = single _ _ c.reweigh-before.ensures.value in
    rw (← c.self.view_is, r.1) (ap Some (sym r.2))
