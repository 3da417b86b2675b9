use Rattle.std.proofs.Common.{refl, ap, rules, arith}
use Rattle.std.proofs.lemmas.Grind.{common_steps}
use Rattle.pingora_lru.proofs.Present.{raised_reply}
use Rattle.pingora_lru.proofs.Updated.{increment_kept, weighed_some}
use Rattle.pingora_lru.proofs.recorded.RecordedUnit.increment_weight.Goals as goal

pub invariant_of-self-2 : goal.invariant_of-self-2
invariant_of-self-2 g c =
    let v = raised_reply c.args.key c.args.delta c.args.max_weight c.self.inside.unit.rows c.in_ok-old.old c.in_ok-old.new c.in_ok-old.absent c.in_ok-old.ensures.raised c.in_ok-old.ensures.new in
    let w = weighed_some c.args.key c.in_ok-old.new c.self.inside.unit.rows c.increment_weight-added.new.self.rows (λ n. ap (λ u. u.rows) (c.in_ok-old.ensures.moved n))
    (λ e. let p = c.in_ok-old.ensures.admitted e in (p.0, ap (λ u. u.rows) p.2)) in
    rw (c.push_reserved.ensures.items, c.reserve.ensures.items)
    (increment_kept c.self.inside.kept.items c.self.inside.unit.rows c.increment_weight-added.new.self.rows c.args.key c.args.delta c.args.max_weight c.in_ok-old.old c.in_ok-old.new c.in_ok-old.absent w.0
    c.self.invariant w.1 v.1 v.0 v.2)

pub returns-clause-reply : goal.returns-clause-reply
returns-clause-reply g c =
    let v = raised_reply c.args.key c.args.delta c.args.max_weight c.self.inside.unit.rows c.in_ok-old.old c.in_ok-old.new c.in_ok-old.absent c.in_ok-old.ensures.raised c.in_ok-old.ensures.new in
    rw (← c.self.view_is, v.0, v.1, v.2) refl

pub returns-clause-after : goal.returns-clause-after
returns-clause-after g c =
    rw (← c.self.view_is) (weighed_some c.args.key c.in_ok-old.new c.self.inside.unit.rows c.increment_weight-added.new.self.rows (λ n. ap (λ u. u.rows) (c.in_ok-old.ensures.moved n))
    (λ e. let p = c.in_ok-old.ensures.admitted e in (p.0, ap (λ u. u.rows) p.2)))

pub returns-clause-kept : goal.returns-clause-kept
returns-clause-kept g c = first_of (search rules, grind (arith, common_steps))
