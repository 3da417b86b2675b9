use Rattle.std.proofs.Common.{Some, inr, ap, ◌∙◌, rules, arith}
use Rattle.std.proofs.lemmas.Grind.{common_steps}
use Rattle.pingora_lru.proofs.Updated.{update_kept, updated_some, refused_bare}
use Rattle.pingora_lru.proofs.recorded.RecordedUnit.update_or_admit.Goals as goal

pub invariant_of-self-in-Ok : goal.invariant_of-self-in-Ok
invariant_of-self-in-Ok g c =
    let f = updated_some c.args.key c.self.inside.unit.rows c.update_or_admit-added.new.self.rows c.in-Ok.old c.in-Ok.new
    (λ n. let u = c.in-Ok.ensures.updated n in (u.2.0, u.2.1, u.2.2, u.2.3.0, u.1 ∙ ap (λ m. Some m) u.2.4, u.2.5, u.2.6))
    (λ e. let q = c.in-Ok.ensures.admitted e in (q.0, q.1, c.in-Ok.ensures.new e, q.3, q.4)) in
    rw (c.push_reserved.ensures.items, c.reserve.ensures.items)
    (update_kept c.self.inside.kept.items c.self.inside.unit.rows c.update_or_admit-added.new.self.rows c.args.key c.in-Ok.old c.in-Ok.new f.0 c.self.invariant f.1 f.2 f.3)

pub returns-in-Ok-clause-after : goal.returns-in-Ok-clause-after
returns-in-Ok-clause-after g c =
    let f = updated_some c.args.key c.self.inside.unit.rows c.update_or_admit-added.new.self.rows c.in-Ok.old c.in-Ok.new
    (λ n. let u = c.in-Ok.ensures.updated n in (u.2.0, u.2.1, u.2.2, u.2.3.0, u.1 ∙ ap (λ m. Some m) u.2.4, u.2.5, u.2.6))
    (λ e. let q = c.in-Ok.ensures.admitted e in (q.0, q.1, c.in-Ok.ensures.new e, q.3, q.4)) in
    rw (← c.self.view_is) (f.0, f.1)

pub invariant_of-self-in-Err : goal.invariant_of-self-in-Err
invariant_of-self-in-Err g c =
    let b = refused_bare c.args.key c.self.inside.unit.rows c.update_or_admit-added.new.self.rows
    (λ n. let r = c.in-Err.ensures.update_refused n in (r.1.0, r.1.1, r.1.3.0, r.1.5)) (λ e. ap (λ u. u.rows) (c.in-Err.ensures.same e)) in
    rw (c.reserve.ensures.items, b) c.self.invariant

pub returns-in-Err-clause-err : goal.returns-in-Err-clause-err
returns-in-Err-clause-err g c =
    let b = refused_bare c.args.key c.self.inside.unit.rows c.update_or_admit-added.new.self.rows
    (λ n. let r = c.in-Err.ensures.update_refused n in (r.1.0, r.1.1, r.1.3.0, r.1.5)) (λ e. ap (λ u. u.rows) (c.in-Err.ensures.same e)) in
    rw (← c.self.view_is) (b, c.reserve.ensures.items)

pub returns-in-Ok-clause-updated : goal.returns-in-Ok-clause-updated
returns-in-Ok-clause-updated g c = rw (← c.self.view_is) c.in-Ok.ensures.updated

pub returns-in-Err-clause-update_refused : goal.returns-in-Err-clause-update_refused
returns-in-Err-clause-update_refused g c = rw (← c.self.view_is) (λ n. inr (c.in-Err.ensures.update_refused n))

pub returns-in-Ok-clause-kept : goal.returns-in-Ok-clause-kept
returns-in-Ok-clause-kept g c = first_of (search rules, grind (arith, common_steps))
