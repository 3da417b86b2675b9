use Rattle.std.proofs.Common.{◌≡◌, ap, sym, refl, ◌∙◌, arith, max}
use Rattle.lru_core.specs.Rows.{others}
use Rattle.lru_core.proofs.Filters.{one_row}
use Rattle.lru_core.proofs.Updating.{put_there, weight-put, updated_first, weight-updated}
use Rattle.lru_core.proofs.lru_unit.LruUnit.update_or_admit.Goals as goal

pub invariant_of-self : goal.invariant_of-self
invariant_of-self g c =
    let u = c.update.ensures in
    let o = one_row c.args.key c.self.inside.rows u.0 u.2 in
    let q = weight-put c.args.key u.0.weight u.1 u.0 c.self.inside.rows u.2 in
    let v = c.self.invariant in
    rw (u.4, q.0, q.1) (omega (arith, v.0, o.2), v.1, v.2)

pub returns-then-weight-self-clause-update_refused : goal.returns-then-weight-self-clause-update_refused
returns-then-weight-self-clause-update_refused g c n =
    let u = c.update.ensures in
    let s = c.in-Some.ensures.some in
    let m = c.max-weight.ensures in
    let t = c.if-weight-self.true in
    let v = c.self.invariant in
    (refl, (u.0, u.1, c.update.result, (rw (← c.self.view_is) u.2, u.3), rw (← c.self.view_is) (omega (arith, v.0, v.1, s.2, m, t)), rw (u.4, ← c.self.view_is) refl))

pub reweigh-requires : goal.reweigh-requires
reweigh-requires g c e =
    let u = c.update.ensures in
    let p = put_there c.args.key u.0.weight u.1 u.0 c.self.inside.rows u.2 in
    let f = rw u.4 at e in
    let x = sym p ∙ f in
    cc

pub invariant_of-self-in-Some : goal.invariant_of-self-in-Some
invariant_of-self-in-Some g c =
    let u = c.update.ensures in
    let s = c.in-Some.ensures.some in
    let q = weight-updated c.args.key u.0.weight c.max-weight.result u.1 u.0 c.self.inside.rows u.2 in
    let v = c.self.invariant in
    let t = c.if-weight-self.false in
    rw (c.promote.ensures.after, c.reweigh.ensures.after, u.4, q.0, q.1) (omega (arith, v.0, s.2), omega (arith, v.0, v.1, s.2, t), v.2)

pub returns-in-Some-clause-updated : goal.returns-in-Some-clause-updated
returns-in-Some-clause-updated g c n =
    let u = c.update.ensures in
    let s = c.in-Some.ensures.some in
    let o = one_row c.args.key c.self.inside.rows u.0 u.2 in
    let m : c.max-weight.result ≡ max 1 c.update.result = omega (arith, c.max-weight.ensures) in
    let r : c.in-Some.old ≡ u.0.weight = sym s.1 ∙ o.1 in
    let f = updated_first c.args.key u.0.weight c.max-weight.result u.1 u.0 c.self.inside.rows u.2 in (
      c.in-Some.old,
      refl,
      (u.0, u.1, c.update.result, (rw (← c.self.view_is) u.2, u.3), r, m, rw (c.promote.ensures.after, c.reweigh.ensures.after, u.4, f, m, ← c.self.view_is) refl),
    )

pub returns-in-Ok-clause-admitted : goal.returns-in-Ok-clause-admitted
returns-in-Ok-clause-admitted g c n =
    let a = c.in-Ok.ensures.after in
    let m : c.max.result ≡ max 1 c.admit_data-item.result.1 = omega (arith, c.max.ensures) in
    let o : others c.args.key c.args.self.now.rows ≡ c.args.self.now.rows = rw (← c.self.view_is) c.in-None.ensures.none.1 in
    (c.admit_data-item.result.0, c.admit_data-item.result.1, c.admit_data-item.ensures, m, ap (λ u. u.rows) a ∙ rw (o, ← c.self.view_is) refl)
