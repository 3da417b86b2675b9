use Rattle.std.proofs.Common.{◌≡◌, ◌+◌, sym, arith, max, rules}
use Rattle.lru_core.specs.Rows.{reweighed, capped}
use Rattle.lru_core.proofs.Filters.{single, weight-reweighed, incremented_there, moved}
use Rattle.lru_core.proofs.lru_unit.LruUnit.increment_weight.Goals as goal

pub returns-in_default-clause-heavy : goal.returns-in_default-clause-heavy
returns-in_default-clause-heavy g c back e =
    let s = c.in-Some.ensures.some in
    let i = incremented_there c.args.key c.args.delta c.args.max_weight c.self.inside.rows s.0 in
    let d = c.in_default.ensures in
    (cc, let r = c.self.ranges in rw (← c.self.view_is, i, s.1) (omega (arith, d)))

pub returns-then-weight-self-clause-heavy : goal.returns-then-weight-self-clause-heavy
returns-then-weight-self-clause-heavy g c back e =
    let s = c.in-Some.ensures.some in
    let i = incremented_there c.args.key c.args.delta c.args.max_weight c.self.inside.rows s.0 in
    let w : c.in-Some-raised.weight ≡ max c.in-Some.old (capped c.args.max_weight (c.in-Some.old + c.args.delta)) = sym (sym (c.in-Some-raised.ensures.1)) in
    let v = c.self.invariant in
    (cc, rw (← c.self.view_is, i, s.1, ← w) (omega (arith, v.0, v.1, s.2)))

pub invariant_of-self : goal.invariant_of-self
invariant_of-self g c =
    let r = single _ _ c.reweigh.ensures.value in
    let q = weight-reweighed c.args.key c.in-Some-raised.weight r.0 c.self.inside.rows r.1 in
    let m = moved c.args.key (reweighed c.args.key c.in-Some-raised.weight c.self.inside.rows) in
    let v = c.self.invariant in
    let s = c.in-Some.ensures.some in
    rw (c.promote.ensures.after, c.reweigh.ensures.after, m.0, m.1, q.0, q.1) (omega (arith, v.0, s.2), omega (arith, v.0, s.2), v.2)

pub returns-else-weight-self-clause-raised : goal.returns-else-weight-self-clause-raised
returns-else-weight-self-clause-raised g c = search rules
