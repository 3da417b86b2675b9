use Rattle.std.proofs.Common.{rules, arith}
use Rattle.std.proofs.lemmas.List.Sums.{sum_by-cons}
use Rattle.lru_core.specs.Rows.{others, a_row}
use Rattle.lru_core.proofs.lru_unit.LruUnit.admit.Goals as goal

pub invariant_of-self : goal.invariant_of-self
invariant_of-self g c =
    let v = c.self.invariant in
    let s = c.in-Some.ensures.some in
    let w = sum_by-cons (λ r. r.weight) (a_row c.args.key c.args.item c.max-weight.result) (others c.args.key c.self.inside.rows) in
    let t = c.if-weight-self.false in
    rw c.replace_first-gone.ensures.after (omega (arith, v.0, s.2, w), omega (arith, v.0, v.1, s.2, t), omega (arith, v.2, s.3))

pub returns-clause-after : goal.returns-clause-after
returns-clause-after g c = search rules
