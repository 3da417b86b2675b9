use Rattle.std.proofs.Common.{arith, sym, rules}
use Rattle.lru_core.proofs.Filters.{others_all, one_row}
use Rattle.lru_core.proofs.lru_unit.LruUnit.remove.Goals as goal

pub invariant_of-self : goal.invariant_of-self
invariant_of-self g c = rw (c.remove.ensures.after, others_all c.args.key c.self.inside.rows (sym c.in_err-item.ensures.value)) c.self.invariant

pub overflow_sub-self : goal.overflow_sub-self
overflow_sub-self g c =
    let o = one_row c.args.key c.self.inside.rows c.in_ok-item.field-0 (sym c.in_ok-item.ensures.value) in
    let v = c.self.invariant in
    omega (arith, o.2, v.0)

pub invariant_of-self-2 : goal.invariant_of-self-2
invariant_of-self-2 g c =
    let o = one_row c.args.key c.self.inside.rows c.in_ok-item.field-0 (sym c.in_ok-item.ensures.value) in
    let v = c.self.invariant in
    rw c.remove.ensures.after (omega (arith, o.2, v.0), omega (arith, o.2, v.0, v.1), omega (arith, o.3, v.2))

pub returns-clause-value : goal.returns-clause-value
returns-clause-value g c = search rules
