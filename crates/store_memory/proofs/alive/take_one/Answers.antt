use Rattle.std.proofs.Common.{rules, sym}
use Rattle.store_memory.proofs.AliveLaws.{taken}
use Rattle.store_memory.proofs.alive.take_one.Goals as goal

pub returns-in-Some-clause-left : goal.returns-in-Some-clause-left
returns-in-Some-clause-left g c r =
    taken c.args.alive.now (c.get_mut.follows.lender c.take_out.new.self) c.args.key.now c.args.number c.in-Some.numbers.now c.take_out.new.self (sym (rw c.new.ensures at c.in-Some.ensures.value))
    (rw c.new.ensures at ((c.get_mut.follows.holds c.take_out.new.self).3 (search rules)).0) (c.take_out.ensures.left r)
