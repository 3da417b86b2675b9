use Rattle.std.proofs.Common.{rules, sym}
use Rattle.store_memory.proofs.AliveLaws.{added, unchanged}
use Rattle.store_memory.proofs.alive.add.Goals as goal

pub returns-in-Ok-clause-ok : goal.returns-in-Ok-clause-ok
returns-in-Ok-clause-ok g c =
    added c.args.alive.now (c.get_mut.follows.lender c.add.new.self) c.args.key c.args.number c.in-Some.numbers.now c.add.new.self (sym (rw c.new.ensures at c.in-Some.ensures.value))
    (rw c.new.ensures at ((c.get_mut.follows.holds c.add.new.self).3 (search rules)).0) c.in-Ok.ensures.ok

pub returns-in-Err-clause-err : goal.returns-in-Err-clause-err
returns-in-Err-clause-err g c =
    unchanged c.args.alive.now (c.get_mut.follows.lender c.add.new.self) c.args.key c.args.number c.in-Some.numbers.now c.add.new.self (sym (rw c.new.ensures at c.in-Some.ensures.value))
    (rw c.new.ensures at ((c.get_mut.follows.holds c.add.new.self).3 (search rules)).0) c.in-Err.ensures.err
