use Rattle.std.proofs.Common.{rules, sym}
use Rattle.store_memory.proofs.ReadLaws.{left-here, left-nowhere}
use Rattle.store_memory.proofs.readers.left_of.Goals as goal

pub returns-in-Some : goal.returns-in-Some
returns-in-Some c = let left = left-here c.args.number c.in-Some.reading.now c.args.readers.now (sym c.in-Some.ensures.value) in search rules

pub returns-in-None : goal.returns-in-None
returns-in-None c = sym (left-nowhere c.args.number c.args.readers.now (sym c.in-None.ensures.value))
