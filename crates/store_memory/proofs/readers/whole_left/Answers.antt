use Rattle.std.proofs.Common.{sym}
use Rattle.store_memory.proofs.EndLaws.{no-readers, left-nothing, left-more, left-read}
use Rattle.store_memory.proofs.readers.whole_left.Goals as goal

pub returns-in_default : goal.returns-in_default
returns-in_default c = sym (no-readers c.args.number c.args.place c.args.readers.now (sym c.in_default.ensures.value))

pub returns-then-place-len : goal.returns-then-place-len
returns-then-place-len c =
    sym (left-more c.args.number c.args.place c.args.readers.now c.in-Some.reading.now c.in-Some-left.buffer (sym c.in-Some.ensures.value) c.in-Some-left.is (rw c.len.ensures at c.if-place-len.true))

pub returns-else-place-len : goal.returns-else-place-len
returns-else-place-len c =
    sym (left-read c.args.number c.args.place c.args.readers.now c.in-Some.reading.now c.in-Some-left.buffer (sym c.in-Some.ensures.value) c.in-Some-left.is (rw c.len.ensures at c.if-place-len.false))

pub returns-in-None : goal.returns-in-None
returns-in-None c = sym (left-nothing c.args.number c.args.place c.args.readers.now c.in-Some.reading.now (sym c.in-Some.ensures.value) c.in-None.is)
