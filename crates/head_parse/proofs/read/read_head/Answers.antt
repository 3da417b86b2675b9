use Rattle.std.proofs.Common.{arith, drop, length-drop}
use Rattle.head_parse.proofs.HeadLaws.{exact-head, longer-head, bad-head}
use Rattle.head_parse.proofs.read.read_head.Goals as goal

pub returns-then-head-bytes-clause-bad : goal.returns-then-head-bytes-clause-bad
returns-then-head-bytes-clause-bad c = λ _.
    let front = rw c.in-Found.is at c.in_ok-head.ensures in
    longer-head c.args.bytes.now c.in-Found.head.header (drop c.in-Found.head.len c.args.bytes.now) (omega (arith, c.if-head-bytes.true, length-drop c.in-Found.head.len c.args.bytes.now)) front.1

pub returns-else-head-bytes-clause-head : goal.returns-else-head-bytes-clause-head
returns-else-head-bytes-clause-head c =
    let front = rw c.in-Found.is at c.in_ok-head.ensures in
    exact-head c.args.bytes.now c.in-Found.head.header (drop c.in-Found.head.len c.args.bytes.now) (omega (arith, c.if-head-bytes.false, length-drop c.in-Found.head.len c.args.bytes.now)) front.1

pub returns-in-Refused-clause-bad : goal.returns-in-Refused-clause-bad
returns-in-Refused-clause-bad c = λ _. bad-head c.args.bytes.now (rw c.in-Refused.is at c.in_ok-head.ensures)
