use Rattle.std.proofs.Common.{rules}
use Rattle.head_parse.proofs.HeadLaws.{some-head}
use Rattle.head_parse.proofs.lenient.read_leniently.Goals as goal

pub returns-in_ok-headers-in-Ok-Complete-clause-head : goal.returns-in_ok-headers-in-Ok-Complete-clause-head
returns-in_ok-headers-in-Ok-Complete-clause-head c =
    let within = rw c.in-Ok-Complete.field-0-is at c.in-Ok-Complete.ensures.within in
    some-head c.args.bytes.now c.parse_response_spans.new.headers c.in-Ok-Complete.read.headers c.in-Ok-Complete.read.len c.in_ok-status-in-Ok-Complete.status c.in_ok-code.code c.in_ok-headers-in-Ok-Complete.headers within.section (search rules) c.in_ok-code.ensures c.in_ok-status-in-Ok-Complete.ensures.status c.in_ok-status-in-Ok-Complete.ensures.code c.in_ok-headers-in-Ok-Complete.ensures.value c.in_ok-headers-in-Ok-Complete.ensures.short
