use Rattle.std.proofs.Common.{◌≡◌, Err, rules, sym, subst, All}
use Rattle.head_lines.specs.Lines.{IsLine}
use Rattle.head_parse.specs.Heads.{HasFieldValue}
use Rattle.head_parse.specs.declared.head.HeadFault.TheVariants.{Bounds}
use Rattle.head_parse.proofs.HeadLaws.{few-fields, values-valid, out-by-lines, out-by-status, whole-head}
use Rattle.head_parse.proofs.ReadingLaws.{begins-more}
use Rattle.head_parse.proofs.head.read_into.Goals as goal

pub collect-requires-clause-valid : goal.collect-requires-clause-valid
collect-requires-clause-valid c =
    let at = rw c.in-Ok-Complete.field-0-is at c.in-Ok-Complete.ensures.complete in
    subst (All HasFieldValue) (sym at.1.fields) (values-valid at.0.fields at.1.reads.0.fields)

pub returns-in_err-status-in-Ok-Complete-clause-bounds : goal.returns-in_err-status-in-Ok-Complete-clause-bounds
returns-in_err-status-in-Ok-Complete-clause-bounds c e =
    let at = rw c.in-Ok-Complete.field-0-is at c.in-Ok-Complete.ensures.complete in
    let within = rw c.in-Ok-Complete.field-0-is at c.in-Ok-Complete.ensures.within in
    (at.0, _, at.1.reads, few-fields c.args.bytes.now c.parse_response.new.headers c.in-Ok-Complete.read.headers at.0.fields at.1.fields (search rules), out-by-status at.0 c.in-Ok-Complete.read.code at.1.code within.code c.in_err-status-in-Ok-Complete.ensures.err.1)

pub returns-in_err-collect-in-Ok-Complete-clause-bounds : goal.returns-in_err-collect-in-Ok-Complete-clause-bounds
returns-in_err-collect-in-Ok-Complete-clause-bounds c e =
    let was : c.collect.result ≡ Err Bounds = search rules in
    let at = rw c.in-Ok-Complete.field-0-is at c.in-Ok-Complete.ensures.complete in
    (at.0, _, at.1.reads, few-fields c.args.bytes.now c.parse_response.new.headers c.in-Ok-Complete.read.headers at.0.fields at.1.fields (search rules), out-by-lines c.args.bytes.now at.0 _ at.1.reads (λ all. c.collect.ensures.bounds was (subst (All IsLine) (sym at.1.fields) all)))

pub returns-in_ok-collect-in-Ok-Complete-clause-whole : goal.returns-in_ok-collect-in-Ok-Complete-clause-whole
returns-in_ok-collect-in-Ok-Complete-clause-whole c =
    let at = rw c.in-Ok-Complete.field-0-is at c.in-Ok-Complete.ensures.complete in
    whole-head c.args.bytes.now c.parse_response.new.headers c.in-Ok-Complete.read at.0 at.1 (search rules) c.in_ok-status-in-Ok-Complete.status c.collect.new.all c.in_ok-status-in-Ok-Complete.ensures.status c.in_ok-status-in-Ok-Complete.ensures.code c.in_ok-collect-in-Ok-Complete.ensures.value c.in_ok-collect-in-Ok-Complete.ensures.short

pub returns-in-Ok-Partial-clause-begun : goal.returns-in-Ok-Partial-clause-begun
returns-in-Ok-Partial-clause-begun c =
    (rw c.in-Ok-Partial.field-0-is at c.in-Ok-Partial.ensures.partial, begins-more c.args.bytes.now (rw c.in-Ok-Partial.field-0-is at c.in-Ok-Partial.ensures.unfinished))
