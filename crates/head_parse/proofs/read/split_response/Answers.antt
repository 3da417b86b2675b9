use Rattle.std.proofs.Common.{ap, ◌∙◌, subst, sym}
use Rattle.std.specs.Prelude.{drop}
use Rattle.head_parse.specs.Response.{Splits}
use Rattle.head_parse.specs.declared.response.Split.TheVariants as split
use Rattle.head_parse.proofs.SplitLaws.{Splits-header, Splits-begun, Splits-bad}
use Rattle.head_parse.proofs.read.split_response.Goals as goal

pub returns-in-Found : goal.returns-in-Found
returns-in-Found c =
    let front = rw (c.in-Found.is, c.as_slice.ensures) at c.in_ok-head.ensures in
    subst (λ rest. Splits c.args.bytes (split.Head (record { header = c.in-Found.head.header; body = rest }))) (sym c.advance.ensures)
    (Splits-header c.args.bytes c.in-Found.head.header (drop c.in-Found.head.len c.args.bytes) front.1)

pub returns-in-Refused : goal.returns-in-Refused
returns-in-Refused c =
    let front = rw (c.in-Refused.is, c.as_slice.ensures) at c.in_ok-head.ensures in
    Splits-bad c.args.bytes front

pub returns-in-Begun : goal.returns-in-Begun
returns-in-Begun c =
    let front = rw (c.in-Begun.is, c.as_slice.ensures) at c.in_ok-head.ensures in
    Splits-begun c.args.bytes front
