use Rattle.std.proofs.Common.{ap, ◌∙◌, subst, sym}
use Rattle.std.specs.Prelude.{drop}
use Rattle.head_parse.specs.Response.{Gives}
use Rattle.head_parse.specs.Heads.{parsed_by_header}
use Rattle.head_parse.proofs.HeadLaws.{Gives-header, Gives-begun, Gives-bad}
use Rattle.head_parse.proofs.read.read_response.Goals as goal

pub returns-in-Found : goal.returns-in-Found
returns-in-Found c =
    let front = rw (c.in-Found.is, c.as_slice.ensures) at c.in_ok-head.ensures in
    subst (Gives c.args.bytes) (sym (c.parsed_by_header.ensures ∙ ap (parsed_by_header c.in-Found.head.header) c.advance.ensures))
    (Gives-header c.args.bytes c.in-Found.head.header (drop c.in-Found.head.len c.args.bytes) front.1)

pub returns-in-Refused : goal.returns-in-Refused
returns-in-Refused c =
    let front = rw (c.in-Refused.is, c.as_slice.ensures) at c.in_ok-head.ensures in
    Gives-bad c.args.bytes front

pub returns-in-Begun : goal.returns-in-Begun
returns-in-Begun c =
    let front = rw (c.in-Begun.is, c.as_slice.ensures) at c.in_ok-head.ensures in
    Gives-begun c.args.bytes front
