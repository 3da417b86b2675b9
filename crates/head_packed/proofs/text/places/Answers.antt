use Rattle.std.proofs.Common.{◌≡◌, ◌+◌, length, arith}
use Rattle.std.proofs.lemmas.List.{take_rest}
use Rattle.head_packed.proofs.TextLaws.{colon-at, end-at}
use Rattle.head_packed.proofs.text.places.Goals as goal

pub returns-clause-line : goal.returns-clause-line
returns-clause-line c = λ field rest plain is.
    let text = c.args.text.now in
    let colon : c.in_ok-colon.colon ≡ length field.0 = colon-at field rest text c.in_ok-colon.colon plain is c.in_ok-colon.ensures in
    let end : c.in_ok-end.field-0 ≡ length field.1.bytes =
    end-at field rest text _ c.in_ok-colon.colon c.in_ok-end.field-0 plain is colon (take_rest text (c.in_ok-colon.colon + 2)) c.in_ok-end.ensures in
    (colon, omega (arith, colon, end))
