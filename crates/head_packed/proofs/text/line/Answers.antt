use Rattle.head_packed.proofs.TextLaws.{line-read}
use Rattle.head_packed.proofs.text.line.Goals as goal

pub returns-clause-read : goal.returns-clause-read
returns-clause-read c = λ field rest plain is.
    let line = c.in-Some.ensures.line field rest plain is in
    line-read field rest c.args.text.now c.in-Some.field-0.colon c.in-Some.field-0.end c.in-Ok.name c.in-Ok-from_bytes.value plain is line.0 line.1 c.in-Ok.ensures.ok c.in-Ok-from_bytes.ensures.ok
