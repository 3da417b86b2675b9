use Rattle.head_parse.proofs.ReadingLaws.{begins-more}
use Rattle.head_parse.proofs.head.waits_with_a_line_more.Goals as goal

pub returns-in-Ok-Partial : goal.returns-in-Ok-Partial
returns-in-Ok-Partial c = λ _.
    (rw c.in-Ok-Partial.field-0-is at c.in-Ok-Partial.ensures.partial, begins-more c.args.bytes.now (rw c.in-Ok-Partial.field-0-is at c.in-Ok-Partial.ensures.unfinished))
