use Rattle.std.proofs.Common.{Err, ap, ◌∙◌}
use Rattle.std.proofs.lemmas.Result.{IfOk-weaker}
use Rattle.head_parse.proofs.HeadLaws.{front-whole, front-out, front-long}
use Rattle.head_parse.proofs.front.read_front.Goals as goal

pub returns-in-Ok-Some : goal.returns-in-Ok-Some
returns-in-Ok-Some c =
    let within = rw c.in-Ok-Some.field-0-is at c.in-Ok-Some.ensures.within in
    let whole = rw c.in-Ok-Some.field-0-is at c.in-Ok-Some.ensures.whole in
    rw c.in-Ok-Some.field-0-is (front-whole c.args.bytes.now c.in-Ok-Some.head within whole)

pub returns-in-Err-Bounds : goal.returns-in-Err-Bounds
returns-in-Err-Bounds c = front-out c.args.bytes.now (c.read_plainly.ensures.bounds (c.in-Err-Bounds.is ∙ ap (λ f. Err f) c.in-Err-Bounds.field-0-is))

pub returns-in-Err-TooLong : goal.returns-in-Err-TooLong
returns-in-Err-TooLong c =
    let over = c.read_plainly.ensures.long (c.in-Err-TooLong.is ∙ ap (λ f. Err f) c.in-Err-TooLong.field-0-is) in
    IfOk-weaker c.front_too_long.result _ _ (λ front is. front-long c.args.bytes.now front over is) c.front_too_long.ensures
