use Rattle.head_parse.proofs.HeadLaws.{front-lenient, front-refused}
use Rattle.head_parse.proofs.ReadingLaws.{never-has}
use Rattle.head_parse.proofs.front.front_leniently.Goals as goal

pub returns-in-Ok-Some : goal.returns-in-Ok-Some
returns-in-Ok-Some c =
    let some = rw c.in-Ok-Some.field-0-is at c.in-Ok-Some.ensures.head in
    front-lenient c.args.bytes.now c.in-Ok-Some.head c.requires some

pub returns-in-Ok-None : goal.returns-in-Ok-None
returns-in-Ok-None c = (never-has c.args.bytes.now c.requires, c.in-Ok-None.ensures.begins)

pub returns-in-Err : goal.returns-in-Err
returns-in-Err c = front-refused c.args.bytes.now c.requires
