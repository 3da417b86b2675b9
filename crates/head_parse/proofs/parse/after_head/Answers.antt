use Rattle.std.proofs.Common.{◌≡◌, [], rules}
use Rattle.head_parse.specs.Parse.{IsBad}
use Rattle.head_parse.proofs.ParseLaws.{ParserHolds-first-refused}
use Rattle.head_parse.proofs.parse.after_head.Goals as goal

pub returns-in-Refused-clause-next : goal.returns-in-Refused-clause-next
returns-in-Refused-clause-next c = λ bytes holds.
    let none : c.args.head.now ≡ [] = search rules in
    let bad : IsBad c.args.piece = rw (c.in-Refused.is, c.as_slice.ensures) at c.in_ok-read_front.ensures in
    ParserHolds-first-refused bytes c.args.piece c.args.head.now none holds.0 bad
