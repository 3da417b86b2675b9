use Rattle.rules_fields.specs.Types.{chosen}
use Rattle.rules_quick.proofs.ResponseLaw.{law}
use Rattle.rules_quick.proofs.response.read_behind.Goals as goal

pub returns-in-Some-2 : goal.returns-in-Some-2
returns-in-Some-2 c =
    let walked = rw c.in-Some.is at c.in_ok-at.ensures.walked in
    let over = rw c.in-Some.is at c.in_ok-at.ensures.over in
    let end = rw c.in-Some-2.is at c.in_ok-shape.ensures in
    law c.args.bytes.now c.args.start.row.now c.args.start.lines.now _ c.args.start.minor c.args.start.status c.args.date (chosen c.args.options.now) _ _ c.in-Some-2.shape
    c.requires.come c.requires.status c.requires.last c.in_ok-text.ensures.items walked over.0 over.1 end
