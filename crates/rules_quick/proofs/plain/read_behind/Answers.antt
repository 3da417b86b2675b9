use Rattle.rules_fields.specs.Types.{chosen}
use Rattle.rules_quick.proofs.Law.{law}
use Rattle.rules_quick.proofs.plain.read_behind.Goals as goal

pub returns-in-Some-2 : goal.returns-in-Some-2
returns-in-Some-2 c =
    let o = chosen c.args.options.now in
    let walked = rw c.in-Some.is at c.in_ok-at.ensures.walked in
    let over = rw c.in-Some.is at c.in_ok-at.ensures.over in
    let end = rw c.in-Some-2.is at c.in_ok-shape.ensures in
    law c.args.bytes.now c.args.front o c.in_ok-ends.ends _ _ _ _ _ c.in-Some.at _ c.in-Some-2.shape c.requires.front c.in_ok-ends.ensures.ends c.in_ok-ends.ensures.text
    c.new-asked.ensures.items walked over.0 over.1 c.as_slice.ensures.value end c.requires.room
