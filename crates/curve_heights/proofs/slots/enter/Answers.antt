use Rattle.curve_heights.proofs.KeptLaws.{kept-entered, entered}
use Rattle.curve_heights.proofs.slots.enter.Goals as goal

pub returns-clause-kept : goal.returns-clause-kept
returns-clause-kept c = λ gaps k.
    rw c.add.ensures (kept-entered c.args.owners.now.items c.args.sums.now gaps c.args.slots.now.items c.args.next k c.args.entry c.args.weight c.requires.some c.requires.within c.requires.nowhere)

pub returns-clause-places : goal.returns-clause-places
returns-clause-places c =
    rw c.add.ensures (entered c.args.owners.now.items c.args.sums.now c.requires.kept.0 c.args.slots.now.items c.args.next c.requires.kept.1 c.args.entry c.args.weight c.requires.some c.requires.within)
