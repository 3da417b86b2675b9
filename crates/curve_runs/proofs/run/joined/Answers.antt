use Rattle.curve_runs.proofs.RunLaws.{given-on, given-closed}
use Rattle.curve_runs.proofs.run.joined.Goals as goal

pub returns-then-last-next-clause-given : goal.returns-then-last-next-clause-given
returns-then-last-next-clause-given c = λ i. given-on i c.args.runs.now.items c.args.last c.args.next c.requires c.if-last-next.true

pub returns-clause-given : goal.returns-clause-given
returns-clause-given c = λ i. given-closed i c.close.new.runs.items c.args.runs.now.items c.args.last c.args.next c.in_ok-close.ensures
