use Rattle.tier_laws.proofs.Alone.{let-alone}
use Rattle.tier_laws.proofs.keys.others_are_let_alone.Goals as goal

pub returns : goal.returns
returns c = λ s used loaded h call k right other l. let-alone s used loaded h call k right other c.args.evicted l
