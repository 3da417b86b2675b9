use Rattle.store_memory.proofs.FlightLaws.{changes_nothing}
use Rattle.store_memory.proofs.flights.append.Goals as goal

pub returns-in-None-clause-err : goal.returns-in-None-clause-err
returns-in-None-clause-err c = changes_nothing c.args.number c.args.flights.now

pub returns-in-Some-clause-err : goal.returns-in-Some-clause-err
returns-in-Some-clause-err c = changes_nothing c.args.number c.args.flights.now
