use Rattle.tier_laws.proofs.Alone.{stores-finished, body-stays, body-unconfirmed}
use Rattle.tier_laws.proofs.keys.what_is_stored_stays.Goals as goal

pub returns-clause-stored : goal.returns-clause-stored
returns-clause-stored c = λ s used loaded h call k size evicted right key o none. stores-finished s used loaded h call k size evicted right key o none

pub returns-clause-stays : goal.returns-clause-stays
returns-clause-stays c = λ s used loaded since h k w right is all. (body-stays s used loaded since h k w right is all, λ none. body-unconfirmed s used loaded since h k w right is all none)
