use Rattle.tier_served.proofs.Readers.{went-same}
use Rattle.tier_served.proofs.laws.look_ups_leave_the_shelf.Goals as goal

pub returns : goal.returns
returns c = went-same
