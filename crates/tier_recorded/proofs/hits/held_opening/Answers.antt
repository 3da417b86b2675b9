use Rattle.std.proofs.Common.{◌≡◌}
use Rattle.tier_recorded.proofs.hits.held_opening.Goals as goal

pub returns-in-Ok : goal.returns-in-Ok
returns-in-Ok c =
    let same : c.in-Ok.key ≡ c.args.key.now = c.in-Ok.ensures.cases in
    rw same at c.held.ensures
