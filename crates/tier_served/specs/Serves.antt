-- A request that was served.
use Rattle.std.specs.Prelude.{Result}
use Rattle.rand_core.specs.Stream.{Stream}
use Rattle.tier_model.specs.declared.event.TierFault.{TierFault}
use Rattle.tier_model.specs.State.{State}
use Rattle.tier_served.specs.Courses.{TakesBy}
use Rattle.tier_served.specs.Leaves.{Leaves}
use Rattle.tier_served.specs.declared.request.Request.{Request}
use Rattle.tier_served.specs.declared.request.Served.{Served}

-- what was answered, and the new state, are those of the request's events, which took the words from s to rest
pub record Serves (old : State) (s : Stream) (r : Request) (told : Result Served TierFault) (new : State) (rest : Stream) : Type 0 where
  pub events : TakesBy r.method old s r.moment r.key told new rest
  pub leaves : Leaves old r told new
