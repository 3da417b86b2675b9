-- What the tier says of the events that it took: the main theorem.
use Rattle.std.specs.Prelude.{◌+◌, List}
use Rattle.rand_core.specs.Stream.{Stream}
use Rattle.tier_model.specs.declared.event.Event.{Event}
use Rattle.tier_model.specs.Calls.{Call, History, Outcome, AreCallsOf, extended}
use Rattle.tier_model.specs.Histories.{Opening}
use Rattle.tier_model.specs.State.{State}
use Rattle.tier_model.specs.Past.{HasPast, AreTaken, CarriesPast}
use Rattle.tier_promise.specs.Promise.{Promise, WereDrawn, now_of}
use Rattle.tier_promise.specs.Draws.{AreAllDrawn}

-- the promise holds of every past that the tier may have had, with these calls after it
abbrev pub CarriesPromise : State → List Call → Type 0
CarriesPromise old calls = (start : Opening) (past : History) → HasPast start old past → Promise start.settings (start.first + start.first_core) start.loaded (extended past calls)

-- and after each such past the words from s to rest picked what went in these calls
abbrev pub CarriesDraws : State → List Call → Stream → Stream → Type 0
CarriesDraws old calls s rest = (start : Opening) (past : History) → HasPast start old past → WereDrawn start.settings (now_of start.settings start.loaded past) calls s rest

-- the events were taken in order, each with its outcome, and these are the calls: each is one that the state before it allows,
-- the promise holds of every past that the tier may have had with these calls after it, what they evicted was drawn by the words from s to rest,
-- and so the new state has each of these as its past
pub record Takes (old : State) (s : Stream) (events : List Event) (outcomes : List Outcome) (new : State) (rest : Stream) : Type 0 where
  pub calls : List Call
  pub are_of : AreCallsOf events outcomes calls
  pub taken : AreTaken old calls new
  pub drawn : AreAllDrawn old calls s rest
  pub promise : CarriesPromise old calls
  pub picked : CarriesDraws old calls s rest
  pub past : CarriesPast old calls new
