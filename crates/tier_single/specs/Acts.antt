-- One event: it is a call that the state allows, and the state after it is the call's.
use Rattle.std.specs.Prelude.{◌≡◌}
use Rattle.cache_words.specs.Time.{MomentValue}
use Rattle.rand_core.specs.Stream.{Stream}
use Rattle.tier_model.specs.declared.event.Action.{Action}
use Rattle.tier_model.specs.declared.event.Event.{Event}
use Rattle.tier_model.specs.Calls.{Call, Outcome}
use Rattle.tier_model.specs.State.{State}
use Rattle.tier_model.specs.Step.{Allows}
use Rattle.tier_model.specs.After.{after}
use Rattle.tier_single.specs.Draws.{AreDrawn, evicts_from}

-- an action was taken at a moment
abbrev pub Took : State → MomentValue → Action → Outcome → State → Type 0
Took old t action o new = (c : Call) × (c.event ≡ record { moment = t; action = action }) × (c.outcome ≡ o) × Allows old c × (new ≡ after old c)

-- one event was taken, with its outcome, and with it the words from s to rest: its call
abbrev pub StepsBy : State → Stream → Event → Outcome → State → Stream → Type 0
StepsBy old s e o new rest = (c : Call) × (c.event ≡ e) × (c.outcome ≡ o) × Allows old c × (new ≡ after old c) × AreDrawn old (evicts_from old c) c.outcome s rest
