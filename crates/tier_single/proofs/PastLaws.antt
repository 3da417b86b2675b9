-- Some history leads to the state after each event, as to the one before it.
use Rattle.std.proofs.Common.{◌≡◌, ℕ, ◌∷◌}
use Rattle.std.specs.Prelude.{Option}
use Rattle.cache_words.specs.Time.{DurationValue}
use Rattle.rand_core.specs.Stream.{Stream}
use Rattle.tier_model.specs.declared.event.Event.{Event}
use Rattle.tier_model.specs.Calls.{Call, Outcome}
use Rattle.tier_model.specs.State.{State}
use Rattle.tier_model.specs.Step.{Allows}
use Rattle.tier_model.specs.After.{after}
use Rattle.tier_model.proofs.Carried.{more_past}
use Rattle.tier_single.specs.Acts.{StepsBy}
use Rattle.tier_single.specs.States.{HasAPastOf}

module _ (mark : Option ℕ) (age : DurationValue) where
  -- a call more
  pub HasAPast-call : (old : State) (c : Call) (new : State) → Allows old c → new ≡ after old c → HasAPastOf mark age old → HasAPastOf mark age new
  HasAPast-call old c new allowed is past = (past.0, c ∷ past.1, more_past past.0 old past.1 c new allowed is past.2, past.3, past.4)

  pub HasAPast-steps : (old : State) (s : Stream) (e : Event) (o : Outcome) (new : State) (rest : Stream) → HasAPastOf mark age old → StepsBy old s e o new rest → HasAPastOf mark age new
  HasAPast-steps old s e o new rest past step = HasAPast-call old step.0 new step.3 step.4 past
