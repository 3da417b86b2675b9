-- How a wait for another's fetch ends.
use Rattle.std.specs.Prelude.{◌≡◌, not, is_some, Option, Some, None}
use Rattle.rand_core.specs.Stream.{Stream}
use Rattle.cache_lock.specs.declared.status.LockStatus.{LockStatus}
use Rattle.tier_model.specs.declared.event.Action.{Action}
use Rattle.tier_model.specs.declared.event.Answer.{Answer}
use Rattle.tier_model.specs.declared.event.Answer.TheVariants.{Waited}
use Rattle.tier_model.specs.Calls.{Outcome}
use Rattle.rules_ffi_arguments.specs.declared.shapes.Moment.{Moment}
use Rattle.rules_ffi_arguments.specs.Moments.{nanoseconds_of}
use Rattle.gateway_types.specs.declared.waits.Ended.{Ended}
use Rattle.gateway_types.specs.declared.waits.WaitVerdict.{WaitVerdict}
use Rattle.gateway_rows.specs.Waits.{wait_row}
use Rattle.gateway_rules.specs.Moments.{of_tier}
use Rattle.gateway_steps.specs.Questions.{wait_of}
use Rattle.gateway_steps.specs.Steps.{ends_wait}
use Rattle.gateway_state.specs.AtTier.{answer_in, TakesAt}
use Rattle.gateway_exchanges.specs.declared.exchange.Exchange.{Exchange}
use Rattle.gateway_state.specs.declared.state.Gateway.{Gateway}

-- how the tier says that a wait ended
abbrev pub ended_of : LockStatus → Option Ended
ended_of LockStatus.Waiting = None
ended_of LockStatus.Done = Some Ended.Done
ended_of LockStatus.TransientError = Some Ended.TransientError
ended_of LockStatus.GiveUp = Some Ended.GiveUp
ended_of LockStatus.Dangling = Some Ended.Dangling
ended_of LockStatus.WaitTimeout = Some Ended.WaitTimeout
ended_of LockStatus.AgeTimeout = Some Ended.AgeTimeout

-- by its answer, where it gave one
abbrev pub ended_in : Option Answer → Option Ended
ended_in (Some (Waited (Some status))) = ended_of status
ended_in _ = None

-- the tier was asked how a wait stands, by the words from s to left, and by that its row says what becomes of it
pub record AsksOfWait (now : Moment) (s left : Stream) (old new : Gateway) (e asked : Exchange) (does : WaitVerdict) : Type 0 where
  pub outcome : Outcome
  pub taken : TakesAt (of_tier now) (Action.Poll e.x) s left old.tier outcome new.tier
  pub row : does ≡ wait_row (wait_of (nanoseconds_of now) old.timeouts (is_some e.shares) (not (is_some (answer_in outcome))) (ended_in (answer_in outcome)) e.steps.state)
  pub state : asked.steps.state ≡ ends_wait does e.steps.state
  pub rest : asked ≡ record e { steps = asked.steps }
