-- What a purge does: of a key, and of all.
use Rattle.std.specs.Prelude.{◌≡◌, ℕ, Bool, true, ◌⊎◌, List, [], if◌then◌else◌, Option, Some, None}
use Rattle.std.specs.FinMap.{get}
use Rattle.lru.specs.LruCache.{lru_cache}
use Rattle.rules_ffi_arguments.specs.declared.shapes.Moment.{Moment}
use Rattle.tier_model.specs.declared.event.Action.{Action}
use Rattle.tier_model.specs.Calls.{Outcome}
use Rattle.tier_model.specs.State.{State}
use Rattle.gateway_rules.specs.Moments.{is_past}
use Rattle.gateway_state.specs.AtTier.{is_purged, key_with, TakesAnytime}
use Rattle.gateway_exchanges.specs.Replies.{blank_reply, reply_of, with_event, Reply}
use Rattle.gateway_exchanges.specs.Tables.{Exchanges}
use Rattle.gateway_exchanges.specs.declared.outs.Event.{Event}
use Rattle.gateway_exchanges.specs.declared.outs.Out.{Out}
use Rattle.gateway_exchanges.specs.declared.outs.Status.{Status}
use Rattle.gateway_state.specs.declared.state.Gateway.{Gateway}
use Rattle.gateway_tier.specs.Purges.{ArePurged, IsPurged}
use Rattle.gateway_tier.specs.Walks.{IsChangedInPlace}

-- ==== of a key

-- whether anything was there, as the tier says when it takes that purge
abbrev pub SaysPurged : List ℕ → State → Bool → Type 0
SaysPurged key tier found = (o : Outcome) × (t : State) × TakesAnytime (Action.Purge (key_with key)) tier o t × (found ≡ is_purged o)

-- what the tier says is told, and who is woken, unless there was no memory to say all
abbrev pub TellsPurge : List ℕ → State → Reply → Type 0
TellsPurge key tier r = SaysPurged key tier r.found × (r ≡ record (with_event (Event.Purged key) (blank_reply Status.Done)) { found = r.found; wakes = r.wakes })

-- those at the key meet the purge, and nobody else
pub record PurgesKey (key : List ℕ) (old new : Gateway) (out : Out) : Type 0 where
  pub each : ArePurged None key old.table new.table
  pub told : TellsPurge key old.tier (reply_of out) ⊎ ((reply_of out).status ≡ Status.Memory)

-- ==== of all

abbrev pub later_of : Moment → Moment → Moment
later_of m other = if is_past m other then m else other

-- now, or the latest moment at which the origin was asked, or what an earlier purge left, whichever is the last: moments may go back
abbrev pub floor_with : Option Moment → Moment → Moment → Moment
floor_with None latest now = later_of now latest
floor_with (Some floor) latest now = later_of floor (later_of now latest)

-- each who is open meets the purge, as of its own key
pub record AreAllPurged (old new : Exchanges) : Type 0 where
  pub keys : new.keys ≡ old.keys
  pub each : (y : ℕ) → IsChangedInPlace (IsPurged None None) true (get old.places y) (get new.places y)

-- what isn't later than the floor answers nobody, and what was asked of the origin is stored for nobody
pub record PurgesAll (now : Moment) (old new : Gateway) : Type 0 where
  pub floor : new.floor ≡ Some (floor_with old.floor old.latest now)
  pub each : AreAllPurged old.table new.table
  pub predicted : new.predicted ≡ lru_cache [] old.predicted.cap
  pub rest : new ≡ record old { floor = new.floor; predicted = new.predicted; table = new.table; tier = new.tier; flying = new.flying }

-- that is told, and who is woken, unless there was no memory to say all
pub record IsTold (out : Out) : Type 0 where
  pub status : (enough : Bool) × ((reply_of out).status ≡ (if enough then Status.Done else Status.Memory))
  pub told : reply_of out ≡ record (with_event Event.PurgedAll (blank_reply (reply_of out).status)) { wakes = (reply_of out).wakes }
