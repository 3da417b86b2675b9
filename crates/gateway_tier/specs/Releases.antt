-- What ends at the tier, and who is woken by that.
use Rattle.std.specs.Prelude.{◌≡◌, ℕ, Bool, ◌-◌, true, List, [], ◌++◌, if◌then◌else◌, None, MatchBool}
use Rattle.std.specs.Option.{option_map_or}
use Rattle.gateway_exchanges.specs.declared.exchange.Exchange.{Exchange}
use Rattle.gateway_state.specs.declared.state.Gateway.{Gateway}
use Rattle.gateway_state.specs.AtTier.{TakesAnytime}
use Rattle.gateway_exchanges.specs.Tables.{Exchanges}
use Rattle.tier_model.specs.declared.event.Action.{Action}
use Rattle.tier_model.specs.Calls.{Outcome}
use Rattle.tier_model.specs.NoStore.{no_store_head}
use Rattle.gateway_steps.specs.declared.state.Released.{Released}
use Rattle.gateway_steps.specs.Sides.{capped_sum}
use Rattle.gateway_tier.specs.declared.waking.Role.{Role}
use Rattle.gateway_tier.specs.Roles.{in_role, readers_of}

-- what is in flight, where an exchange counts for so much of it
abbrev pub flying_with : ℕ → Exchange → Gateway → ℕ
flying_with size e g = capped_sum (g.flying - e.asks.flying) size

abbrev pub counts_for : ℕ → Exchange → Exchange
counts_for size e = record e { asks = record e.asks { flying = size } }

-- who waits for its permit
abbrev pub waiters_of : Exchange → Exchanges → List ℕ
waiters_of e t = option_map_or (λ key. in_role (Role.WaitsFor e.x) key None t) e.key []

-- by the end of a permit who waits for it, by that of a write who reads it
abbrev pub woken_by_ends : Released → Exchange → Exchanges → List ℕ
woken_by_ends released e t =
    (if released.permit then waiters_of e t else []) ++ (if released.write then readers_of e t else [])

-- who is woken by what was released
abbrev pub woken_by : Released → Exchange → Exchanges → List ℕ
woken_by released e t = if released.request then woken_by_ends released e t else []

-- an exchange's request at the tier ends there, if it was released, and what it wrote isn't in flight any more
pub record Releases (released : Released) (e : Exchange) (old new : Gateway) : Type 0 where
  pub gateway : new ≡ (if released.request then record old { tier = new.tier; flying = flying_with 0 e old } else old)
  pub dropped : released.request ≡ true → (o : Outcome) × TakesAnytime (Action.Drop e.x) old.tier o new.tier

-- no more than that its response won't be stored is said at the tier
pub record TellsNoStore (x : ℕ) (old new : Gateway) : Type 0 where
  pub gateway : new ≡ record old { tier = new.tier }
  pub told : (o : Outcome) × TakesAnytime (Action.Begin x no_store_head None) old.tier o new.tier

abbrev pub uncounted : Released → Exchange → Exchange
uncounted released e = if released.request then counts_for 0 e else e

-- the tier is told first, where an exchange has the permit, that its response won't be stored
pub record GivesUp (has_permit : Bool) (released : Released) (e : Exchange) (old new : Gateway) : Type 0 where
  pub between : Gateway
  pub gives_up : MatchBool has_permit (TellsNoStore e.x old between) (between ≡ old)
  pub releases : Releases released e between new
