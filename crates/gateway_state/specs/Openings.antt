-- Which requests are open at the tier: an exchange has one at most, of its own number.
use Rattle.std.specs.Prelude.{◌≡◌, ◌==◌, ℕ, Bool, true, false, is_some, Some}
use Rattle.std.specs.FinMap.{get}
use Rattle.tier_model.specs.declared.event.Action.{Action}
use Rattle.tier_model.specs.declared.event.Action.TheVariants.{Open, Drop}
use Rattle.gateway_exchanges.specs.declared.exchange.Exchange.{Exchange}
use Rattle.gateway_state.specs.declared.state.Gateway.{Gateway}
use Rattle.gateway_exchanges.specs.Tables.{exchange_at, has_place}

-- all events but these two leave open what is
abbrev pub keeps_open : Action → Bool
keeps_open (Open id key lock) = false
keeps_open (Drop id) = false
keeps_open _ = true

abbrev pub is_open_at : ℕ → Gateway → Bool
is_open_at x g = is_some (get g.tier.requests x)

-- the same are open
abbrev pub KeepsOpen : Gateway → Gateway → Type 0
KeepsOpen old new = (y : ℕ) → is_open_at y new ≡ is_open_at y old

-- of all but that number
abbrev pub KeepsOthersOpen : ℕ → Gateway → Gateway → Type 0
KeepsOthersOpen x old new = (y : ℕ) → (x == y) ≡ false → is_open_at y new ≡ is_open_at y old

-- an exchange holds a request exactly where one is open under its number: each in the table, and the one that a call is about
pub record IsAgreed (g : Gateway) (e : Exchange) : Type 0 where
  pub own : e.steps.state.tier.held ≡ is_open_at e.x g
  pub others : (x : ℕ) (other : Exchange) → exchange_at x g.table ≡ Some other → other.steps.state.tier.held ≡ is_open_at x g

-- the same between calls; and no request is open for whom there is no place
pub record AreAgreed (g : Gateway) : Type 0 where
  pub each : (x : ℕ) (other : Exchange) → exchange_at x g.table ≡ Some other → other.steps.state.tier.held ≡ is_open_at x g
  pub placed : (x : ℕ) → is_open_at x g ≡ true → has_place x g.table ≡ true
