-- What a purge of a key, or of all, does to the exchanges there.
use Rattle.std.specs.Prelude.{◌≡◌, ℕ, Bool, false, nat_lt, if◌then◌else◌, List, Option, Some}
use Rattle.std.specs.Option.{option_map_or}
use Rattle.gateway_exchanges.specs.declared.exchange.Exchange.{Exchange}
use Rattle.gateway_exchanges.specs.Tables.{Exchanges, numbers_at}
use Rattle.gateway_steps.specs.declared.state.Released.{Released}
use Rattle.gateway_steps.specs.declared.state.State.{State}
use Rattle.gateway_steps.specs.Sides.{no_release}
use Rattle.gateway_steps.specs.Steps.{hides_write, meets_purge, release_by_purge}
use Rattle.gateway_tier.specs.Roles.{is_meant}
use Rattle.gateway_tier.specs.Walks.{AreChanged}

-- the response to that request says nothing of what was asked later
abbrev pub is_later : Option ℕ → State → Bool
is_later by s = option_map_or (λ sequence. nat_lt sequence s.origin.sequence) by false

abbrev pub hides_if : Bool → State → State
hides_if hides s = if hides then hides_write s else s

-- nobody finds its write, where that is at the key; and what is fetched for the key isn't stored
abbrev pub purged : Bool → Option ℕ → State → State
purged hides by s = if is_later by s then hides_if hides s else meets_purge (hides_if hides s)

abbrev pub release_by : Bool → Option ℕ → State → Released
release_by hides by s = if is_later by s then no_release else release_by_purge (hides_if hides s)

-- it meets the purge of a key that is its first one or under which it looks or stores; or of all
pub record IsPurged (key : Option (List ℕ)) (by : Option ℕ) (old new : Exchange) : Type 0 where
  pub state : new.steps.state ≡ purged (is_meant key old) by old.steps.state
  pub flying : new.asks.flying ≡ (if (release_by (is_meant key old) by old.steps.state).request then 0 else old.asks.flying)
  pub rest : new ≡ record old { steps = new.steps; asks = record old.asks { flying = new.asks.flying } }

-- those at a key meet its purge, and nobody else
abbrev pub ArePurged : Option ℕ → List ℕ → Exchanges → Exchanges → Type 0
ArePurged by key old new = AreChanged (IsPurged (Some key) by) (numbers_at key old) old new
