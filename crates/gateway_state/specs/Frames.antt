-- What of a gateway stays as it was.
use Rattle.std.specs.Prelude.{◌≡◌}
use Rattle.gateway_state.specs.declared.state.Gateway.{Gateway}

-- what it was made with
pub record HasSameSettings (old new : Gateway) : Type 0 where
  pub alloc : new.alloc ≡ old.alloc
  pub rules : new.rules ≡ old.rules
  pub limits : new.limits ≡ old.limits
  pub timeouts : new.timeouts ≡ old.timeouts
  pub secret : new.secret ≡ old.secret

-- all but what is at the tier, and what is drawn there
abbrev pub HasSameButTier : Gateway → Gateway → Type 0
HasSameButTier old new = new ≡ record old { tier = new.tier; rng = new.rng }

-- all but the open exchanges
abbrev pub HasSameButTable : Gateway → Gateway → Type 0
HasSameButTable old new = new ≡ record old { table = new.table }

-- all but which responses won't be stored
abbrev pub HasSameButPredicted : Gateway → Gateway → Type 0
HasSameButPredicted old new = new ≡ record old { predicted = new.predicted }

-- all but how many bytes are in flight
abbrev pub HasSameButFlying : Gateway → Gateway → Type 0
HasSameButFlying old new = new ≡ record old { flying = new.flying }
