-- What is done to each exchange at a key.
use Rattle.std.specs.Prelude.{◌≡◌, ℕ, ◌==◌, Bool, true, List, Option, Some}
use Rattle.std.specs.List.{list_any}
use Rattle.std.specs.FinMap.{get}
use Rattle.gateway_exchanges.specs.declared.exchange.Exchange.{Exchange}
use Rattle.gateway_exchanges.specs.Tables.{Exchanges}

-- in its place, if it isn't taken out
abbrev pub IsChangedInPlace : (Exchange → Exchange → Type 0) → Bool → Option (Option Exchange) → Option (Option Exchange) → Type 0
IsChangedInPlace how true (Some (Some e)) new = (e' : Exchange) × (new ≡ Some (Some e')) × how e e'
IsChangedInPlace how _ old new = new ≡ old

-- those of these numbers are changed so, and nobody else
pub record AreChanged (how : Exchange → Exchange → Type 0) (numbers : List ℕ) (old new : Exchanges) : Type 0 where
  pub keys : new.keys ≡ old.keys
  pub each : (y : ℕ) → IsChangedInPlace how (list_any (λ x. y == x) numbers) (get old.places y) (get new.places y)
