-- What is noted of a look-up before the origin is asked (RFC 9211, 2.2).
use Rattle.std.specs.Prelude.{◌≡◌, ℕ, Bool, true, false, not, is_some, ◌&&◌, ◌==◌, [], length, if◌then◌else◌}
use Rattle.gateway_types.specs.declared.states.Fetch.{Fetch}
use Rattle.gateway_exchanges.specs.declared.exchange.Exchange.{Exchange}
use Rattle.gateway_exchanges.specs.declared.found.Look.{Look}

-- by the numbers of Cache-Status: request 5, stale 4, vary-miss 2, uri-miss 1
abbrev pub cause_of : Bool → Bool → Bool → ℕ
cause_of has_old past has_index = if has_old then (if past then 5 else 4) else (if has_index then 2 else 1)

-- it is asked whether what is there is still right
abbrev pub is_about : Fetch → Bool
is_about Fetch.Conditional = true
is_about _ = false

-- what stands under the key where it looked, with its body where the origin is asked about it, and why the origin is asked
pub record NotesFound (fetch : Fetch) (look : Look) (past : Bool) (old new : Exchange) : Type 0 where
  pub found : new.asks.found ≡ look.found
  pub found_key : new.asks.found_key ≡ old.key
  pub has_old : new.asks.has_old ≡ (is_about fetch && is_some look.found)
  pub old_body : new.asks.old_body ≡ (if is_about fetch then look.body else [])
  pub cause : new.asks.cause ≡ cause_of (is_about fetch && is_some look.found) past (not (length old.index == 0))
