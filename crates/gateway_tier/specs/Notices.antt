-- What becomes of exchanges that are told of another one at their key.
use Rattle.std.specs.Prelude.{◌≡◌, ℕ, nat_lt, not, ◌&&◌, if◌then◌else◌, List, Option, Some, None, MatchBool}
use Rattle.gateway_exchanges.specs.declared.exchange.Exchange.{Exchange}
use Rattle.gateway_exchanges.specs.declared.exchange.Shared.{Shared}
use Rattle.gateway_exchanges.specs.Exchanges.{lacks_bytes_of}
use Rattle.gateway_exchanges.specs.Tables.{Exchanges, numbers_at}
use Rattle.gateway_rows.specs.Bodies.{is_awaiting}
use Rattle.gateway_steps.specs.declared.state.State.{State}
use Rattle.gateway_steps.specs.Questions.{is_waiting_for}
use Rattle.gateway_steps.specs.Steps.{loses_permit, hides_write, moves_on, overtakes, supersedes, joins_tail}
use Rattle.gateway_tier.specs.declared.notices.Notice.{Notice}
use Rattle.gateway_tier.specs.Roles.{is_meant}
use Rattle.gateway_tier.specs.Walks.{AreChanged}

-- what it validates isn't as it was, and what was asked earlier than that won't replace it
abbrev pub overtaken_by : ℕ → State → State
overtaken_by sequence s = if nat_lt s.origin.sequence sequence then supersedes (overtakes s) else overtakes s

abbrev pub told : Notice → Exchange → State
told Notice.PermitTaken e = loses_permit e.steps.state
told Notice.WriteHidden e = hides_write e.steps.state
told Notice.WriteBegun e = moves_on e.steps.state
told Notice.Replaced e = if is_awaiting e.steps.state.origin.phase then overtakes e.steps.state else e.steps.state
told Notice.Superseded e = supersedes e.steps.state
told Notice.IndexPut e = overtakes e.steps.state
told (Notice.Freshened sequence) e = overtaken_by sequence e.steps.state
told (Notice.FetchFailed number shared) e = e.steps.state
told (Notice.TailBegun number) e = if lacks_bytes_of number e then joins_tail e.steps.state else e.steps.state

-- who waits for a fetch shares its end, unless it was told already that it looks again
abbrev pub shares_told : Notice → State → Option Shared → Option Shared
shares_told (Notice.FetchFailed number shared) s old = if is_waiting_for number s && not s.tier.moved then Some shared else old
shares_told _ s old = old

pub record IsTold (notice : Notice) (old new : Exchange) : Type 0 where
  pub state : new.steps.state ≡ told notice old
  pub shares : new.shares ≡ shares_told notice old.steps.state old.shares
  pub rest : new ≡ record old { steps = new.steps; shares = new.shares }

-- if it is one of those at that key
abbrev pub IsToldAt : Option (List ℕ) → Notice → Exchange → Exchange → Type 0
IsToldAt key notice old new = MatchBool (is_meant key old) (IsTold notice old new) (new ≡ old)

-- those at a key are told, and nobody else
abbrev pub AreTold : Notice → List ℕ → Exchanges → Exchanges → Type 0
AreTold notice key old new = AreChanged (IsToldAt (Some key) notice) (numbers_at key old) old new

-- those of these numbers are, and nobody else
abbrev pub AreEachTold : Notice → List ℕ → Exchanges → Exchanges → Type 0
AreEachTold notice numbers old new = AreChanged (IsToldAt None notice) numbers old new
