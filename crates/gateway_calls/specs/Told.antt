-- What a call tells.
use Rattle.std.specs.Prelude.{◌≡◌, ◌⊎◌, ℕ, true, false, length, is_some, IfSome, Option, Some, None}
use Rattle.std.specs.FinMap.{len}
use Rattle.rules_ffi_arguments.specs.declared.shapes.Moment.{Moment}
use Rattle.rules_ffi_arguments.specs.Moments.{is_moment}
use Rattle.gateway_steps.specs.declared.state.Call.{Call}
use Rattle.gateway_exchanges.specs.Replies.{reply_of, blank_reply}
use Rattle.gateway_exchanges.specs.Tables.{exchange_at}
use Rattle.gateway_exchanges.specs.declared.outs.Out.{Out}
use Rattle.gateway_exchanges.specs.declared.outs.Status.{Status}
use Rattle.gateway_state.specs.declared.state.Gateway.{Gateway}
use Rattle.gateway_state.specs.States.{tracked_of, weight_of}
use Rattle.gateway.specs.Calls.{refusal_of, RefusesBy, IsRefused}
use Rattle.gateway.specs.Purges.{PurgesAll, IsTold as IsToldOfAll}
use Rattle.gateway_calls.specs.declared.answers.HeldOut.{HeldOut}
use Rattle.gateway_calls.specs.declared.held.GatewayHandle.{GatewayHandle}
use Rattle.gateway_calls.specs.declared.requests.HeldRequest.{HeldRequest}
use Rattle.gateway_calls.specs.declared.structs.GatewayCounts.{GatewayCounts}
use Rattle.gateway_calls.specs.declared.structs.OutShown.{OutShown}
use Rattle.gateway_calls.specs.declared.structs.RequestShown.{RequestShown}
use Rattle.gateway_calls.specs.Numbers.{flag, status_number, client_number, origin_number, why_in}

-- the words are those of what is kept: the lengths of its lists, and as many bytes as go to the origin
pub record IsTold (out : Out) (told : OutShown) : Type 0 where
  pub status : told.status ≡ status_number out.status
  pub exchange : told.exchange ≡ out.exchange
  pub used : told.used ≡ out.used
  pub client : told.client ≡ client_number out.client
  pub origin : told.origin ≡ origin_number out.origin
  pub body_follows : told.body_follows ≡ flag out.body_follows
  pub last : told.last ≡ flag out.last
  pub found : told.found ≡ flag out.found
  pub timed : told.timed ≡ flag (is_some out.at)
  pub to_origin : told.to_origin.len ≡ length out.to_origin.items
  pub pieces : told.pieces ≡ length out.pieces.items
  pub wakes : told.wakes ≡ length out.wakes.keys
  pub evicted : told.evicted ≡ length out.evicted.items
  pub purges : told.purges ≡ length out.purges.items
  pub events : told.events ≡ length out.events.items

-- nothing is told but that an argument is out of its range
abbrev pub IsBadCall : HeldOut → Type 0
IsBadCall k = reply_of k.out ≡ blank_reply Status.BadArgument

-- what is told is what is kept. A gateway that is there stays there, and does that; one that isn't refuses
pub record IsCalled (Does : Gateway → Gateway → Out → Type 0) (h : GatewayHandle) (words : OutShown) (h' : GatewayHandle) (k : HeldOut) : Type 0 where
  pub told : IsTold k.out words
  pub lives : is_some h'.gateway ≡ is_some h.gateway
  pub absent : (is_some h.gateway ≡ true) ⊎ IsBadCall k
  pub does : IfSome h.gateway (λ g. IfSome h'.gateway (λ g'. Does g g' k.out))

abbrev pub moment_of : ℕ → ℕ → Moment
moment_of seconds nanoseconds = record { seconds = seconds; nanoseconds = nanoseconds }

-- a call about that exchange, at that moment: it is refused as that call is, and then nothing changes
abbrev pub IsCallOf : Call → GatewayHandle → ℕ → ℕ → ℕ → OutShown → GatewayHandle → HeldOut → Type 0
IsCallOf call h seconds nanoseconds x =
    IsCalled (λ g g' out. RefusesBy (refusal_of call (moment_of seconds nanoseconds) (exchange_at x g.table)) x g g' out) h

-- the same of an origin's end; of a number that names none nothing is done
abbrev pub IsClosed : GatewayHandle → ℕ → ℕ → ℕ → ℕ → OutShown → GatewayHandle → HeldOut → Type 0
IsClosed h seconds nanoseconds x closed words h' k =
    ((is_some (why_in closed) ≡ true) × IsCallOf Call.OriginClosed h seconds nanoseconds x words h' k)
    ⊎ ((is_some (why_in closed) ≡ false) × (h' ≡ h) × IsBadCall k × IsTold k.out words)

-- a request begins at that moment, or is refused; where no head is kept nothing is done
abbrev pub IsStarted : GatewayHandle → ℕ → ℕ → HeldRequest → OutShown → GatewayHandle → HeldOut → Type 0
IsStarted h seconds nanoseconds q words h' k =
    ((is_some q.head ≡ true) × IsCalled (λ g g' out. is_moment seconds nanoseconds ≡ false → IsRefused Status.BadArgument 0 g g' out) h words h' k)
    ⊎ ((is_some q.head ≡ false) × (h' ≡ h) × IsBadCall k × IsTold k.out words)

-- a URL is purged, or a key
abbrev pub IsPurge : GatewayHandle → OutShown → GatewayHandle → HeldOut → Type 0
IsPurge h = IsCalled (λ g g' out. Unit {0}) h

-- everything is purged at that moment; nothing changes where it is none, or there is no memory
abbrev pub PurgesAllAt : Moment → Gateway → Gateway → Out → Type 0
PurgesAllAt now g g' out =
    (is_moment now.seconds now.nanoseconds ≡ false → IsRefused Status.BadArgument 0 g g' out)
    × (is_moment now.seconds now.nanoseconds ≡ true → IsRefused Status.Memory 0 g g' out ⊎ (PurgesAll now g g' × IsToldOfAll out))

abbrev pub IsPurgeOfAll : GatewayHandle → ℕ → ℕ → OutShown → GatewayHandle → HeldOut → Type 0
IsPurgeOfAll h seconds nanoseconds = IsCalled (PurgesAllAt (moment_of seconds nanoseconds)) h

-- a gateway that is there stays there, and is to end: nothing else changes
abbrev pub IsStopped : GatewayHandle → GatewayHandle → Type 0
IsStopped h h' =
    (is_some h'.gateway ≡ is_some h.gateway)
    × IfSome h.gateway (λ g. IfSome h'.gateway (λ g'. g' ≡ record g { stopping = true }))

-- how many exchanges are open, and what the tier holds; of no gateway nothing is
abbrev pub counts_of : Option Gateway → GatewayCounts
counts_of (Some g) = record { status = 0; exchanges = len g.table.places; weight = weight_of g; tracked = tracked_of g }
counts_of None = record { status = 0; exchanges = 0; weight = 0; tracked = 0 }

-- that is told, and nothing changes
pub record IsCounted (h h' : GatewayHandle) (told : GatewayCounts) : Type 0 where
  pub unchanged : h' ≡ h
  pub counted : told ≡ counts_of h.gateway

-- a gateway is there just where it was made
abbrev pub IsMade : GatewayCounts → GatewayHandle → Type 0
IsMade told h = ((told.status ≡ 0) × (is_some h.gateway ≡ true)) ⊎ (¬ (told.status ≡ 0) × (is_some h.gateway ≡ false))

-- a head is kept just where it was read
abbrev pub IsRead : RequestShown → HeldRequest → Type 0
IsRead told q = ((told.status ≡ 80) × (is_some q.head ≡ true)) ⊎ (¬ (told.status ≡ 80) × (is_some q.head ≡ false))
