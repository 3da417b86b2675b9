-- What each verdict of a look-up does (RFC 9111, 4; RFC 5861, 3).
use Rattle.std.specs.Prelude.{◌≡◌, ℕ, Bool, true, not, is_some, ◌&&◌, ◌⊎◌, if◌then◌else◌, List, find, Option, Some, option_and_then}
use Rattle.rules_ffi_arguments.specs.declared.shapes.How.{How}
use Rattle.gateway_types.specs.declared.looks.LookVerdict.{LookVerdict}
use Rattle.gateway_types.specs.declared.states.Fetch.{Fetch}
use Rattle.gateway_rows.specs.Bodies.{is_awaiting, is_idle}
use Rattle.gateway_rules.specs.Messages.{message_of}
use Rattle.gateway_rules.specs.Values.{forwarded, hit}
use Rattle.gateway_rules.specs.declared.values.Message.{Message}
use Rattle.gateway_steps.specs.Phases.{is_sending, reads_write}
use Rattle.gateway_steps.specs.Steps.{answers, asks, closes_behind, lets_go, waits_for}
use Rattle.gateway_steps.specs.declared.state.Source.{Source}
use Rattle.gateway_steps.specs.declared.state.State.{State}
use Rattle.gateway_exchanges.specs.Tables.{Exchanges, numbers_at}
use Rattle.gateway_exchanges.specs.declared.exchange.Answering.{Answering}
use Rattle.gateway_exchanges.specs.declared.found.Look.{Look}
use Rattle.gateway_sides.specs.Answers.{IsMade}
use Rattle.gateway_tier.specs.Roles.{plays}
use Rattle.gateway_tier.specs.declared.waking.Role.{Role}

-- what answers, or is asked about, is there; who is to wait has its request at the tier, and no permit
abbrev pub may_act : LookVerdict → Look → State → Bool
may_act LookVerdict.Hit look s = is_some look.found && look.whole
may_act LookVerdict.HitAndValidate look s = is_some look.found && look.whole
may_act LookVerdict.Conditional look s = is_some look.found && look.whole
may_act LookVerdict.Wait look s = s.tier.held && not (is_some s.tier.permit)
may_act _ look s = true

-- what is stored answers: a hit, or what another fetched that was waited for (RFC 9211, 2)
abbrev pub how_served : State → How
how_served s = if s.tier.collapsed then record (forwarded 3 0) { collapsed = 1 } else hit

-- who has the permit where it looked
abbrev pub holder_of : Exchanges → Option (List ℕ) → Option ℕ
holder_of t key = option_and_then (λ k. find (plays Role.HasPermit k t) (numbers_at k t)) key

-- whose write is found there
abbrev pub writer_of : Exchanges → Option (List ℕ) → Option ℕ
writer_of t key = option_and_then (λ k. find (plays Role.IsJoinable k t) (numbers_at k t)) key

-- ==== what is done

-- its head is made, from there; behind the answer the connection may end
abbrev pub IsAnswered : Source → State → State → Type 0
IsAnswered source s s' = (s' ≡ answers source s) ⊎ (s' ≡ closes_behind (answers source s))

-- the origin is asked, by the fetch that the rules make of the request
abbrev pub IsAsked : ℕ → ℕ → State → State → Type 0
IsAsked now sequence s s' = (fetch : Fetch) × (s' ≡ asks fetch now sequence s)

-- it answers, and is asked about behind
abbrev pub IsValidatedBehind : ℕ → ℕ → State → State → Type 0
IsValidatedBehind now sequence s s' = (asked : State) × IsAsked now sequence s asked × IsAnswered Source.Body asked s'

abbrev pub IsWaiting : ℕ → State → State → Type 0
IsWaiting now s s' = (holder : Option ℕ) × (s' ≡ waits_for now holder s)

-- it reads on in what another stores; where that is over meanwhile, it is asked for, or said not to be there
abbrev pub IsCollapsed : State → Type 0
IsCollapsed s' =
    ((reads_write s'.client ≡ true) × (is_idle s'.origin.phase ≡ true))
    ⊎ (is_awaiting s'.origin.phase ≡ true)
    ⊎ ((is_sending s'.client.phase ≡ true) × (is_idle s'.origin.phase ≡ true))

-- the client of a hit is sent the head that was made for it, and of the body that was found what that says
abbrev pub SendsFound : LookVerdict → Option Message → Look → Answering → Answering → Type 0
SendsFound LookVerdict.Hit (Some made) look a a' = IsMade (message_of made) look.body a a'
SendsFound _ _ look a a' = Unit {0}

-- by each verdict
abbrev pub IsDone : LookVerdict → ℕ → ℕ → State → State → Type 0
IsDone LookVerdict.Hit now sequence s s' = IsAnswered Source.Body (lets_go s) s'
IsDone LookVerdict.HitAndValidate now sequence s s' = IsValidatedBehind now sequence s s'
IsDone LookVerdict.Collapse now sequence s s' = IsCollapsed s'
IsDone LookVerdict.Pass now sequence s s' = IsAsked now sequence (lets_go s) s'
IsDone LookVerdict.Unavailable now sequence s s' = IsAnswered Source.Text (lets_go s) s'
IsDone LookVerdict.Unstored now sequence s s' = IsAsked now sequence (lets_go s) s'
IsDone LookVerdict.Wait now sequence s s' = IsWaiting now s s'
IsDone _ now sequence s s' = IsAsked now sequence s s'
