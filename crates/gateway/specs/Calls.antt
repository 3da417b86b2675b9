-- Which calls are refused, and what each call says besides what it does.
use Rattle.std.specs.Prelude.{◌≡◌, ◌⊎◌, ℕ, Bool, true, false, not, is_some, ◌&&◌, ◌==◌, if◌then◌else◌, [], ◌∷◌, max, Option, Some, None, option_map, option_and_then, Result, Ok, Err}
use Rattle.rules_ffi_arguments.specs.declared.bad.Bad.{Bad}
use Rattle.rules_ffi_arguments.specs.declared.shapes.Moment.{Moment}
use Rattle.rules_ffi_arguments.specs.Moments.{is_moment, moment_at, nanoseconds_of}
use Rattle.gateway_rows.specs.Tables.{first_of}
use Rattle.gateway_steps.specs.Calls.{is_lawful}
use Rattle.gateway_steps.specs.Phases.{is_over}
use Rattle.gateway_steps.specs.Questions.{deadline}
use Rattle.gateway_steps.specs.declared.state.Call.{Call}
use Rattle.gateway_exchanges.specs.declared.exchange.Exchange.{Exchange}
use Rattle.gateway_exchanges.specs.declared.outs.Out.{Out}
use Rattle.gateway_exchanges.specs.declared.outs.Status.{Status}
use Rattle.gateway_state.specs.declared.state.Gateway.{Gateway}
use Rattle.gateway_exchanges.specs.Replies.{blank_reply, reply_of}
use Rattle.gateway_exchanges.specs.Tables.{Exchanges, exchange_at, forgotten, has_place, with_exchange}

-- ==== what is refused

-- whether the call may be made in the phase of the exchange that it is about
abbrev pub is_lawful_for : Call → Option Exchange → Bool
is_lawful_for call None = false
is_lawful_for call (Some e) = is_lawful call e.steps.state

-- why a call about an exchange is refused; none: it isn't
abbrev pub refusal_of : Call → Moment → Option Exchange → Option Status
refusal_of call now found = first_of
    ((not (is_moment now.seconds now.nanoseconds), Some Status.BadArgument)
    ∷ (not (is_some found), Some Status.NoExchange)
    ∷ (not (is_lawful_for call found), Some Status.WrongPhase)
    ∷ []) None

-- ==== the next moment

-- since when an exchange has its permit
abbrev pub permit_at : Gateway → ℕ → Option ℕ
permit_at g x = option_and_then (λ e. e.steps.state.tier.permit) (exchange_at x g.table)

-- when something is due on either side: no sooner than now
abbrev pub due_of : Gateway → Exchange → Moment → Option Moment
due_of g e now =
    let permit = option_and_then (permit_at g) e.steps.state.tier.holder in
    option_map (λ due. moment_at (max due (nanoseconds_of now))) (deadline g.timeouts permit e.steps.state)

-- the same of what goes on; else as it was
abbrev pub next_of : Gateway → Exchange → Moment → Option Moment → Option Moment
next_of g e now at = if is_over e.steps.state then at else due_of g e now

-- ==== what a call leaves

-- where both sides ended it is forgotten, and else it is in its place again
abbrev pub table_with : Exchange → Exchanges → Exchanges
table_with e t = if is_over e.steps.state then forgotten e.x e.first e.key t else with_exchange e t

-- who is open, but for the one that was polled just now
abbrev pub is_woken : Bool → ℕ → Exchanges → ℕ → Bool
is_woken is_polled x t y = has_place y t && not (is_polled && (y == x))

-- ==== how a call ends

-- a call that is refused says why, of which exchange, and nothing else; and nothing changed
pub record IsRefused (status : Status) (x : ℕ) (before after : Gateway) (out : Out) : Type 0 where
  pub told : reply_of out ≡ record (blank_reply status) { exchange = x }
  pub unchanged : after ≡ before

-- what was done as far as memory and the rules let it
abbrev pub done_of : Result Unit Bad → Result Status Bad
done_of (Ok _) = Ok Status.Done
done_of (Err bad) = Err bad

-- how a call ended
abbrev pub status_of : Result Status Bad → Status
status_of (Ok status) = status
status_of (Err Bad.Memory) = Status.Memory
status_of (Err Bad.Call) = Status.BadArgument

-- it isn't refused for the exchange that it is about
abbrev pub is_taken : Status → Bool
is_taken Status.NoExchange = false
is_taken Status.WrongPhase = false
is_taken _ = true

-- a call is refused by that name, where it has one, and else isn't
abbrev pub RefusesBy : Option Status → ℕ → Gateway → Gateway → Out → Type 0
RefusesBy (Some status) x before after out = IsRefused status x before after out
RefusesBy None x before after out = is_taken (reply_of out).status ≡ true

-- of what can't be read nothing is purged: that is told, unless there was no memory to read it
abbrev pub IsUnread : Gateway → Gateway → Out → Type 0
IsUnread before after out = IsRefused Status.BadArgument 0 before after out ⊎ IsRefused Status.Memory 0 before after out
