-- What is asked of the origin.
use Rattle.std.specs.Prelude.{◌≡◌, ℕ, ◌==◌, Bool, ◌&&◌, if◌then◌else◌, Option, Some, None, option_and_then}
use Rattle.gateway_types.specs.declared.states.Fetch.{Fetch}
use Rattle.gateway_rules.specs.Options.{Options}
use Rattle.gateway_rules.specs.Requests.{SentValue, forwarded_in}
use Rattle.gateway_rules.specs.Stored.{found_of}
use Rattle.gateway_rules.specs.Values.{request_of}
use Rattle.gateway_rules.specs.declared.stored.Stored.{Stored}
use Rattle.gateway_exchanges.specs.Exchanges.{old_of}
use Rattle.gateway_exchanges.specs.declared.exchange.Exchange.{Exchange}
use Rattle.gateway_exchanges.specs.declared.outs.OriginAction.{OriginAction}
use Rattle.gateway_steps.specs.declared.state.State.{State}
use Rattle.gateway_steps.specs.Questions.{connection_of}
use Rattle.gateway_steps.specs.Steps.{asks}
use Rattle.gateway_rows.specs.Bodies.{is_reusable}

-- by the rules' numbers
abbrev pub fetch_number : Fetch → ℕ
fetch_number Fetch.Pass = 1
fetch_number Fetch.Unstored = 1
fetch_number Fetch.Full = 2
fetch_number Fetch.Conditional = 3
fetch_number Fetch.Unconditional = 4

abbrev pub fetch_of : ℕ → Fetch
fetch_of n = if n == 2 then Fetch.Full else if n == 3 then Fetch.Conditional else if n == 4 then Fetch.Unconditional else Fetch.Pass

-- what the request went as; what isn't to be stored stays so
abbrev pub fetch_sent : Fetch → SentValue → Fetch
fetch_sent Fetch.Unstored m = Fetch.Unstored
fetch_sent fetch m = fetch_of m.fetch

-- what the origin is asked about
abbrev pub asked_about : Fetch → Exchange → Option Stored
asked_about Fetch.Conditional e = old_of e
asked_about _ e = None

-- nobody's conditions go on behind an answer
abbrev pub unconditional_behind : Options → Exchange → Bool → SentValue → Option SentValue
unconditional_behind o e behind m =
    if behind && m.fetch == 2 then forwarded_in o (request_of e.request) 4 (found_of None) e.peer.items else Some m

-- the request as it is sent to the origin; behind: its client has its answer
abbrev pub forwarded_for : Options → Exchange → Fetch → Bool → Option SentValue
forwarded_for o e fetch behind =
    option_and_then (unconditional_behind o e behind) (forwarded_in o (request_of e.request) (fetch_number fetch) (found_of (asked_about fetch e)) e.peer.items)

-- what is known of the request that went; all else of the exchange is as it was
pub record NotesRequest (m : SentValue) (old new : Exchange) : Type 0 where
  pub head : new.asks.head.items ≡ m.head
  pub framing : new.taking_framing ≡ m.framing
  pub rest : new ≡ record old {
    taking_framing = m.framing;
    asks = record old.asks {
      head = new.asks.head;
      is_head = m.is_head;
      is_conditional = m.is_conditional;
      has_range = m.has_range;
      looked = 0;
      interims = 0;
    };
  }

-- an exchange asks the origin, at a moment, by the gateway's request of that number
pub record AsksOrigin (m : SentValue) (fetch : Fetch) (now sequence : ℕ) (old new : Exchange) : Type 0 where
  pub state : new.steps.state ≡ asks fetch now sequence old.steps.state
  pub request : NotesRequest m (record old { steps = new.steps; asks = record old.asks { flying = new.asks.flying } }) new

-- where nothing is left of a response, and neither side closes, its connection may be kept
abbrev pub action_at_end : Bool → Bool → State → OriginAction
action_at_end whole bytes_left s = if is_reusable (connection_of whole bytes_left s) then OriginAction.Reusable else OriginAction.CloseOrigin
