-- What is asked of an exchange, and what a new one is.
use Rattle.std.specs.Prelude.{◌≡◌, ◌==◌, ℕ, Bool, true, false, not, ◌&&◌, [], if◌then◌else◌, Option, None, is_some, vec_len}
use Rattle.rules_ffi_results.specs.Numbers.{nowhere}
use Rattle.gateway_rules.specs.declared.stored.Stored.{Stored}
use Rattle.gateway_rules.specs.declared.values.RequestHead.{RequestHead}
use Rattle.gateway_rules.specs.declared.values.Body.{Body}
use Rattle.gateway_rules.specs.Values.{request_of, is_rejected}
use Rattle.gateway_steps.specs.declared.state.Source.{Source}
use Rattle.gateway_steps.specs.Questions.{is_reading_from}
use Rattle.gateway_steps.specs.Sides.{first_state}
use Rattle.gateway_exchanges.specs.declared.exchange.Answering.{Answering}
use Rattle.gateway_exchanges.specs.declared.exchange.Fetching.{Fetching}
use Rattle.gateway_exchanges.specs.declared.exchange.Exchange.{Exchange}

abbrev pub is_same_source : Source → Source → Bool
is_same_source Source.Text Source.Text = true
is_same_source Source.Body Source.Body = true
is_same_source Source.Write Source.Write = true
is_same_source Source.Relay Source.Relay = true
is_same_source _ _ = false

-- what is stored that the origin is asked about
abbrev pub old_of : Exchange → Option Stored
old_of e = if e.asks.has_old then e.asks.found else None

-- its client lacks bytes of what that exchange stores
abbrev pub lacks_bytes_of : ℕ → Exchange → Bool
lacks_bytes_of writer e = is_reading_from writer e.steps.state && not (vec_len e.answer.parts == 0)

-- nothing is made for the client yet
pub record IsNoAnswer (answer : Answering) : Type 0 where
  pub buffer : answer.buffer.items ≡ []
  pub framing : answer.framing ≡ 0
  pub whole : answer.whole ≡ []
  pub parts : answer.parts.items ≡ []
  pub texts : answer.texts.items ≡ []
  pub after : answer.after ≡ nowhere
  pub place : answer.place ≡ None
  pub seen : answer.seen ≡ 0
  pub trailers : answer.trailers.items ≡ []

-- nothing is asked of the origin yet
pub record IsNoFetch (asks : Fetching) : Type 0 where
  pub head : asks.head.items ≡ []
  pub is_head : asks.is_head ≡ false
  pub is_conditional : asks.is_conditional ≡ false
  pub has_range : asks.has_range ≡ false
  pub reason : asks.reason ≡ 0
  pub cause : asks.cause ≡ 0
  pub looked : asks.looked ≡ 0
  pub interims : asks.interims ≡ 0
  pub found : asks.found ≡ None
  pub found_key : asks.found_key ≡ None
  pub has_old : asks.has_old ≡ false
  pub old_body : asks.old_body ≡ []
  pub body : asks.body ≡ None
  pub storable : asks.storable ≡ false
  pub flying : asks.flying ≡ 0

-- a request of that number has come, with the body that is to come, if one is, and nothing is done for it
pub record IsNewExchange (number : ℕ) (request : RequestHead) (body : Option Body) (e : Exchange) : Type 0 where
  pub x : e.x ≡ number
  pub asked : e.request ≡ request
  pub first : e.first ≡ None
  pub key : e.key ≡ None
  pub index : e.index ≡ []
  pub state : e.steps.state ≡ first_state (is_some body) (is_rejected (request_of request))
  pub shares : e.shares ≡ None
  pub answer : IsNoAnswer e.answer
  pub taking : e.taking ≡ body
  pub framing : e.taking_framing ≡ 0
  pub asks : IsNoFetch e.asks
