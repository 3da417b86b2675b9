-- What a response says of what is stored, and what each verdict of it does: a 304, or a 200 to HEAD (RFC 9111, 4.3.3 to 4.3.5).
use Rattle.std.specs.Prelude.{◌≡◌, ◌==◌, ℕ, Bool, List, [], length, if◌then◌else◌, MatchBool, Option, None, Some}
use Rattle.rules_ffi_arguments.specs.declared.shapes.How.{How}
use Rattle.rules_ffi_arguments.specs.declared.shapes.KeptShape.{KeptShape}
use Rattle.rules_ffi_arguments.specs.declared.shapes.Moment.{Moment}
use Rattle.rules_ffi_results.specs.Numbers.{none}
use Rattle.gateway_types.specs.declared.responses.Revalidation.{Revalidation}
use Rattle.gateway_types.specs.declared.responses.RevalidateVerdict.{RevalidateVerdict}
use Rattle.gateway_types.specs.declared.states.Fetch.{Fetch}
use Rattle.gateway_rules.specs.Messages.{MessageValue}
use Rattle.gateway_rules.specs.Options.{Options}
use Rattle.gateway_rules.specs.Requests.{SentValue}
use Rattle.gateway_rules.specs.Responses.{served_in}
use Rattle.gateway_rules.specs.Values.{code_of, request_of, text_of}
use Rattle.gateway_rules.specs.declared.values.ResponseHead.{ResponseHead}
use Rattle.gateway_steps.specs.Phases.{awaits_answer, is_sending}
use Rattle.gateway_steps.specs.Questions.{may_freshen}
use Rattle.gateway_steps.specs.Steps.{answers, asks, gives_up, lets_go}
use Rattle.gateway_steps.specs.declared.state.Source.{Source}
use Rattle.gateway_exchanges.specs.Exchanges.{old_of}
use Rattle.gateway_exchanges.specs.declared.exchange.Exchange.{Exchange}
use Rattle.gateway_sides.specs.Answers.{closed_by, how_for, IsMade}
use Rattle.gateway_sides.specs.Fetches.{fetch_sent, forwarded_for}
use Rattle.gateway_responses.specs.Responses.{IsHandedOn}

-- what the rules make of what is stored and the response: a text, and what is told of it
abbrev pub Renewal : Type 0
Renewal = List ℕ × KeptShape

-- the length of what is stored, which a 200 to HEAD is compared with; a 304 says none
abbrev pub length_asked : Exchange → ℕ → ℕ
length_asked e status = if status == 304 then none else length e.asks.old_body

-- what its row is chosen by
abbrev pub revalidation_of : Exchange → ResponseHead → KeptShape → Revalidation
revalidation_of e response told = record {
  status = code_of response.shape;
  other = told.status == 70;
  may_freshen = may_freshen (told.status == 68) e.steps.state;
}

-- ==== what each verdict does

-- why it is asked again: none of what the key stands for was right, or nothing is there (RFC 9211, 2.2)
abbrev pub miss_of : Exchange → ℕ
miss_of e = if length e.index == 0 then 1 else 2

-- the origin is asked once more, without the conditions of what is stored (RFC 9111, 4.3.3)
pub record IsAskedWithout (o : Options) (now sequence : ℕ) (removes : Bool) (e e' : Exchange) : Type 0 where
  pub request : SentValue
  pub sent : forwarded_for o e Fetch.Unconditional (is_sending e.steps.state.client.phase) ≡ Some request
  pub state : e'.steps.state ≡ asks (fetch_sent Fetch.Unconditional request) now sequence e.steps.state
  pub cause : e'.asks.cause ≡ miss_of e
  pub old : old_of e' ≡ None
  pub found : e'.asks.found ≡ (if removes then None else e.asks.found)

-- who waits is answered by what is stored, under the head that was made of it, and nothing more is wanted of the response
pub record IsServed (o : Options) (now : Moment) (how : How) (made : Renewal) (e e' : Exchange) : Type 0 where
  pub message : MessageValue
  pub head : served_in o (request_of e.request) made.1.shown (text_of made.0 made.1.block) (Some (length e.asks.old_body)) now (how_for e how) ≡ Some message
  pub state : e'.steps.state ≡ gives_up (closed_by message (answers Source.Body (lets_go e.steps.state)))
  pub body : IsMade message e.asks.old_body e.answer e'.answer

abbrev pub IsAnsweredByStored : Options → Moment → How → Renewal → Exchange → Exchange → Type 0
IsAnsweredByStored o now how made e e' =
    MatchBool (awaits_answer e.steps.state.client.phase) (IsServed o now how made e e') (e'.steps.state ≡ gives_up e.steps.state)

-- at a moment, by the gateway's next request to the origin; removes: what was found goes
abbrev pub IsRevalidated : RevalidateVerdict → Options → Moment → ℕ → ℕ → How → Bool → Renewal → Exchange → Exchange → Type 0
IsRevalidated RevalidateVerdict.Again o now at sequence how removes made e e' = IsAskedWithout o at sequence removes e e'
IsRevalidated RevalidateVerdict.FreshenAndAnswer o now at sequence how removes made e e' = IsAnsweredByStored o now how made e e'
IsRevalidated RevalidateVerdict.Answer o now at sequence how removes made e e' = IsAnsweredByStored o now how made e e'
IsRevalidated RevalidateVerdict.FreshenAndRelay o now at sequence how removes made e e' = IsHandedOn e.steps.state e'.steps.state
IsRevalidated RevalidateVerdict.Relay o now at sequence how removes made e e' = IsHandedOn e.steps.state e'.steps.state
