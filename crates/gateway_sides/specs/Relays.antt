-- The head of a response that isn't stored, as its client gets it.
use Rattle.std.specs.Prelude.{ℕ, ◌==◌, not, ◌&&◌, nat_lt, if◌then◌else◌, [], ◌∷◌, ◌++◌, length, Option, option_map}
use Rattle.rules_ffi_arguments.specs.declared.shapes.How.{How}
use Rattle.rules_ffi_arguments.specs.declared.shapes.PartShape.{PartShape}
use Rattle.rules_ffi_results.specs.Numbers.{none, nowhere}
use Rattle.gateway_rules.specs.Messages.{MessageValue}
use Rattle.gateway_rules.specs.Options.{Options}
use Rattle.gateway_rules.specs.Responses.{relayed_in}
use Rattle.gateway_rules.specs.Values.{Came, request_of}
use Rattle.gateway_rules.specs.declared.responses.Times.{Times}
use Rattle.gateway_exchanges.specs.declared.exchange.Exchange.{Exchange}
use Rattle.gateway_steps.specs.Phases.{is_stored_fetch}
use Rattle.gateway_sides.specs.Answers.{how_for}
use Rattle.gateway_sides.specs.Fetches.{fetch_number}

-- what was asked for a part, or isn't to be stored, isn't said to have been asked as a whole
abbrev pub fetch_told : Exchange → ℕ
fetch_told e = if is_stored_fetch e.steps.state.origin.fetch && not e.asks.has_range then fetch_number e.steps.state.origin.fetch else 0

-- from 1000 on are details of the gateway's own, which stand in the place of the rules' words for what isn't stored
abbrev pub known_detail : ℕ → ℕ
known_detail detail = if nat_lt detail 1000 then detail else 56

abbrev pub how_relayed : How → Exchange → How
how_relayed how e = record (how_for e how) { fetch = fetch_told e; detail = known_detail how.detail }

-- of a whole response with a body, from which no part was taken, the client gets all
abbrev pub all_of_it : PartShape
all_of_it = record { before = nowhere; from = 0; to = none }

abbrev pub with_all : ℕ → MessageValue → MessageValue
with_all status m = if m.status == status && not (m.framing == 0) && (length m.parts == 0) then record m { parts = m.parts ++ all_of_it ∷ [] } else m

-- the rules' message, by what is told of how it came
abbrev pub relayed_for : Options → Exchange → Came → Times → How → Option MessageValue
relayed_for o e r times how =
    option_map (λ m. with_all r.1.code m) (relayed_in o (request_of e.request) r times (how_relayed how e))
