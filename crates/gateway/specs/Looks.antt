-- What a look-up is told by, and what is done by it.
use Rattle.std.specs.Prelude.{◌≡◌, ℕ, Bool, true, false, is_some, if◌then◌else◌, List, length, nat_eq, Option, Some, None, option_map, MatchOption}
use Rattle.std.specs.Option.{option_map_or}
use Rattle.std.specs.Map.{lookup}
use Rattle.std.specs.Cmp.Lexicographic.{pointwise}
use Rattle.rules_ffi_arguments.specs.declared.shapes.Moment.{Moment}
use Rattle.gateway_types.specs.declared.looks.Found.{Found}
use Rattle.gateway_types.specs.declared.looks.Look.{Look as Seen}
use Rattle.gateway_types.specs.declared.looks.LookVerdict.{LookVerdict}
use Rattle.gateway_types.specs.declared.looks.Reuse.{Reuse}
use Rattle.gateway_types.specs.declared.states.Fetch.{Fetch}
use Rattle.gateway_rules.specs.Messages.{MessageValue}
use Rattle.gateway_rules.specs.Moments.{is_past, later}
use Rattle.gateway_rules.specs.Options.{Options}
use Rattle.gateway_rules.specs.Responses.{reused_in, whole_in}
use Rattle.gateway_rules.specs.Stored.{block_of, stored_of}
use Rattle.gateway_rules.specs.Values.{request_of}
use Rattle.gateway_rules.specs.declared.stored.Stored.{Stored}
use Rattle.gateway_exchanges.specs.Tables.{with_number}
use Rattle.gateway_exchanges.specs.declared.exchange.Exchange.{Exchange}
use Rattle.gateway_exchanges.specs.declared.found.Look.{Look}
use Rattle.gateway_state.specs.declared.state.Gateway.{Gateway}
use Rattle.gateway_sides.specs.Answers.{how_for}
use Rattle.gateway.specs.Acts.{how_served}

-- whether anything is there, and all of it
abbrev pub found_of : Look → Found
found_of look = if is_some look.found then (if look.whole then Found.Whole else Found.InFlight) else Found.Nothing

-- what the origin is asked of it
abbrev pub fetch_of : Bool → Fetch
fetch_of whole = if whole then Fetch.Conditional else Fetch.Full

-- the last response of that key wasn't stored, and that is still new
abbrev pub is_predicted : Gateway → List ℕ → Moment → Bool
is_predicted g key now = option_map_or (λ at. is_past (later at g.limits.predicted_seconds) now) (lookup (pointwise nat_eq key) g.predicted.entries) false

abbrev pub is_predicted_for : Gateway → Option (List ℕ) → Moment → Bool
is_predicted_for g key now = option_map_or (λ k. is_predicted g k now) key false

-- how what is stored may answer, as the rules say of the request and the moment (RFC 9111, 4); of what is whole also the answer, where it answers at once
abbrev pub weighed_of : Options → Exchange → Look → Moment → Option Stored → Option (Reuse × Option MessageValue)
weighed_of o e look now None = Some (Reuse.AfterValidation, None)
weighed_of o e look now (Some stored) =
    if look.whole then whole_in o (request_of e.request) stored.shape (block_of stored) (length look.body) now (how_for e (how_served e.steps.state))
    else option_map (λ r. (r, None)) (reused_in o (request_of e.request) (stored_of stored) now)

abbrev pub weighed_in : Options → Exchange → Look → Moment → Option (Reuse × Option MessageValue)
weighed_in o e look now = weighed_of o e look now look.found

-- what is known of it
abbrev pub seen_of : Look → Reuse → Bool → Bool → Bool → Bool → Seen
seen_of look reuse past only_if_cached predicted too_old = record {
  found = found_of look;
  reuse = reuse;
  fresh = look.fresh;
  past = past;
  permit = look.permit;
  only_if_cached = only_if_cached;
  predicted = predicted;
  too_old = too_old;
}

-- what was found answers, now or once the origin was asked about it, or says itself how the request goes on
abbrev pub answers_by_found : LookVerdict → Bool
answers_by_found LookVerdict.Hit = true
answers_by_found LookVerdict.HitAndValidate = true
answers_by_found LookVerdict.Collapse = true
answers_by_found LookVerdict.LookPast = true
answers_by_found LookVerdict.Pass = true
answers_by_found LookVerdict.Conditional = true
answers_by_found _ = false

-- an exchange stands at the first key of its request, under which it looks first
pub record StandsAtFirst (old : Gateway) (e : Exchange) (new : Gateway) (e' : Exchange) : Type 0 where
  pub first : is_some e'.first ≡ true
  pub key : e'.key ≡ e'.first
  pub joined : MatchOption e'.first (Unit {0}) (λ first. new ≡ record old { table = with_number e.x first old.table })
  pub rest : e' ≡ record e { first = e'.first; key = e'.key }
