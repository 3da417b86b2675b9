-- Whose responses a write supersedes: those of requests that went earlier, which would be found where it is stored.
use Rattle.std.specs.Prelude.{ℕ, Bool, false, not, nat_eq, nat_lt, ◌==◌, ◌&&◌, ◌||◌, List, [], filter, length, unwrap_or}
use Rattle.std.specs.List.{list_any}
use Rattle.std.specs.Option.{option_map_or}
use Rattle.std.specs.Cmp.Lexicographic.{pointwise}
use Rattle.cache_words.specs.Blake.{blake2b_128}
use Rattle.gateway_rows.specs.Bodies.{is_awaiting}
use Rattle.gateway_rules.specs.Options.{Options}
use Rattle.gateway_rules.specs.Values.{request_of}
use Rattle.gateway_rules.specs.Varying.{keys_in}
use Rattle.gateway_exchanges.specs.declared.exchange.Exchange.{Exchange}
use Rattle.gateway_exchanges.specs.Tables.{Exchanges, exchange_at, numbers_at}
use Rattle.gateway_tier.specs.Moves.{is_first}
use Rattle.gateway_tier.specs.Roles.{is_at}

-- the second keys of what an exchange asks, by a list of variants
abbrev pub keys_by : Options → Exchange → List ℕ → List (List ℕ)
keys_by o e index = unwrap_or (keys_in o (request_of e.request) index) []

abbrev pub has_digest : List ℕ → List (List ℕ) → Bool
has_digest digest keys = list_any (λ key. pointwise nat_eq (blake2b_128 key) digest) keys

-- who looked by the same list of one set has one second key, under which it is
abbrev pub has_sole_key : Options → Exchange → Exchange → Bool
has_sole_key o e other = (length (keys_by o e e.index) == 1) && pointwise nat_eq e.index other.index

-- what it asks for would be found at that place, by the list by which another one's response is stored there
abbrev pub is_found_at : Options → Exchange → List ℕ → Exchange → Bool
is_found_at o e place other =
    is_first place e || is_at place other || (not (has_sole_key o e other) && has_digest place (keys_by o other e.index))

-- it asked the origin earlier, of the same first key, and awaits its response
abbrev pub asked_earlier : Exchange → Exchange → Bool
asked_earlier e other =
    option_map_or (λ first. is_first first other) e.first false && is_awaiting other.steps.state.origin.phase && nat_lt other.steps.state.origin.sequence e.steps.state.origin.sequence

abbrev pub is_earlier : Options → Exchange → List ℕ → Exchanges → ℕ → Bool
is_earlier o e place t y = option_map_or (λ other. asked_earlier e other && is_found_at o e place other) (exchange_at y t) false

-- those at its first key, in their order
abbrev pub earlier_at : Options → Exchange → List ℕ → Exchanges → List ℕ
earlier_at o e place t = option_map_or (λ first. filter (is_earlier o e place t) (numbers_at first t)) e.first []
