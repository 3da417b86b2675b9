-- Where a response is stored: by the list of variants that stands under its first key.
use Rattle.std.specs.Prelude.{◌≡◌, ℕ, not, ◌&&◌, if◌then◌else◌, List, [], slice_get, Option, Some, None, option_map, option_and_then}
use Rattle.cache_words.specs.Blake.{blake2b_128}
use Rattle.rules_ffi_arguments.specs.declared.shapes.Moment.{Moment}
use Rattle.gateway_rules.specs.Options.{Options, options_of}
use Rattle.gateway_rules.specs.Values.{Came}
use Rattle.gateway_rules.specs.Varying.{IndexValue, indexed_in}
use Rattle.gateway_rules.specs.declared.stored.Stored.{Stored}
use Rattle.gateway_exchanges.specs.declared.exchange.Exchange.{Exchange}
use Rattle.gateway_state.specs.AtTier.{peeked}
use Rattle.gateway_state.specs.States.{token_by}
use Rattle.gateway_state.specs.declared.state.Gateway.{Gateway}
use Rattle.gateway_steps.specs.Sides.{capped_sum}
use Rattle.gateway_tier.specs.Looks.{is_index, is_too_old}
use Rattle.gateway_tier.specs.Superseding.{keys_by}

-- the list; empty: none stands there, or none that is later than the last purge of all
abbrev pub index_in : Option Moment → Option (Stored × List ℕ) → List ℕ
index_in floor None = []
index_in floor (Some found) = if is_index (Some found.0) && not (is_too_old floor (Some found.0)) then found.1 else []

-- the digest of a key, and the list by which that is one of the request's: the first key, or the second one by a set of the list
abbrev pub placed_by : Options → Exchange → List ℕ → Option IndexValue → Option (List ℕ × List ℕ)
placed_by o e first None = Some (first, [])
placed_by o e first (Some v) = option_map (λ key. (blake2b_128 key, v.body)) (slice_get (keys_by o e v.body) v.place)

-- of a response, by the list that stands; a new set gets the gateway's next token
abbrev pub place_in : Gateway → Exchange → Came → Moment → Option (List ℕ × List ℕ)
place_in g e r now =
    option_and_then (λ first.
    option_and_then (placed_by (options_of g.rules) e first)
    (indexed_in (options_of g.rules) r now (index_in g.floor (peeked first g)) (token_by g.secret (capped_sum g.tokens 1)))) e.first

-- it stores under that key, by that list
abbrev pub IsPlaced : Option (List ℕ × List ℕ) → Exchange → Type 0
IsPlaced place e = (key : List ℕ) × (e.key ≡ Some key) × (place ≡ Some (key, e.index))
