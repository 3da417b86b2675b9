-- What a new gateway is.
use Rattle.std.specs.Prelude.{◌≡◌, ℕ, false, List, [], ◌++◌, codes, decimal, None, Some}
use Rattle.hex.specs.Hex.{encode_lower}
use Rattle.cache_words.specs.Blake.{blake2b_128}
use Rattle.rules_ffi_arguments.specs.declared.shapes.Moment.{Moment}
use Rattle.cache_words.specs.Time.{span_of}
use Rattle.lru.specs.LruCache.{lru_cache}
use Rattle.tier_model.specs.Reports.{report_of}
use Rattle.tier_model.specs.State.{Settings, empty_state}
use Rattle.tier_model.specs.Histories.{empty_opening}
use Rattle.tier_model.specs.Past.{HasPast}
use Rattle.gateway_exchanges.specs.declared.limits.Limits.{Limits}
use Rattle.gateway_state.specs.declared.state.Gateway.{Gateway}
use Rattle.gateway_exchanges.specs.Limits.{timeouts_by}
use Rattle.gateway_exchanges.specs.Tables.{no_exchanges}
use Rattle.gateway_exchanges.specs.Tails.{no_tails}

-- what nobody guesses, of the secret that was drawn: another at each start
abbrev pub secret_by : List ℕ → Moment → List ℕ
secret_by drawn started = blake2b_128 (drawn ++ (decimal started.seconds ++ (codes "." ++ decimal started.nanoseconds)))

-- hex digits that come once
abbrev pub token_by : List ℕ → ℕ → List ℕ
token_by secret number = encode_lower (blake2b_128 (secret ++ decimal number))

-- its tier has one shard
abbrev pub settings_by : Limits → Settings
settings_by limits = record { shards = 1; limit = limits.max_bytes; watermark = None; age = span_of limits.lock_age; wait = Some (span_of limits.lock_timeout) }

-- what the whole bodies in its tier weigh, and how many these are
abbrev pub weight_of : Gateway → ℕ
weight_of g = (report_of g.tier).weight

abbrev pub tracked_of : Gateway → ℕ
tracked_of g = (report_of g.tier).tracked

-- with these limits, an empty tier, and no exchange
pub record IsNewGateway (limits : Limits) (g : Gateway) : Type 0 where
  pub limits_are : g.limits ≡ limits
  pub timeouts : g.timeouts ≡ timeouts_by limits
  pub tier : g.tier ≡ empty_state (settings_by limits)
  pub past : HasPast (empty_opening (settings_by limits)) g.tier []
  pub table : g.table ≡ no_exchanges
  pub tails : g.tails ≡ no_tails
  pub predicted : g.predicted ≡ lru_cache [] limits.max_predicted
  pub number : g.number ≡ 0
  pub sequence : g.sequence ≡ 0
  pub flying : g.flying ≡ 0
  pub tokens : g.tokens ≡ 0
  pub floor : g.floor ≡ None
  pub latest : g.latest ≡ record { seconds = 0; nanoseconds = 0 }
  pub stopping : g.stopping ≡ false
