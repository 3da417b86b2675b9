-- What a replay begins with, by its options.
use Rattle.std.specs.Prelude.{ℕ, option_map}
use Rattle.cache_words.specs.Time.{span_of}
use Rattle.tier_model.specs.Histories.{empty_opening}
use Rattle.tier_model.specs.State.{Settings}
use Rattle.trace_replay.specs.declared.options.ReplayOptions.{ReplayOptions}
use Rattle.trace_replay.specs.CommandLine.{count_of}
use Rattle.trace_replay.specs.Words.{words_of}
use Rattle.trace_replay.specs.Replays.{Start}

-- the empty tier that the options describe, of n shards
abbrev pub settings_over : ℕ → ReplayOptions → Settings
settings_over n o = record { shards = n; limit = o.limit; watermark = o.watermark; age = span_of o.age; wait = option_map span_of o.wait }

-- with that tier and the words of the seed a replay begins
abbrev pub start_over : ℕ → ReplayOptions → Start
start_over n o = record { opening = empty_opening (settings_over n o); words = words_of o.seed }

-- the same, of as many shards as the options say
abbrev pub start_of : ReplayOptions → Start
start_of o = start_over (count_of o.shards) o
