-- The options of a tier, and what it is made with by them.
use Rattle.std.specs.Prelude.{ℕ}
use Rattle.tier_model.specs.State.{Settings}
use Rattle.tier_single.specs.declared.options.TierOptions.{TierOptions}

-- the settings of a tier of n shards that is made with these options
abbrev pub settings_with : ℕ → TierOptions → Settings
settings_with n options = record { shards = n; limit = options.limit; watermark = options.watermark; age = options.age; wait = options.wait }
