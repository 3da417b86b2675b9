-- A tier as it is made holds nothing but its order of use, and has the settings that it is made with.
use Rattle.std.proofs.Common.{◌≡◌, ℕ, [], ap}
use Rattle.std.proofs.lemmas.List.{length-replicate}
use Rattle.tier_model.specs.State.{Settings, empty_state}
use Rattle.tier_model.specs.Started.{HasOnlyOrder, settings_of}
use Rattle.tier_model.proofs.StartedLaws.{empty-new}

pub empty-order : (settings : Settings) → HasOnlyOrder (empty_state settings)
empty-order settings = (empty-new settings).nothing_else

pub empty-made : (settings : Settings) → settings_of (empty_state settings) ≡ settings
empty-made settings = ap (λ (n : ℕ). record settings { shards = n }) (length-replicate settings.shards [])
