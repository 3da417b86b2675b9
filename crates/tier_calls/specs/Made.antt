-- How a tier is made.
use Rattle.std.specs.Prelude.{◌≡◌, ◌↔◌, ◌==◌, ◌^◌, ◌-◌, ◌/◌, ℕ, List, [], ◌∷◌, if◌then◌else◌, Option, Some, None, option_map}
use Rattle.rand_core.specs.Pcg32Seed.{pcg32_seed}
use Rattle.rand_pcg.specs.Pcg.{pcg64_of_seed}
use Rattle.lru_files.specs.MemFolder.{files_of}
use Rattle.cache_words.specs.Time.{span_of}
use Rattle.tier_model.specs.Histories.{empty_opening}
use Rattle.tier_model.specs.Past.{HasPast}
use Rattle.tier_model.specs.State.{Settings, State, empty_state}
use Rattle.tier_calls.specs.Tiers.{IsCount, state_of, status_of}
use Rattle.tier_calls.specs.Told.{plain}
use Rattle.tier_calls.specs.declared.held.TierHandle.{TierHandle}
use Rattle.tier_calls.specs.declared.structs.CallAnswer.{CallAnswer}
use Rattle.tier_calls.specs.declared.structs.Options.{Options}

-- all bits set are none
abbrev pub some_of : ℕ → Option ℕ
some_of n = if n == 2 ^ 64 - 1 then None else Some n

abbrev pub settings_of : ℕ → Options → Settings
settings_of n o = record { shards = n; limit = o.limit; watermark = some_of o.watermark; age = span_of o.age; wait = option_map span_of (some_of o.wait) }

-- the options are in their ranges: a tier may have so many shards, and reserved words are 0
abbrev pub AreOptions : Options → Type 0
AreOptions o = IsCount o.shards × (o.reserved ≡ 0 ∷ 0 ∷ 0 ∷ 0 ∷ [])

-- the greatest number of a body's bytes: 0 is half of the limit
abbrev pub most_of : ℕ → ℕ → ℕ
most_of number limit = if number == 0 then limit / 2 else number

-- a new tier is held, if one could be made: the first event begins its history. Its words are those of the seed. Nothing is lent
pub record IsMade (o : Options) (out : CallAnswer) (h : TierHandle) : Type 0 where
  pub told : out ≡ plain (status_of h.tier)
  pub refused : (status_of h.tier ≡ 20) ↔ ¬ (AreOptions o)
  pub tier : (s : State) → state_of h.tier ≡ Some s → (s ≡ empty_state (settings_of o.shards o)) × HasPast (empty_opening (settings_of o.shards o)) s []
  pub words : h.rng ≡ pcg64_of_seed (pcg32_seed 32 o.seed)
  pub most : h.most ≡ most_of o.max_body_bytes o.limit
  pub evicted : h.evicted ≡ []
  pub list : h.list ≡ []
  pub files : (path : List ℕ) → files_of h.folder path ≡ None
