-- Which lines go on from a cache to the next one.
use Rattle.std.specs.Prelude.{ℕ, Bool, true, false, not, List, Option, Some, None}
use Rattle.cache_entries.specs.declared.entry.CacheEntryKey.{CacheEntryKey}
use Rattle.curve_loads.specs.Steps.{has_row, held}
use Rattle.curve_sizes.specs.Requests.{Request, steps_of}
use Rattle.curve_keys.specs.Keys.{keyed}
use Rattle.curve_keys.specs.Pasts.{Line}
use Rattle.curve_keys.specs.declared.said.Said.{Said}
use Rattle.curve_keys.specs.declared.said.Said.TheVariants.{Removal, Weight, Known, Told, Other, Wrong}

-- a request for the key, after these requests, is a hit: the cache of this limit holds it
abbrev pub is_hit : (CacheEntryKey → ℕ) → ℕ → Option ℕ → List ℕ → List Request → Bool
is_hit weight limit watermark key requests = has_row (keyed key) (held weight limit watermark (steps_of requests))

-- A request goes on unless it is a hit. A removal goes on, and so does a line that tells a lifetime.
abbrev pub goes_on_by : Said → Bool → Bool
goes_on_by (Weight weight) hit = not hit
goes_on_by Known hit = not hit
goes_on_by Removal hit = true
goes_on_by Told hit = true
goes_on_by Other hit = false
goes_on_by Wrong hit = false

abbrev pub goes_on : (CacheEntryKey → ℕ) → ℕ → Option ℕ → Option Line → List Request → Bool
goes_on weight limit watermark None requests = false
goes_on weight limit watermark (Some l) requests = goes_on_by l.said (is_hit weight limit watermark l.key requests)
