-- A few steps, worked.
use Rattle.std.specs.Prelude.{ℕ, List, [], ◌∷◌, None}
use Rattle.cache_entries.specs.declared.entry.CacheEntryKey.{CacheEntryKey}
use Rattle.cache_entries.specs.declared.entry.CacheEntryKey.TheVariants.{KeyOnly}
use Rattle.curve_loads.specs.Steps.{Step, asks, removes}

-- the entry of a key of one byte
abbrev pub key : ℕ → CacheEntryKey
key byte = KeyOnly (record { primary = byte ∷ []; variance = None; user_tag = [] })

abbrev pub one_each : CacheEntryKey → ℕ
one_each e = 1

-- four entries, then three of them again
abbrev pub seven_asks : List Step
seven_asks = asks (key 1) ∷ asks (key 2) ∷ asks (key 1) ∷ asks (key 4) ∷ asks (key 3) ∷ asks (key 2) ∷ asks (key 1) ∷ []

-- the first entry again, after two others that were removed
abbrev pub asked_after_two : List Step
asked_after_two = asks (key 1) ∷ removes (key 3) ∷ removes (key 2) ∷ asks (key 3) ∷ asks (key 2) ∷ asks (key 1) ∷ []

-- the same, where the second was removed before the third was asked for
abbrev pub asked_after_one : List Step
asked_after_one = asks (key 1) ∷ removes (key 3) ∷ asks (key 3) ∷ removes (key 2) ∷ asks (key 2) ∷ asks (key 1) ∷ []
