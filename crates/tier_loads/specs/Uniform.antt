-- Uniform requests: each stored key has one entry, and each entry one weight.
use Rattle.std.specs.Prelude.{◌≡◌, ℕ, Bool, true, false, ◌||◌, if◌then◌else◌, List, [], ◌∷◌}
use Rattle.std.specs.List.{AllByRecursion}
use Rattle.cache_entries.specs.declared.entry.CacheEntryKey.{CacheEntryKey}
use Rattle.cache_entries.specs.Entry.{same_entry}
use Rattle.cache_entries.specs.Keys.{same_bytes}
use Rattle.cache_changes.specs.Changes.{stored_key}
use Rattle.tier_model.specs.Keys.{Entry, alone}
use Rattle.tier_model.specs.Rows.{weight_for}
use Rattle.tier_loads.specs.Holds.{AreApart}
use Rattle.tier_loads.specs.Requests.{PlainRequest, asks, purges, entry_of}

-- where both ask, their bodies weigh the same; a purge says nothing of weights
abbrev pub WeighTheSame : PlainRequest → PlainRequest → Type 0
WeighTheSame (asks b) (asks c) = weight_for b.body ≡ weight_for c.body
WeighTheSame _ _ = Unit {0}

-- of one stored key, they are of one entry and one weight
abbrev pub AreAlike : PlainRequest → PlainRequest → Type 0
AreAlike r s = same_bytes (stored_key (entry_of r)) (stored_key (entry_of s)) ≡ true → (entry_of r ≡ entry_of s) × WeighTheSame r s

-- any two of the requests are alike
abbrev pub IsUniform : List PlainRequest → Type 0
IsUniform [] = Unit {0}
IsUniform (r ∷ requests) = AllByRecursion (AreAlike r) requests × IsUniform requests

-- a body that is asked for weighs what its entry weighs
abbrev pub IsWeighed : (CacheEntryKey → ℕ) → PlainRequest → Type 0
IsWeighed weight (asks b) = weight_for b.body ≡ weight (alone b.entry)
IsWeighed weight (purges k) = Unit {0}

-- the same by the entries in use, of which no two have one stored key, and by the weight of each
pub record AreUniform (in_use : Entry → Bool) (weight : CacheEntryKey → ℕ) (requests : List PlainRequest) : Type 0 where
  pub apart : AreApart in_use
  pub used : AllByRecursion (λ r. in_use (entry_of r) ≡ true) requests
  pub weighed : AllByRecursion (λ r. IsWeighed weight r) requests

-- the entries of the requests
abbrev pub used_in : List PlainRequest → Entry → Bool
used_in [] k = false
used_in (r ∷ requests) k = same_entry (alone (entry_of r)) (alone k) || used_in requests k

-- the weight of the first body that is asked for under an entry; 1 where there is none
abbrev pub weight_in : List PlainRequest → CacheEntryKey → ℕ
weight_in [] e = 1
weight_in (asks b ∷ requests) e = if same_entry (alone b.entry) e then weight_for b.body else weight_in requests e
weight_in (purges k ∷ requests) e = weight_in requests e
