-- What a tier of one shard holds, its order of use and its bodies, by loads.
use Rattle.std.specs.Prelude.{◌≡◌, ℕ, Bool, true, List, Option, is_some}
use Rattle.std.specs.List.{AllByRecursion}
use Rattle.cache_entries.specs.declared.entry.CacheEntryKey.{CacheEntryKey}
use Rattle.cache_entries.specs.declared.rows.Tracked.{Tracked}
use Rattle.cache_entries.specs.Keys.{same_bytes}
use Rattle.cache_changes.specs.Changes.{stored_key}
use Rattle.cache_evict.specs.Managed.{Managed}
use Rattle.curve_loads.specs.Steps.{Step, has_row, held}
use Rattle.tier_loads.specs.Calls.{IsOne}
use Rattle.tier_model.specs.Keys.{Entry, alone}
use Rattle.tier_model.specs.Rows.{Bodies, body_of}

-- of the entries in use no two have one stored key
abbrev pub AreApart : (Entry → Bool) → Type 0
AreApart in_use = (a b : Entry) → in_use a ≡ true → in_use b ≡ true → same_bytes (stored_key a) (stored_key b) ≡ true → a ≡ b

-- an entry in use has a body exactly where it has a row, and the rows are of entries in use
pub record Agrees (in_use : Entry → Bool) (rows : List Tracked) (bodies : Bodies) : Type 0 where
  pub both : (k : Entry) → in_use k ≡ true → is_some (body_of (stored_key k) bodies) ≡ has_row (alone k) rows
  pub own : AllByRecursion (λ r. (k : Entry) × (in_use k ≡ true) × (r.entry ≡ alone k)) rows

-- the order of use is what loads report after the steps, and the bodies are those of its entries
pub record HoldsAfter (in_use : Entry → Bool) (weight : CacheEntryKey → ℕ) (limit : ℕ) (watermark : Option ℕ) (steps : List Step) (m : Managed) (bodies : Bodies) : Type 0 where
  pub one : IsOne limit watermark (held weight limit watermark steps) m
  pub agrees : Agrees in_use (held weight limit watermark steps) bodies
