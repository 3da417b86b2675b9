-- What is kept of requests while they are counted.
use Rattle.std.specs.Prelude.{◌≡◌, ℕ, suc, zero, ◌≤◌, ◌<◌, true, false, List, [], ◌∷◌, ◌++◌, length, slice_index, slice_index_or, Option, Some, None}
use Rattle.cache_entries.specs.declared.entry.CacheEntryKey.{CacheEntryKey}
use Rattle.cache_entries.specs.declared.rows.Tracked.{Tracked}
use Rattle.cache_entries.specs.Rows.{all_weights, without_row}
use Rattle.curve_loads.specs.Steps.{Step, has_row, held, put_first, exceeds}
use Rattle.curve_loads.specs.Steps as steps
use Rattle.curve_sizes.specs.Requests.{Request, steps_of, asked_in}
use Rattle.curve_sizes.specs.Numbers.{numbered, Agrees}
use Rattle.curve_held.specs.Held.{sooner, last_asked, full_at}
use Rattle.curve_held.specs.declared.row.Full.{Full}
use Rattle.curve_held.specs.declared.filling.Filling.{Filling}

-- the entries that were asked for and not removed since, the latest used first: what a list without limits holds
abbrev pub present : (CacheEntryKey → ℕ) → List Step → List Tracked
present weight [] = []
present weight (steps.asks e ∷ before) = put_first weight e (present weight before)
present weight (steps.removes e ∷ before) = without_row e (present weight before)

-- a moment is noted at a place, if there is such a place: the lesser one is kept
abbrev pub noted_at : ℕ → ℕ → List (Option ℕ) → List (Option ℕ)
noted_at at moment [] = []
noted_at zero moment (x ∷ xs) = sooner (Some moment) x ∷ xs
noted_at (suc at) moment (x ∷ xs) = x ∷ noted_at at moment xs

-- the least moment of each place, those before it, and one that came earlier
abbrev pub running : Option ℕ → List (Option ℕ) → List (Option ℕ)
running least [] = []
running least (x ∷ xs) = sooner least x ∷ running (sooner least x) xs

-- no limit is greater than a later one
abbrev pub AreRising : List ℕ → Type 0
AreRising limits = (i j : ℕ) → i ≤ j → j < length limits → slice_index limits i ≤ slice_index limits j

-- a request was noted at some more limits: those that entries of this weight and number pass
pub record AreNoted (limits : List ℕ) (most : Option ℕ) (weight number : ℕ) (now : Full) (old new : List Full) : Type 0 where
  pub longer : length old ≤ length new
  pub within : length new ≤ length limits
  pub before : (k : ℕ) (d : Full) → k < length old → slice_index_or new k d ≡ slice_index_or old k d
  pub noted : (k : ℕ) (d : Full) → length old ≤ k → k < length new → slice_index_or new k d ≡ now
  pub past : (k : ℕ) → length old ≤ k → k < length new → exceeds (slice_index limits k) most weight number ≡ true

-- the same, and no further limit is passed
pub record IsNoted (limits : List ℕ) (most : Option ℕ) (weight number : ℕ) (now : Full) (old new : List Full) : Type 0 where
  pub noted : AreNoted limits most weight number now old new
  pub rest : (k : ℕ) → length new ≤ k → k < length limits → exceeds (slice_index limits k) most weight number ≡ false

-- the weights of entries are known, and the next one's may have come to them
pub record IsGrown (ws ws' : List ℕ) (entry w : ℕ) : Type 0 where
  pub within : entry ≤ length ws
  pub known : entry < length ws → ws' ≡ ws
  pub next : entry ≡ length ws → ws' ≡ ws ++ w ∷ []

-- by these weights it is kept which entries are there, what they weigh and how many they are, and which limits were passed
pub record ShowsFilled (weight : CacheEntryKey → ℕ) (limits : List ℕ) (mark : Option ℕ) (f : Filling) (requests : List Request) : Type 0 where
  pub there : (n : ℕ) → slice_index_or f.there.items n false ≡ has_row (numbered n) (present weight (steps_of requests))
  pub weighs : f.weight ≡ all_weights (present weight (steps_of requests))
  pub counts : f.number ≡ length (present weight (steps_of requests))
  pub full : (k : ℕ) (d : Full) → k < length f.full.items → full_at weight (slice_index limits k) mark requests ≡ Some (slice_index_or f.full.items k d)
  pub rest : (k : ℕ) → length f.full.items ≤ k → k < length limits
      → (full_at weight (slice_index limits k) mark requests ≡ None) × (held weight (slice_index limits k) mark (steps_of requests) ≡ present weight (steps_of requests))

-- it was told these requests
pub record IsFilled (ws limits : List ℕ) (mark : Option ℕ) (f : Filling) (requests : List Request) : Type 0 where
  pub whole : f.is_broken ≡ false
  pub limits_are : f.limits.items ≡ limits
  pub most_is : f.most ≡ mark
  pub rising : AreRising limits
  pub entries_are : length f.there.items ≡ length ws
  pub latest_are : length f.latest.items ≡ length ws
  pub latest : (n : ℕ) → slice_index f.latest.items n ≡ last_asked (numbered n) requests
  pub asks : f.asks ≡ asked_in requests
  pub few : length f.full.items ≤ length limits
  pub shown : (weight : CacheEntryKey → ℕ) → Agrees weight ws → ShowsFilled weight limits mark f requests
