-- What changes leave of entries: which are tracked, what they weigh, and in which order they were used.
use Rattle.std.specs.Prelude.{◌≡◌, ℕ, ◌==◌, ◌%◌, ◌<◌, Bool, true, false, List, [], ◌∷◌, ◌++◌, length, Option, Some, None, is_some, unwrap_or, filter, map, slice_index_or, slice_set, if◌then◌else◌}
use Rattle.cache_entries.specs.declared.entry.CacheEntryKey.{CacheEntryKey}
use Rattle.cache_entries.specs.declared.rows.Tracked.{Tracked}
use Rattle.cache_entries.specs.Entry.{same_entry}
use Rattle.cache_entries.specs.EntryText.{entry_hash}
use Rattle.cache_entries.specs.Rows.{weight_of, without_row, admitted, used, is_over}
use Rattle.cache_changes.specs.Changes.{Change, Changes, admits, uses, reweighs, departs, evicts}

-- what e weighs: what it was last admitted or weighed anew with since its last departure, or without either what the use gave that found it untracked
abbrev pub last_weight : {M : Type 0} → CacheEntryKey → Changes M → Option ℕ
last_weight e [] = None
last_weight e (admits x w ∷ before) = if same_entry x e then Some w else last_weight e before
last_weight e (uses x w ∷ before) = if same_entry x e then Some (unwrap_or (last_weight e before) w) else last_weight e before
last_weight e (reweighs x w ∷ before) = if same_entry x e then Some w else last_weight e before
last_weight e (departs x ∷ before) = if same_entry x e then None else last_weight e before
last_weight e (evicts x ∷ before) = if same_entry x e then None else last_weight e before
last_weight e (_ ∷ before) = last_weight e before

-- the last use of an entry with that weight; of one that has none, a use now
abbrev pub unless_tracked : Option ℕ → Option ℕ → ℕ → Option ℕ
unless_tracked None last now = Some now
unless_tracked (Some w) last now = last

-- how many changes stood before the last use of e since its last departure; none where e isn't tracked
abbrev pub last_use : {M : Type 0} → CacheEntryKey → Changes M → Option ℕ
last_use e [] = None
last_use e (admits x w ∷ before) = if same_entry x e then Some (length before) else last_use e before
last_use e (uses x w ∷ before) = if same_entry x e then Some (length before) else last_use e before
last_use e (reweighs x w ∷ before) = if same_entry x e then unless_tracked (last_weight e before) (last_use e before) (length before) else last_use e before
last_use e (departs x ∷ before) = if same_entry x e then None else last_use e before
last_use e (evicts x ∷ before) = if same_entry x e then None else last_use e before
last_use e (_ ∷ before) = last_use e before

-- along the rows the last uses lie further and further back, all of them before a bound
abbrev pub AreInOrder : (CacheEntryKey → Option ℕ) → ℕ → List Tracked → Type 0
AreInOrder last bound [] = Unit {0}
AreInOrder last bound (r ∷ rows) = (n : ℕ) × (last r.entry ≡ Some n) × (n < bound) × AreInOrder last n rows

-- the rows are the tracked entries, the latest used first, each with what it weighs
pub record IsOrderOfUse {M : Type 0} (rows : List Tracked) (changes : Changes M) : Type 0 where
  pub order : AreInOrder (λ e. last_use e changes) (length changes) rows
  pub weights : (e : CacheEntryKey) → weight_of e rows ≡ last_weight e changes

-- the rows, the entry e with that weight and at its place
abbrev pub with_weight : CacheEntryKey → ℕ → List Tracked → List Tracked
with_weight e w rows = map (λ (r : Tracked). if same_entry r.entry e then record r { weight = w } else r) rows

-- the entry e weighs that from now on: in place where it is tracked, else it is admitted
abbrev pub reweighed : CacheEntryKey → ℕ → List Tracked → List Tracked
reweighed e w rows = if is_some (weight_of e rows) then with_weight e w rows else admitted e w rows

-- what each change does to the rows
abbrev pub rows_after : {M : Type 0} → Change M → List Tracked → List Tracked
rows_after (admits e w) rows = admitted e w rows
rows_after (uses e w) rows = used e w rows
rows_after (reweighs e w) rows = reweighed e w rows
rows_after (departs e) rows = without_row e rows
rows_after (evicts e) rows = without_row e rows
rows_after _ rows = rows

-- the rows that changes leave
abbrev pub rows_of : {M : Type 0} → Changes M → List Tracked
rows_of [] = []
rows_of (c ∷ before) = rows_after c (rows_of before)

-- An order of use that was loaded is nothing new: it stands at the bottom of the changes as the admissions of its rows, the last
-- row first, so that the first one, latest used, is the latest change.
abbrev pub admissions : {M : Type 0} → List Tracked → Changes M
admissions rows = map (λ r. admits r.entry r.weight) rows

-- the shard of an entry, of n shards
abbrev pub shard_of : ℕ → CacheEntryKey → ℕ
shard_of n e = entry_hash e % n

-- the rows of shard s of n
abbrev pub in_shard : ℕ → ℕ → List Tracked → List Tracked
in_shard n s rows = filter (λ r. shard_of n r.entry == s) rows

-- the entry that a change puts first, weighs anew or takes out
abbrev pub entry_changed : {M : Type 0} → Change M → Option CacheEntryKey
entry_changed (admits e w) = Some e
entry_changed (uses e w) = Some e
entry_changed (reweighs e w) = Some e
entry_changed (departs e) = Some e
entry_changed (evicts e) = Some e
entry_changed _ = None

abbrev pub is_in_shard : ℕ → ℕ → Option CacheEntryKey → Bool
is_in_shard n s None = false
is_in_shard n s (Some e) = shard_of n e == s

-- the change is of an entry of shard s of n
abbrev pub changes_shard : {M : Type 0} → ℕ → ℕ → Change M → Bool
changes_shard n s c = is_in_shard n s (entry_changed c)

-- the shards' lists hold the rows, each those of its shard
pub record AreShardsOf (n : ℕ) (shards : List (List Tracked)) (rows : List Tracked) : Type 0 where
  pub count : length shards ≡ n
  pub each : (s : ℕ) → s < n → slice_index_or shards s [] ≡ in_shard n s rows

-- the shard of e with what a change does to its list
abbrev pub shards_after : {M : Type 0} → ℕ → CacheEntryKey → Change M → List (List Tracked) → List (List Tracked)
shards_after n e c shards = slice_set shards (shard_of n e) (rows_after c (slice_index_or shards (shard_of n e) []))

-- e is the last of the rows
abbrev pub IsLast : CacheEntryKey → List Tracked → Type 0
IsLast e rows = (front : List Tracked) × (w : ℕ) × (rows ≡ front ++ record { entry = e; weight = w } ∷ [])

-- an eviction of e is lawful after those changes: the weights are past the limit or the number of entries past the watermark,
-- and e is the last of its shard
pub record IsLawfulEviction {M : Type 0} (n limit : ℕ) (watermark : Option ℕ) (e : CacheEntryKey) (before : Changes M) : Type 0 where
  pub rows : List Tracked
  pub order : IsOrderOfUse rows before
  pub over : is_over limit watermark rows ≡ true
  pub last : IsLast e (in_shard n (shard_of n e) rows)

-- each eviction was lawful
abbrev pub EvictsLawfully : {M : Type 0} → ℕ → ℕ → Option ℕ → Changes M → Type 0
EvictsLawfully n limit watermark [] = Unit {0}
EvictsLawfully n limit watermark (evicts e ∷ before) = IsLawfulEviction n limit watermark e before × EvictsLawfully n limit watermark before
EvictsLawfully n limit watermark (_ ∷ before) = EvictsLawfully n limit watermark before
