-- A tier before its first event: the opening that it is of.
use Rattle.std.specs.Prelude.{◌≡◌, List, [], flat_map}
use Rattle.std.specs.FinMap.{len}
use Rattle.cache_entries.specs.declared.rows.Tracked.{Tracked}
use Rattle.cache_lock.specs.State.{empty_lock}
use Rattle.tier_model.specs.Histories.{Opening}
use Rattle.tier_model.specs.State.{Settings, State, shards_of}

-- the rows of all shards, shard after shard
abbrev pub all_rows : List (List Tracked) → List Tracked
all_rows shards = flat_map (λ rows. rows) shards

-- what a tier with this state was made with
abbrev pub settings_of : State → Settings
settings_of s = record { shards = shards_of s; limit = s.managed.limit; watermark = s.managed.watermark; age = s.lock.age; wait = s.wait }

-- the opening of a tier that holds nothing but its order of use: that was loaded, and the numbers that were used up were so before
abbrev pub opening_of : State → Opening
opening_of s = record { settings = settings_of s; first = s.shelf.writes; first_core = s.lock.next; loaded = all_rows s.managed.shards }

-- it holds nothing but its order of use, and has counted nothing: nothing is stored or written, no request is open, nothing is held of
-- the lock, and nothing was found, absent or evicted. Numbers that refused events used up don't count
pub record HasOnlyOrder (s : State) : Type 0 where
  pub bodies : len s.shelf.bodies ≡ 0
  pub flying : s.shelf.flying ≡ []
  pub readers : len s.shelf.readers ≡ 0
  pub lock : s.lock ≡ record (empty_lock s.lock.age) { next = s.lock.next }
  pub requests : len s.requests ≡ 0
  pub found : s.found ≡ 0
  pub absent : s.absent ≡ 0
  pub evicted_size : s.managed.evicted_size ≡ 0
  pub evicted_items : s.managed.evicted_items ≡ 0

-- it holds nothing, and has counted nothing: no entry is tracked either
pub record IsNew (s : State) : Type 0 where
  pub nothing_else : HasOnlyOrder s
  pub untracked : all_rows s.managed.shards ≡ []
