-- Calls of a manager of one shard as steps: an entry that is admitted or accessed is asked for.
use Rattle.std.specs.Prelude.{◌≡◌, ℕ, true, List, [], ◌∷◌, Option}
use Rattle.rand_core.specs.Stream.{Stream}
use Rattle.cache_entries.specs.declared.entry.CacheEntryKey.{CacheEntryKey}
use Rattle.cache_entries.specs.declared.rows.Tracked.{Tracked}
use Rattle.cache_evict.specs.Managed.{Managed, fresh}
use Rattle.cache_evict.specs.Runs.{ManagerCall, Admit, Access, Remove, Runs}
use Rattle.curve_loads.specs.Steps.{Step, asks, removes, has_row, held}

abbrev pub step_of : ManagerCall → Step
step_of (Admit e size) = asks e
step_of (Access e size) = asks e
step_of (Remove e) = removes e

-- the steps of calls that come after those, the latest first
abbrev pub after_calls : List ManagerCall → List Step → List Step
after_calls [] before = before
after_calls (call ∷ calls) before = after_calls calls (step_of call ∷ before)

-- the size of an admission weighs what its entry weighs, where `weighed` reports what a size weighs; an access of what is held changes no weight
abbrev pub IsUniform : (CacheEntryKey → ℕ) → (ℕ → ℕ) → ManagerCall → Type 0
IsUniform weight weighed (Admit e size) = weighed size ≡ weight e
IsUniform weight weighed (Access e size) = Unit {0}
IsUniform weight weighed (Remove e) = Unit {0}

abbrev pub AreUniform : (CacheEntryKey → ℕ) → (ℕ → ℕ) → List ManagerCall → Type 0
AreUniform weight weighed [] = Unit {0}
AreUniform weight weighed (call ∷ calls) = IsUniform weight weighed call × AreUniform weight weighed calls

-- an access is of an entry that is held after the steps
abbrev pub IsOfHeld : (CacheEntryKey → ℕ) → ℕ → Option ℕ → ManagerCall → List Step → Type 0
IsOfHeld weight limit watermark (Admit e size) before = Unit {0}
IsOfHeld weight limit watermark (Access e size) before = has_row e (held weight limit watermark before) ≡ true
IsOfHeld weight limit watermark (Remove e) before = Unit {0}

-- each access is of an entry that is held then
abbrev pub AreOfHeld : (CacheEntryKey → ℕ) → ℕ → Option ℕ → List ManagerCall → List Step → Type 0
AreOfHeld weight limit watermark [] before = Unit {0}
AreOfHeld weight limit watermark (call ∷ calls) before = IsOfHeld weight limit watermark call before × AreOfHeld weight limit watermark calls (step_of call ∷ before)

-- the manager has one shard, with those rows, and those limits
pub record IsOne (limit : ℕ) (watermark : Option ℕ) (rows : List Tracked) (m : Managed) : Type 0 where
  pub shards : m.shards ≡ rows ∷ []
  pub limit_is : m.limit ≡ limit
  pub watermark_is : m.watermark ≡ watermark

-- A run of a manager of one shard, from empty: calls that are those steps, each entry admitted with one weight and each access of
-- an entry that is held then, leave m. None is refused. `pick` and `weighed` are the manager's.
pub record IsRun (pick : List (List Tracked) → Stream → ℕ × Stream) (weighed : ℕ → ℕ) (weight : CacheEntryKey → ℕ) (limit : ℕ) (watermark : Option ℕ) (steps : List Step) (m : Managed) : Type 0 where
  pub calls : List ManagerCall
  pub gone : List (List CacheEntryKey)
  pub draws : Stream
  pub rest : Stream
  pub uniform : AreUniform weight weighed calls
  pub of_held : AreOfHeld weight limit watermark calls []
  pub runs : Runs pick 1 weighed (fresh 1 limit watermark) draws calls gone m rest
  pub steps_are : steps ≡ after_calls calls []
