-- What calls change in a lock, one thing at a time, the latest first.
use Rattle.std.specs.Prelude.{ℕ, Bool, List}
use Rattle.cache_words.specs.Time.{MomentValue}
use Rattle.cache_lock.specs.declared.status.LockStatus.{LockStatus}

pub data Change : Type 0 where
  -- the permit of a key is given: a core of that number begins, at a moment, and is the key's
  gives : ℕ → List ℕ → Bool → MomentValue → Change
  -- a read lock of the core of that number is given
  lends : ℕ → Change
  -- a status is stored in the core of that number
  stores : ℕ → LockStatus → Change
  -- a key has no core any more
  takes_out : List ℕ → Change
  -- tokens are published for the core of that number, in the place of those before
  publishes : ℕ → List ℕ → Change
  -- a permit or read lock of the core of that number is handed back
  spends : ℕ → Change

-- what was changed so far, the latest change first
abbrev pub Changes : Type 0
Changes = List Change
