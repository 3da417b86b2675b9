-- A tier's state, part by part.
use Rattle.std.specs.Prelude.{◌≡◌, ℕ, Option}
use Rattle.std.specs.FinMap.{FinMap}
use Rattle.std.specs.Ordering.{nat_cmp}
use Rattle.cache_words.specs.Time.{DurationValue}
use Rattle.cache_evict.specs.Managed.{Managed}
use Rattle.cache_lock.specs.State.{LockState}
use Rattle.tier_model.specs.Shelf.{Shelf}
use Rattle.tier_model.specs.Calls.{History}
use Rattle.tier_model.specs.Histories.{Opening}
use Rattle.tier_model.specs.Past.{HasPast}
use Rattle.tier_model.specs.State.{Request, State}

abbrev pub state_by : Managed → Option DurationValue → Shelf → LockState → FinMap nat_cmp Request → ℕ → ℕ → State
state_by managed wait shelf lock requests found absent =
    record { managed = managed; wait = wait; shelf = shelf; lock = lock; requests = requests; found = found; absent = absent }

-- some history led to the state, of a tier that was made with that watermark and that age of a permit
abbrev pub HasAPastOf : Option ℕ → DurationValue → State → Type 0
HasAPastOf watermark age s =
    (start : Opening) × (h : History) × HasPast start s h × (start.settings.watermark ≡ watermark) × (start.settings.age ≡ age)
