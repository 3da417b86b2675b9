-- What changes of a lock leave: the cores by their numbers, and which one a key has.
use Rattle.std.specs.Prelude.{◌≡◌, ◌<◌, ℕ, ◌+◌, ◌-◌, ◌==◌, nat_le, Bool, false, List, [], ◌∷◌, Option, Some, None, unwrap_or, option_map, if◌then◌else◌}
use Rattle.std.specs.Ordering.{nat_cmp}
use Rattle.std.specs.Cmp.Lexicographic.{slice_cmp}
use Rattle.std.specs.FinMap.{FinMap, empty, get, insert, remove}
use Rattle.cache_words.specs.Time.{MomentValue, DurationValue}
use Rattle.cache_lock.specs.declared.lock_core.HeldCore.{HeldCore}
use Rattle.cache_lock.specs.declared.lock_core.LockCore.{LockCore}
use Rattle.cache_lock.specs.declared.status.LockStatus.{LockStatus}
use Rattle.cache_lock.specs.declared.status.LockStatus.TheVariants.{Waiting, Dangling}
use Rattle.cache_lock.specs.Changes.{Change, gives, lends, stores, takes_out, publishes, spends}

-- the cores that are named, the number of each key's core, the tokens that are published for a core; the number that comes next
pub record LockState : Type 0 where
  pub cores : FinMap nat_cmp HeldCore
  pub current : FinMap (slice_cmp nat_cmp) ℕ
  pub published : FinMap nat_cmp (List ℕ)
  pub next : ℕ
  pub age : DurationValue

-- a core whose permit is just given
abbrev pub fresh_core : DurationValue → Bool → MomentValue → LockCore
fresh_core age stale moment = record { lock_start = moment; age_timeout = age; status = Waiting; stale_writer = stale }

abbrev pub given_core : List ℕ → Bool → MomentValue → DurationValue → HeldCore
given_core key stale moment age = record { core = fresh_core age stale moment; key = key; names = 1 }

abbrev pub core_in : Option HeldCore → Option LockCore
core_in o = option_map (λ c. c.core) o

-- the status of a core; Dangling where nobody names it
abbrev pub status_in : Option HeldCore → LockStatus
status_in None = Dangling
status_in (Some c) = c.core.status

abbrev pub status_of : ℕ → LockState → LockStatus
status_of n s = status_in (get s.cores n)

abbrev pub tokens_of : ℕ → LockState → List ℕ
tokens_of n s = unwrap_or (get s.published n) []

abbrev pub with_status : LockStatus → HeldCore → HeldCore
with_status status c = record c { core = record c.core { status = status } }

-- with one permit or read lock more, or less
abbrev pub named : HeldCore → HeldCore
named c = record c { names = c.names + 1 }

abbrev pub unnamed : HeldCore → HeldCore
unnamed c = record c { names = c.names - 1 }

-- with a core that is there changed
abbrev pub with_core : ℕ → (HeldCore → HeldCore) → Option HeldCore → LockState → LockState
with_core n change None s = s
with_core n change (Some c) s = record s { cores = insert s.cores n (change c) }

abbrev pub on_core : ℕ → (HeldCore → HeldCore) → LockState → LockState
on_core n change s = with_core n change (get s.cores n) s

-- it is that number
abbrev pub is_number : ℕ → Option ℕ → Bool
is_number n None = false
is_number n (Some m) = n == m

-- without a core, and out of the table if it is its key's
abbrev pub without_core : ℕ → List ℕ → LockState → LockState
without_core n key s = record s {
  cores = remove s.cores n;
  published = remove s.published n;
  current = if is_number n (get s.current key) then remove s.current key else s.current;
}

-- a core goes with the last that names it
abbrev pub spent : ℕ → Option HeldCore → LockState → LockState
spent n None s = s
spent n (Some c) s = if nat_le c.names 1 then without_core n c.key s else record s { cores = insert s.cores n (unnamed c) }

abbrev pub told : ℕ → List ℕ → Option HeldCore → LockState → LockState
told n tokens None s = s
told n tokens (Some c) s = record s { published = insert s.published n tokens }

-- what each change does to the state
abbrev pub after : Change → LockState → LockState
after (gives n key stale moment) s = record s { cores = insert s.cores n (given_core key stale moment s.age); current = insert s.current key n; next = n + 1 }
after (lends n) s = on_core n named s
after (stores n status) s = on_core n (with_status status) s
after (takes_out key) s = record s { current = remove s.current key }
after (publishes n tokens) s = told n tokens (get s.cores n) s
after (spends n) s = spent n (get s.cores n) s

-- what several changes do, the latest first
abbrev pub after_all : List Change → LockState → LockState
after_all [] s = s
after_all (c ∷ before) s = after c (after_all before s)

-- each core's number is below a bound, and a permit or read lock names it
abbrev pub AreNamedBelow : ℕ → FinMap nat_cmp HeldCore → Type 0
AreNamedBelow bound cores = (n : ℕ) (c : HeldCore) → get cores n ≡ Some c → (n < bound) × (0 < c.names)

-- of each lock: cores are those that are named, and none has a number that is still to come
abbrev pub IsSound : LockState → Type 0
IsSound s = AreNamedBelow s.next s.cores

-- without permits
abbrev pub empty_lock : DurationValue → LockState
empty_lock age = record { cores = empty; current = empty; published = empty; next = 0; age = age }
