-- What changes of a lock leave, said of the changes themselves: how often a core is named, its status, which core a key has, and which
-- keys wait.
use Rattle.std.specs.Prelude.{◌≡◌, ◌⊎◌, ℕ, ◌+◌, ◌-◌, ◌==◌, ◌<◌, Bool, true, List, [], ◌∷◌, Option, Some, None, nat_eq, if◌then◌else◌}
use Rattle.std.specs.Cmp.Lexicographic.{pointwise}
use Rattle.std.specs.FinMap.{get}
use Rattle.cache_words.specs.Time.{DurationValue}
use Rattle.cache_lock.specs.declared.lock_core.HeldCore.{HeldCore}
use Rattle.cache_lock.specs.declared.status.LockStatus.{LockStatus}
use Rattle.cache_lock.specs.declared.status.LockStatus.TheVariants.{Waiting}
use Rattle.cache_lock.specs.Status.{is_waiting, is_replaced}
use Rattle.cache_lock.specs.Changes.{Change, Changes, gives, lends, stores, takes_out, spends}
use Rattle.cache_lock.specs.State.{LockState, empty_lock, after_all}

abbrev pub same_key : List ℕ → List ℕ → Bool
same_key a b = pointwise nat_eq a b

-- how many permits and read locks name the core of that number
abbrev pub names_of : ℕ → Changes → ℕ
names_of n [] = 0
names_of n (gives m key stale moment ∷ before) = if n == m then 1 else names_of n before
names_of n (lends m ∷ before) = if n == m then names_of n before + 1 else names_of n before
names_of n (spends m ∷ before) = if n == m then names_of n before - 1 else names_of n before
names_of n (_ ∷ before) = names_of n before

-- the status that was stored last in the core of that number, since it began; Waiting where none was
abbrev pub last_status : ℕ → Changes → LockStatus
last_status n [] = Waiting
last_status n (gives m key stale moment ∷ before) = if n == m then Waiting else last_status n before
last_status n (stores m status ∷ before) = if n == m then status else last_status n before
last_status n (_ ∷ before) = last_status n before

-- the number of the key's core: the last that was given and not taken out since
abbrev pub core_of : List ℕ → Changes → Option ℕ
core_of key [] = None
core_of key (gives n k stale moment ∷ before) = if same_key key k then Some n else core_of key before
core_of key (takes_out k ∷ before) = if same_key key k then None else core_of key before
core_of key (_ ∷ before) = core_of key before

-- it is the core of a key
abbrev pub IsOfKey : ℕ → Changes → Type 0
IsOfKey n changes = (key : List ℕ) × (core_of key changes ≡ Some n)

-- a permit of the key waits: it was given, and met no release, no drop and no poll past its age
abbrev pub Waits : List ℕ → Changes → Type 0
Waits key changes = (n : ℕ) × (core_of key changes ≡ Some n) × (last_status n changes ≡ Waiting)

-- the change may come after those: a permit is given under a number that no key's core has; what is stored in a key's core, while it
-- stays the key's, is that it was dropped or is past its age; and a permit that waits is not the last to be handed back
abbrev pub MayCome : Change → Changes → Type 0
MayCome (gives n key stale moment) before = IsOfKey n before → ⊥
MayCome (stores n status) before = IsOfKey n before → is_replaced status ≡ true
MayCome (spends n) before = IsOfKey n before → last_status n before ≡ Waiting → 1 < names_of n before
MayCome _ before = Unit {0}

-- what calls keep to, where permits come from a lock alone, and each is released under its own key or left
abbrev pub IsOrderly : Changes → Type 0
IsOrderly [] = Unit {0}
IsOrderly (c ∷ before) = MayCome c before × IsOrderly before

-- the state is what changes say: of each core its names and its last status; of each key its core, if it waits
pub record IsStateOf (s : LockState) (changes : Changes) : Type 0 where
  pub names : (n : ℕ) (c : HeldCore) → get s.cores n ≡ Some c → c.names ≡ names_of n changes
  pub status : (n : ℕ) (c : HeldCore) → get s.cores n ≡ Some c → c.core.status ≡ last_status n changes
  pub current : (key : List ℕ) (n : ℕ) → get s.current key ≡ Some n → core_of key changes ≡ Some n
  pub waits : (key : List ℕ) (n : ℕ) → core_of key changes ≡ Some n → last_status n changes ≡ Waiting → (get s.current key ≡ Some n) × ((c : HeldCore) × (get s.cores n ≡ Some c))
  pub replaced : (key : List ℕ) (n : ℕ) → core_of key changes ≡ Some n → (is_waiting (last_status n changes) ≡ true) ⊎ (is_replaced (last_status n changes) ≡ true)

-- the state that changes leave of a lock of that age
abbrev pub state_of : DurationValue → Changes → LockState
state_of age changes = after_all changes (empty_lock age)
