-- What changes leave of writes: which are in flight, which are alive, what a key has.
use Rattle.std.specs.Prelude.{◌≡◌, ℕ, ◌==◌, ◌<◌, ◌≤◌, Bool, true, false, List, [], ◌∷◌, ◌++◌, ◌⊎◌, Option, Some, None, if◌then◌else◌}
use Rattle.std.specs.List.{AllByRecursion}
use Rattle.cache_entries.specs.Keys.{same_bytes}
use Rattle.cache_changes.specs.Changes.{StoredKey, Write, Change, Changes, begins, appends, ends, finishes, leaves, renews, key_removed, is_key}

-- the bytes of the write of that number, in the order in which they came
abbrev pub bytes_of : {M : Type 0} → ℕ → Changes M → List ℕ
bytes_of n [] = []
bytes_of n (appends m bytes ∷ before) = if m == n then bytes_of n before ++ bytes else bytes_of n before
bytes_of n (_ ∷ before) = bytes_of n before

-- no more bytes come to the write of that number
abbrev pub has_ended : {M : Type 0} → ℕ → Changes M → Bool
has_ended n [] = false
has_ended n (ends m ∷ before) = if m == n then true else has_ended n before
has_ended n (_ ∷ before) = has_ended n before

-- the meta of a write: the last that it got
abbrev pub meta_of : {M : Type 0} → Write M → Changes M → M
meta_of w [] = w.meta
meta_of w (renews n meta ∷ before) = if n == w.number then meta else meta_of w before
meta_of w (_ ∷ before) = meta_of w before

-- the change removes what is stored under k: a removal, or an eviction of an entry of k without an id
abbrev pub removes_key : {M : Type 0} → StoredKey → Change M → Bool
removes_key k c = is_key k (key_removed c)

-- the change ends the flight of the write of that number: it finishes it or leaves it
abbrev pub lands : {M : Type 0} → ℕ → Change M → Bool
lands n (finishes w) = w.number == n
lands n (leaves m) = m == n
lands n _ = false

-- the change leaves the write of that number
abbrev pub leaves_write : {M : Type 0} → ℕ → Change M → Bool
leaves_write n (leaves m) = m == n
leaves_write n _ = false

-- the change gives the write of that number another meta
abbrev pub renews_write : {M : Type 0} → ℕ → Change M → Bool
renews_write n (renews m meta) = m == n
renews_write n _ = false

-- the change finishes a write of k
abbrev pub finishes_key : {M : Type 0} → StoredKey → Change M → Bool
finishes_key k (finishes w) = same_bytes w.key k
finishes_key k _ = false

-- w began
pub record HasBegun {M : Type 0} (w : Write M) (changes : Changes M) : Type 0 where
  pub since : Changes M
  pub before : Changes M
  pub split : changes ≡ since ++ begins w ∷ before

-- w began, and neither finished nor was left since
pub record IsInFlight {M : Type 0} (w : Write M) (changes : Changes M) : Type 0 where
  pub since : Changes M
  pub before : Changes M
  pub split : changes ≡ since ++ begins w ∷ before
  pub flies : AllByRecursion (λ c. lands w.number c ≡ false) since

-- w began, in flight or finished, and met no removal of its key since
pub record IsAlive {M : Type 0} (w : Write M) (changes : Changes M) : Type 0 where
  pub since : Changes M
  pub before : Changes M
  pub split : changes ≡ since ++ begins w ∷ before
  pub kept : AllByRecursion (λ c. removes_key w.key c ≡ false) since
  pub held : AllByRecursion (λ c. leaves_write w.number c ≡ false) since

-- some write of k is alive
abbrev pub IsFound : {M : Type 0} → StoredKey → Changes M → Type 0
IsFound {M = M} k changes = (w : Write M) × (same_bytes w.key k ≡ true) × IsAlive w changes

-- w is the alive write of k that finished last
pub record IsBody {M : Type 0} (k : StoredKey) (w : Write M) (changes : Changes M) : Type 0 where
  pub of_key : same_bytes w.key k ≡ true
  pub alive : IsAlive w changes
  pub since : Changes M
  pub before : Changes M
  pub split : changes ≡ since ++ finishes w ∷ before
  pub last : AllByRecursion (λ c. finishes_key k c ≡ false) since

-- the write of k that the change finishes
abbrev pub finished_by : {M : Type 0} → StoredKey → Change M → Option (Write M)
finished_by k (finishes w) = if same_bytes w.key k then Some w else None
finished_by k _ = None

-- none after a removal; else what was finished, and without that what there was
abbrev pub body_chosen : {M : Type 0} → Bool → Option (Write M) → Option (Write M) → Option (Write M)
body_chosen true new old = None
body_chosen false (Some w) old = Some w
body_chosen false None old = old

-- the same, found change by change
abbrev pub body_now : {M : Type 0} → StoredKey → Changes M → Option (Write M)
body_now k [] = None
body_now k (c ∷ before) = body_chosen (removes_key k c) (finished_by k c) (body_now k before)

-- w is an alive write of k in flight
pub record IsAliveInFlight {M : Type 0} (k : StoredKey) (w : Write M) (changes : Changes M) : Type 0 where
  pub of_key : same_bytes w.key k ≡ true
  pub alive : IsAlive w changes
  pub flies : IsInFlight w changes

-- of those it began first: each other one has a greater number
pub record IsFirstInFlight {M : Type 0} (k : StoredKey) (w : Write M) (changes : Changes M) : Type 0 where
  pub flying : IsAliveInFlight k w changes
  pub first : (v : Write M) → IsAliveInFlight k v changes → w.number ≤ v.number

-- what a look-up of k shows: the alive write in flight that began first; without one the body
abbrev pub IsShown : {M : Type 0} → StoredKey → Write M → Changes M → Type 0
IsShown {M = M} k w changes = IsFirstInFlight k w changes ⊎ (((v : Write M) → IsAliveInFlight k v changes → ⊥) × IsBody k w changes)

-- where the change begins a write, its number is below n
abbrev pub BeginsBelow : {M : Type 0} → ℕ → Change M → Type 0
BeginsBelow n (begins w) = w.number < n
BeginsBelow n _ = Unit {0}

-- the number is that of a write in flight
abbrev pub IsNumberInFlight : {M : Type 0} → ℕ → Changes M → Type 0
IsNumberInFlight {M = M} n changes = (w : Write M) × (w.number ≡ n) × IsInFlight w changes

-- the number is that of a body
abbrev pub IsStored : {M : Type 0} → ℕ → Changes M → Type 0
IsStored {M = M} n changes = (w : Write M) × (w.number ≡ n) × IsBody w.key w changes

-- the change may come after those: a write begins with a number above all before, gets bytes until it ends, and finishes only
-- if it is alive; what is done to a write is done in flight, but a body may get another meta too
abbrev pub MayCome : {M : Type 0} → Change M → Changes M → Type 0
MayCome (begins w) before = AllByRecursion (BeginsBelow w.number) before
MayCome (appends n bytes) before = IsNumberInFlight n before × (has_ended n before ≡ false)
MayCome (ends n) before = IsNumberInFlight n before
MayCome (finishes w) before = IsInFlight w before × IsAlive w before
MayCome (leaves n) before = IsNumberInFlight n before
MayCome (renews n meta) before = IsNumberInFlight n before ⊎ IsStored n before
MayCome _ before = Unit {0}

-- what every store keeps to
abbrev pub IsOrderly : {M : Type 0} → Changes M → Type 0
IsOrderly [] = Unit {0}
IsOrderly (c ∷ before) = MayCome c before × IsOrderly before
