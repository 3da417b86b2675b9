-- Bodies and the order of use together: each body is tracked with all that it counts, and so the bodies keep the limits that the rows keep.
use Rattle.std.specs.Prelude.{◌≡◌, ℕ, ◌+◌, ◌==◌, ◌≤◌, Bool, true, false, List, [], ◌∷◌, ◌++◌, length, Option, Some, IfSome}
use Rattle.std.specs.List.{AllByRecursion, sum_by}
use Rattle.cache_entries.specs.declared.entry.CacheEntryKey.{CacheEntryKey}
use Rattle.cache_entries.specs.Keys.{same_bytes}
use Rattle.cache_changes.specs.Changes.{StoredKey, Write, Change, Changes, finishes, renews, removes, admits, reweighs, departs, key_alone, is_key}
use Rattle.cache_changes.specs.Writes.{bytes_of, meta_of, renews_write, IsBody}
use Rattle.cache_changes.specs.Uses.{last_weight}

-- e is an entry of k, without an id
abbrev pub is_entry_of : StoredKey → CacheEntryKey → Bool
is_entry_of k e = is_key k (key_alone e)

-- the change admits an entry of k, or removes k
abbrev pub SettlesKey : {M : Type 0} → StoredKey → Change M → Type 0
SettlesKey k (admits e v) = is_entry_of k e ≡ true
SettlesKey k (removes j) = same_bytes j k ≡ true
SettlesKey k _ = ⊥

-- the change weighs an entry of k anew, or removes k
abbrev pub SettlesRenewal : {M : Type 0} → StoredKey → Change M → Type 0
SettlesRenewal k (reweighs e v) = is_entry_of k e ≡ true
SettlesRenewal k (removes j) = same_bytes j k ≡ true
SettlesRenewal k _ = ⊥

-- what comes at once after a finish admits an entry of its key, or removes the key; what comes at once after another meta of a body
-- weighs an entry of its key anew, or removes the key
abbrev pub SettlesAtOnce : {M : Type 0} → Change M → Changes M → Type 0
SettlesAtOnce c (finishes w ∷ _) = SettlesKey w.key c
SettlesAtOnce {M = M} c (renews n meta ∷ before) = (w : Write M) → (n == w.number) ≡ true → IsBody w.key w before → SettlesRenewal w.key c
SettlesAtOnce c _ = Unit {0}

-- no finish and no other meta waits for what settles it
abbrev pub is_settled : {M : Type 0} → Changes M → Bool
is_settled (finishes w ∷ _) = false
is_settled (renews n meta ∷ _) = false
is_settled _ = true

-- the entry e is put for w: admitted as w finished, or weighed anew as w got another meta
abbrev pub Puts : {M : Type 0} → Write M → CacheEntryKey → Change M → Change M → Type 0
Puts w e (admits x v) (finishes u) = (x ≡ e) × (u ≡ w)
Puts w e (reweighs x v) (renews n meta) = (x ≡ e) × ((n == w.number) ≡ true)
Puts w e _ _ = ⊥

-- writes of different keys
abbrev pub HasDistinctKeys : {M : Type 0} → List (Write M) → Type 0
HasDistinctKeys [] = Unit {0}
HasDistinctKeys (w ∷ ws) = AllByRecursion (λ v. same_bytes v.key w.key ≡ false) ws × HasDistinctKeys ws

-- what a write counts: its bytes, and its meta, which counts what `size` says
abbrev pub measure_of : {M : Type 0} → (M → ℕ) → Write M → Changes M → ℕ
measure_of size w changes = length (bytes_of w.number changes) + size (meta_of w changes)

-- an entry is admitted or weighed anew with at least what the body counts that its key has, and departs only when its key has none
abbrev pub MindsBodies : {M : Type 0} → (M → ℕ) → Change M → Changes M → Type 0
MindsBodies {M = M} size (admits e v) before = (w : Write M) → is_entry_of w.key e ≡ true → IsBody w.key w before → measure_of size w before ≤ v
MindsBodies {M = M} size (reweighs e v) before = (w : Write M) → is_entry_of w.key e ≡ true → IsBody w.key w before → measure_of size w before ≤ v
MindsBodies {M = M} size (departs e) before = (w : Write M) → is_entry_of w.key e ≡ true → IsBody w.key w before → ⊥
MindsBodies size _ before = Unit {0}

-- what keeps each body tracked
abbrev pub TracksBodies : {M : Type 0} → (M → ℕ) → Changes M → Type 0
TracksBodies size [] = Unit {0}
TracksBodies size (c ∷ before) = SettlesAtOnce c before × MindsBodies size c before × TracksBodies size before

-- the entry that was put as w finished or, later, last got another meta is tracked, with at least what w counts; it is an entry of w's key
pub record IsTrackedBody {M : Type 0} (size : M → ℕ) (w : Write M) (changes : Changes M) : Type 0 where
  pub since : Changes M
  pub before : Changes M
  pub entry : CacheEntryKey
  pub put : Change M
  pub cause : Change M
  pub split : changes ≡ since ++ put ∷ cause ∷ before
  pub puts : Puts w entry put cause
  pub last : AllByRecursion (λ c. renews_write w.number c ≡ false) since
  pub of_key : is_entry_of w.key entry ≡ true
  pub weight : ℕ
  pub weighs : last_weight entry changes ≡ Some weight
  pub enough : measure_of size w changes ≤ weight

-- bodies, one a key, keep the limit with what they count and the watermark with their number
abbrev pub AreWithin : {M : Type 0} → (M → ℕ) → ℕ → Option ℕ → Changes M → Type 0
AreWithin {M = M} size limit watermark changes =
    (bodies : List (Write M)) → HasDistinctKeys bodies → AllByRecursion (λ w. IsBody w.key w changes) bodies
    → (sum_by (λ w. measure_of size w changes) bodies ≤ limit) × IfSome watermark (λ mark. length bodies ≤ mark)
