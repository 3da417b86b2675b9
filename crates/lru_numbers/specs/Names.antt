-- Numbers of entries: a finite map of numbers to entries, no entry under two numbers.
use Rattle.std.specs.Prelude.{◌≡◌, ◌≢◌, ℕ, ◌+◌, ◌%◌, ◌^◌, ◌<◌, ◌≤◌, ◌==◌, nat_lt, if◌then◌else◌, List, [], ◌∷◌, length, Option, Some, None, option_map, find}
use Rattle.cache_entries.specs.declared.entry.CacheEntryKey.{CacheEntryKey}

-- the entry that has number k, of entries with their numbers
abbrev pub name_at : List (CacheEntryKey × ℕ) → ℕ → Option CacheEntryKey
name_at pairs k = option_map (λ p. p.0) (find (λ p. p.1 == k) pairs)

-- no entry has two numbers
abbrev pub IsOneToOne : (ℕ → Option CacheEntryKey) → Type 0
IsOneToOne names = (i j : ℕ) (e : CacheEntryKey) → names i ≡ Some e → names j ≡ Some e → i ≡ j

-- e has no number
abbrev pub HasNoNumber : (ℕ → Option CacheEntryKey) → CacheEntryKey → Type 0
HasNoNumber names e = (k : ℕ) → names k ≢ Some e

-- the names with e under number k too
abbrev pub with_name : (ℕ → Option CacheEntryKey) → ℕ → CacheEntryKey → ℕ → Option CacheEntryKey
with_name names k e i = if i == k then Some e else names i

-- the names but that of number k
abbrev pub without_name : (ℕ → Option CacheEntryKey) → ℕ → ℕ → Option CacheEntryKey
without_name names k i = if i == k then None else names i

-- the place of number k among those that an entry of this hash may get: from the hash up, then from the least on
abbrev pub turn : ℕ → ℕ → ℕ
turn hash k = if nat_lt k hash then k + 2 ^ 64 else k

-- of the numbers with the hash's rest modulo n, k is the first in their turn that no entry has
pub record IsFirstFree {X : Type 0} (n : ℕ) (names : ℕ → Option X) (hash k : ℕ) : Type 0 where
  pub free : names k ≡ None
  pub rest : k % n ≡ hash % n
  pub below : k < 2 ^ 64
  pub first : (j : ℕ) → j < 2 ^ 64 → j % n ≡ hash % n → names j ≡ None → turn hash k ≤ turn hash j

-- each number with the hash's rest modulo n has an entry
abbrev pub IsSpent : {X : Type 0} → ℕ → (ℕ → Option X) → ℕ → Type 0
IsSpent n names hash = (k : ℕ) → k < 2 ^ 64 → k % n ≡ hash % n → names k ≢ None

-- each of the numbers has an entry, and none comes twice
abbrev pub AreNumbersApart : (ℕ → Option CacheEntryKey) → List ℕ → Type 0
AreNumbersApart names [] = Unit {0}
AreNumbersApart names (k ∷ ks) = (names k ≢ None) × AreNumbersApart (without_name names k) ks

-- m numbers or more have an entry
abbrev pub HasMany : ℕ → (ℕ → Option CacheEntryKey) → Type 0
HasMany m names = (ks : List ℕ) × (m ≤ length ks) × AreNumbersApart names ks
