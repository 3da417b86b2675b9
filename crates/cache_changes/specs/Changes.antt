-- What calls change in a cache, one thing at a time: writes of bodies, removals, and the entries in the order of use.
use Rattle.std.specs.Prelude.{ℕ, Bool, false, List, Option, Some, None}
use Rattle.cache_words.specs.declared.key.CompactCacheKey.{CompactCacheKey}
use Rattle.cache_words.specs.Key.{combined}
use Rattle.cache_words.specs.CompactKey.{compact_view}
use Rattle.cache_entries.specs.declared.entry.CacheEntryKey.{CacheEntryKey}
use Rattle.cache_entries.specs.declared.entry.CacheEntryKey.TheVariants.{KeyOnly, Identified}
use Rattle.cache_entries.specs.Keys.{same_bytes}

-- the 16 bytes under which a body is stored; the tag isn't in them, so entries of several tags have one stored key
abbrev pub StoredKey : Type 0
StoredKey = List ℕ

abbrev pub stored_key : CompactCacheKey → StoredKey
stored_key key = combined (compact_view key)

-- a write of a body: its number, the key under which it is stored, and what is kept beside the bytes
pub record Write (M : Type 0) : Type 0 where
  pub number : ℕ
  pub key : StoredKey
  pub meta : M

pub data Change (M : Type 0) : Type 0 where
  -- a write begins, and is in flight
  begins : Write M → Change M
  -- bytes come, at the end of the write of that number
  appends : ℕ → List ℕ → Change M
  -- no more bytes come to the write of that number
  ends : ℕ → Change M
  -- a write is whole: in flight no more, and its bytes are a finished body
  finishes : Write M → Change M
  -- the write of that number is given up: in flight no more
  leaves : ℕ → Change M
  -- the write of that number gets another meta
  renews : ℕ → M → Change M
  -- what is stored under a key is removed, bodies and writes in flight
  removes : StoredKey → Change M
  -- an entry is put first in the order of use, with that weight
  admits : CacheEntryKey → ℕ → Change M
  -- an entry is used: put first with the weight that it has, or, where it isn't tracked, with that one
  uses : CacheEntryKey → ℕ → Change M
  -- an entry is weighed anew: with that weight at its place, or, where it isn't tracked, put first
  reweighs : CacheEntryKey → ℕ → Change M
  -- an entry is no longer tracked
  departs : CacheEntryKey → Change M
  -- an entry is evicted: no longer tracked, and, if it has no id, what is stored under its key is removed
  evicts : CacheEntryKey → Change M

-- what was changed so far, the latest change first
abbrev pub Changes : Type 0 → Type 0
Changes M = List (Change M)

-- the stored key of an entry without an id: what is stored under it goes when the entry is evicted
abbrev pub key_alone : CacheEntryKey → Option StoredKey
key_alone (KeyOnly key) = Some (stored_key key)
key_alone (Identified key id) = None

-- the key whose bodies and writes a change removes
abbrev pub key_removed : {M : Type 0} → Change M → Option StoredKey
key_removed (removes k) = Some k
key_removed (evicts e) = key_alone e
key_removed _ = None

-- it is the key k
abbrev pub is_key : StoredKey → Option StoredKey → Bool
is_key k None = false
is_key k (Some j) = same_bytes j k
