-- Entries that are asked for more than once. Lists of requests have the latest first.
use Rattle.std.specs.Prelude.{◌≡◌, ℕ, ◌+◌, ◌<◌, ◌==◌, nat_lt, Bool, false, not, ◌&&◌, ◌||◌, if◌then◌else◌, List, [], ◌∷◌, length, slice_index_or}
use Rattle.cache_entries.specs.declared.entry.CacheEntryKey.{CacheEntryKey}
use Rattle.cache_entries.specs.Entry.{same_entry}
use Rattle.curve_sizes.specs.Requests.{Request, asks, removes, is_among}
use Rattle.curve_sizes.specs.Numbers.{numbered, Agrees}
use Rattle.curve_keys.specs.declared.repeats.Repeats.{Repeats}

-- two of the requests ask for e, or more
abbrev pub is_repeated : CacheEntryKey → List Request → Bool
is_repeated e [] = false
is_repeated e (asks x w t ∷ before) = (same_entry x e && is_among e before) || is_repeated e before
is_repeated e (removes x ∷ before) = is_repeated e before

-- one of them does
abbrev pub is_once : CacheEntryKey → List Request → Bool
is_once e requests = is_among e requests && not (is_repeated e requests)

-- entries that are asked for more than once: each counts at its second request
abbrev pub repeated_in : List Request → ℕ
repeated_in [] = 0
repeated_in (asks e w t ∷ before) = (if is_once e before then 1 else 0) + repeated_in before
repeated_in (removes e ∷ before) = repeated_in before

-- what these weigh, each once
abbrev pub repeated_bytes_in : (CacheEntryKey → ℕ) → List Request → ℕ
repeated_bytes_in weight [] = 0
repeated_bytes_in weight (asks e w t ∷ before) = (if is_once e before then weight e else 0) + repeated_bytes_in weight before
repeated_bytes_in weight (removes e ∷ before) = repeated_bytes_in weight before

-- the entry of a number was asked for more than once, and once
abbrev pub asked_again : Repeats → ℕ → Bool
asked_again r n = slice_index_or r.again.items n false

abbrev pub asked_once : Repeats → ℕ → Bool
asked_once r n = nat_lt n (length r.again.items) && not (asked_again r n)

-- a request more for an entry of that weight was counted
pub record CountsAsk (entry weight : ℕ) (old new : Repeats) : Type 0 where
  pub again : (n : ℕ) → asked_again new n ≡ (if n == entry then nat_lt entry (length old.again.items) else asked_again old n)
  pub known : entry < length old.again.items → length new.again.items ≡ length old.again.items
  pub next : entry ≡ length old.again.items → length new.again.items ≡ length old.again.items + 1
  pub keys_are : new.keys ≡ old.keys + (if asked_once old entry then 1 else 0)
  pub bytes_are : new.bytes ≡ old.bytes + (if asked_once old entry then weight else 0)

-- nothing more was counted
pub record IsUncounted (old new : Repeats) : Type 0 where
  pub again : new.again.items ≡ old.again.items
  pub keys_are : new.keys ≡ old.keys
  pub bytes_are : new.bytes ≡ old.bytes

-- the entries of these weights that the requests ask for more than once were counted
pub record AreRepeats (weights : List ℕ) (r : Repeats) (requests : List Request) : Type 0 where
  pub entries : length r.again.items ≡ length weights
  pub again_are : (n : ℕ) → asked_again r n ≡ is_repeated (numbered n) requests
  pub keys_are : r.keys ≡ repeated_in requests
  pub bytes_are : (weight : CacheEntryKey → ℕ) → Agrees weight weights → r.bytes ≡ repeated_bytes_in weight requests

-- by these weights it has how many entries are asked for more than once, and what they weigh
pub record HasRepeats (weight : CacheEntryKey → ℕ) (r : Repeats) (requests : List Request) : Type 0 where
  pub keys_are : r.keys ≡ repeated_in requests
  pub bytes_are : r.bytes ≡ repeated_bytes_in weight requests
