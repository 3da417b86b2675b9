-- Requests by keys, and a curve that is fed them by numbers of its own.
use Rattle.std.specs.Prelude.{◌≡◌, ℕ, ◌<◌, false, if◌then◌else◌, List, [], ◌∷◌, length, slice_index, Option, Some, None, is_some, MatchOption, Vec}
use Rattle.std.specs.HashMap.{HashMap, get_by}
use Rattle.std.specs.declared.alloc.Global.{Global}
use Rattle.seeded_hashing.specs.declared.seeded_state.SeededState.{SeededState}
use Rattle.cache_entries.specs.declared.entry.CacheEntryKey.{CacheEntryKey}
use Rattle.cache_entries.specs.declared.entry.CacheEntryKey.TheVariants.{KeyOnly}
use Rattle.cache_entries.specs.Keys.{same_bytes}
use Rattle.curve_sizes.specs.Requests.{Request, asks, removes, is_among, AreFirst, asked_in, odd_in, bytes_in, said_in}
use Rattle.curve_sizes.specs.Numbers.{numbered, mark_of}
use Rattle.curve_sizes.specs.Rows.{limits_of}
use Rattle.curve_sizes.specs.declared.when.When.{When}
use Rattle.curve_timed.specs.Counting.{IsFedTimed}
use Rattle.curve_sizes.specs.declared.totals.Totals.{Totals}
use Rattle.curve_keys.specs.Repeats.{AreRepeats}
use Rattle.curve_keys.specs.declared.keyed.KeyedCurve.{KeyedCurve}

-- the entry of a key
abbrev pub keyed : List ℕ → CacheEntryKey
keyed key = KeyOnly (record { primary = key; variance = None; user_tag = [] })

-- the number of a key, where it has one
abbrev pub number_of : HashMap (Vec ℕ Global) ℕ SeededState → List ℕ → Option ℕ
number_of table key = get_by (λ kept. same_bytes key kept.items) table

-- Requests by keys, and the same by numbers. A removal of a key that wasn't asked for isn't among those by numbers.
pub data AreRenamed (number : List ℕ → Option ℕ) : List Request → List Request → Type 0 where
  none : AreRenamed number [] []
  ask : (key : List ℕ) (weight n : ℕ) (when : When) (requests numbers : List Request) → number key ≡ Some n → AreRenamed number requests numbers
      → AreRenamed number (asks (keyed key) weight when ∷ requests) (asks (numbered n) weight when ∷ numbers)
  removal : (key : List ℕ) (n : ℕ) (requests numbers : List Request) → number key ≡ Some n → AreRenamed number requests numbers
      → AreRenamed number (removes (keyed key) ∷ requests) (removes (numbered n) ∷ numbers)
  unknown : (key : List ℕ) (requests numbers : List Request) → is_among (keyed key) requests ≡ false → AreRenamed number requests numbers
      → AreRenamed number (removes (keyed key) ∷ requests) numbers

-- the keys of the requests have numbers of their own, by which the weights are those of the first requests
pub record AreKeyed (number : List ℕ → Option ℕ) (weights : List ℕ) (requests numbers : List Request) : Type 0 where
  pub renamed : AreRenamed number requests numbers
  pub apart : (key other : List ℕ) (n : ℕ) → number key ≡ Some n → number other ≡ Some n → key ≡ other
  pub below : (key : List ℕ) (n : ℕ) → number key ≡ Some n → n < length weights
  pub first : (weight : CacheEntryKey → ℕ) → AreFirst weight requests → (key : List ℕ) (n : ℕ) → number key ≡ Some n → weight (keyed key) ≡ slice_index weights n
  pub others : (key : List ℕ) → number key ≡ None → is_among (keyed key) requests ≡ false

-- the curve was fed these requests
pub record IsFedKeys (c : KeyedCurve) (requests : List Request) : Type 0 where
  pub whole : c.is_broken ≡ false
  pub numbers : List Request
  pub keys : AreKeyed (number_of c.numbers) c.curve.curve.weights.items requests numbers
  pub fed : IsFedTimed c.curve numbers
  pub repeats_are : AreRepeats c.curve.curve.weights.items c.repeats numbers

-- the numbers after a key was looked for: one that has none gets the next
abbrev pub IsNumbered : (old new : List ℕ → Option ℕ) → List ℕ → ℕ → ℕ → Type 0
IsNumbered old new key next n =
    MatchOption (old key) ((n ≡ next) × ((other : List ℕ) → new other ≡ (if same_bytes key other then Some next else old other)))
    (λ m. (n ≡ m) × ((other : List ℕ) → new other ≡ old other))

-- how many requests ask, how many of them by another weight than the entry's own, and what the entries weigh that are asked for, by their first
-- requests and by each request itself
pub record Counts (weight : CacheEntryKey → ℕ) (t : Totals) (requests : List Request) : Type 0 where
  pub asked : t.asks ≡ asked_in requests
  pub odd : t.odd ≡ odd_in weight requests
  pub bytes : t.bytes ≡ bytes_in weight requests
  pub said : t.said ≡ said_in requests

-- two curves have the same limits, and spans of the same length, and both count fresh finds or neither does
abbrev pub AreSameLimits : KeyedCurve → KeyedCurve → Type 0
AreSameLimits old new = (mark_of new.curve.curve.watermark ≡ mark_of old.curve.curve.watermark) × (limits_of new.curve.curve.table ≡ limits_of old.curve.curve.table)
    × (new.curve.every ≡ old.curve.every) × (is_some new.curve.fresh ≡ is_some old.curve.fresh)
