-- What an eviction manager holds: shards of tracked entries, each most recent first.
use Rattle.std.specs.Prelude.{◌≡◌, ℕ, zero, suc, Bool, true, ◌||◌, ◌==◌, ◌+◌, ◌-◌, ◌*◌, ◌%◌, ◌^◌, ◌<◌, ◌≤◌, ◌⊎◌, min, max, nat_lt, if◌then◌else◌, List, [], ◌∷◌, ◌++◌, length, replicate, slice_set, slice_index_or, Option, Some, None}
use Rattle.std.specs.List.{sum_by, All, AllByRecursion}
use Rattle.rand_core.specs.Stream.{Stream, next_u64}
use Rattle.cache_entries.specs.declared.entry.CacheEntryKey.{CacheEntryKey}
use Rattle.cache_entries.specs.declared.rows.Tracked.{Tracked}
use Rattle.cache_entries.specs.Rows.{AreDistinct, weight_of, all_weights, without_row, admitted, used, with_last}
pub use Rattle.cache_changes.specs.Uses.{shard_of}
use Rattle.cache_changes.specs.Uses as uses
use Rattle.cache_evict.specs.declared.tracker.rows.End.{End}
use Rattle.cache_evict.specs.declared.tracker.rows.End.TheVariants as end
use Rattle.lru_core.specs.Rows.{capped, raised}
use Rattle.lru_core.specs.Cores.{shard_bound, passes}
use Rattle.lru_core.specs.declared.rows.TheConstants.{MOST_ROWS}

-- `limit` is what the entries may weigh together, `watermark` how many there may be; the rest counts all that were
-- evicted, up to 2 ^ 64 - 1
pub record Managed : Type 0 where
  pub shards : List (List Tracked)
  pub limit : ℕ
  pub watermark : Option ℕ
  pub evicted_size : ℕ
  pub evicted_items : ℕ

-- n shards without entries
abbrev pub fresh : ℕ → ℕ → Option ℕ → Managed
fresh n limit watermark = record { shards = replicate n []; limit = limit; watermark = watermark; evicted_size = 0; evicted_items = 0 }

abbrev pub rows_at : List (List Tracked) → ℕ → List Tracked
rows_at shards s = slice_index_or shards s []

-- the rows of the shard of e
abbrev pub rows_of : ℕ → CacheEntryKey → Managed → List Tracked
rows_of n e m = rows_at m.shards (shard_of n e)

-- with other rows there
abbrev pub with_rows : ℕ → CacheEntryKey → List Tracked → Managed → Managed
with_rows n e rows m = record m { shards = slice_set m.shards (shard_of n e) rows }

-- n shards, of which there is one at least, each with rows of its own entries alone, no entry twice
pub record IsSharded (n : ℕ) (m : Managed) : Type 0 where
  pub some : 0 < n
  pub count : length m.shards ≡ n
  pub distinct : (s : ℕ) → AreDistinct (rows_at m.shards s)
  pub home : (s : ℕ) → AllByRecursion (λ r. shard_of n r.entry ≡ s) (rows_at m.shards s)

abbrev pub total_size : Managed → ℕ
total_size m = sum_by all_weights m.shards

abbrev pub total_items : Managed → ℕ
total_items m = sum_by length m.shards

-- rows of one of n shards: neither their weight nor their number is past what can be counted for each of n shards
abbrev pub IsWithin : ℕ → List Tracked → Type 0
IsWithin n rows = (all_weights rows ≤ shard_bound n) × (length rows ≤ shard_bound n)

-- each of n shards is within its bound, and the weights of all together can be counted
abbrev pub Fits : ℕ → Managed → Type 0
Fits n m = All (IsWithin n) m.shards × (total_size m < 2 ^ 64)

-- the weight is past the limit, or the number of entries past the watermark
abbrev pub is_over : Managed → Bool
is_over m = nat_lt m.limit (total_size m) || passes m.watermark (total_items m)

-- e at the front of its shard, with weight w
abbrev pub put_first : ℕ → CacheEntryKey → ℕ → Managed → Managed
put_first n e w m = with_rows n e (admitted e w (rows_of n e m)) m

-- e at the front of its shard, with the weight that it has, or else with w
abbrev pub use_first : ℕ → CacheEntryKey → ℕ → Managed → Managed
use_first n e w m = with_rows n e (used e w (rows_of n e m)) m

abbrev pub taken_out : ℕ → CacheEntryKey → Managed → Managed
taken_out n e m = with_rows n e (without_row e (rows_of n e m)) m

-- what e weighs once `delta` is added: a cap never lowers it, and a new entry weighs 1 at least
abbrev pub added : Option ℕ → ℕ → Option ℕ → ℕ
added None delta cap = max 1 (capped cap delta)
added (Some old) delta cap = raised old delta cap

-- the same of e where it is
abbrev pub weight_after : ℕ → CacheEntryKey → ℕ → Option ℕ → Managed → ℕ
weight_after n e delta cap m = added (weight_of e (rows_of n e m)) delta cap

-- e at the front of its shard, with that weight
abbrev pub weighed_first : ℕ → CacheEntryKey → ℕ → Option ℕ → Managed → Managed
weighed_first n e delta cap m = put_first n e (weight_after n e delta cap m) m

-- e weighs w: in place where it has a row, else at the front of its shard
abbrev pub weighed_anew : ℕ → CacheEntryKey → ℕ → Managed → Managed
weighed_anew n e w m = with_rows n e (uses.reweighed e w (rows_of n e m)) m

-- e last in its shard with weight w, unless it has a row
abbrev pub put_last : ℕ → CacheEntryKey → ℕ → Managed → Managed
put_last n e w m = with_rows n e (with_last e w (rows_of n e m)) m

abbrev pub put_at : End → ℕ → CacheEntryKey → ℕ → Managed → Managed
put_at end.First = put_first
put_at end.Last = put_last

-- the sum of evicted weights or numbers, which stays at the greatest number once it gets there
abbrev pub saturated : ℕ → ℕ
saturated n = min n (2 ^ 64 - 1)

-- e is the last entry of the rows
abbrev pub IsLast : List Tracked → CacheEntryKey → Type 0
IsLast rows e = uses.IsLast e rows

-- e is the last entry of shard s, and goes
abbrev pub GoesLast : Managed → ℕ → CacheEntryKey → Managed → Type 0
GoesLast old s e new =
    (front : List Tracked) × (w : ℕ) × (rows_at old.shards s ≡ front ++ record { entry = e; weight = w } ∷ [])
    × (new ≡ record old { shards = slice_set old.shards s front; evicted_size = saturated (old.evicted_size + w); evicted_items = saturated (old.evicted_items + 1) })

-- The entries go in turn, while a limit is passed. `pick` says which shard is taken from, and what is left of the stream of draws.
abbrev pub Evicts : (List (List Tracked) → Stream → ℕ × Stream) → Managed → List CacheEntryKey → Stream → Managed → Stream → Type 0
Evicts pick old [] s new rest = (new ≡ old) × (rest ≡ s)
Evicts pick old (e ∷ es) s new rest =
    (mid : Managed) × (is_over old ≡ true) × GoesLast old (pick old.shards s).0 e mid × Evicts pick mid es (pick old.shards s).1 new rest

-- of two shards the longer, of equally long ones the first
abbrev pub longer_of : List (List Tracked) → ℕ → ℕ → ℕ
longer_of shards a b = if nat_lt (length (rows_at shards a)) (length (rows_at shards b)) then b else a

-- the first shard from s on that isn't empty, around the circle of n
abbrev pub first_filled : ℕ → List (List Tracked) → ℕ → ℕ → ℕ
first_filled n shards zero s = s
first_filled n shards (suc more) s = if length (rows_at shards s) == 0 then first_filled n shards more (if s + 1 == n then 0 else s + 1) else s

-- the shard that two words pick: of those that they name modulo n the longer, and from it on the first that isn't empty
abbrev pub picked : ℕ → List (List Tracked) → ℕ → ℕ → ℕ
picked n shards a b = first_filled n shards n (longer_of shards (a % n) (b % n))

-- the same by the next two words of a stream
abbrev pub pick_by_draws : ℕ → List (List Tracked) → Stream → ℕ × Stream
pick_by_draws n shards s = (picked n shards (next_u64 s).0 (next_u64 (next_u64 s).1).0, (next_u64 (next_u64 s).1).1)

-- the one shard, without a draw
abbrev pub pick_first : List (List Tracked) → Stream → ℕ × Stream
pick_first shards s = (0, s)

-- an entry of weight w would bring its shard past the weight that can be counted for each of n shards
abbrev pub IsHeavy : ℕ → CacheEntryKey → ℕ → Managed → Type 0
IsHeavy n e w m = shard_bound n < all_weights (without_row e (rows_of n e m)) + w

-- e has no row, and its shard no room for one more, or all shards together none
abbrev pub IsLong : ℕ → CacheEntryKey → Managed → Type 0
IsLong n e m = (weight_of e (rows_of n e m) ≡ None) × ((shard_bound n ≤ length (rows_of n e m)) ⊎ (MOST_ROWS ≤ total_items m))

-- e has no row, and its shard as many as there are numbers below 2 ^ 64 with the shard's rest modulo n
abbrev pub IsFull : ℕ → CacheEntryKey → Managed → Type 0
IsFull n e m = (weight_of e (rows_of n e m) ≡ None) × (2 ^ 64 ≤ shard_of n e + n * length (rows_of n e m))

-- e has no row, and nothing but memory is in the way of one with weight w
abbrev pub HasNoOtherReason : ℕ → CacheEntryKey → ℕ → Managed → Type 0
HasNoOtherReason n e w m = (weight_of e (rows_of n e m) ≡ None) × (IsHeavy n e w m → ⊥) × (IsLong n e m → ⊥) × (IsFull n e m → ⊥)
