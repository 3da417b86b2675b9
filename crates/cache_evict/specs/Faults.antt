-- Faults of managers, and what each leaves.
use Rattle.std.specs.Prelude.{◌≡◌, ℕ, ◌⊎◌, true, List, [], Option, Some, None, codes}
use Rattle.rand_core.specs.Stream.{Stream}
use Rattle.cache_entries.specs.declared.entry.CacheEntryKey.{CacheEntryKey}
use Rattle.cache_entries.specs.declared.rows.Tracked.{Tracked}
use Rattle.cache_evict.specs.declared.fault.EvictFault.{EvictFault}
use Rattle.cache_evict.specs.declared.fault.EvictFault.TheVariants.{Memory, Weight, Length, NumbersSpent, File}
use Rattle.cache_evict.specs.declared.tracker.refusal.Refusal.{Refusal}
use Rattle.cache_evict.specs.declared.tracker.refusal.Refusal.TheVariants as refusal
use Rattle.cache_evict.specs.Managed.{Managed, put_first, is_over, Fits, Evicts, IsHeavy, IsLong, IsFull, HasNoOtherReason}

-- the entries evicted until then
abbrev pub evicted_of : EvictFault → List CacheEntryKey
evicted_of (Memory v) = v.items
evicted_of (Weight v) = v.items
evicted_of (Length v) = v.items
evicted_of (NumbersSpent v) = v.items
evicted_of (File v) = v.items

-- the cause that it reports of an entry that isn't put
abbrev pub cause_of : EvictFault → Option Refusal
cause_of (Memory v) = Some refusal.Memory
cause_of (Weight v) = Some refusal.Weight
cause_of (Length v) = Some refusal.Length
cause_of (NumbersSpent v) = Some refusal.Spent
cause_of (File v) = None

abbrev pub evict_fault_text : EvictFault → List ℕ
evict_fault_text (Memory v) = codes "out of memory"
evict_fault_text (Weight v) = codes "the weight of the shard could not be counted"
evict_fault_text (Length v) = codes "there is no room for one more entry"
evict_fault_text (NumbersSpent v) = codes "no number is left for the entry's hash"
evict_fault_text (File v) = codes "a file could not be read or written"

-- why e, of n shards, doesn't get weight w, in its row or in a new one, where nothing has changed
abbrev pub IsPutRefused : ℕ → CacheEntryKey → ℕ → Managed → EvictFault → Type 0
IsPutRefused n e w m (Memory v) = HasNoOtherReason n e w m
IsPutRefused n e w m (Weight v) = IsHeavy n e w m
IsPutRefused n e w m (Length v) = IsLong n e m
IsPutRefused n e w m (NumbersSpent v) = IsFull n e m
IsPutRefused n e w m (File v) = ⊥

-- it is out of memory
abbrev pub IsMemory : EvictFault → Type 0
IsMemory (Memory v) = Unit {0}
IsMemory _ = ⊥

-- memory runs out in evictions, which stop with what is gone until then
abbrev pub RunsOut : (List (List Tracked) → Stream → ℕ × Stream) → Managed → Stream → EvictFault → Managed → Stream → Type 0
RunsOut pick old s fault new rest = IsMemory fault × Evicts pick old (evicted_of fault) s new rest × (is_over new ≡ true)

-- a fault of a call that puts e first and then evicts: either e isn't put, and all is as before, or memory runs out in the
-- evictions, where e fits
abbrev pub StopsAt : (List (List Tracked) → Stream → ℕ × Stream) → ℕ → CacheEntryKey → ℕ → Managed → Stream → EvictFault → Managed → Stream → Type 0
StopsAt pick n e w old s fault new rest =
    (IsPutRefused n e w old fault × (evicted_of fault ≡ []) × (new ≡ old) × (rest ≡ s)) ⊎ (RunsOut pick (put_first n e w old) s fault new rest × Fits n (put_first n e w old))
