-- Evictions from an order of use, one after another.
use Rattle.std.specs.Prelude.{◌≡◌, ℕ, ◌+◌, Bool, true, List, [], ◌∷◌, unwrap_or}
use Rattle.cache_entries.specs.declared.entry.CacheEntryKey.{CacheEntryKey}
use Rattle.cache_entries.specs.Rows.{weight_of}
use Rattle.cache_evict.specs.Managed.{Managed, rows_of, taken_out, saturated, is_over, IsLast}

-- e is evicted from its shard, of n shards, and counted
abbrev pub gone : ℕ → CacheEntryKey → Managed → Managed
gone n e m = record (taken_out n e m) { evicted_size = saturated (m.evicted_size + unwrap_or (weight_of e (rows_of n e m)) 0); evicted_items = saturated (m.evicted_items + 1) }

-- these are evicted, in order
abbrev pub all_gone : ℕ → List CacheEntryKey → Managed → Managed
all_gone n [] m = m
all_gone n (e ∷ es) m = all_gone n es (gone n e m)

-- these go in turn, each the last of its shard while a limit is passed; `over` says whether one is passed still after them
abbrev pub GoInTurn : ℕ → Bool → List CacheEntryKey → Managed → Type 0
GoInTurn n over [] m = is_over m ≡ over
GoInTurn n over (e ∷ es) m = (is_over m ≡ true) × IsLast (rows_of n e m) e × GoInTurn n over es (gone n e m)
