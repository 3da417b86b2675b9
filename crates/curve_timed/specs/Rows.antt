-- What is found fresh under each limit.
use Rattle.std.specs.Prelude.{◌≡◌, ℕ, List, Option}
use Rattle.std.specs.List.{AllByRecursion}
use Rattle.cache_entries.specs.declared.entry.CacheEntryKey.{CacheEntryKey}
use Rattle.curve_fresh.specs.Fresh.{Timed, fresh_finds, fresh_bytes}
use Rattle.curve_timed.specs.declared.row.FreshRow.{FreshRow}

-- each row has what a cache of its limit finds fresh of these requests
abbrev pub AreFresh : (CacheEntryKey → ℕ) → Option ℕ → List Timed → List FreshRow → Type 0
AreFresh weight watermark requests rows =
    AllByRecursion (λ r. (r.finds ≡ fresh_finds weight r.limit watermark requests) × (r.bytes ≡ fresh_bytes weight r.limit watermark requests)) rows
