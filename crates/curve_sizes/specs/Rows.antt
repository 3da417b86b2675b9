-- Rows of a curve: what is found under each limit.
use Rattle.std.specs.Prelude.{◌⊎◌, ℕ, ◌+◌, ◌≤◌, ◌<◌, ◌^◌, nat_lt, if◌then◌else◌, List, [], ◌∷◌, map, length, slice_index_or}
use Rattle.curve_sizes.specs.declared.row.CurveRow.{CurveRow}

abbrev pub empty_row : ℕ → CurveRow
empty_row limit = record { limit = limit; finds = 0; bytes = 0 }

abbrev pub limits_of : List CurveRow → List ℕ
limits_of rows = map (λ r. r.limit) rows

-- one more find of that height and weight: each limit that is at least the height has it
abbrev pub found_row : ℕ → ℕ → CurveRow → CurveRow
found_row height weight r = if nat_lt r.limit height then r else record r { finds = r.finds + 1; bytes = r.bytes + weight }

abbrev pub found_at : ℕ → ℕ → List CurveRow → List CurveRow
found_at height weight rows = map (found_row height weight) rows

-- what the last row has found, which has the most; nothing where there is no row
abbrev pub last_finds : List CurveRow → ℕ
last_finds [] = 0
last_finds (r ∷ []) = r.finds
last_finds (r ∷ s ∷ rows) = last_finds (s ∷ rows)

abbrev pub last_bytes : List CurveRow → ℕ
last_bytes [] = 0
last_bytes (r ∷ []) = r.bytes
last_bytes (r ∷ s ∷ rows) = last_bytes (s ∷ rows)

-- one find more of that weight can be counted
abbrev pub HasRoom : ℕ → List CurveRow → Type 0
HasRoom weight rows = (last_finds rows + 1 < 2 ^ 64) × (last_bytes rows + weight < 2 ^ 128)

abbrev pub HasNoRoom : ℕ → List CurveRow → Type 0
HasNoRoom weight rows = (2 ^ 64 ≤ last_finds rows + 1) ⊎ (2 ^ 128 ≤ last_bytes rows + weight)

-- no limit is greater than a later one
abbrev pub AreRising : List CurveRow → Type 0
AreRising rows = (i j : ℕ) (d : CurveRow) → i ≤ j → j < length rows → (slice_index_or rows i d).limit ≤ (slice_index_or rows j d).limit

-- the rows of buckets: what a bucket has is found under its limit and all greater ones
abbrev pub running : ℕ → ℕ → List CurveRow → List CurveRow
running finds bytes [] = []
running finds bytes (b ∷ buckets) = record { limit = b.limit; finds = finds + b.finds; bytes = bytes + b.bytes } ∷ running (finds + b.finds) (bytes + b.bytes) buckets

abbrev pub all_finds : List CurveRow → ℕ
all_finds [] = 0
all_finds (b ∷ buckets) = b.finds + all_finds buckets

abbrev pub all_bytes : List CurveRow → ℕ
all_bytes [] = 0
all_bytes (b ∷ buckets) = b.bytes + all_bytes buckets
