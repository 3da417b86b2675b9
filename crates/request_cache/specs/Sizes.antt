-- The bytes of a body against their limit.
use Rattle.std.specs.Prelude.{ℕ, ◌+◌, ◌-◌, ◌^◌, min, nat_le, Bool, true, Option, Some, None}
use Rattle.cache_store.specs.declared.max_file_size.MaxFileSizeTracker.{MaxFileSizeTracker}

-- with more bytes counted, up to the greatest number
abbrev pub tracked : ℕ → Option MaxFileSizeTracker → Option MaxFileSizeTracker
tracked bytes None = None
tracked bytes (Some t) = Some (record t { body_bytes = min (t.body_bytes + bytes) (2 ^ 64 - 1) })

-- the bytes so far are within the limit, if there is one
abbrev pub is_within : Option MaxFileSizeTracker → Bool
is_within None = true
is_within (Some t) = nat_le t.body_bytes t.max_size
