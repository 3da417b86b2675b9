-- By what a response varies.
use Rattle.std.specs.Prelude.{Bool, true, false, List, ℕ, bytes_eq, Option, Some, None, if◌then◌else◌}
use Rattle.cache_heads.specs.declared.meta.CacheMeta.{CacheMeta}

abbrev pub same_variance : Option (List ℕ) → Option (List ℕ) → Bool
same_variance None None = true
same_variance (Some a) (Some b) = bytes_eq a b
same_variance _ _ = false

-- the meta with that variance. What begins a family goes back to its own creation
abbrev pub varied : Option (List ℕ) → Bool → CacheMeta → CacheMeta
varied v anew m = record m { internal = record m.internal { variance = v; provenance = if anew then Some m.internal.created else m.internal.provenance } }
