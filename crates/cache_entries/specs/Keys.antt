-- When two kept keys are one, and what is hashed of a key.
use Rattle.std.specs.Prelude.{ℕ, ◌==◌, ◌&&◌, ◌++◌, Bool, true, false, List, Option, Some, None}
use Rattle.std.specs.Hash as fed
use Rattle.std.specs.Cmp.Lexicographic.{pointwise}
use Rattle.cache_words.specs.declared.key.CompactCacheKey.{CompactCacheKey}

-- both are the same bytes
abbrev pub same_bytes : List ℕ → List ℕ → Bool
same_bytes a b = pointwise ◌==◌ a b

abbrev pub same_variance : Option (List ℕ) → Option (List ℕ) → Bool
same_variance None None = true
same_variance (Some a) (Some b) = same_bytes a b
same_variance _ _ = false

-- both are one kept key, the tag too
abbrev pub same_key : CompactCacheKey → CompactCacheKey → Bool
same_key a b = same_bytes a.primary b.primary && (same_variance a.variance b.variance && same_bytes a.user_tag b.user_tag)

-- what is hashed of a kept key
abbrev pub key_writes : CompactCacheKey → fed.HashWrites
key_writes k = fed.slice fed.u8 k.primary ++ (fed.option (fed.slice fed.u8) k.variance ++ fed.str k.user_tag)
