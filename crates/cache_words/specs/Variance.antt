-- What a response varies by: names with their values, and the hash of them.
use Rattle.std.specs.Prelude.{ℕ, List, [], ◌∷◌, ◌++◌, ◌==◌, flat_map, Option, Some, None, if◌then◌else◌}
use Rattle.std.specs.Ordering.{nat_cmp}
use Rattle.std.specs.Cmp.Lexicographic.{slice_cmp}
use Rattle.std.specs.FinMap.{FinMap, entries, len}
use Rattle.cache_words.specs.Blake.{blake2b_128}

-- one value for each name, in the order of the names' bytes
abbrev pub Values : Type 0
Values = FinMap (slice_cmp nat_cmp) (List ℕ)

-- a name and its value, each with a zero byte after it
abbrev pub salted : List ℕ × List ℕ → List ℕ
salted e = e.0 ++ (0 ∷ (e.1 ++ (0 ∷ [])))

abbrev pub variance_text : List (List ℕ × List ℕ) → List ℕ
variance_text pairs = flat_map salted pairs

-- the hash of all names with their values; none without any
abbrev pub variance_hash : Values → Option (List ℕ)
variance_hash values = if len values == 0 then None else Some (blake2b_128 (variance_text (entries values)))
