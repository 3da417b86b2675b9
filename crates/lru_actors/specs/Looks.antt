-- Looks at a shard, which are given clones of its keys.
use Rattle.std.specs.Prelude.{◌≡◌, ℕ, List, [], ◌∷◌, ◌++◌}
use Rattle.lru_core.specs.declared.rows.Row.{Row}
use Rattle.lru_core.specs.Rows.{a_row}

-- the key of a copy is a clone of the pair's key, by what holds of clones, and the weight is the same
abbrev pub IsCopy : {K : Type 0} → (K → K → Type 0) → K × ℕ → K × ℕ → Type 0
IsCopy is_clone pair copy = is_clone pair.0 copy.0 × (copy.1 ≡ pair.1)

-- a copy of the key and the weight of the last row
abbrev pub IsLastCopy : {K : Type 0} → (K → K → Type 0) → List (Row K) → K × ℕ → Type 0
IsLastCopy {K} is_clone rows copy =
    (front : List (Row K)) × (hash : ℕ) × (key : K) × (weight : ℕ) × (rows ≡ front ++ a_row hash key weight ∷ []) × IsCopy is_clone (key, weight) copy
