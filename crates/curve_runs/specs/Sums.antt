-- Sums of the first numbers of a list.
use Rattle.std.specs.Prelude.{ℕ, zero, suc, ◌+◌, List, [], ◌∷◌}

-- what the first n add up to
abbrev pub front : ℕ → List ℕ → ℕ
front n [] = 0
front zero (x ∷ xs) = 0
front (suc n) (x ∷ xs) = x + front n xs
