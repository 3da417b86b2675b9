-- What is known of a request that was read: where its scheme and its host end.
use Rattle.std.specs.Prelude.{ℕ, ◌≡◌, ◌==◌, ◌⊎◌, Bool, true, not, List, [], ◌∷◌}
use Rattle.std.specs.List.{list_all}

-- a text without this byte
abbrev pub lacks : ℕ → List ℕ → Bool
lacks b text = list_all (λ c. not (c == b)) text

-- `*`, or a text that begins with a slash
abbrev pub IsTarget : List ℕ → Type 0
IsTarget target = (target ≡ 42 ∷ []) ⊎ ((path : List ℕ) × (target ≡ 47 ∷ path))
