-- Lines among the bytes that were read ahead.
use Rattle.std.specs.Prelude.{◌≡◌, ℕ, List, ◌++◌, ◌≤◌, take, drop, length}
use Rattle.std.specs.Io.BufRead.{take_through, drop_through}

-- the first n of the held bytes are the first line of the stream, whose bytes after these are `rest`
abbrev pub IsLineBefore : ℕ → List ℕ → List ℕ → Type 0
IsLineBefore n held rest = (take_through 10 (held ++ rest) ≡ take n held) × (drop_through 10 (held ++ rest) ≡ drop n held ++ rest)

-- the same whatever the rest is
abbrev pub IsLineOf : ℕ → List ℕ → Type 0
IsLineOf n held = (n ≤ length held) × ((rest : List ℕ) → IsLineBefore n held rest)
