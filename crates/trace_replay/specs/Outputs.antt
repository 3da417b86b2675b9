-- What is waiting to be written.
use Rattle.std.specs.Prelude.{◌≡◌, ℕ, List, ◌++◌, Option}
use Rattle.std.specs.Io.KnownBytes.{Appends}

-- the writer took the text up to what is left
abbrev pub Passes : Option (List ℕ) → Option (List ℕ) → List ℕ → List ℕ → Type 0
Passes held new text left = (done : List ℕ) × (text ≡ done ++ left) × Appends held new done

-- the writer took a beginning of the text
abbrev pub HasBegun : Option (List ℕ) → Option (List ℕ) → List ℕ → Type 0
HasBegun held new text = (left : List ℕ) × Passes held new text left
