-- Lines and records among the bytes that were read ahead.
use Rattle.std.specs.Prelude.{◌≡◌, ◌≢◌, ℕ, ◌<◌, ◌≤◌, List, [], ◌++◌, All, take, drop, length, Option, IfSome}
use Rattle.std.specs.Io.BufRead.{take_through, drop_through, strip_last}
use Rattle.curve_lines.specs.declared.format.Format.{Format}
use Rattle.curve_lines.specs.declared.format.Format.TheVariants.{Text, Records, OracleGeneral}
use Rattle.curve_lines.specs.declared.input.Next.{Next}
use Rattle.curve_lines.specs.declared.input.Next.TheVariants.{End, Held, TooLong}

-- the first n of the held bytes are what is first in the stream, whose bytes after these are `rest`
abbrev pub IsFirstOf : (first after : List ℕ → List ℕ) → ℕ → List ℕ → List ℕ → Type 0
IsFirstOf first after n held rest = (first (held ++ rest) ≡ take n held) × (after (held ++ rest) ≡ drop n held ++ rest)

-- the first n of the held bytes are the first line, with its line feed, whatever the rest is
abbrev pub IsLineOf : ℕ → List ℕ → Type 0
IsLineOf n held = (n ≤ length held) × ((rest : List ℕ) → IsFirstOf (take_through 10) (drop_through 10) n held rest)

-- what comes next in a stream, of which these bytes are held: `long` where it is a line that doesn't fit
abbrev pub IsNextBy : (first after : List ℕ → List ℕ) → Type 0 → Next → List ℕ → Option (List ℕ) → Type 0
IsNextBy first after long End held rest = IfSome rest (λ ys. held ++ ys ≡ [])
IsNextBy first after long (Held n) held rest = (0 < n) × (n ≤ length held) × IfSome rest (λ ys. IsFirstOf first after n held ys)
IsNextBy first after long TooLong held rest = long

-- so many bytes are held, and no line feed is among them
abbrev pub IsTooLong : List ℕ → Type 0
IsTooLong held = (length held ≡ 65536) × All (λ x. x ≢ 10) held

abbrev pub IsNext : Format → Next → List ℕ → Option (List ℕ) → Type 0
IsNext Text next held rest = IsNextBy (take_through 10) (drop_through 10) (IsTooLong held) next held rest
IsNext Records next held rest = IsNextBy (take 16) (drop 16) ⊥ next held rest
IsNext OracleGeneral next held rest = IsNextBy (take 24) (drop 24) ⊥ next held rest

-- a line without its line feed, or a record
abbrev pub bare : Format → List ℕ → List ℕ
bare Text line = strip_last 10 line
bare Records part = part
bare OracleGeneral part = part
