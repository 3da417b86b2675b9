-- The lines or records that a stream is made of, and what each says.
use Rattle.std.specs.Prelude.{◌≡◌, ℕ, zero, suc, ◌-◌, ◌^◌, ◌==◌, ◌<◌, Bool, if◌then◌else◌, List, [], ◌∷◌, length, take, drop, Option, Some, None, IfSome}
use Rattle.std.specs.Bool.{MatchBool}
use Rattle.std.specs.Io.BufRead.{take_through, drop_through, strip_last}
use Rattle.std.specs.Int.{from_le_bytes, w32, w64}
use Rattle.curve_words.specs.declared.columns.Columns.{Columns}
use Rattle.curve_keys.specs.declared.said.Said.{Said}
use Rattle.curve_keys.specs.declared.said.Said.TheVariants.{Removal}
use Rattle.curve_keys.specs.Pasts.{Line, line_for}
use Rattle.curve_lines.specs.declared.format.Format.{Format}
use Rattle.curve_lines.specs.declared.format.Format.TheVariants.{Text, Records, OracleGeneral}
use Rattle.curve_lines.specs.declared.format.Rules.{Rules}
use Rattle.curve_lines.specs.Lines.{weighed, when_at, line_in}
use Rattle.curve_lines.specs.ColumnLines.{columns_line}

-- a byte more at the front of the first line or record
abbrev pub onto_first : ℕ → List (List ℕ) → List (List ℕ)
onto_first x [] = (x ∷ []) ∷ []
onto_first x (l ∷ ls) = (x ∷ l) ∷ ls

-- each line ends at a line feed; a last line without one counts
abbrev pub lines_in : List ℕ → List (List ℕ)
lines_in [] = []
lines_in (x ∷ xs) = if x == 10 then [] ∷ lines_in xs else onto_first x (lines_in xs)

-- records of one byte and `others`, the first with `more` after its first byte; the last one may be cut short
abbrev pub records_in : ℕ → ℕ → List ℕ → List (List ℕ)
records_in others more [] = []
records_in others zero (x ∷ xs) = (x ∷ []) ∷ records_in others others xs
records_in others (suc more) (x ∷ xs) = onto_first x (records_in others more xs)

-- the lines or records of a stream
abbrev pub units_in : Format → List ℕ → List (List ℕ)
units_in Text text = lines_in text
units_in Records text = records_in 15 15 text
units_in OracleGeneral text = records_in 23 23 text

-- all bits set are a removal
abbrev pub said_of_word : ℕ → ℕ → Said
said_of_word overhead n = if n == 2 ^ 64 - 1 then Removal else weighed overhead (Some n)

-- the key's number is its 8 bytes, as a key
abbrev pub record_line : ℕ → List ℕ → Option Line
record_line overhead part =
    if length part == 16 then line_for (take 8 part) (said_of_word overhead (from_le_bytes w64 (take 8 (drop 8 part)))) (when_at None 0) 1 else None

abbrev pub oracle_line : ℕ → Option ℕ → List ℕ → Option Line
oracle_line overhead lifetime part =
    if length part == 24 then line_for (take 8 (drop 4 part)) (weighed overhead (Some (from_le_bytes w32 (take 4 (drop 12 part))))) (when_at lifetime (from_le_bytes w32 (take 4 part))) 1 else None

abbrev pub line_by : Format → Option Columns → ℕ → Option ℕ → List ℕ → Option Line
line_by Text None overhead lifetime line = line_in overhead lifetime line
line_by Text (Some c) overhead lifetime line = columns_line overhead lifetime c line
line_by Records columns overhead lifetime part = record_line overhead part
line_by OracleGeneral columns overhead lifetime part = oracle_line overhead lifetime part

-- what a line or record says, where it is one
abbrev pub line_of : Rules → List ℕ → Option Line
line_of by part = line_by by.format by.columns by.overhead by.lifetime part

-- the first line or record, and what is left after it
abbrev pub first_line : List ℕ → List ℕ
first_line text = strip_last 10 (take_through 10 text)

abbrev pub first_unit : Format → List ℕ → List ℕ
first_unit Text text = first_line text
first_unit Records text = take 16 text
first_unit OracleGeneral text = take 24 text

abbrev pub after_unit : Format → List ℕ → List ℕ
after_unit Text text = drop_through 10 text
after_unit Records text = drop 16 text
after_unit OracleGeneral text = drop 24 text

-- a read took the first part of what a stream had; or nothing was left
abbrev pub Takes : (first after : List ℕ → List ℕ) → Option (List ℕ) → Option (List ℕ) → List ℕ → Bool → Type 0
Takes first after old new part more = IfSome old (λ xs. MatchBool more ((0 < length xs) × (part ≡ first xs) × (new ≡ Some (after xs))) (xs ≡ []))

abbrev pub TakesUnit : Format → Option (List ℕ) → Option (List ℕ) → List ℕ → Bool → Type 0
TakesUnit format old new part more = Takes (first_unit format) (after_unit format) old new part more
