-- Field lines, and lists over several lines (RFC 9110, 5.2, 5.6.1).
use Rattle.std.specs.Prelude.{ℕ, Bool, not, ◌==◌, if◌then◌else◌, List, [], ◌∷◌, map, filter, find, Option, Some, None, option_map, bytes_eq, is_some}
use Rattle.std.specs.List.{slice_split, flat_map}
use Rattle.rules_fields.specs.Texts.{trimmed, small, is_filled}
use Rattle.rules_fields.specs.Tables.{among}
use Rattle.rules_fields.specs.declared.Line.{Line}

-- a line's name, in any case, and its value
abbrev pub Field : Type 0
Field = List ℕ × List ℕ

abbrev pub field : Line → Field
field line = (line.name.now, line.value.now)

abbrev pub fields : List Line → List Field
fields lines = map field lines

-- the field has this name, which is in small letters
abbrev pub is_named : List ℕ → Field → Bool
is_named name f = bytes_eq (small f.0) name

-- the values of all lines of a name, in order, and the first
abbrev pub all : List ℕ → List Field → List (List ℕ)
all name lines = map (λ f. f.1) (filter (is_named name) lines)

abbrev pub first : List ℕ → List Field → Option (List ℕ)
first name lines = option_map (λ f. f.1) (find (is_named name) lines)

abbrev pub has_line : List ℕ → List Field → Bool
has_line name lines = is_some (first name lines)

-- the lines whose names are none of these
abbrev pub without : List (List ℕ) → List Field → List Field
without names lines = filter (λ f. not (among names (small f.0))) lines

-- what stands before the first comma, and what follows the comma
abbrev pub cut : List ℕ → List ℕ × Option (List ℕ)
cut [] = ([], None)
cut (b ∷ text) = if b == 44 then ([], Some text) else (b ∷ (cut text).0, (cut text).1)

-- what stands between commas
abbrev pub parts : List ℕ → List (List ℕ)
parts value = slice_split (λ b. b == 44) value

-- without blanks round it, and without what is empty
abbrev pub elements_of : List ℕ → List (List ℕ)
elements_of value = filter is_filled (map trimmed (parts value))

-- over all lines of a name
abbrev pub elements : List ℕ → List Field → List (List ℕ)
elements name lines = flat_map elements_of (all name lines)

-- in small letters
abbrev pub tokens : List ℕ → List Field → List (List ℕ)
tokens name lines = map small (elements name lines)
