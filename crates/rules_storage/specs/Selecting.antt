-- The names by which a response varies (RFC 9110, 12.5.5; RFC 9111, 4.1).
use Rattle.std.specs.Prelude.{ℕ, Bool, true, false, ◌==◌, ◌&&◌, nat_lt, if◌then◌else◌, List, [], ◌∷◌, map, filter, not, bytes_eq, codes}
use Rattle.std.specs.List.{fold, insert, position_or_len}
use Rattle.rules_fields.specs.Tables.{among}
use Rattle.rules_fields.specs.Fields.{Field, elements}
use Rattle.rules_fields.specs.Texts.{small}

-- the order of the alphabet: byte by byte, and a text before those that it begins
abbrev pub goes_before : List ℕ → List ℕ → Bool
goes_before name [] = false
goes_before [] (c ∷ other) = true
goes_before (b ∷ name) (c ∷ other) = if b == c then goes_before name other else nat_lt b c

-- a name that isn't there yet, in front of the first before which it goes
abbrev pub placed : List (List ℕ) → List ℕ → List (List ℕ)
placed names name = if among names name then names else insert names (position_or_len (goes_before name) names) name

-- the names in Vary, in small letters, in that order
abbrev pub placed_all : List (List ℕ) → List (List ℕ)
placed_all names = fold placed [] (map small names)

abbrev pub selecting : List Field → List (List ℕ)
selecting lines = placed_all (elements (codes "vary") lines)

-- without `host`, which is in the first key
abbrev pub without_host : List (List ℕ) → List (List ℕ)
without_host names = filter (λ name. not (bytes_eq name (codes "host"))) names

-- the names that count
abbrev pub counting : List Field → List (List ℕ)
counting lines = without_host (selecting lines)

-- each goes before the next, so that none stands twice
abbrev pub goes_first : List ℕ → List (List ℕ) → Bool
goes_first name [] = true
goes_first name (n ∷ names) = goes_before name n

abbrev pub ascends : List (List ℕ) → Bool
ascends [] = true
ascends (n ∷ names) = goes_first n names && ascends names
