-- Targeted fields (RFC 9213, 2.1), which are dictionaries (RFC 8941, 3.2). Bytes: 34 a quote, 44 a comma, 32 a space.
use Rattle.std.specs.Prelude.{ℕ, ◌+◌, zero, suc, Bool, true, false, not, ◌==◌, if◌then◌else◌, List, [], ◌∷◌, ◌++◌, length, drop, filter, map, bytes_eq, codes, Option, Some, None, option_and_then, option_to_list}
use Rattle.std.specs.List.{flat_map}
use Rattle.std.specs.Option.{option_map_or}
use Rattle.rules_fields.specs.Texts.{small, skip_blanks, is_filled}
use Rattle.rules_fields.specs.Tables.{among, directives_asked, in_seconds}
use Rattle.rules_fields.specs.Fields.{Field, all}
use Rattle.rules_fields.specs.Rows.{first_given}
use Rattle.rules_fields.specs.Meaning.{Meaning}
use Rattle.rules_fields.specs.Directives.{quoted}
use Rattle.structured_fields.specs.Items.{skip_spaces, starts_with, pair_at}

-- the values of several lines as one, with a comma and a space between
abbrev pub joined : List (List ℕ) → List ℕ
joined [] = []
joined (value ∷ values) = value ++ flat_map (λ v. 44 ∷ 32 ∷ v) values

-- what an item says: a string without its quotes and escapes, another as it is
abbrev pub plain : List ℕ → List ℕ
plain [] = []
plain (b ∷ text) = if b == 34 then option_map_or (λ q. q.0) (quoted false text) [] else b ∷ text

-- what an item says of a key; a string says no number of seconds, and stays as it is, so that it can't be read
abbrev pub said_value : List ℕ → List ℕ → List ℕ
said_value key item = if among in_seconds key then item else plain item

-- a member is a directive; with `?1` it has no value, with `?0` it is none
abbrev pub said_by : List ℕ → Option (List ℕ) → Option Meaning
said_by key None = Some (key, None)
said_by key (Some item) =
    if bytes_eq item (codes "?0") then None
    else (if bytes_eq item (codes "?1") then Some (key, None) else Some (key, Some (said_value key item)))

-- it takes the place of an earlier one of its key; a key that the rules don't ask for is passed over
abbrev pub others : List ℕ → List Meaning → List Meaning
others key found = filter (λ d. not (bytes_eq d.0 key)) found

abbrev pub placed : List Meaning → List ℕ → Option (List ℕ) → List Meaning
placed found key item = if among directives_asked key then others key found ++ option_to_list (said_by key item) else found

-- after a parameter all is as before
abbrev pub with_pair : Bool → List Meaning → List ℕ → Option (List ℕ) → List Meaning
with_pair is_parameter found key item = if is_parameter then found else placed found (small key) item

-- what follows a key and its item: a parameter (`true`) or a member, or at the end nothing; else it is no dictionary
abbrev pub next_at : List ℕ → Option (Option (Bool × List ℕ))
next_at text =
    if starts_with 59 text then Some (Some (true, skip_spaces (drop 1 text)))
    else (if starts_with 44 (skip_blanks text) then Some (Some (false, skip_blanks (drop 1 (skip_blanks text))))
    else (if is_filled (skip_spaces text) then None else Some None))

-- one pair after another, at most n: members and their parameters
abbrev pub members_within : ℕ → Bool → List Meaning → List ℕ → Option (List Meaning)
members_within zero is_parameter found text = None
members_within (suc n) is_parameter found text =
    option_and_then
    (λ p. option_and_then
    (λ next. option_map_or (λ q. members_within n q.0 (with_pair is_parameter found p.0 p.1) q.1) next (Some (with_pair is_parameter found p.0 p.1)))
    (next_at p.2))
    (pair_at text)

-- a whole text as a dictionary: each pair takes a byte, so that all are read; an empty text is none
unfoldable pub dictionary : List ℕ → Option (List Meaning)
dictionary text = members_within (length text + 1) false [] (skip_spaces text)

-- the directives of a targeted field; where it isn't there, or isn't such a dictionary, none
abbrev pub targeted : List ℕ → List Field → Option (List Meaning)
targeted name lines = dictionary (joined (all name lines))

-- those of the first field, in order of preference, that reads
abbrev pub preferred : List (List ℕ) → List Field → Option (List Meaning)
preferred names lines = first_given (map (λ n. targeted n lines) names)
