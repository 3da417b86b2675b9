-- What directives say of a name (RFC 9111, 4.2.1, 5.2.2.4, 5.2.2.7).
use Rattle.std.specs.Prelude.{ℕ, Bool, true, false, ◌&&◌, ◌||◌, ◌==◌, length, List, map, find, bytes_eq, Option, Some, None, option_map, option_and_then, unwrap_or}
use Rattle.std.specs.List.{list_any}
use Rattle.rules_fields.specs.Texts.{small}
use Rattle.rules_fields.specs.Numbers.{seconds}
use Rattle.rules_fields.specs.Fields.{elements_of}
use Rattle.rules_fields.specs.Tables.{among, needed}
use Rattle.rules_fields.specs.Meaning.{Meaning}

-- the names that a value lists, in small letters
abbrev pub listed : List ℕ → List (List ℕ)
listed value = map small (elements_of value)

abbrev pub lists_name : List ℕ → List ℕ → Bool
lists_name value name = list_any (λ n. bytes_eq n name) (listed value)

abbrev pub lists_needed : List ℕ → Bool
lists_needed value = list_any (among needed) (listed value)

abbrev pub lists_nothing : List ℕ → Bool
lists_nothing value = length (elements_of value) == 0

-- a directive of this name is there
abbrev pub has : List ℕ → List Meaning → Bool
has name ds = list_any (λ d. bytes_eq d.0 name) ds

-- a directive with this value counts for the whole response
abbrev pub is_whole : Option (List ℕ) → Bool
is_whole None = true
is_whole (Some value) = lists_nothing value || lists_needed value

abbrev pub alone : List ℕ → List Meaning → Bool
alone name ds = list_any (λ d. bytes_eq d.0 name && is_whole d.1) ds

-- the seconds of the first directive of this name, 0 if they can't be read
abbrev pub seconds_under : List ℕ → List Meaning → Option ℕ
seconds_under name ds = option_map (λ d. unwrap_or (option_and_then seconds d.1) 0) (find (λ d. bytes_eq d.0 name) ds)

abbrev pub lists_in : Option (List ℕ) → List ℕ → Bool
lists_in None field = false
lists_in (Some value) field = lists_name value field

-- a directive of this name lists the field
abbrev pub lists_field : List ℕ → List Meaning → List ℕ → Bool
lists_field name ds field = list_any (λ d. bytes_eq d.0 name && lists_in d.1 field) ds
