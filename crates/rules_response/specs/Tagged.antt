-- Lists of entity tags (RFC 9110, 8.8.3, 13.1.2). Bytes are numbers: 34 a quote, 44 a comma.
use Rattle.std.specs.Prelude.{ℕ, Bool, false, not, ◌&&◌, ◌==◌, if◌then◌else◌, List, [], ◌∷◌, map, filter, bytes_eq, Option, Some, None, is_some}
use Rattle.std.specs.List.{list_any, list_all, flat_map, onto_first}
use Rattle.std.specs.Option.{option_map_or}
use Rattle.rules_fields.specs.Texts.{trimmed, is_filled}
use Rattle.rules_fields.specs.Fields.{Field, all}
use Rattle.rules_fields.specs.Tags.{tag_of}

-- a quote begins or ends what is quoted
abbrev pub after_byte : Bool → ℕ → Bool
after_byte quoted b = if b == 34 then not quoted else quoted

-- what stands before the first comma that isn't quoted, and what follows that comma
abbrev pub cut_unquoted : Bool → List ℕ → List ℕ × Option (List ℕ)
cut_unquoted quoted [] = ([], None)
cut_unquoted quoted (b ∷ text) =
    if b == 44 && not quoted then ([], Some text)
    else (b ∷ (cut_unquoted (after_byte quoted b) text).0, (cut_unquoted (after_byte quoted b) text).1)

-- what stands between commas that aren't quoted
abbrev pub unquoted_parts : Bool → List ℕ → List (List ℕ)
unquoted_parts quoted [] = [] ∷ []
unquoted_parts quoted (b ∷ text) =
    if b == 44 && not quoted then [] ∷ unquoted_parts false text else onto_first b (unquoted_parts (after_byte quoted b) text)

-- without blanks round it, and without what is empty
abbrev pub members_of : List ℕ → List (List ℕ)
members_of value = filter is_filled (map trimmed (unquoted_parts false value))

-- over all lines of a name
abbrev pub members : List ℕ → List Field → List (List ℕ)
members name lines = flat_map members_of (all name lines)

-- a member is a tag with this text, weak or not
abbrev pub has_text : List ℕ → List ℕ → Bool
has_text text member = option_map_or (λ t. bytes_eq t.1 text) (tag_of member) false

abbrev pub is_tag : List ℕ → Bool
is_tag member = is_some (tag_of member)

-- all members are tags, and one has this text
abbrev pub lists_tag : List ℕ → List (List ℕ) → Bool
lists_tag text members = list_all is_tag members && list_any (has_text text) members
