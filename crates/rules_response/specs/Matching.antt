-- Whether a client's condition lets 304 be the answer, and whether its Range counts (RFC 9110, 8.8.2.2, 13.1, 13.2, 14.2).
use Rattle.std.specs.Prelude.{ℕ, Bool, true, false, not, ◌&&◌, ◌||◌, ◌==◌, nat_lt, nat_le, if◌then◌else◌, List, [], ◌∷◌, length, bytes_eq, codes, Option, Some, None, option_and_then, is_some}
use Rattle.std.specs.Option.{option_map_or}
use Rattle.rules_fields.specs.Texts.{trimmed, is_filled}
use Rattle.rules_fields.specs.Dates.{date_of}
use Rattle.rules_fields.specs.Tags.{tag_of}
use Rattle.rules_fields.specs.Fields.{Field, first, all, has_line}
use Rattle.rules_fields.specs.Types.{Asked, KeptHead}
use Rattle.rules_response.specs.Tagged.{members, lists_tag}
use Rattle.rules_response.specs.Confirm.{tag_in, date_in, is_strongly_dated}

-- one line, which is `*`
abbrev pub is_star : List (List ℕ) → Bool
is_star [] = false
is_star (v ∷ vs) = length vs == 0 && bytes_eq (trimmed v) (codes "*")

-- If-None-Match is `*`, or lists the stored tag by weak comparison (13.1.2)
abbrev pub matches_tag : List Field → List Field → Bool
matches_tag request stored =
    is_star (all (codes "if-none-match") request)
    || option_map_or (λ tag. lists_tag tag.1 (members (codes "if-none-match") request)) (tag_in stored) false

-- Last-Modified, and where there is none, or an empty one, Date
abbrev pub modified_text : Option (List ℕ) → Option (List ℕ) → Option (List ℕ)
modified_text None date = date
modified_text (Some v) date = if is_filled v then Some v else date

abbrev pub modified_in : List Field → Option ℕ
modified_in lines = option_and_then date_of (modified_text (first (codes "last-modified") lines) (first (codes "date") lines))

-- both show a second, and the first isn't later
abbrev pub is_not_after : Option ℕ → Option ℕ → Bool
is_not_after a b = option_map_or (λ n. option_map_or (λ m. nat_le n m) b false) a false

-- a name has just one line
abbrev pub is_alone : List ℕ → List Field → Bool
is_alone name lines = length (all name lines) == 1

-- it wasn't modified since the date of the one If-Modified-Since; more than one are ignored (13.1.3)
abbrev pub matches_date : List Field → List Field → Bool
matches_date request stored =
    is_alone (codes "if-modified-since") request && is_not_after (modified_in stored) (date_in (codes "if-modified-since") request)

-- a 2xx, and by If-None-Match, or only without one by If-Modified-Since (13.2.1, 13.2.2)
abbrev pub matches : Asked → KeptHead → Bool
matches request kept =
    nat_le 200 kept.status && nat_lt kept.status 300
    && (if has_line (codes "if-none-match") request.lines then matches_tag request.lines kept.lines else matches_date request.lines kept.lines)

-- the text is the stored tag, and that is strong
abbrev pub is_strong_tag : List ℕ → List Field → Bool
is_strong_tag text stored =
    option_map_or (λ tag. option_map_or (λ mine. not tag.0 && not mine.0 && bytes_eq mine.1 tag.1) (tag_in stored) false) (tag_of text) false

-- the text is a date, that of the stored Last-Modified, which lies a second or more before Date (8.8.2.2)
abbrev pub is_strong_date : List ℕ → List Field → Bool
is_strong_date text stored =
    is_some (date_of text) && option_map_or (λ v. bytes_eq v (trimmed text)) (first (codes "last-modified") stored) false
    && is_strongly_dated stored

-- there is no If-Range, or one alone, and what is stored is what it names (13.1.5)
abbrev pub is_same_for_range : List Field → List Field → Bool
is_same_for_range request stored =
    option_map_or (λ text. is_alone (codes "if-range") request && (is_strong_tag text stored || is_strong_date text stored)) (first (codes "if-range") request) true

-- a Range counts: of a GET, of a stored 200, alone, and of what is stored (14.2)
abbrev pub range_counts : Asked → KeptHead → Bool
range_counts request kept =
    bytes_eq request.method (codes "GET") && kept.status == 200 && is_alone (codes "range") request.lines
    && is_same_for_range request.lines kept.lines
