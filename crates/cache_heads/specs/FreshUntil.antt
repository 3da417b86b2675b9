-- Until when a response is fresh, over lists of header values, moments and numbers: the first source that gives a
-- moment, or none (RFC 9111, 3.5, 4.2.1, 5.2.2 and 5.3).
use Rattle.std.specs.Prelude.{ℕ, Bool, false, ◌&&◌, ◌||◌, ◌==◌, ◌-◌, not, pos, if◌then◌else◌, List, [], ◌∷◌, length, take, drop, Option, Some, None, unwrap_or, codes}
use Rattle.std.specs.Option.{option_and_then}
use Rattle.std.specs.Char.{is_ascii_whitespace}
use Rattle.std.specs.List.{prefix_len, suffix_len}
use Rattle.cache_words.specs.Time.{MomentValue, DurationValue, from_seconds, span_of, later_by, earlier_by}
use Rattle.httpdate.specs.Date.{parse_secs}
use Rattle.head_directives.specs.Written.{Written}
use Rattle.head_directives.specs.Control.{named, lines_under}
use Rattle.head_directives.specs.Lifetime.{forbids_storing, allows_authorized, lifetime}
use Rattle.head_lines.specs.declared.header.ResponseHeader.{ResponseHeader}

-- the first if it is there, else the other
abbrev pub or_else : {X : Type 0} → Option X → Option X → Option X
or_else None other = other
or_else (Some x) other = Some x

abbrev pub is_no_time : DurationValue → Bool
is_no_time d = d.seconds == 0 && d.nanoseconds == 0

-- the moment a lifetime later; for a lifetime of 0 the second before, so that the response is stale at once. A sum out
-- of range gives none
abbrev pub lasts_to : MomentValue → DurationValue → Option MomentValue
lasts_to now d = if is_no_time d then earlier_by now (span_of 1) else later_by now d

-- what the directives give
abbrev pub by_directives : MomentValue → Option (List Written) → Option MomentValue
by_directives now ds = option_and_then (λ s. lasts_to now (span_of s)) (option_and_then lifetime ds)

-- a value without the white space around it (RFC 9110, 5.5); of ASCII white space a field value can have spaces and tabs
abbrev pub trimmed : List ℕ → List ℕ
trimmed value =
    let rest : List ℕ = drop (prefix_len is_ascii_whitespace value) value in
    take (length rest - suffix_len is_ascii_whitespace rest) rest

-- what the Expires values give: a single one its date, and 1970 where it is no date, which counts as past; none and
-- several give nothing
abbrev pub by_expires : List (List ℕ) → Option MomentValue
by_expires [] = None
by_expires (value ∷ []) = Some (from_seconds (pos (unwrap_or (parse_secs (trimmed value)) 0)))
by_expires (value ∷ other ∷ more) = None

-- the directives are there and pass the test
abbrev pub holds_of : (List Written → Bool) → Option (List Written) → Bool
holds_of test None = false
holds_of test (Some ds) = test ds

-- the response may not be stored, however long it would be fresh: a request with Authorization needs a directive that
-- allows it (RFC 9111, 3.5), and some directives forbid it
abbrev pub is_barred : Option (List Written) → Bool → Bool
is_barred ds authorized = (authorized && not (holds_of allows_authorized ds)) || holds_of forbids_storing ds

-- by the directives, if there are any, the Expires values, whether the request had Authorization, and the lifetime
-- that the status has by default
abbrev pub fresh_until_by : MomentValue → Option (List Written) → List (List ℕ) → Bool → Option DurationValue → Option MomentValue
fresh_until_by now ds expires authorized default =
    if is_barred ds authorized then None
    else or_else (by_directives now ds) (or_else (by_expires expires) (option_and_then (lasts_to now) default))

-- the same with the Expires lines of a head
abbrev pub fresh_until_of : MomentValue → Option (List Written) → ResponseHeader → Bool → Option DurationValue → Option MomentValue
fresh_until_of now ds header authorized default =
    fresh_until_by now ds (lines_under (codes "expires") header.headers) authorized default

-- the same by the lines of Cache-Control
abbrev pub fresh_until : MomentValue → List (List ℕ) → List (List ℕ) → Bool → Option DurationValue → Option MomentValue
fresh_until now lines expires authorized default = fresh_until_by now (named lines) expires authorized default
