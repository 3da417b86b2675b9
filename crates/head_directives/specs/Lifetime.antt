-- What directives say to a shared cache (RFC 9111, 3, 3.5, 4.2.1, 4.2.4 and 5.2.2; RFC 5861). A list of directives has
-- each name once.
use Rattle.std.specs.Prelude.{ℕ, Bool, ◌||◌, if◌then◌else◌, List, [], Option, Some, None, option_map, unwrap_or, is_some, codes, fold}
use Rattle.http_header.specs.HeaderMap.{Entries, remove}
use Rattle.http_header.specs.Token.{lowercase}
use Rattle.head_directives.specs.Written.{Written}
use Rattle.head_directives.specs.Keeps.{has, is_alone, value_under}
use Rattle.head_directives.specs.Seconds.{unquoted, delta_seconds}
use Rattle.head_directives.specs.Listed.{listed}

-- nothing of the response may be stored
abbrev pub forbids_storing : List Written → Bool
forbids_storing ds = has (codes "no-store") ds || is_alone (codes "private") ds

-- storing is allowed in so many words
abbrev pub allows_storing : List Written → Bool
allows_storing ds = has (codes "s-maxage") ds || has (codes "max-age") ds || has (codes "public") ds

-- a response to a request with Authorization may be stored
abbrev pub allows_authorized : List Written → Bool
allows_authorized ds = has (codes "must-revalidate") ds || has (codes "public") ds || has (codes "s-maxage") ds

-- the seconds of a value that is there and can be read
abbrev pub seconds_in : Option (List ℕ) → Option ℕ
seconds_in None = None
seconds_in (Some value) = delta_seconds value

abbrev pub seconds_under : List ℕ → List Written → Option ℕ
seconds_under name ds = seconds_in (value_under name ds)

-- the seconds that were read, where there are any
abbrev pub given_seconds : Option (Option ℕ) → Option ℕ
given_seconds None = None
given_seconds (Some seconds) = seconds

-- a value that is there decides, readable or not
abbrev pub first_of_two : Option (List ℕ) → Option ℕ → Option ℕ
first_of_two None other = other
first_of_two (Some value) other = delta_seconds value

-- the seconds for which a response is fresh: 0 under `no-cache` alone, so that it is validated each time; else those of
-- `s-maxage`, which counts for shared caches, and where that says nothing those of `max-age`. An `s-maxage` that cannot be
-- read gives none
abbrev pub lifetime : List Written → Option ℕ
lifetime ds =
    if is_alone (codes "no-cache") ds then Some 0
    else first_of_two (value_under (codes "s-maxage") ds) (seconds_under (codes "max-age") ds)

-- stale responses may not be served at all. RFC 9111, 4.2.4 names `no-cache` too; here such a response keeps its windows
abbrev pub forbids_stale : List Written → Bool
forbids_stale ds = has (codes "must-revalidate") ds || has (codes "proxy-revalidate") ds || has (codes "s-maxage") ds

-- the seconds for which a stale response may be served under a name, where the directives say
abbrev pub stale_window : List ℕ → List Written → Option ℕ
stale_window name ds = if forbids_stale ds then Some 0 else seconds_under name ds

-- `private` or `no-cache` has a value, which lists fields
abbrev pub lists_fields : List Written → Bool
lists_fields ds = is_some (value_under (codes "private") ds) || is_some (value_under (codes "no-cache") ds)

-- the head without the fields of these names
abbrev pub without : {X : Type 0} → Entries X → List (List ℕ) → Entries X
without head names = fold (λ h name. remove h (lowercase name)) head names

-- the names that a value lists; none without a value
abbrev pub names_in : Option (List ℕ) → List (List ℕ)
names_in value = unwrap_or (option_map (λ v. listed (unquoted v)) value) []

-- the head without the fields that `private` lists, and those that `no-cache` lists
abbrev pub stripped : {X : Type 0} → Entries X → List Written → Entries X
stripped head ds = without (without head (names_in (value_under (codes "private") ds))) (names_in (value_under (codes "no-cache") ds))
