-- How what is stored may answer a request now (RFC 9111, 3.5, 4, 4.2, 4.2.4, 5.2.1; RFC 5861). Moments are nanoseconds since 1970.
use Rattle.std.specs.Prelude.{ℕ, ◌*◌, ◌^◌, max, ◌+◌, pos, ◌+ℤ◌, int_lt, Bool, true, false, not, ◌&&◌, ◌||◌, ◌==◌, if◌then◌else◌, List, [], ◌∷◌, bytes_eq, codes, Option, Some, unwrap_or, is_some, is_none}
use Rattle.std.specs.List.{list_any}
use Rattle.std.specs.Option.{option_map_or}
use Rattle.rules_fields.specs.Meaning.{Meaning}
use Rattle.rules_fields.specs.Fields.{has_line}
use Rattle.rules_fields.specs.Asking.{seconds_under}
use Rattle.rules_fields.specs.Says.{says}
use Rattle.rules_fields.specs.Rows.{first_true}
use Rattle.rules_fields.specs.Tables.{is_error}
use Rattle.rules_fields.specs.Types.{Asked, KeptHead, Chosen}
use Rattle.rules_storage.specs.Ages.{age, second}
use Rattle.rules_storage.specs.Good.{is_late_by}
use Rattle.rules_storage.specs.Lifetime.{forbids_stale}
use Rattle.rules_storage.specs.Judge.{opens_authorized}
use Rattle.rules_reuse.specs.Planning.{asked_directives, is_reload}
use Rattle.rules_reuse.specs.declared.using.Use.{Use}
use Rattle.rules_reuse.specs.declared.using.Use.TheVariants.{Pass, Validate, Fresh, Stale, Meanwhile}

-- the request has Authorization, and nothing lets what is stored answer it (RFC 9111, 3.5)
abbrev pub is_closed : Asked → KeptHead → Chosen → Bool
is_closed request kept o =
    has_line (codes "authorization") request.lines && not o.authorized_reads && not (opens_authorized (says kept.lines o))

-- nothing stale may be used (RFC 9111, 4.2.4)
abbrev pub must_validate : KeptHead → Chosen → Bool
must_validate kept o = forbids_stale (says kept.lines o) o

-- older than so many seconds, where a number is given
abbrev pub is_older : KeptHead → ℕ → Option ℕ → Bool
is_older kept now seconds = option_map_or (λ n. int_lt (pos (n * second)) (age kept.arrival now)) seconds false

-- fresh for more than so many seconds yet
abbrev pub is_fresh_for : KeptHead → ℕ → ℕ → Bool
is_fresh_for kept now seconds = int_lt (age kept.arrival now +ℤ pos (seconds * second)) (pos (kept.lifetime * second))

-- how late the client takes it: by its max-stale, and without a value the most that seconds count
abbrev pub most_late : List Meaning → Option ℕ
most_late ds =
    if list_any (λ d. bytes_eq d.0 (codes "max-stale") && is_none d.1) ds then Some (2 ^ 31) else seconds_under (codes "max-stale") ds

-- each use, and whether its test holds
abbrev pub uses : Asked → KeptHead → ℕ → Chosen → List (Use × Bool)
uses request kept now o =
    let ds = asked_directives request o in
    ((Pass, is_closed request kept o)
    ∷ (Validate, is_reload request o || is_older kept now (seconds_under (codes "max-age") ds))
    ∷ (Fresh, is_fresh_for kept now (unwrap_or (seconds_under (codes "min-fresh") ds) 0))
    ∷ (Validate, is_some (seconds_under (codes "min-fresh") ds))
    ∷ (Stale, option_map_or (λ n. is_late_by kept now n) (most_late ds) false && not (must_validate kept o))
    ∷ (Meanwhile, is_late_by kept now kept.stale_while_revalidate && not (kept.stale_while_revalidate == 0))
    ∷ [])

-- the first that holds, else it is validated
abbrev pub use_of : Asked → KeptHead → ℕ → Chosen → Use
use_of request kept now o = unwrap_or (first_true (uses request kept now o)) Validate

-- the stored lines count: the request has Authorization, or takes what is so late. All else goes by the times
abbrev pub goes_by_lines : Asked → KeptHead → ℕ → Chosen → Bool
goes_by_lines request kept now o =
    (has_line (codes "authorization") request.lines && not o.authorized_reads)
    || option_map_or (λ n. is_late_by kept now n) (most_late (asked_directives request o)) false

-- a status in whose place something stale may answer; none where the origin gave no answer (RFC 5861, 4; RFC 9111, 4.2.4)
abbrev pub is_failure : Option ℕ → Bool
is_failure status = option_map_or is_error status true

-- the longest that something may be past its freshness and answer: by its own window, by the request's, and where there was no answer by the operator's
abbrev pub most_spared : List Meaning → KeptHead → Option ℕ → Chosen → ℕ
most_spared ds kept status o =
    if must_validate kept o
    then kept.stale_if_error
    else max kept.stale_if_error
    (max (unwrap_or (seconds_under (codes "stale-if-error") ds) 0) (if is_none status then o.stale_if_down else 0))

-- what is stale may answer in the place of an error
abbrev pub may_spare : Asked → KeptHead → ℕ → Option ℕ → Chosen → Bool
may_spare request kept now status o =
    is_failure status && not (is_reload request o)
    && (let most = most_spared (asked_directives request o) kept status o in not (most == 0) && is_late_by kept now most)

-- the status where the origin gave no answer: 504 where what is stored must be validated (RFC 9111, 5.2.2.2)
abbrev pub error_of : Option KeptHead → Chosen → ℕ
error_of kept o = if option_map_or (λ k. must_validate k o) kept false then 504 else 502
