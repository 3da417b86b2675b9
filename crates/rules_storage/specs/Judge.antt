-- Whether a response is stored, and as what (RFC 9111, 3, 3.1, 5.2.2.4, 5.2.2.7).
use Rattle.std.specs.Prelude.{ℕ, Bool, not, ◌&&◌, ◌||◌, ◌==◌, nat_lt, List, [], ◌∷◌, ◌++◌, length, filter, bytes_eq, codes, Option, Some, None, option_map, option_and_then, is_some, if◌then◌else◌, Result, Ok, Err}
use Rattle.std.specs.List.{list_any}
use Rattle.rules_fields.specs.Texts.{small}
use Rattle.rules_fields.specs.Dates.{date_of}
use Rattle.rules_fields.specs.Tags.{tag_of}
use Rattle.rules_fields.specs.Fields.{Field, first, has_line, tokens}
use Rattle.rules_fields.specs.Meaning.{Meaning}
use Rattle.rules_fields.specs.Directives.{directives}
use Rattle.rules_fields.specs.Asking.{has, alone, lists_field}
use Rattle.rules_fields.specs.Says.{Said, says}
use Rattle.rules_storage.specs.Ages.{arrival}
use Rattle.rules_fields.specs.Tables.{among, needed, range_fields, whole_conditions, is_heuristic, is_understood}
use Rattle.rules_fields.specs.Rows.{first_true}
use Rattle.rules_storage.specs.Lifetime.{lifetime, window, is_explicit, given, forced}
use Rattle.rules_fields.specs.Types.{Chosen, Asked, Answered, KeptHead, stated}
use Rattle.rules_storage.specs.declared.reason.Reason.{Reason}
use Rattle.rules_storage.specs.declared.reason.Reason.TheVariants.{StoredIsGood, Method, Status, Partial, NotModified, NeverStore, RequestNoStore, NotUnderstood, NoStore, Private, VaryAny, Authorization, TooManyLines, SetCookie, NoFreshness, NeverUsable}
use Rattle.rules_storage.specs.Kept.{with_length}
use Rattle.rules_storage.specs.Selecting.{counting}
use Rattle.rules_storage.specs.Good.{is_error_outlasted, is_stale_outlasted, removes}

-- private or no-cache lists this name, in small letters
abbrev pub is_listed : List Meaning → List ℕ → Bool
is_listed ds name = lists_field (codes "private") ds name || lists_field (codes "no-cache") ds name

-- a line of this name stays: it isn't listed, but where the cache itself reads it, it is neither Age, which `arrival` has, nor Trailer, and the
-- operator doesn't drop it
abbrev pub stays : List Meaning → Chosen → List ℕ → Bool
stays ds o name =
    not ((is_listed ds name && not (among needed name)) || bytes_eq name (codes "age") || bytes_eq name (codes "trailer") || among o.response_drops name)

abbrev pub stored_lines : List Meaning → Chosen → List Field → List Field
stored_lines ds o lines = filter (λ f. stays ds o (small f.0)) lines

-- what would be stored
unfoldable pub kept_from : Said → Answered → ℕ → ℕ → Chosen → KeptHead
kept_from s p asked came o = record {
  status = p.status;
  lines = stored_lines s.directives o p.lines ++ with_length (stated p.framing);
  arrival = arrival p.lines asked came o;
  lifetime = lifetime s p.status p.lines came o;
  stale_while_revalidate = window s (codes "stale-while-revalidate") o.stale_while_revalidate o;
  stale_if_error = window s (codes "stale-if-error") o.stale_if_error o;
}

-- what lets a response to a request with Authorization be stored
abbrev pub opens_authorized : Said → Bool
opens_authorized s = has (codes "public") s.directives || has (codes "s-maxage") s.directives || has (codes "must-revalidate") s.directives

abbrev pub has_validator : List Field → Bool
has_validator lines =
    is_some (option_and_then tag_of (first (codes "etag") lines)) || is_some (option_and_then date_of (first (codes "last-modified") lines))

abbrev pub has_freshness : Said → ℕ → Chosen → Bool
has_freshness s status o =
    is_explicit s || has (codes "public") s.directives || is_heuristic status || is_some (given o status) || is_some (forced o status)

-- it may answer for some time, or can be validated
abbrev pub is_usable : KeptHead → List Field → Bool
is_usable k lines = not (k.lifetime == 0) || not (k.stale_while_revalidate == 0) || not (k.stale_if_error == 0) || has_validator lines

-- Vary names a field
abbrev pub names : List ℕ → List Field → Bool
names name lines = list_any (λ t. bytes_eq t name) (tokens (codes "vary") lines)

-- it names one of these
abbrev pub names_any : List (List ℕ) → List Field → Bool
names_any fields lines = list_any (λ name. names name lines) fields

-- a field that no key has, though the operator lets it go along with what is fetched
abbrev pub is_let_along : List Field → Chosen → Bool
is_let_along lines o =
    (not o.fills_ranges && names_any range_fields lines) || (not o.fills_conditions && names_any whole_conditions lines)

-- it varies by what no key can tell: by more than 16 names, by anything, by a field that a proxy writes itself, or by one that goes along
abbrev pub is_unkeyed : List Field → Chosen → Bool
is_unkeyed lines o =
    nat_lt 16 (length (counting lines)) || names (codes "*") lines || names (codes "via") lines || names (codes "te") lines || (o.forwards_for && names (codes "x-forwarded-for") lines)
    || is_let_along lines o

-- a status that an odd request causes, unless a targeted field or the operator says for how long it is stored
abbrev pub is_never_stored : ℕ → Said → Chosen → Bool
is_never_stored status s o =
    list_any (λ n. n == status) o.never_stored && not (s.is_targeted && is_explicit s) && not (is_some (given o status))
    && not (is_some (forced o status))

-- no-store without must-understand, and private: unless the operator passes them over
abbrev pub forbids_store : Said → Chosen → Bool
forbids_store s o =
    has (codes "no-store") s.directives && not (has (codes "must-understand") s.directives) && not o.forces_private

abbrev pub is_private : Said → Chosen → Bool
is_private s o = alone (codes "private") s.directives && not o.forces_private

-- each reason, and whether it holds
abbrev pub rows_of : Asked → List ℕ → Answered → Said → KeptHead → Chosen → List (Reason × Bool)
rows_of r method p s kept o =
    ((Method, not (bytes_eq method (codes "GET")))
    ∷ (Status, nat_lt p.status 200 || nat_lt 599 p.status)
    ∷ (Partial, p.status == 206)
    ∷ (NotModified, p.status == 304)
    ∷ (NeverStore, is_never_stored p.status s o)
    ∷ (RequestNoStore, o.heeds_requests && has (codes "no-store") (directives (codes "cache-control") r.lines))
    ∷ (NotUnderstood, has (codes "must-understand") s.directives && not (is_understood p.status))
    ∷ (NoStore, forbids_store s o)
    ∷ (Private, is_private s o)
    ∷ (VaryAny, is_unkeyed p.lines o)
    ∷ (Authorization, has_line (codes "authorization") r.lines && not (opens_authorized s))
    ∷ (TooManyLines, nat_lt 256 (length kept.lines))
    ∷ (SetCookie, has_line (codes "set-cookie") kept.lines && not (o.stores_cookies && is_explicit s))
    ∷ (NoFreshness, not (has_freshness s p.status o))
    ∷ (NeverUsable, not (is_usable kept p.lines))
    ∷ [])

-- why it isn't stored
unfoldable pub reason_of : Asked → List ℕ → Answered → Said → KeptHead → Chosen → Option Reason
reason_of r method p s kept o = first_true (rows_of r method p s kept o)

abbrev pub or_kept : Option (Reason × Bool) → KeptHead → Result KeptHead (Reason × Bool)
or_kept None kept = Ok kept
or_kept (Some why) kept = Err why

-- why it isn't stored: what was found outlasts an error; else by the table; else what was found outlasts what would be kept, and stale at once
abbrev pub first_why : Bool → Option Reason → Bool → Option Reason
first_why error (Some why) stale = if error then Some StoredIsGood else Some why
first_why error None stale = if error || stale then Some StoredIsGood else None

-- the same, and whether what was found goes
abbrev pub refusal : Option KeptHead → ℕ → ℕ → ℕ → Option Reason → Option (Reason × Bool)
refusal found code now lifetime why =
    option_map (λ reason. (reason, removes found code now reason))
    (first_why (is_error_outlasted found code now) why (is_stale_outlasted found lifetime now))

-- a request, the method that was sent, the response, the moments at which it was asked for and came, what was found under the key that was looked
-- up, and the status that came: that of the response, but of what a confirmation merged
unfoldable pub judgement : Asked → List ℕ → Answered → ℕ → ℕ → Option KeptHead → ℕ → Chosen → Result KeptHead (Reason × Bool)
judgement r method p asked came found code o =
    let s = says p.lines o in
    let kept = kept_from s p asked came o in
    or_kept (refusal found code came kept.lifetime (reason_of r method p s kept o)) kept
