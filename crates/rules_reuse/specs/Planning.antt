-- What a request asks of a cache (RFC 9110, 7.6.2; RFC 9111, 4, 5.2.1).
use Rattle.std.specs.Prelude.{ℕ, Bool, true, false, not, ◌&&◌, ◌||◌, ◌==◌, if◌then◌else◌, List, [], ◌∷◌, bytes_eq, codes, length, Option, Some, option_and_then}
use Rattle.std.specs.List.{list_any}
use Rattle.std.specs.Option.{option_map_or}
use Rattle.rules_fields.specs.Numbers.{digits}
use Rattle.rules_fields.specs.Fields.{Field, first, has_line, tokens}
use Rattle.rules_fields.specs.Meaning.{Meaning}
use Rattle.rules_fields.specs.Directives.{directives}
use Rattle.rules_fields.specs.Asking.{has}
use Rattle.rules_fields.specs.Rows.{first_true}
use Rattle.rules_fields.specs.Types.{Asked, Chosen}
use Rattle.rules_fields.specs.declared.types.Framing.{Framing}
use Rattle.rules_fields.specs.declared.types.Framing.TheVariants.{Length}
use Rattle.rules_reuse.specs.declared.planning.Why.{Why}
use Rattle.rules_reuse.specs.declared.planning.Why.TheVariants.{Method, Content, Precondition, NoStore}
use Rattle.rules_reuse.specs.declared.planning.Plan.{Plan}
use Rattle.rules_reuse.specs.declared.planning.Plan.TheVariants.{Look, Pass, LastForward, OnlyIfCached}

-- a method byte for byte
abbrev pub is_method : Asked → List ℕ → Bool
is_method request method = bytes_eq request.method method

-- a body with something in it
abbrev pub has_content : Framing → Bool
has_content Framing.None = false
has_content (Length n) = not (n == 0)
has_content _ = true

-- the directives of a request, where such count
abbrev pub asked_directives : Asked → Chosen → List Meaning
asked_directives request o = if o.heeds_requests then directives (codes "cache-control") request.lines else []

-- each reason why a request with these directives passes the cache, and whether it holds
abbrev pub passing : Asked → List Meaning → List (Why × Bool)
passing request ds =
    ((Method, not (is_method request (codes "GET") || is_method request (codes "HEAD")))
    ∷ (Content, has_content request.framing)
    ∷ (Precondition, has_line (codes "if-match") request.lines || has_line (codes "if-unmodified-since") request.lines)
    ∷ (NoStore, has (codes "no-store") ds)
    ∷ [])

-- it was to go no further than here (RFC 9110, 7.6.2)
abbrev pub is_last_forward : Asked → Bool
is_last_forward request =
    (is_method request (codes "TRACE") || is_method request (codes "OPTIONS"))
    && option_map_or (λ hops. hops == 0) (option_and_then digits (first (codes "max-forwards") request.lines)) false

-- where nothing may be used the answer is 504 (RFC 9111, 5.2.1.7)
abbrev pub only_if_cached : Asked → Chosen → Bool
only_if_cached request o = has (codes "only-if-cached") (asked_directives request o)

abbrev pub or_look : Bool → Option Why → Plan
or_look only_cached Option.None = Look
or_look only_cached (Some why) = if only_cached then OnlyIfCached else Pass why

-- 204 to OPTIONS and 501 to TRACE that are to go no further; past the cache for the first reason, but 504 where nothing else may answer; else it is looked up
abbrev pub plan_of : Asked → Chosen → Plan
plan_of request o =
    if is_last_forward request
    then LastForward (if is_method request (codes "OPTIONS") then 204 else 501)
    else or_look (only_if_cached request o) (first_true (passing request (asked_directives request o)))

-- no-cache, or Pragma: no-cache without any directive of Cache-Control (RFC 9111, 5.2.1.4, 5.4)
abbrev pub reloads : List Meaning → List Field → Bool
reloads ds lines =
    has (codes "no-cache") ds || (length ds == 0 && list_any (λ t. bytes_eq t (codes "no-cache")) (tokens (codes "pragma") lines))

-- what is stored is to be validated
abbrev pub is_reload : Asked → Chosen → Bool
is_reload request o = o.heeds_requests && reloads (asked_directives request o) request.lines
