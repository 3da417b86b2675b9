-- The tables of names, in small letters, of methods and of statuses.
use Rattle.std.specs.Prelude.{ℕ, Bool, ◌==◌, List, [], ◌∷◌, bytes_eq, codes}
use Rattle.std.specs.List.{list_any}

-- a name is one of these
abbrev pub among : List (List ℕ) → List ℕ → Bool
among names name = list_any (λ n. bytes_eq name n) names

-- the fields of one hop (RFC 9110, 7.6.1; RFC 9111, 3.1)
abbrev pub hop : List (List ℕ)
hop =
    codes "connection" ∷ codes "keep-alive" ∷ codes "proxy-connection" ∷ codes "proxy-authenticate" ∷ codes "proxy-authorization"
    ∷ codes "proxy-authentication-info" ∷ codes "te" ∷ codes "transfer-encoding" ∷ codes "upgrade" ∷ codes "http2-settings" ∷ []

-- the fields that a proxy writes itself
abbrev pub frames : List (List ℕ)
frames =
    codes "content-length" ∷ codes "host" ∷ codes "expect" ∷ []

-- the fields of conditions (RFC 9110, 13.1)
abbrev pub conditions : List (List ℕ)
conditions =
    codes "if-none-match" ∷ codes "if-modified-since" ∷ codes "if-match" ∷ codes "if-unmodified-since" ∷ codes "if-range" ∷ []

-- those of ranges (RFC 9110, 13.1.5 and 14.2), and the conditions that go along with the whole
abbrev pub range_fields : List (List ℕ)
range_fields = codes "range" ∷ codes "if-range" ∷ []

abbrev pub whole_conditions : List (List ℕ)
whole_conditions = codes "if-none-match" ∷ codes "if-modified-since" ∷ codes "if-match" ∷ codes "if-unmodified-since" ∷ []

-- the fields of a request that decide whether and how what is stored answers (RFC 9110, 13.1 and 14; RFC 9111, 3.5 and 5.2.1)
abbrev pub asked : List (List ℕ)
asked =
    codes "authorization" ∷ codes "cache-control" ∷ codes "pragma" ∷ codes "if-none-match" ∷ codes "if-modified-since" ∷ codes "range" ∷ codes "if-range" ∷ []

-- the fields that a cache itself reads
abbrev pub needed : List (List ℕ)
needed =
    codes "cache-control" ∷ codes "cdn-cache-control" ∷ codes "surrogate-control" ∷ codes "vary" ∷ codes "date" ∷ codes "age" ∷ codes "expires" ∷ codes "etag" ∷ codes "last-modified"
    ∷ codes "content-type" ∷ codes "content-encoding" ∷ codes "content-range" ∷ codes "content-length" ∷ []

-- the fields that a 304 doesn't update (RFC 9111, 3.2)
abbrev pub not_updated : List (List ℕ)
not_updated =
    codes "content-length" ∷ codes "content-encoding" ∷ codes "content-range" ∷ codes "trailer" ∷ []

-- the fields that an own 304 leaves out (RFC 9110, 15.4.5)
abbrev pub not_in_304 : List (List ℕ)
not_in_304 =
    codes "content-type" ∷ codes "content-encoding" ∷ codes "content-language" ∷ codes "content-length" ∷ codes "content-range" ∷ []

-- the fields whose values are the same in any case
abbrev pub small_valued : List (List ℕ)
small_valued =
    codes "accept-encoding" ∷ codes "accept-language" ∷ codes "accept-charset" ∷ []

-- the request fields whose lines are one list, of which blanks round commas are no part (RFC 9110, 5.6.1)
abbrev pub list_valued : List (List ℕ)
list_valued =
    codes "accept" ∷ codes "accept-charset" ∷ codes "accept-encoding" ∷ codes "accept-language" ∷ codes "access-control-request-headers"
    ∷ codes "cache-control" ∷ codes "pragma" ∷ codes "prefer" ∷ codes "te" ∷ codes "x-forwarded-for" ∷ []

-- the directives whose value is a number of seconds
abbrev pub in_seconds : List (List ℕ)
in_seconds =
    codes "max-age" ∷ codes "s-maxage" ∷ codes "stale-while-revalidate" ∷ codes "stale-if-error" ∷ []

-- the directives that the rules ask of a response (RFC 9111, 5.2.2; RFC 5861)
abbrev pub directives_asked : List (List ℕ)
directives_asked =
    codes "max-age" ∷ codes "s-maxage" ∷ codes "no-cache" ∷ codes "no-store" ∷ codes "private" ∷ codes "public" ∷ codes "must-revalidate"
    ∷ codes "proxy-revalidate" ∷ codes "must-understand" ∷ codes "stale-while-revalidate" ∷ codes "stale-if-error" ∷ []

-- the methods that change nothing at the origin (RFC 9110, 9.2.1)
abbrev pub is_safe : List ℕ → Bool
is_safe method = among (codes "GET" ∷ codes "HEAD" ∷ codes "OPTIONS" ∷ codes "TRACE" ∷ []) method

-- a status is one of these
abbrev pub is_one_of : List ℕ → ℕ → Bool
is_one_of statuses status = list_any (λ s. s == status) statuses

-- the statuses whose lifetime may be guessed (RFC 9110, 15.1, but for 206)
abbrev pub is_heuristic : ℕ → Bool
is_heuristic =
    is_one_of
    (200 ∷ 203 ∷ 204 ∷ 300 ∷ 301 ∷ 308 ∷ 404 ∷ 405 ∷ 410 ∷ 414 ∷ 501 ∷ [])

-- those whose meaning is known (RFC 9110, 15, but for 206 and 304)
abbrev pub is_understood : ℕ → Bool
is_understood =
    is_one_of
    (200 ∷ 201 ∷ 202 ∷ 203 ∷ 204 ∷ 205 ∷ 300 ∷ 301 ∷ 302 ∷ 303 ∷ 305 ∷ 307 ∷ 308 ∷ 400 ∷ 401 ∷ 402 ∷ 403 ∷ 404 ∷ 405 ∷ 406 ∷ 407 ∷ 408 ∷ 409 ∷ 410 ∷ 411
    ∷ 412 ∷ 413 ∷ 414 ∷ 415 ∷ 416 ∷ 417 ∷ 421 ∷ 422 ∷ 426 ∷ 500 ∷ 501 ∷ 502 ∷ 503 ∷ 504 ∷ 505 ∷ [])

-- the errors in whose place something stale may answer (RFC 5861, 4)
abbrev pub is_error : ℕ → Bool
is_error = is_one_of (500 ∷ 502 ∷ 503 ∷ 504 ∷ [])
