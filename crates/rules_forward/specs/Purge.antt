-- What a response to an unsafe request makes out of date (RFC 9111, 4.4). Bytes are numbers: 35 `#`, 47 a slash, 63 `?`.
use Rattle.std.specs.Prelude.{ℕ, Bool, true, false, not, ◌&&◌, ◌||◌, ◌==◌, nat_lt, if◌then◌else◌, List, [], ◌∷◌, ◌++◌, length, take, drop, codes, bytes_eq, Option, Some, None, option_map}
use Rattle.std.specs.List.{position_or_len, filter_map}
use Rattle.rules_fields.specs.Texts.{small, trimmed, is_filled}
use Rattle.rules_fields.specs.Tables.{is_safe}
use Rattle.rules_fields.specs.Fields.{all}
use Rattle.rules_fields.specs.Types.{Asked, Answered, Chosen}
use Rattle.http1_message_parts.specs.Host.{normal_host, host_of}
use Rattle.http1_message_parts.specs.Query.{chosen_target}
use Rattle.rules_reuse.specs.Keys.{key_of}

-- a reference without the blanks round it and without its fragment (RFC 3986, 3.5)
abbrev pub without_fragment : List ℕ → List ℕ
without_fragment text = let t = trimmed text in take (position_or_len (λ b. b == 35) t) t

abbrev pub ends_authority : ℕ → Bool
ends_authority b = b == 47 || b == 63

abbrev pub is_host_of : List ℕ → Option (List ℕ) → Bool
is_host_of host None = false
is_host_of host (Some h) = bytes_eq h host

-- a path begins with a slash
abbrev pub with_slash : List ℕ → List ℕ
with_slash [] = codes "/"
with_slash (b ∷ rest) = if b == 47 then b ∷ rest else 47 ∷ b ∷ rest

-- nothing, a slash or a `?` follows
abbrev pub ends_segment : List ℕ → Bool
ends_segment [] = true
ends_segment (b ∷ rest) = ends_authority b

-- a path of the origin's, as it is here: without the prefix that is sent in front of it
abbrev pub mirrored : List ℕ → List ℕ → List ℕ
mirrored prefix path =
    let rest = drop (length prefix) path in
    if bytes_eq (take (length prefix) path) prefix && ends_segment rest then with_slash rest else path

-- the host that the origin is sent, where the operator names one
abbrev pub is_origin_host : List ℕ → List ℕ → Option (List ℕ) → Bool
is_origin_host scheme origin host = is_filled origin && is_host_of (normal_host scheme origin) host

-- the origin knows itself by the host that it is sent: the request's, where the operator names no other
abbrev pub own_path_at : Asked → Chosen → List ℕ → Option (List ℕ) → List ℕ → Option (List ℕ)
own_path_at r o scheme host path =
    if is_origin_host scheme o.origin_host host then Some (mirrored o.origin_prefix path)
    else (if bytes_eq scheme r.scheme && is_host_of r.host host
    then Some (if is_filled o.origin_host then path else mirrored o.origin_prefix path)
    else None)

-- the target behind `//`, if the scheme and the authority are the request's own, or those of its origin
abbrev pub own_target : Asked → Chosen → List ℕ → List ℕ → Option (List ℕ)
own_target r o scheme text =
    let n = position_or_len ends_authority text in own_path_at r o scheme (host_of scheme (take n text)) (with_slash (drop n text))

abbrev pub own_path : Chosen → List ℕ → Option (List ℕ)
own_path o [] = None
own_path o (b ∷ rest) = if b == 47 then Some (mirrored o.origin_prefix (b ∷ rest)) else None

-- the target that a reference names, if it is of the request's own origin: `//authority..`, `http://..`, `https://..`, or a path
abbrev pub target_in : Asked → Chosen → List ℕ → Option (List ℕ)
target_in r o text =
    if bytes_eq (small (take 2 text)) (codes "//") then own_target r o r.scheme (drop 2 text)
    else (if bytes_eq (small (take 7 text)) (codes "http://") then own_target r o (codes "http") (drop 7 text)
    else (if bytes_eq (small (take 8 text)) (codes "https://") then own_target r o (codes "https") (drop 8 text)
    else own_path o text))

-- the key that a reference names, as that of a request for it
abbrev pub target_of : Asked → List ℕ → Chosen → Option (List ℕ)
target_of r text o = option_map (λ path. key_of r.scheme r.host (chosen_target o path) o) (target_in r o (without_fragment text))

abbrev pub named_in : Asked → Chosen → List (List ℕ) → List (List ℕ)
named_in r o references = filter_map (λ text. target_of r text o) references

-- nothing where the method is safe or the response is an error; else the request's own target, and what Location and Content-Location name
abbrev pub invalidates : Asked → Answered → Chosen → List (List ℕ)
invalidates r p o =
    if is_safe r.method || nat_lt p.status 200 || not (nat_lt p.status 400) then []
    else key_of r.scheme r.host r.target o
    ∷ named_in r o (all (codes "location") p.lines) ++ named_in r o (all (codes "content-location") p.lines)
