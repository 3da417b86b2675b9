-- URLs as people write them. Bytes are numbers: 35 `#`, 47 a slash, 58 a colon, 63 `?`, 127 a delete.
use Rattle.std.specs.Prelude.{ℕ, Bool, false, ◌||◌, ◌&&◌, ◌==◌, nat_le, if◌then◌else◌, is_none, List, [], ◌∷◌, ◌++◌, length, drop, codes, Option, Some, None, option_map}
use Rattle.std.specs.List.{list_any}
use Rattle.std.specs.Option.{option_map_or}
use Rattle.rules_ffi_arguments.specs.Options.{scheme_by}
use Rattle.gateway_rules.specs.Options.{Options}
use Rattle.gateway_rules.specs.Values.{Asked, key_of, is_rejected}
use Rattle.gateway_rules.specs.Requests.{parsed_in}

-- what stands in front of a byte
abbrev pub before : ℕ → List ℕ → List ℕ
before wanted [] = []
before wanted (b ∷ text) = if b == wanted then [] else b ∷ before wanted text

abbrev pub begins_with_slashes : List ℕ → Bool
begins_with_slashes (a ∷ b ∷ text) = a == 47 && b == 47
begins_with_slashes _ = false

-- what stands behind the first `://`
abbrev pub behind_scheme : List ℕ → Option (List ℕ)
behind_scheme [] = None
behind_scheme (a ∷ text) = if a == 58 && begins_with_slashes text then Some (drop 2 text) else behind_scheme text

-- the host of a URL with a scheme, and its port
abbrev pub host_of : List ℕ → List ℕ
host_of url = option_map_or (λ rest. before 63 (before 47 rest)) (behind_scheme url) []

abbrev pub with_scheme : Options → List ℕ → List ℕ
with_scheme o url = if is_none (behind_scheme url) then scheme_by o.numbers.flags ++ (codes "://" ++ url) else url

abbrev pub request_line : List ℕ → List ℕ
request_line url = codes "GET " ++ (url ++ codes " HTTP/1.1\r\n")

abbrev pub host_line : List ℕ → List ℕ
host_line url = codes "Host: " ++ (host_of url ++ codes "\r\n\r\n")

-- a request for a URL with a scheme
unfoldable pub request_to : List ℕ → List ℕ
request_to url = request_line url ++ host_line url

abbrev pub url_request : Options → List ℕ → List ℕ
url_request o url = request_to (with_scheme o url)

abbrev pub breaks_text : ℕ → Bool
breaks_text b = nat_le b 32 || b == 127

abbrev pub key_read : Option Asked → Option (List ℕ)
key_read None = None
key_read (Some q) = if is_rejected q || length (key_of q) == 0 then None else Some (key_of q)

abbrev pub key_asked : Options → List ℕ → Option (Option (List ℕ))
key_asked o url = option_map key_read (parsed_in o (url_request o url) 0)

-- the first key of a URL, of which what a `#` begins is no part; None of one that can't be read
abbrev pub url_key_in : Options → List ℕ → Option (Option (List ℕ))
url_key_in o url =
    let asked = before 35 url in
    if list_any breaks_text asked then Some None else key_asked o asked
