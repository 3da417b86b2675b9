-- Where a request goes (RFC 9112, 3.2; RFC 9110, 4.2.3, 7.2 and 7.4). Bytes are numbers: 35 `#`, 42 `*`, 47 a slash, 58 a colon, 63 `?`, 64 `@`.
use Rattle.std.specs.Prelude.{ℕ, Bool, true, false, not, ◌&&◌, ◌||◌, ◌==◌, nat_lt, if◌then◌else◌, List, [], ◌∷◌, length, take, drop, codes, bytes_eq, Option, Some, None, option_and_then}
use Rattle.std.specs.List.{list_all, list_any, position_or_len}
use Rattle.std.specs.Char.{is_ascii_alphanumeric, is_ascii_alphabetic}
use Rattle.rules_fields.specs.Texts.{small, is_filled}
use Rattle.rules_fields.specs.Rows.{first_true}
use Rattle.rules_fields.specs.Types.{Chosen}
use Rattle.http1_message_parts.specs.Host.{is_host, normal_host}
use Rattle.http1_message_parts.specs.declared.reason.Reason.{Reason}
use Rattle.http1_message_parts.specs.declared.reason.Reason.TheVariants.{SeveralHosts, NoHost, BadHost, OtherScheme, OtherHost, BadTarget}

-- a letter, and letters, digits and `+-.` (RFC 3986, 3.1)
abbrev pub is_scheme_byte : ℕ → Bool
is_scheme_byte b = is_ascii_alphanumeric b || b == 43 || b == 45 || b == 46

abbrev pub is_scheme : List ℕ → Bool
is_scheme [] = false
is_scheme (b ∷ text) = is_ascii_alphabetic b && list_all is_scheme_byte text

-- what follows `://`
abbrev pub after_mark : List ℕ → Option (List ℕ)
after_mark (a ∷ b ∷ c ∷ rest) = if a == 58 && b == 47 && c == 47 then Some rest else None
after_mark _ = None

abbrev pub ends_authority : ℕ → Bool
ends_authority b = b == 47 || b == 63 || b == 35 || b == 64

-- a path or a query, or nothing
abbrev pub begins_path : List ℕ → Bool
begins_path [] = true
begins_path (b ∷ rest) = b == 47 || b == 63

-- an absolute target: its scheme, its authority, and what follows
abbrev pub Absolute : Type 0
Absolute = List ℕ × List ℕ × List ℕ

abbrev pub with_authority : List ℕ → List ℕ → Option Absolute
with_authority scheme rest =
    let n = position_or_len ends_authority rest in
    if is_filled (take n rest) && begins_path (drop n rest) then Some (scheme, take n rest, drop n rest) else None

abbrev pub with_scheme : List ℕ → List ℕ → Option Absolute
with_scheme scheme after = if is_scheme scheme then option_and_then (with_authority scheme) (after_mark after) else None

abbrev pub absolute : List ℕ → Option Absolute
absolute target = let n = position_or_len (λ b. b == 58) target in with_scheme (take n target) (drop n target)

abbrev pub first_or_none : List (List ℕ) → List ℕ
first_or_none [] = []
first_or_none (host ∷ hosts) = host

-- the host that counts: of an absolute target its authority (RFC 9112, 3.2.2)
abbrev pub host_text : Option Absolute → List (List ℕ) → List ℕ
host_text None hosts = first_or_none hosts
host_text (Some form) hosts = form.1

abbrev pub path_after : List ℕ → List ℕ → List ℕ
path_after method [] = if bytes_eq method (codes "OPTIONS") then codes "*" else codes "/"
path_after method (b ∷ rest) = if b == 63 then 47 ∷ b ∷ rest else b ∷ rest

-- the path and the query; `*` for an absolute target of OPTIONS without either (3.2.4)
abbrev pub path_of : List ℕ → List ℕ → Option Absolute → List ℕ
path_of method target None = target
path_of method target (Some form) = path_after method form.2

abbrev pub is_path : List ℕ → List ℕ → Bool
is_path method [] = false
is_path method (b ∷ rest) = b == 47 || (b == 42 && length rest == 0 && bytes_eq method (codes "OPTIONS"))

abbrev pub is_own_scheme : List ℕ → Option Absolute → Bool
is_own_scheme scheme None = true
is_own_scheme scheme (Some form) = bytes_eq (small form.0) scheme

-- one of the operator's hosts is this one; no hosts: any is
unfoldable pub names_host : List (List ℕ) → List ℕ → List ℕ → Bool
names_host words scheme host = length words == 0 || list_any (λ word. bytes_eq (normal_host scheme word) host) words

-- the host is served
abbrev pub is_served : Chosen → List ℕ → Bool
is_served o host = names_host o.hosts o.scheme (normal_host o.scheme host)

-- a place that is refused: `hosts` are the values of all Host lines
abbrev pub place_rows : List ℕ → List ℕ → ℕ → List (List ℕ) → Option Absolute → Chosen → List (Reason × Bool)
place_rows method target minor hosts form o =
    ((SeveralHosts, nat_lt 1 (length hosts))
    ∷ (NoHost, length hosts == 0 && minor == 1)
    ∷ (BadHost, not (is_host (host_text form hosts) && list_all is_host hosts))
    ∷ (OtherScheme, not (is_own_scheme o.scheme form))
    ∷ (OtherHost, not (is_served o (host_text form hosts)))
    ∷ (BadTarget, list_any (λ b. b == 35) target || not (is_path method (path_of method target form)))
    ∷ [])

unfoldable pub place_refusal : List ℕ → List ℕ → ℕ → List (List ℕ) → Option Absolute → Chosen → Option Reason
place_refusal method target minor hosts form o = first_true (place_rows method target minor hosts form o)
