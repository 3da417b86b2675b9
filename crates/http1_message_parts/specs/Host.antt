-- The text of a Host and of an authority (RFC 9110, 4.2.3, 7.2; RFC 3986, 3.2.2). Bytes are numbers: 46 a dot, 58 a colon, 91 and 93 brackets.
use Rattle.std.specs.Prelude.{ℕ, ◌+◌, Bool, true, false, not, ◌&&◌, ◌||◌, ◌==◌, if◌then◌else◌, List, [], ◌∷◌, ◌++◌, take, drop, codes, bytes_eq, Option, Some, None}
use Rattle.std.specs.List.{list_all, list_any, position_or_len}
use Rattle.std.specs.Char.{is_ascii_alphanumeric, is_ascii_digit, is_ascii_hexdigit}
use Rattle.rules_fields.specs.Texts.{small, is_filled}

-- a byte of a name or an IPv4 address
abbrev pub is_name_byte : ℕ → Bool
is_name_byte b = is_ascii_alphanumeric b || list_any (λ c. c == b) (codes "-._~!$&'()*+,;=")

-- a byte of an IPv6 address
abbrev pub is_address_byte : ℕ → Bool
is_address_byte b = is_ascii_hexdigit b || b == 58 || b == 46

-- a port: nothing, or a colon and digits
abbrev pub is_port : List ℕ → Bool
is_port [] = true
is_port (b ∷ digits) = b == 58 && list_all is_ascii_digit digits

abbrev pub is_bracket_end : List ℕ → List ℕ → Bool
is_bracket_end address [] = false
is_bracket_end address (b ∷ port) = is_filled address && list_all is_address_byte address && is_port port

-- behind a bracket: an address up to the bracket that ends it, and a port
abbrev pub is_address : List ℕ → Bool
is_address text = let n = position_or_len (λ b. b == 93) text in is_bracket_end (take n text) (drop n text)

-- a name up to a colon, and a port
abbrev pub is_name : List ℕ → Bool
is_name text = let n = position_or_len (λ b. b == 58) text in list_all is_name_byte (take n text) && is_port (drop n text)

-- a host, which may be empty, with or without a port
abbrev pub is_host : List ℕ → Bool
is_host [] = true
is_host (b ∷ text) = if b == 91 then is_address text else not (b == 58) && is_name (b ∷ text)

-- where the port of a host begins: behind its brackets, or at its first colon
abbrev pub port_place : List ℕ → ℕ
port_place [] = 0
port_place (b ∷ text) = if b == 91 then position_or_len (λ c. c == 93) text + 2 else position_or_len (λ c. c == 58) (b ∷ text)

-- the port that needs no telling
abbrev pub own_port : List ℕ → List ℕ
own_port scheme = if bytes_eq scheme (codes "https") then codes "443" else codes "80"

-- digits without the zeros in front, of which the last stays
abbrev pub without_zeros : List ℕ → List ℕ
without_zeros [] = []
without_zeros (b ∷ digits) = if b == 48 && is_filled digits then without_zeros digits else b ∷ digits

abbrev pub unless_own : List ℕ → ℕ → List ℕ → List ℕ
unless_own scheme colon digits = if is_filled digits && not (bytes_eq digits (own_port scheme)) then colon ∷ digits else []

-- a port without zeros in front; none where it is empty, or the scheme's own
abbrev pub told_port : List ℕ → List ℕ → List ℕ
told_port scheme [] = []
told_port scheme (colon ∷ digits) = unless_own scheme colon (without_zeros digits)

-- a host and its port as they count: in small letters, and the port so
abbrev pub normal_host : List ℕ → List ℕ → List ℕ
normal_host scheme text = let n = port_place text in small (take n text) ++ told_port scheme (drop n text)

-- the same; none where it is no host
abbrev pub host_of : List ℕ → List ℕ → Option (List ℕ)
host_of scheme text = if is_host text then Some (normal_host scheme text) else None
