-- The request line and the status line (RFC 9112, 3 and 4). Bytes are numbers: 10 a LF, 13 a CR, 32 a space, 46 a dot.
use Rattle.std.specs.Prelude.{ℕ, ◌+◌, ◌-◌, ◌*◌, Bool, true, false, not, ◌&&◌, ◌||◌, ◌==◌, nat_lt, if◌then◌else◌, List, [], ◌∷◌, length, take, drop, codes, bytes_eq, Result, Ok, Err}
use Rattle.std.specs.List.{list_all, position_or_len}
use Rattle.std.specs.Char.{is_ascii_digit}
use Rattle.httparse.specs.Grammar.{is_token, is_value_byte}
use Rattle.rules_fields.specs.Texts.{is_filled}
use Rattle.rules_fields.specs.Tables.{among}
use Rattle.rules_fields.specs.Types.{Chosen}
use Rattle.http1_message_parts.specs.Results.{on_ok, map_ok}
use Rattle.http1_message_parts.specs.Lines.{has_bare_end}
use Rattle.http1_message_parts.specs.declared.reason.Reason.{Reason}
use Rattle.http1_message_parts.specs.declared.reason.Reason.TheVariants.{TargetTooLong, HeadTooLong, BareLineEnd, BadRequestLine, Version, Method, BadStatusLine}

-- without the empty lines in front (2.2)
abbrev pub skip_empty : List ℕ → List ℕ
skip_empty [] = []
skip_empty (b ∷ []) = b ∷ []
skip_empty (b ∷ c ∷ text) = if b == 13 && c == 10 then skip_empty text else b ∷ c ∷ text

abbrev pub begins_lf : List ℕ → Bool
begins_lf [] = false
begins_lf (b ∷ text) = b == 10

-- where the first CR LF stands, or the length
abbrev pub start_len : List ℕ → ℕ
start_len [] = 0
start_len (b ∷ text) = if b == 13 && begins_lf text then 0 else 1 + start_len text

-- a method, a target and a minor version
pub record RequestLine : Type 0 where
  pub method : List ℕ
  pub target : List ℕ
  pub minor : ℕ

-- a visible byte of ASCII; others stand in a target as percent-codes (RFC 3986, 2)
abbrev pub is_target_byte : ℕ → Bool
is_target_byte b = nat_lt 32 b && nat_lt b 127

abbrev pub is_target : List ℕ → Bool
is_target text = is_filled text && list_all is_target_byte text

-- digit "." digit
abbrev pub is_dotted : List ℕ → Bool
is_dotted (a ∷ b ∷ c ∷ []) = is_ascii_digit a && b == 46 && is_ascii_digit c
is_dotted _ = false

abbrev pub is_version : List ℕ → Bool
is_version text = bytes_eq (take 5 text) (codes "HTTP/") && is_dotted (drop 5 text)

-- 1.0, or 1.1, as which a later minor version is read (RFC 9110, 2.5)
abbrev pub minor_from : ℕ → ℕ
minor_from digit = if digit == 48 then 0 else 1

abbrev pub minor_in : List ℕ → Result ℕ Reason
minor_in (digit ∷ []) = Ok (minor_from digit)
minor_in _ = Err Version

abbrev pub minor_of : List ℕ → Result ℕ Reason
minor_of version = if bytes_eq (take 7 version) (codes "HTTP/1.") then minor_in (drop 7 version) else Err Version

abbrev pub line_from : List ℕ → List ℕ → List ℕ → Result RequestLine Reason
line_from method target version =
    if is_token method && is_target target && is_version version
    then map_ok (λ minor. record { method = method; target = target; minor = minor }) (minor_of version)
    else Err BadRequestLine

-- method SP target SP version (3)
abbrev pub request_line : List ℕ → Result RequestLine Reason
request_line row =
    let n = position_or_len (λ b. b == 32) row in
    let after = drop (n + 1) row in
    let m = position_or_len (λ b. b == 32) after in
    line_from (take n row) (take m after) (drop (m + 1) after)

-- a method that the operator refuses
abbrev pub unless_refused : Chosen → RequestLine → Result RequestLine Reason
unless_refused o line = if among o.refuses line.method then Err Method else Ok line

-- the request line of a head
unfoldable pub request_start : List ℕ → Chosen → Result RequestLine Reason
request_start head o =
    if nat_lt o.most_target (start_len head) then Err TargetTooLong
    else (if nat_lt o.most_head (length head) then Err HeadTooLong
    else (if has_bare_end false head then Err BareLineEnd
    else on_ok (request_line (take (start_len head) head)) (unless_refused o)))

-- three digits, of which the first isn't 0
abbrev pub is_status : ℕ → ℕ → ℕ → Bool
is_status a b c = is_ascii_digit a && not (a == 48) && is_ascii_digit b && is_ascii_digit c

-- nothing, or a space and a phrase
abbrev pub is_reason : List ℕ → Bool
is_reason [] = true
is_reason (b ∷ phrase) = b == 32 && list_all is_value_byte phrase

-- a minor version and a status
abbrev pub status_from : List ℕ → Result (ℕ × ℕ) Reason
status_from (minor ∷ space ∷ a ∷ b ∷ c ∷ reason) =
    if is_ascii_digit minor && space == 32 && is_status a b c && is_reason reason
    then Ok (minor_from minor, 100 * (a - 48) + 10 * (b - 48) + (c - 48)) else Err BadStatusLine
status_from _ = Err BadStatusLine

-- version SP status, and a phrase (4)
abbrev pub status_line : List ℕ → Result (ℕ × ℕ) Reason
status_line row = if bytes_eq (take 7 row) (codes "HTTP/1.") then status_from (drop 7 row) else Err BadStatusLine
