-- A response's head (RFC 9112, 4). A lone LF ends a line as CR LF does (2.2: it may), and no line is ever dropped.
use Rattle.std.specs.Prelude.{◌≡◌, ℕ, Bool, true, false, ◌&&◌, ◌||◌, ◌==◌, nat_lt, if◌then◌else◌, List, [], ◌∷◌, ◌++◌, length, take, codes, bytes_eq, Option, Some, option_and_then, Result, Ok, Err}
use Rattle.std.specs.List.{list_any}
use Rattle.rules_fields.specs.Numbers.{digits}
use Rattle.rules_fields.specs.Fields.{Field, is_named, first, has_line, without, tokens}
use Rattle.rules_fields.specs.Types.{Answered, Chosen}
use Rattle.rules_fields.specs.declared.types.Framing.{Framing}
use Rattle.rules_fields.specs.declared.types.Framing.TheVariants.{Close}
use Rattle.http1_message_parts.specs.declared.reason.Reason.{Reason}
use Rattle.http1_message_parts.specs.declared.reason.Reason.TheVariants.{HeadTooLong, BareLineEnd, UnknownCoding, Switched}
use Rattle.http1_message_parts.specs.Results.{on_ok, map_ok}
use Rattle.http1_message_parts.specs.Body.{framing}
use Rattle.http1_message_parts.specs.Lines.{has_bare_cr, lines_of, row_of, rows_of, fields_within}
use Rattle.http1_message_parts.specs.Start.{status_line}
use Rattle.http1_message_parts.specs.EndToEnd.{end_to_end}
use Rattle.http1_message_parts.specs.Via.{with_via}
use Rattle.http1_message_parts.specs.End.{head_end}
use Rattle.httpdate.specs.Date.{unix_secs, date_text}
use Rattle.httpdate.specs.declared.date.HttpDate.{HttpDate}

-- the text of a second, as IMF-fixdate (RFC 9110, 5.6.7)
abbrev pub ShowsSecond : ℕ → List ℕ → Type 0
ShowsSecond second text = (date : HttpDate) × (unix_secs date ≡ second) × (text ≡ date_text date)

-- 1xx, 204 and 304 have no body (RFC 9112, 6.3)
abbrev pub is_bodiless : ℕ → Bool
is_bodiless status = nat_lt status 200 || status == 204 || status == 304

abbrev pub of_head : Option ℕ → Framing
of_head Option.None = Framing.None
of_head (Some n) = Framing.HeadLength n

-- of HEAD the length that a GET would have; without a framing line until the connection closes (6.3)
abbrev pub response_framing : List ℕ → ℕ → ℕ → List Field → Result Framing Reason
response_framing method minor status lines =
    if bytes_eq method (codes "HEAD") then Ok (of_head (option_and_then digits (first (codes "content-length") lines)))
    else (if is_bodiless status then Ok Framing.None
    else framing minor lines Close UnknownCoding)

-- Date, where there is none (RFC 9110, 6.6.1)
abbrev pub own_date : List ℕ → List Field → List Field
own_date date lines = if has_line (codes "date") lines then [] else (codes "Date", date) ∷ []

-- of several Dates the first, also where it can't be read (RFC 9110, 6.6.1): `came` whether one stands in front
abbrev pub one_date : Bool → List Field → List Field
one_date came [] = []
one_date came (f ∷ lines) =
    let is_date = is_named (codes "date") f in
    if is_date && came then one_date came lines else f ∷ one_date (came || is_date) lines

-- the lines end to end, with one Date, and without Content-Length, which is in the framing
abbrev pub own_lines : List Field → List Field
own_lines lines = one_date false (without (codes "content-length" ∷ []) (end_to_end lines))

-- with one more element of Via, and with a Date
abbrev pub response_lines : ℕ → List ℕ → List ℕ → List Field → List Field
response_lines minor date name lines = with_via minor name (own_lines lines) ++ own_date date lines

-- a response, and whether its connection ends behind it
abbrev pub ReadResponse : Type 0
ReadResponse = Answered × Bool

abbrev pub is_till_close : Framing → Bool
is_till_close Close = true
is_till_close _ = false

-- HTTP/1.0, `close` in Connection, or a body until the connection closes (RFC 9112, 9.3, 9.6)
abbrev pub closes : ℕ → List Field → Framing → Bool
closes minor lines f =
    minor == 0 || list_any (λ t. bytes_eq t (codes "close")) (tokens (codes "connection") lines) || is_till_close f

abbrev pub answered_with : ℕ → ℕ → List ℕ → Chosen → List Field → Framing → ReadResponse
answered_with minor status date o lines f =
    (record { status = status; minor = minor; lines = response_lines minor date o.name lines; framing = f }, closes minor lines f)

unfoldable pub answered_by : List ℕ → List ℕ → Chosen → ℕ × ℕ → List Field → Result ReadResponse Reason
answered_by method date o line lines =
    if line.1 == 101 then Err Switched
    else map_ok (answered_with line.0 line.1 date o lines) (response_framing method line.0 line.1 lines)

abbrev pub by_fields : List ℕ → List ℕ → Chosen → List (List ℕ) → ℕ × ℕ → Result ReadResponse Reason
by_fields method date o rows line = on_ok (fields_within o.most_lines rows) (answered_by method date o line)

-- a head, by its start line and the rows behind it
abbrev pub by_start : List ℕ → List ℕ → Chosen → List ℕ → List (List ℕ) → Result ReadResponse Reason
by_start method date o start rows = on_ok (status_line (row_of start)) (by_fields method date o rows)

abbrev pub by_lines : List ℕ → List ℕ → Chosen → List (List ℕ) → Result ReadResponse Reason
by_lines method date o [] = by_start method date o [] []
by_lines method date o (start ∷ lines) = by_start method date o start (rows_of lines)

unfoldable pub response_of : List ℕ → List ℕ → List ℕ → Chosen → Result ReadResponse Reason
response_of head method date o =
    if nat_lt o.most_head (length head) then Err HeadTooLong
    else (if has_bare_cr false head then Err BareLineEnd else by_lines method date o (lines_of head))

abbrev pub read_until : List ℕ → List ℕ → List ℕ → Chosen → Option ℕ → Option (Result (ReadResponse × ℕ) Reason)
read_until bytes method date o Option.None = if nat_lt o.most_head (length bytes) then Some (Err HeadTooLong) else Option.None
read_until bytes method date o (Some n) = Some (map_ok (λ head. (head, n)) (response_of (take n bytes) method date o))

-- what comes first in bytes: nothing yet, or a response and how many bytes its head has, or why it is refused
unfoldable pub read_response : List ℕ → List ℕ → List ℕ → Chosen → Option (Result (ReadResponse × ℕ) Reason)
read_response bytes method date o = read_until bytes method date o (head_end bytes)
