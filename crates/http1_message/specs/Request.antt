-- A request's head (RFC 9112, 3). A first-match table: of several faults the first is told.
use Rattle.std.specs.Prelude.{ℕ, ◌+◌, Bool, not, ◌==◌, nat_lt, if◌then◌else◌, List, [], ◌∷◌, ◌++◌, length, take, drop, codes, bytes_eq, Option, Some, is_some, Result, Ok, Err}
use Rattle.std.specs.List.{list_any}
use Rattle.rules_fields.specs.Fields.{Field, all, has_line, without, elements, tokens}
use Rattle.rules_fields.specs.Types.{Asked, Chosen}
use Rattle.rules_fields.specs.declared.types.Framing.{Framing}
use Rattle.http1_message_parts.specs.declared.reason.Reason.{Reason}
use Rattle.http1_message_parts.specs.declared.reason.Reason.TheVariants.{TargetTooLong, HeadTooLong, FieldTooLong, BadCoding}
use Rattle.http1_message_parts.specs.Results.{on_ok, map_ok}
use Rattle.http1_message_parts.specs.Body.{framing}
use Rattle.http1_message_parts.specs.Host.{normal_host}
use Rattle.http1_message_parts.specs.Lines.{lines_of, rows_of, fields_within}
use Rattle.http1_message_parts.specs.Start.{RequestLine, skip_empty, start_len, request_start}
use Rattle.http1_message_parts.specs.Target.{absolute, host_text, path_of, place_refusal}
use Rattle.http1_message_parts.specs.EndToEnd.{end_to_end}
use Rattle.http1_message_parts.specs.Query.{chosen_target}
use Rattle.http1_message_parts.specs.End.{head_end}
use Rattle.http1_message.specs.Cookies.{made_line, kept_cookies}
use Rattle.http1_message.specs.Encodings.{encodings_of}

-- what was read, what Connection lists, and whether there is Expect
abbrev pub ReadRequest : Type 0
ReadRequest = Asked × List (List ℕ) × Bool

abbrev pub unless : {A : Type 0} → Option Reason → A → Result A Reason
unless Option.None a = Ok a
unless (Some r) a = Err r

-- without the lines of a name, where those are written anew
abbrev pub left_if : Bool → List ℕ → List Field → List Field
left_if anew name lines = if anew then without (name ∷ []) lines else lines

-- without those of the cookies and the codings, where the operator chose which
abbrev pub left_of : Chosen → List Field → List Field
left_of o lines =
    left_if (not (length o.encodings == 0)) (codes "accept-encoding") (left_if (is_some o.cookie_keeps) (codes "cookie") lines)

-- end to end, without those that the operator drops, and with his cookies and codings
abbrev pub own_lines : Chosen → List Field → List Field
own_lines o lines =
    let left = without o.drops (end_to_end lines) in
    left_of o left ++ made_line (codes "Cookie") (kept_cookies o.cookie_keeps left)
    ++ made_line (codes "Accept-Encoding") (encodings_of o.encodings left)

-- a request, by its start line, its lines and its framing. All of these are read of all lines; then those go that the operator drops
unfoldable pub placed : RequestLine → List Field → Chosen → Framing → Result ReadRequest Reason
placed line lines o framing =
    let form = absolute line.target in
    let hosts = all (codes "host") lines in
    unless (place_refusal line.method line.target line.minor hosts form o) (
      record {
        method = line.method;
        scheme = o.scheme;
        host = normal_host o.scheme (host_text form hosts);
        target = chosen_target o (path_of line.method line.target form);
        minor = line.minor;
        lines = own_lines o lines;
        framing = framing;
        takes_trailers = list_any (λ t. bytes_eq t (codes "trailers")) (tokens (codes "te") lines);
      },
      elements (codes "connection") lines,
      has_line (codes "expect") lines,
    )

-- a line whose name, colon and value are longer than the options let them be
abbrev pub has_long_line : List Field → Chosen → Bool
has_long_line lines o = list_any (λ f. nat_lt o.most_line (length f.0 + 1 + length f.1)) lines

-- a request without a framing line has no body (RFC 9112, 6.3)
abbrev pub framed : RequestLine → Chosen → List Field → Result ReadRequest Reason
framed line o lines =
    if has_long_line lines o then Err FieldTooLong else on_ok (framing line.minor lines Framing.None BadCoding) (placed line lines o)

-- a head, without the empty lines in front
unfoldable pub request_of : List ℕ → Chosen → Result ReadRequest Reason
request_of head o =
    let text = drop 2 (drop (start_len head) head) in
    on_ok (request_start head o) (λ line. on_ok (fields_within o.most_lines (rows_of (lines_of text))) (framed line o))

-- a head that doesn't end: the start line may be what is too long
abbrev pub too_long : List ℕ → Chosen → Reason
too_long head o = if nat_lt o.most_target (start_len head) then TargetTooLong else HeadTooLong

abbrev pub read_until : List ℕ → Chosen → Option ℕ → Option (Result (ReadRequest × ℕ) Reason)
read_until bytes o Option.None = if nat_lt o.most_head (length bytes) then Some (Err (too_long (skip_empty bytes) o)) else Option.None
read_until bytes o (Some n) = Some (map_ok (λ head. (head, n)) (request_of (skip_empty (take n bytes)) o))

-- what comes first in bytes: nothing yet, or a request and how many bytes it has, or why it is refused
unfoldable pub read_request : List ℕ → Chosen → Option (Result (ReadRequest × ℕ) Reason)
read_request bytes o = read_until bytes o (head_end bytes)
