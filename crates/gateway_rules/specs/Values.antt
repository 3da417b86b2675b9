-- What was read, and what is said of it: a text, and the shape in which its parts stand. Bytes are numbers: 58 is a colon.
use Rattle.std.specs.Prelude.{ℕ, Bool, false, true, not, ◌&&◌, ◌||◌, ◌==◌, nat_lt, if◌then◌else◌, List, [], codes, bytes_eq, Option, Some, None, Result, Ok, Err}
use Rattle.std.specs.Option.{option_map_or}
use Rattle.rules_ffi_arguments.specs.Options.{has_mark}
use Rattle.rules_ffi_arguments.specs.Spans.{text_in}
use Rattle.rules_ffi_arguments.specs.declared.shapes.Span.{Span}
use Rattle.rules_ffi_arguments.specs.declared.shapes.RequestShape.{RequestShape}
use Rattle.rules_ffi_arguments.specs.declared.shapes.ResponseShape.{ResponseShape}
use Rattle.rules_ffi_arguments.specs.declared.shapes.KeptShape.{KeptShape}
use Rattle.rules_ffi_arguments.specs.declared.shapes.How.{How}
use Rattle.rules_ffi_results.specs.Numbers.{none}
use Rattle.gateway_rules.specs.declared.values.RequestHead.{RequestHead}
use Rattle.gateway_rules.specs.declared.values.ResponseHead.{ResponseHead}
use Rattle.gateway_rules.specs.declared.values.Read.{Read}
use Rattle.gateway_rules.specs.declared.values.Read.TheVariants.{Head, Refused}
use Rattle.gateway_rules.specs.declared.values.StoreDecision.{StoreDecision}

-- the bytes that a span names; none where it doesn't lie in the text
abbrev pub text_of : List ℕ → Span → List ℕ
text_of text s = option_map_or (λ t. t) (text_in text s) []

-- a request that was read, or is refused: its text and its shape
abbrev pub Asked : Type 0
Asked = List ℕ × RequestShape

abbrev pub request_of : RequestHead → Asked
request_of h = (h.text.items, h.shape)

abbrev pub key_of : Asked → List ℕ
key_of q = text_of q.0 q.1.key

abbrev pub method_of : Asked → List ℕ
method_of q = text_of q.0 q.1.method

abbrev pub is_rejected : Asked → Bool
is_rejected q = not (q.1.status == 65)

-- a body follows: chunks, or a length that isn't 0 (RFC 9112, 6.3)
abbrev pub has_body : RequestShape → Bool
has_body s = if s.framing == 0 then false else (if s.framing == 1 then not (s.length == 0) else true)

-- it may be sent twice (RFC 9110, 9.2.2)
abbrev pub is_idempotent : List ℕ → Bool
is_idempotent method =
    bytes_eq method (codes "GET") || bytes_eq method (codes "HEAD") || bytes_eq method (codes "OPTIONS") || bytes_eq method (codes "TRACE")
    || bytes_eq method (codes "PUT") || bytes_eq method (codes "DELETE")

abbrev pub is_get_or_head : List ℕ → Bool
is_get_or_head method = bytes_eq method (codes "GET") || bytes_eq method (codes "HEAD")

-- a response that was read
abbrev pub Came : Type 0
Came = List ℕ × ResponseShape

abbrev pub response_of : ResponseHead → Came
response_of h = (h.text.items, h.shape)

-- a status that 16 bits don't show is none
abbrev pub code_of : ResponseShape → ℕ
code_of s = if nat_lt s.code 65536 then s.code else 0

-- the length that is stated of a body
abbrev pub length_of : ResponseShape → Option ℕ
length_of s = if s.framing == 1 && not (s.length == none) then Some s.length else None

-- a response, or why it wasn't read
abbrev pub read_of : Read → Result Came ℕ
read_of (Head h) = Ok (response_of h)
read_of (Refused reason) = Err reason

-- whether a response is stored, and as what: a text and its shape
abbrev pub decision_of : StoreDecision → List ℕ × KeptShape
decision_of d = (d.text.items, d.told)

-- an answer of what is stored
abbrev pub hit : How
hit = record { hit = 1; forward = 0; forward_status = 0; stored = 0; collapsed = 0; detail = 0; fetch = 0; closes = 0 }

-- an answer for which the origin was asked: why, and what its status was
abbrev pub forwarded : ℕ → ℕ → How
forwarded why status = record hit { hit = 0; forward = why; forward_status = status }
