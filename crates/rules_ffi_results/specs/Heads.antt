-- Whole heads, as they are sent (RFC 9112, 2, 4, 6). Bytes are numbers: 10 a LF, 13 a CR, 32 a space.
use Rattle.std.specs.Prelude.{ℕ, ◌-◌, ◌^◌, Bool, ◌==◌, if◌then◌else◌, List, [], ◌∷◌, ◌++◌, codes, Option, Some, None}
use Rattle.std.specs.Fmt.{decimal}
use Rattle.rules_fields.specs.Fields.{Field}
use Rattle.rules_ffi_arguments.specs.Rooms.{block}
use Rattle.rules_ffi_results.specs.Numbers.{none}
use Rattle.rules_ffi_results.specs.Phrases.{phrase}

abbrev pub line_end : List ℕ
line_end = 13 ∷ 10 ∷ []

-- a line with a number
abbrev pub counted : List ℕ → ℕ → List ℕ
counted name n = name ++ codes ": " ++ decimal n ++ line_end

-- how a body is sent: by its length where that is known, else by chunks, but to HTTP/1.0 till the end of the connection
abbrev pub sent_framing : Bool → Option ℕ → ℕ → ℕ × ℕ
sent_framing has_body (Some n) minor = if has_body then (1, n) else (0, none)
sent_framing has_body None minor = if has_body then (if minor == 1 then (2, none) else (3, none)) else (0, none)

abbrev pub coding : ℕ → List ℕ
coding form = if form == 2 then codes "Transfer-Encoding: chunked" ++ line_end else []

abbrev pub closing : Bool → List ℕ
closing closes = if closes then codes "Connection: close" ++ line_end else []

-- the lines of framing and connection, and the empty line
abbrev pub ending : ℕ → Bool → List ℕ
ending form closes = coding form ++ closing closes ++ line_end

unfoldable pub status_line : ℕ → List ℕ
status_line code = codes "HTTP/1.1 " ++ decimal code ++ (32 ∷ []) ++ phrase code ++ line_end

-- a length that is known, as a line
abbrev pub length_line : Option ℕ → List ℕ
length_line None = []
length_line (Some n) = counted (codes "Content-Length") n
