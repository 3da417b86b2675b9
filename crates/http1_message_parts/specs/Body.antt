-- How a body ends, by the lines of its head (RFC 9112, 6.3).
use Rattle.std.specs.Prelude.{ℕ, ◌-◌, ◌^◌, Bool, false, not, ◌&&◌, ◌||◌, ◌==◌, nat_lt, if◌then◌else◌, List, [], ◌∷◌, length, take, drop, codes, bytes_eq, Option, Some, None, option_and_then, Result, Ok, Err}
use Rattle.std.specs.List.{list_all, list_any}
use Rattle.httparse.specs.Grammar.{is_token}
use Rattle.rules_fields.specs.Texts.{small}
use Rattle.rules_fields.specs.Numbers.{digits}
use Rattle.rules_fields.specs.Fields.{Field, all, elements, has_line}
use Rattle.rules_fields.specs.Rows.{when}
use Rattle.rules_fields.specs.declared.types.Framing.{Framing}
use Rattle.rules_fields.specs.declared.types.Framing.TheVariants.{Length, Chunked}
use Rattle.http1_message_parts.specs.declared.reason.Reason.{Reason}
use Rattle.http1_message_parts.specs.declared.reason.Reason.TheVariants.{LengthAndCoding, BadLength, CodingIn10, UnknownCoding, BadCoding}

-- a length: digits, below 2^63
abbrev pub length_of : List ℕ → Option ℕ
length_of value = option_and_then (λ n. when (nat_lt n (2 ^ 63)) n) (digits value)

abbrev pub is_number : ℕ → Option ℕ → Bool
is_number n None = false
is_number n (Some m) = m == n

-- the length that all values say
abbrev pub one_length : List (List ℕ) → Option ℕ
one_length [] = None
one_length (v ∷ vs) = option_and_then (λ n. when (list_all (λ w. is_number n (length_of w)) vs) n) (length_of v)

abbrev pub sized : Option ℕ → Result Framing Reason
sized None = Err BadLength
sized (Some n) = Ok (Length n)

abbrev pub is_chunked : List ℕ → Bool
is_chunked e = bytes_eq (small e) (codes "chunked")

-- codings are tokens of which the last alone may be `chunked`. Nothing but `chunked` is known
abbrev pub by_codings : Reason → List (List ℕ) → Result Framing Reason
by_codings unchunked es =
    let last = length es - 1 in
    if (length es == 0) || list_any is_chunked (take last es) || not (list_all is_token es) then Err BadCoding
    else (if not (list_any is_chunked (drop last es)) then Err unchunked
    else (if length es == 1 then Ok Chunked else Err UnknownCoding))

-- `unstated`: where no line says it; `unchunked`: where the last coding isn't `chunked`
abbrev pub framing : ℕ → List Field → Framing → Reason → Result Framing Reason
framing minor lines unstated unchunked =
    let coded = has_line (codes "transfer-encoding") lines in
    let lengths = all (codes "content-length") lines in
    if coded && not (length lengths == 0) then Err LengthAndCoding
    else (if not (length lengths == 0) then sized (one_length lengths)
    else (if not coded then Ok unstated
    else (if minor == 0 then Err CodingIn10
    else by_codings unchunked (elements (codes "transfer-encoding") lines))))
