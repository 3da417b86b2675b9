-- What the bytes of a response are read as (RFC 9112), and what that gives: a head, and the body that it announces.
use Rattle.std.specs.Prelude.{◌≡◌, ℕ, ◌^◌, ◌<◌, ◌≤◌, ◌==◌, nat_le, nat_lt, ◌&&◌, ◌||◌, not, Bool, true, false, All, List, [], ◌∷◌, ◌++◌, length, take, codes, map, filter, if◌then◌else◌, Option, Some, None, bytes_eq, ◌⊎◌}
use Rattle.std.specs.Char.{is_ascii_digit}
use Rattle.std.specs.List.{list_all}
use Rattle.std.specs.Str.Parse.{digits_value}
use Rattle.head_lines.specs.Lines.{Line, map_of}
use Rattle.head_lines.specs.declared.header.ResponseHeader.{ResponseHeader}
use Rattle.http_header.specs.Token.{lowercase}
use Rattle.httparse.specs.Grammar.{ResponseHead, ReadsResponse, HasNoResponse, NeverHasResponse, status_code}
use Rattle.httparse.specs.Spans.{name_and_value}
use Rattle.head_parse.specs.declared.response.Parsed.{Parsed}
use Rattle.head_parse.specs.declared.response.Split.{Split}
use Rattle.head_parse.specs.declared.response.Split.TheVariants as split
use Rattle.head_parse.specs.declared.response.Parsed.TheVariants.{Complete, Incomplete, BadHead}

-- the values of the header lines of a name, in order (RFC 9110, 5.1: names in any case)
abbrev pub values_of : List ℕ → List Line → List (List ℕ)
values_of name lines = map (λ line. line.1) (filter (λ line. bytes_eq (lowercase line.0) name) lines)

abbrev pub decimal : List ℕ → Option ℕ
decimal digits =
    if nat_lt 0 (length digits) && (list_all is_ascii_digit digits && nat_lt (digits_value 10 digits) (2 ^ 64))
    then Some (digits_value 10 digits)
    else None

-- a length in bytes: an optional plus sign, then digits and nothing else, below 2^64 (RFC 9110, 8.6)
abbrev pub length_in : List ℕ → Option ℕ
length_in [] = None
length_in (b ∷ digits) = if b == 43 then decimal digits else decimal (b ∷ digits)

-- what the first Content-Length says, if it can be read
abbrev pub first_length : List (List ℕ) → Option ℕ
first_length [] = None
first_length (value ∷ values) = length_in value

-- how many bytes of body a response has: none under 204 and 304 (RFC 9112, 6.3), else as many as its Content-Length says
abbrev pub body_length : ℕ → List Line → Option ℕ
body_length status lines = if status == 204 || status == 304 then Some 0 else first_length (values_of (codes "content-length") lines)

abbrev pub has_short_name : Line → Bool
has_short_name line = nat_le (length line.0) 65535

-- a status from 100, and names of at most 65535 bytes
abbrev pub is_within_bounds : ℕ → List Line → Bool
is_within_bounds status lines = nat_le 100 status && list_all has_short_name lines

-- the bytes, or these with more after them, begin with a head that the parser's default options read (RFC 9112), of at most 256 lines
abbrev pub IsPlain : List ℕ → Type 0
IsPlain bytes = (more : List ℕ) × (h : ResponseHead) × (rest : List ℕ) × ReadsResponse (bytes ++ more) h rest × (length h.fields ≤ 256)

-- that head is within its bounds, too
abbrev pub IsWellFormed : List ℕ → Type 0
IsWellFormed bytes =
    (more : List ℕ) × (h : ResponseHead) × (rest : List ℕ) × ReadsResponse (bytes ++ more) h rest × (length h.fields ≤ 256)
    × (is_within_bounds (status_code h) (map name_and_value h.fields) ≡ true)

-- the bytes up to the end of their first line that isn't empty, or all of them; text came before them or not
abbrev pub line_from : Bool → List ℕ → List ℕ
line_from text [] = []
line_from text (b ∷ bytes) =
    if text && b == 10
    then b ∷ []
    else b ∷ line_from (text || not (b == 10 || b == 13)) bytes

abbrev pub first_line : List ℕ → List ℕ
first_line bytes = line_from false bytes

-- no head begins with the bytes' first line: it is no status line, nor the beginning of one
abbrev pub BeginsNoHead : List ℕ → Type 0
BeginsNoHead bytes = NeverHasResponse (first_line bytes)

-- the bytes' first line is a status line of this status: with an empty line after it, it is a head
abbrev pub HasStatus : List ℕ → ℕ → Type 0
HasStatus bytes status = (h : ResponseHead) × (rest : List ℕ) × ReadsResponse (first_line bytes ++ 10 ∷ []) h rest × (status ≡ status_code h)

-- the part stands in the bytes
abbrev pub StandsIn : List ℕ → List ℕ → Type 0
StandsIn part bytes = (before : List ℕ) × (after : List ℕ) × (bytes ≡ before ++ part ++ after)

-- a value on one line: each CR and LF is a space (RFC 9112, 5.2)
abbrev pub unfolded : List ℕ → List ℕ
unfolded value = map (λ b. if b == 13 || b == 10 then 32 else b) value

-- the line's name stands in the bytes, and so does its value, which may be folded there
abbrev pub IsLineIn : List ℕ → Line → Type 0
IsLineIn bytes line = StandsIn line.0 bytes × ((value : List ℕ) × StandsIn value bytes × (line.1 ≡ unfolded value))

-- what is known of a head that the default options refuse and the lenient ones read: its status is that of the first line, and
-- its lines, at most 256, stand in the bytes before the rest
pub record IsLenientHead (bytes : List ℕ) (code : ℕ) (lines : List Line) (rest : List ℕ) : Type 0 where
  pub status : HasStatus bytes code
  pub few : length lines ≤ 256
  pub come : (front : List ℕ) × (bytes ≡ front ++ rest) × All (IsLineIn front) lines

-- what the parser made of a response's bytes: a whole head, by its status and its lines, with the bytes after it; the beginning
-- of a head; or no head
pub data Reading : Type 0 where
  whole_head : ℕ → List Line → List ℕ → Reading
  begun_head : Reading
  no_head : Reading

-- and of what the parser made of bytes that the default options refuse
abbrev pub IsLenientReading : List ℕ → Reading → Type 0
IsLenientReading bytes (whole_head status lines rest) = IsLenientHead bytes status lines rest
IsLenientReading bytes begun_head = Unit {0}
IsLenientReading bytes no_head = Unit {0}

-- r is a reading of the bytes. By the parser's default options it is the head at their front, or the beginning of one; a head of
-- more than 256 lines is none, and the beginning of one is none or a beginning. Other bytes have no head where their first line
-- begins none; else it is left open whether the lenient options read a head, one that the bytes have, or the beginning of one
pub record IsReading (bytes : List ℕ) (r : Reading) : Type 0 where
  pub whole : (h : ResponseHead) (rest : List ℕ) → ReadsResponse bytes h rest → length h.fields ≤ 256 → r ≡ whole_head (status_code h) (map name_and_value h.fields) rest
  pub begins : HasNoResponse bytes → IsPlain bytes → r ≡ begun_head
  pub long : (h : ResponseHead) (rest : List ℕ) → ReadsResponse bytes h rest → 256 < length h.fields → r ≡ no_head
  pub longer : (more : List ℕ) (h : ResponseHead) (rest : List ℕ) → ReadsResponse (bytes ++ more) h rest → 256 < length h.fields → (r ≡ no_head) ⊎ (r ≡ begun_head)
  pub within : (status : ℕ) (lines : List Line) (rest : List ℕ) → r ≡ whole_head status lines rest → (front : List ℕ) × (bytes ≡ front ++ rest)
  pub lenient : NeverHasResponse bytes → IsLenientReading bytes r
  pub refused : BeginsNoHead bytes → r ≡ no_head

-- what a head gives whose body has this length, with the bytes after it: the body is so many of them, or without a length all
-- of them, and where fewer came, it is reported how many
abbrev pub parsed_by_body : ResponseHeader → Option ℕ → List ℕ → Parsed
parsed_by_body header None rest = Complete (record { header = header; body = rest })
parsed_by_body header (Some n) rest =
    if nat_le n (length rest)
    then Complete (record { header = header; body = take n rest })
    else Incomplete (Some (record { header = header; len = length rest }))

-- what a head of this status and these header lines gives, with the bytes after it
unfoldable pub parsed_by_lines : ℕ → List Line → List ℕ → Parsed
parsed_by_lines status lines rest =
    if is_within_bounds status lines
    then parsed_by_body (record { status = status; headers = map_of lines }) (body_length status lines) rest
    else BadHead

-- what a reading gives
abbrev pub parsed_of : Reading → Parsed
parsed_of (whole_head status lines rest) = parsed_by_lines status lines rest
parsed_of begun_head = Incomplete None
parsed_of no_head = BadHead

-- the head that a reading is, where it is whole and within bounds and nothing comes after it
abbrev pub head_of : Reading → Option ResponseHeader
head_of (whole_head status lines []) = if is_within_bounds status lines then Some (record { status = status; headers = map_of lines }) else None
head_of (whole_head status lines (b ∷ rest)) = None
head_of begun_head = None
head_of no_head = None

-- that is what the bytes give by one of their readings
abbrev pub Gives : List ℕ → Parsed → Type 0
Gives bytes parsed = (r : Reading) × IsReading bytes r × (parsed ≡ parsed_of r)

-- what a head gives with all the bytes after it, whatever it announces
abbrev pub split_by_lines : ℕ → List Line → List ℕ → Split
split_by_lines status lines rest =
    if is_within_bounds status lines
    then split.Head (record { header = record { status = status; headers = map_of lines }; body = rest })
    else split.BadHead

abbrev pub split_of : Reading → Split
split_of (whole_head status lines rest) = split_by_lines status lines rest
split_of begun_head = split.Begun
split_of no_head = split.BadHead

abbrev pub Splits : List ℕ → Split → Type 0
Splits bytes s = (r : Reading) × IsReading bytes r × (s ≡ split_of r)
