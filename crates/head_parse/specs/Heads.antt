-- Heads as the code holds them: a map of the lines, and a length.
use Rattle.std.specs.Prelude.{◌≡◌, ℕ, ◌≤◌, true, false, List, length, drop, map, flat_map}
use Rattle.http_header.specs.FieldValue.{IsFieldValue}
use Rattle.head_lines.specs.Lines.{Line, map_of}
use Rattle.head_lines.specs.declared.header.ResponseHeader.{ResponseHeader}
use Rattle.httparse.specs.Grammar.{ResponseHead, ReadsResponse, HasNoResponse, status_code}
use Rattle.httparse.specs.declared.spans.HeaderSpan.{HeaderSpan}
use Rattle.httparse.specs.Spans.{name_and_value, span_bytes}
use Rattle.head_parse.specs.declared.response.Parsed.{Parsed}
use Rattle.head_parse.specs.declared.head.Head.{Head}
use Rattle.head_parse.specs.declared.front.Front.{Front}
use Rattle.head_parse.specs.declared.front.Front.TheVariants.{Found, Begun, Refused}
use Rattle.head_parse.specs.Response.{is_within_bounds, parsed_by_body, unfolded, IsLenientHead, BeginsNoHead}
use Rattle.head_parse.specs.Parse.{announced, IsHeaderOf, IsHeaderFor, IsBad}

-- the values of lines, one after another
abbrev pub values_at : List ℕ → List HeaderSpan → List ℕ
values_at bytes lines = flat_map (λ line. span_bytes bytes line.value) lines

-- a line whose value a map takes
abbrev pub HasFieldValue : Line → Type 0
HasFieldValue line = IsFieldValue line.1

-- what a head gives, with the bytes after it
abbrev pub parsed_by_header : ResponseHeader → List ℕ → Parsed
parsed_by_header header rest = parsed_by_body header (announced header) rest

-- the bytes begin with a head of the parser's grammar, of at most 256 lines and within its bounds, and that is it
pub record IsHeadAt (bytes : List ℕ) (head : Head) (h : ResponseHead) : Type 0 where
  pub reads : ReadsResponse bytes h (drop head.len bytes)
  pub few : length h.fields ≤ 256
  pub bounds : is_within_bounds (status_code h) (map name_and_value h.fields) ≡ true
  pub status : head.header.status ≡ status_code h
  pub headers : head.header.headers ≡ map_of (map name_and_value h.fields)

abbrev pub IsHeadOf : List ℕ → Head → Type 0
IsHeadOf bytes head = (h : ResponseHead) × IsHeadAt bytes head h

-- a head that the lenient options read, within its bounds
pub record IsSomeHead (bytes : List ℕ) (head : Head) : Type 0 where
  pub len : head.len ≤ length bytes
  pub lines : (lines : List Line) × IsHeaderOf head.header lines × IsLenientHead bytes head.header.status lines (drop head.len bytes)

-- the name and the value that a header's spans cover, with the value on one line
abbrev pub unfolded_line : List ℕ → HeaderSpan → Line
unfolded_line bytes line = (span_bytes bytes line.name, unfolded (span_bytes bytes line.value))

-- no head is there, but their first line begins one
abbrev pub IsBegun : List ℕ → Type 0
IsBegun bytes = HasNoResponse bytes × ¬ (BeginsNoHead bytes)

-- the bytes begin with such a head that is out of its bounds
abbrev pub IsOutOfBounds : List ℕ → Type 0
IsOutOfBounds bytes =
    (h : ResponseHead) × (rest : List ℕ) × ReadsResponse bytes h rest × (length h.fields ≤ 256)
    × (is_within_bounds (status_code h) (map name_and_value h.fields) ≡ false)

-- what the front of some bytes is read as
abbrev pub IsFrontOf : List ℕ → Front → Type 0
IsFrontOf bytes (Found head) = (head.len ≤ length bytes) × IsHeaderFor bytes head.header (drop head.len bytes)
IsFrontOf bytes Begun = IsBegun bytes
IsFrontOf bytes Refused = IsBad bytes

-- what is reported of a front; where a head goes on, nothing is
abbrev pub IsToldFront : List ℕ → Front → Type 0
IsToldFront bytes (Found head) = (head.len ≤ length bytes) × IsHeaderFor bytes head.header (drop head.len bytes)
IsToldFront bytes Begun = Unit {0}
IsToldFront bytes Refused = IsBad bytes
