-- A response whose bytes come in pieces: how far it has come, and what a parser holds of it.
use Rattle.std.specs.Prelude.{◌≡◌, ℕ, ◌-◌, ◌==◌, nat_le, ◌||◌, true, List, ◌++◌, length, take, codes, map, if◌then◌else◌, Option, Some, None, refl, ◌⊎◌}
use Rattle.std.specs.Coded.{Coded, code_by, coded×, coded⊎, coded_list, coded_ℕ}
use base.Stored.{coded_unit}
use mathlib.Core.Logic.{inl, inr}
use Rattle.http_header.specs.HeaderMap.{Entries, get_all}
use Rattle.http_header.specs.FieldValue.{FieldValue}
use Rattle.head_lines.specs.Lines.{Line, map_of}
use Rattle.head_lines.specs.declared.header.ResponseHeader.{ResponseHeader}
use Rattle.head_lines.specs.contracts.header.ResponseHeader.{the_row}
use Rattle.httparse.specs.Grammar.{HasNoResponse}
use Rattle.head_parse.specs.declared.response.Parsed.TheVariants as parsed
use Rattle.head_parse.specs.declared.response.Progress.{Progress}
use Rattle.head_parse.specs.declared.response.Progress.TheVariants.{Head, Body, Done, BadHead}
use Rattle.head_parse.specs.Response.{first_length, body_length, is_within_bounds, Reading, whole_head, begun_head, no_head, IsReading, Gives}

-- how far a body of this length has come, of so many bytes after its head
abbrev pub progress_by_length : Option ℕ → ℕ → Progress
progress_by_length None n = Body n
progress_by_length (Some length) n = if nat_le length n then Done length else Body n

unfoldable pub progress_by_lines : ℕ → List Line → List ℕ → Progress
progress_by_lines status lines rest =
    if is_within_bounds status lines
    then progress_by_length (body_length status lines) (length rest)
    else BadHead

-- how far a response has come, by a reading of its bytes
abbrev pub progress_of : Reading → Progress
progress_of (whole_head status lines rest) = progress_by_lines status lines rest
progress_of begun_head = Head
progress_of no_head = BadHead

-- that is how far the bytes have come by one of their readings; or their head is waited for, which may be refused only once an
-- empty line has come
abbrev pub IsAt : List ℕ → Progress → Type 0
IsAt bytes progress = ((r : Reading) × IsReading bytes r × (progress ≡ progress_of r)) ⊎ (HasNoResponse bytes × (progress ≡ Head))

-- what a parser holds: the bytes of a head that isn't whole; a header, and what came of its body; or, after a bad head, nothing
pub data ParserState : Type 0 where
  in_head : List ℕ → ParserState
  in_body : ResponseHeader → List ℕ → ParserState
  at_bad_head : ParserState

-- the values under a name in a map
abbrev pub values_under : List ℕ → Entries FieldValue → List (List ℕ)
values_under name headers = map (λ value. value.bytes) (get_all headers name)

-- the length that a header's first Content-Length says, if it can be read
abbrev pub content_length : ResponseHeader → Option ℕ
content_length header = first_length (values_under (codes "content-length") header.headers)

-- how many bytes of body a header announces
abbrev pub announced : ResponseHeader → Option ℕ
announced header = if header.status == 204 || header.status == 304 then Some 0 else content_length header

-- what came of a body of this length, of the bytes after its head
abbrev pub limited : Option ℕ → List ℕ → List ℕ
limited None rest = rest
limited (Some n) rest = take n rest

-- what belongs to a body of this length, of bytes that come after so many of it
abbrev pub limited_after : Option ℕ → ℕ → List ℕ → List ℕ
limited_after None before piece = piece
limited_after (Some n) before piece = take (n - before) piece

-- the header has these lines, and they are within bounds
abbrev pub IsHeaderOf : ResponseHeader → List Line → Type 0
IsHeaderOf header lines = (header.headers ≡ map_of lines) × (is_within_bounds header.status lines ≡ true)

-- the header is that of these bytes, with what comes after it, whatever more comes
abbrev pub IsHeaderFor : List ℕ → ResponseHeader → List ℕ → Type 0
IsHeaderFor bytes header rest =
    (lines : List Line) × IsHeaderOf header lines × ((more : List ℕ) → IsReading (bytes ++ more) (whole_head header.status lines (rest ++ more)))

-- no head is read, whatever more comes
abbrev pub IsBad : List ℕ → Type 0
IsBad bytes = (more : List ℕ) → Gives (bytes ++ more) parsed.BadHead

-- what a parser holds to which these bytes came
abbrev pub ParserHolds : List ℕ → ParserState → Type 0
ParserHolds bytes (in_head front) = (front ≡ bytes) × HasNoResponse bytes
ParserHolds bytes (in_body header body) = (rest : List ℕ) × IsHeaderFor bytes header rest × (body ≡ limited (announced header) rest)
ParserHolds bytes at_bad_head = IsBad bytes

abbrev pub held_progress : ParserState → Progress
held_progress (in_head front) = Head
held_progress (in_body header body) = progress_by_length (announced header) (length body)
held_progress at_bad_head = BadHead

-- the code of what is held, by which a proof distinguishes two such values
abbrev split : ParserState → List ℕ ⊎ ((ResponseHeader × List ℕ) ⊎ Unit {0})
split (in_head front) = inl front
split (in_body header body) = inr (inl (header, body))
split at_bad_head = inr (inr tt)

abbrev join : List ℕ ⊎ ((ResponseHeader × List ℕ) ⊎ Unit {0}) → ParserState
join (inl front) = in_head front
join (inr (inl p)) = in_body p.0 p.1
join (inr (inr _)) = at_bad_head

pub join-split : (h : ParserState) → join (split h) ≡ h
join-split (in_head front) = refl
join-split (in_body header body) = refl
join-split at_bad_head = refl

abbrev pub held_code : Coded ParserState
held_code = code_by (List ℕ ⊎ ((ResponseHeader × List ℕ) ⊎ Unit {0})) (coded⊎ (coded_list coded_ℕ) (coded⊎ (coded× the_row.coded (coded_list coded_ℕ)) coded_unit)) split join join-split
