-- The answer from what is stored (RFC 9110, 13.2.2, 14.2, 15.3.7, 15.4.5, 15.5.17; RFC 9111, 4, 4.3.2). Bytes are numbers: 13 and 10 end a line.
use Rattle.std.specs.Prelude.{ℕ, Bool, ◌+◌, ◌-◌, ◌==◌, ◌||◌, ◌&&◌, not, nat_lt, if◌then◌else◌, List, [], ◌∷◌, ◌++◌, map, filter, length, sum_by, bytes_eq, codes, Option, Some, None, option_and_then, is_some, unwrap_or}
use Rattle.std.specs.List.{flat_map}
use Rattle.std.specs.Fmt.{decimal}
use Rattle.rules_fields.specs.Texts.{small}
use Rattle.rules_fields.specs.Rows.{when}
use Rattle.rules_fields.specs.Numbers.{digits}
use Rattle.rules_fields.specs.Tables.{among, not_in_304}
use Rattle.rules_fields.specs.Fields.{Field, first, all, has_line}
use Rattle.rules_fields.specs.Types.{Asked, KeptHead, Chosen}
use Rattle.rules_storage.specs.Kept.{with_length}
use Rattle.rules_response.specs.Confirm.{tag_in}
use Rattle.rules_response.specs.Matching.{matches, range_counts}
use Rattle.rules_response.specs.Ranges.{ranges}
use Rattle.rules_response.specs.Lines.{age_line, cache_status, sent}
use Rattle.rules_response.specs.Reply.{Piece, Reply}

-- the end of a line
abbrev pub line_end : List ℕ
line_end = 13 ∷ 10 ∷ []

-- the length of the body where all of it is there, else the stored Content-Length
abbrev pub known_length : Option ℕ → KeptHead → Option ℕ
known_length None kept = option_and_then digits (first (codes "content-length") kept.lines)
known_length (Some n) kept = Some n

-- what an answer writes itself
abbrev pub own : List (List ℕ)
own = codes "age" ∷ codes "content-length" ∷ codes "cache-status" ∷ []

-- and what a 304 leaves out: Last-Modified too, where there is a valid tag (RFC 9110, 15.4.5)
abbrev pub left_out_of_304 : List Field → List (List ℕ)
left_out_of_304 lines = own ++ not_in_304 ++ (if is_some (tag_in lines) then codes "last-modified" ∷ [] else [])

abbrev pub not_modified : KeptHead → ℕ → List (List ℕ) → Chosen → Reply
not_modified kept now how o = record {
  status = 304;
  lines = sent (left_out_of_304 kept.lines) kept.lines (age_line kept.arrival now ∷ []) how o;
  pieces = None;
  after = [];
}

-- no part lies in a body of this length (RFC 9110, 15.5.17)
abbrev pub unsatisfied_lines : ℕ → List Field
unsatisfied_lines n = (codes "Content-Range", codes "bytes */" ++ decimal n) ∷ (codes "Content-Length", decimal 0) ∷ []

abbrev pub unsatisfied : KeptHead → ℕ → List (List ℕ) → Chosen → Reply
unsatisfied kept n how o = record {
  status = 416;
  lines =
      filter (λ f. among (codes "date" ∷ codes "via" ∷ []) (small f.0)) kept.lines ++ unsatisfied_lines n ++ (cache_status [] how o ∷ []);
  pieces = Some [];
  after = [];
}

-- `bytes`, the first and the last byte, and the length
abbrev pub content_range : ℕ × ℕ → ℕ → List ℕ
content_range p n = codes "bytes " ++ (decimal p.0 ++ (codes "-" ++ (decimal (p.1 - 1) ++ (codes "/" ++ decimal n))))

-- a stored 200 of a known length can be asked for in parts, unless the origin says of itself what can be asked for (RFC 9110, 14.3)
abbrev pub accepts_parts : KeptHead → Option ℕ → Bool
accepts_parts kept n = kept.status == 200 && is_some n && not (has_line (codes "accept-ranges") kept.lines)

abbrev pub accepts_line : Bool → List Field
accepts_line accepts = if accepts then (codes "Accept-Ranges", codes "bytes") ∷ [] else []

abbrev pub accepts : KeptHead → Option ℕ → List Field
accepts kept n = accepts_line (accepts_parts kept n)

-- the lines of one part
abbrev pub part_lines : ℕ × ℕ → ℕ → List Field
part_lines p n =
    (codes "Content-Range", content_range p n) ∷ (codes "Content-Length", decimal (p.1 - p.0)) ∷ []

abbrev pub one_part : KeptHead → ℕ × ℕ → ℕ → ℕ → List (List ℕ) → Chosen → Reply
one_part kept p n now how o = record {
  status = 206;
  lines = sent own kept.lines (age_line kept.arrival now ∷ accepts kept (Some n) ++ part_lines p n) how o;
  pieces = Some (record { before = []; from = p.0; to = Some p.1 } ∷ []);
  after = [];
}

unfoldable pub type_line : List ℕ → List ℕ
type_line value = codes "Content-Type: " ++ (value ++ line_end)

-- the lines of Content-Type, as they stand before each part
abbrev pub type_lines : List Field → List ℕ
type_lines lines = flat_map type_line (all (codes "content-type") lines)

-- what stands before a part, where `kind` are the lines of Content-Type
abbrev pub part_text : List ℕ → ℕ × ℕ → ℕ → List ℕ → List ℕ
part_text kind p n boundary =
    line_end ++ (codes "--" ++ (boundary ++ (line_end ++ (kind ++ (codes "Content-Range: " ++ (content_range p n ++ (line_end ++ line_end)))))))

-- each part behind its text
abbrev pub pieces : List ℕ → List (ℕ × ℕ) → ℕ → List ℕ → List Piece
pieces kind ps n boundary = map (λ p. record { before = part_text kind p n boundary; from = p.0; to = Some p.1 }) ps

-- what stands after the last
abbrev pub last_text : List ℕ → List ℕ
last_text boundary = line_end ++ (codes "--" ++ (boundary ++ (codes "--" ++ line_end)))

-- the bytes of a piece: its text and its part
abbrev pub piece_length : Piece → ℕ
piece_length p = length p.before + (unwrap_or p.to p.from - p.from)

-- all that is sent
abbrev pub total_length : List Piece → List ℕ → ℕ
total_length ps after = sum_by piece_length ps + length after

-- the lines of several parts
abbrev pub several_lines : List Piece → List ℕ → List ℕ → List Field
several_lines ps after boundary =
    (codes "Content-Type", codes "multipart/byteranges; boundary=" ++ boundary)
    ∷ (codes "Content-Length", decimal (total_length ps after)) ∷ []

abbrev pub several_with : KeptHead → ℕ → List Piece → List ℕ → ℕ → List ℕ → List (List ℕ) → Chosen → Reply
several_with kept n ps after now boundary how o = record {
  status = 206;
  lines =
      sent (codes "content-type" ∷ own) kept.lines (age_line kept.arrival now ∷ accepts kept (Some n) ++ several_lines ps after boundary) how o;
  pieces = Some ps;
  after = after;
}

-- several parts, each behind lines of Content-Type and Content-Range (RFC 9110, 14.6, 15.3.7.2)
abbrev pub several_parts : KeptHead → List (ℕ × ℕ) → ℕ → ℕ → List ℕ → List (List ℕ) → Chosen → Reply
several_parts kept ps n now boundary how o =
    several_with kept n (pieces (type_lines kept.lines) ps n boundary) (last_text boundary) now boundary how o

-- 204 has no length (RFC 9110, 8.6, 15.3.5)
abbrev pub length_sent : ℕ → Option ℕ → Option ℕ
length_sent status n = if status == 204 then None else n

-- the body as one piece; an answer to HEAD and a 204 have none
abbrev pub whole_piece : List ℕ → ℕ → Option ℕ → Option (List Piece)
whole_piece method status n =
    if bytes_eq method (codes "HEAD") || status == 204 then None else Some (record { before = []; from = 0; to = n } ∷ [])

abbrev pub whole : Asked → KeptHead → Option ℕ → ℕ → List (List ℕ) → Chosen → Reply
whole request kept n now how o = record {
  status = kept.status;
  lines = sent own kept.lines (age_line kept.arrival now ∷ accepts kept n ++ with_length (length_sent kept.status n)) how o;
  pieces = whole_piece request.method kept.status n;
  after = [];
}

-- several parts are sent with a boundary between them; without one they are answered by the whole
abbrev pub unless_several : Bool → List (ℕ × ℕ) → Option (List (ℕ × ℕ))
unless_several has_boundary ps = when (has_boundary || nat_lt (length ps) 2) ps

-- the parts that the client's Range names, where it counts and the length is known
abbrev pub named_parts : Asked → KeptHead → Option ℕ → Chosen → Option (List (ℕ × ℕ))
named_parts request kept n o =
    if range_counts request kept
    then option_and_then (λ m. option_and_then (λ text. ranges text m o.most_ranges) (first (codes "range") request.lines)) n
    else None

-- and can be sent
abbrev pub chosen_parts : Asked → KeptHead → Option ℕ → Bool → Chosen → Option (List (ℕ × ℕ))
chosen_parts request kept n has_boundary o = option_and_then (unless_several has_boundary) (named_parts request kept n o)

-- by the parts that lie in a body of this length: none, one, several
abbrev pub by_parts : List (ℕ × ℕ) → KeptHead → ℕ → ℕ → List ℕ → List (List ℕ) → Chosen → Reply
by_parts [] kept n now boundary how o = unsatisfied kept n how o
by_parts (p ∷ []) kept n now boundary how o = one_part kept p n now how o
by_parts (p ∷ q ∷ ps) kept n now boundary how o = several_parts kept (p ∷ q ∷ ps) n now boundary how o

-- the whole, where no Range counts
abbrev pub answer_with : Option (List (ℕ × ℕ)) → Asked → KeptHead → Option ℕ → ℕ → Option (List ℕ) → List (List ℕ) → Chosen → Reply
answer_with None request kept n now boundary how o = whole request kept n now how o
answer_with (Some ps) request kept n now boundary how o = by_parts ps kept (unwrap_or n 0) now (unwrap_or boundary []) how o

-- the answer; `length` is the body's where all of it is there, `boundary` what stands between several parts, if such may be sent
abbrev pub answer_of : Asked → KeptHead → Option ℕ → ℕ → Option (List ℕ) → List (List ℕ) → Chosen → Reply
answer_of request kept length now boundary how o =
    let n = known_length length kept in
    if matches request kept then not_modified kept now how o
    else answer_with (chosen_parts request kept n (is_some boundary) o) request kept n now boundary how o
