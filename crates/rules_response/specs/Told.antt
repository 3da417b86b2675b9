-- What a client gets of a response that isn't stored (RFC 9110, 13.2.2, 14.2, 15.3.7, 15.4.5, 15.5.17; RFC 9111, 5.1).
use Rattle.std.specs.Prelude.{ℕ, pos, Bool, true, false, not, ◌&&◌, ◌||◌, ◌==◌, nat_lt, if◌then◌else◌, List, [], ◌∷◌, ◌++◌, length, bytes_eq, codes, Option, Some, None, option_and_then, unwrap_or}
use Rattle.rules_fields.specs.Fields.{Field, has_line, without}
use Rattle.rules_fields.specs.Rows.{when}
use Rattle.rules_fields.specs.Types.{Asked, Answered, KeptHead, Chosen, stated}
use Rattle.rules_fields.specs.declared.types.Framing.{Framing}
use Rattle.rules_fields.specs.declared.types.Framing.TheVariants.{Length, HeadLength}
use Rattle.rules_storage.specs.Ages.{arrival}
use Rattle.rules_storage.specs.Kept.{with_length}
use Rattle.rules_response.specs.declared.telling.Fetch.{Fetch}
use Rattle.rules_response.specs.declared.telling.Fetch.TheVariants.{PassOn, Fill, Confirm, Again}
use Rattle.rules_response.specs.Matching.{matches}
use Rattle.rules_response.specs.Lines.{age_line, sent}
use Rattle.rules_response.specs.Reply.{Piece, Reply}
use Rattle.rules_response.specs.Answering.{own, left_out_of_304, part_lines, unsatisfied, named_parts}

-- what went to the origin was sent without the client's Range: of a fill the operator may have let it go along
abbrev pub asks_for_whole : Fetch → Asked → Answered → Chosen → Bool
asks_for_whole PassOn request p o = false
asks_for_whole Fill request p o = o.fills_ranges || not (has_line (codes "range") request.lines)
asks_for_whole Confirm request p o = p.status == 200
asks_for_whole Again request p o = true

-- the client's own conditions and Range are answered here: of a GET whose response was asked for as a whole
abbrev pub is_cut : Fetch → Asked → Answered → Chosen → Bool
is_cut fetch request p o = bytes_eq request.method (codes "GET") && asks_for_whole fetch request p o

-- the response, as conditions look at what is stored
abbrev pub as_kept : Answered → KeptHead
as_kept p = record { status = p.status; lines = p.lines; arrival = pos 0; lifetime = 0; stale_while_revalidate = 0; stale_if_error = 0 }

-- the length of a body that ends by it
abbrev pub body_length : Framing → Option ℕ
body_length (Length n) = Some n
body_length _ = None

-- none or one: several are answered by the whole
abbrev pub at_most_one : List (ℕ × ℕ) → Option (List (ℕ × ℕ))
at_most_one ps = when (nat_lt (length ps) 2) ps

abbrev pub told_parts : Asked → Answered → Chosen → Option (List (ℕ × ℕ))
told_parts request p o = option_and_then at_most_one (named_parts request (as_kept p) (body_length p.framing) o)

-- an Age that came grows by the time of the fetch
abbrev pub grown_age : Answered → ℕ → ℕ → Chosen → List Field
grown_age response asked came o =
    if has_line (codes "age") response.lines then age_line (arrival response.lines asked came o) came ∷ [] else []

-- the lines of a response that is handed on and isn't stored (RFC 9111, 5.1)
abbrev pub told : Answered → ℕ → ℕ → List (List ℕ) → Chosen → List Field
told response asked came how o =
    sent (codes "age" ∷ codes "cache-status" ∷ []) response.lines (grown_age response asked came o ++ with_length (stated response.framing)) how o

abbrev pub told_304 : Answered → ℕ → ℕ → List (List ℕ) → Chosen → Reply
told_304 p asked came how o = record {
  status = 304;
  lines = sent (left_out_of_304 p.lines) p.lines (grown_age p asked came o) how o;
  pieces = None;
  after = [];
}

abbrev pub told_part : Answered → ℕ × ℕ → ℕ → ℕ → ℕ → List (List ℕ) → Chosen → Reply
told_part p part n asked came how o = record {
  status = 206;
  lines = sent own p.lines (grown_age p asked came o ++ part_lines part n) how o;
  pieces = Some (record { before = []; from = part.0; to = Some part.1 } ∷ []);
  after = [];
}

-- the body as one piece; a response without a body, and one to HEAD, have none
abbrev pub told_pieces : List ℕ → Framing → Option (List Piece)
told_pieces method Framing.None = None
told_pieces method (HeadLength n) = None
told_pieces method framing = if bytes_eq method (codes "HEAD") then None else Some (record { before = []; from = 0; to = stated framing } ∷ [])

abbrev pub told_whole : Asked → Answered → ℕ → ℕ → List (List ℕ) → Chosen → Reply
told_whole request p asked came how o = record {
  status = p.status;
  lines = told p asked came how o;
  pieces = told_pieces request.method p.framing;
  after = [];
}

abbrev pub told_by : Option (List (ℕ × ℕ)) → Asked → Answered → ℕ → ℕ → List (List ℕ) → Chosen → Reply
told_by (Some []) request p asked came how o = unsatisfied (as_kept p) (unwrap_or (body_length p.framing) 0) how o
told_by (Some (part ∷ [])) request p asked came how o = told_part p part (unwrap_or (body_length p.framing) 0) asked came how o
told_by _ request p asked came how o = told_whole request p asked came how o

-- as it came, or cut to what the client asked for: 304, 206 of one part, 416
abbrev pub told_reply : Fetch → Asked → Answered → ℕ → ℕ → List (List ℕ) → Chosen → Reply
told_reply fetch request p asked came how o =
    if not (is_cut fetch request p o) then told_whole request p asked came how o
    else (if matches request (as_kept p) then told_304 p asked came how o
    else told_by (told_parts request p o) request p asked came how o)
