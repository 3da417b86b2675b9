-- The answer from what is stored, and the head of a response that is handed on.
use Rattle.std.specs.Prelude.{ℕ, ◌+◌, Bool, true, false, ◌||◌, ◌==◌, nat_lt, if◌then◌else◌, List, [], ◌∷◌, ◌++◌, length, codes, is_some, Option, Some, None, option_map, option_and_then}
use Rattle.std.specs.Option.{option_map_or}
use Rattle.rules_fields.specs.Numbers.{digits}
use Rattle.rules_fields.specs.Fields.{Field, first, without}
use Rattle.rules_fields.specs.Types.{Asked, Chosen, Answered as Came}
use Rattle.rules_response.specs.Reply.{Piece, Reply}
use Rattle.rules_response.specs.Answering.{answer_of}
use Rattle.rules_response.specs.Told.{told_reply}
use Rattle.rules_response.specs.declared.telling.Fetch.{Fetch}
use Rattle.rules_response.specs.declared.telling.Fetch.TheVariants.{PassOn}
use Rattle.rules_ffi_results.specs.Shown.{dropped}
use Rattle.rules_ffi_arguments.specs.Given.{◌>>=◌}
use Rattle.rules_ffi_arguments.specs.Options.{lists_in, chosen_by, has_mark}
use Rattle.rules_ffi_arguments.specs.Spans.{lines_in, block_lines}
use Rattle.rules_ffi_arguments.specs.Moments.{moment_in, nanoseconds_of}
use Rattle.rules_ffi_arguments.specs.Requests.{asked_by}
use Rattle.rules_ffi_arguments.specs.Responses.{answered_by}
use Rattle.rules_ffi_arguments.specs.Stored.{kept_by}
use Rattle.rules_ffi_arguments.specs.Rooms.{block, behind}
use Rattle.rules_ffi_arguments.specs.declared.shapes.OptionNumbers.{OptionNumbers}
use Rattle.rules_ffi_arguments.specs.declared.shapes.RequestShape.{RequestShape}
use Rattle.rules_ffi_arguments.specs.declared.shapes.ResponseShape.{ResponseShape}
use Rattle.rules_ffi_arguments.specs.declared.shapes.HeadShape.{HeadShape}
use Rattle.rules_ffi_arguments.specs.declared.shapes.How.{How}
use Rattle.rules_ffi_arguments.specs.declared.shapes.Out.{Out}
use Rattle.rules_ffi_results.specs.Numbers.{blank, mark, none}
use Rattle.rules_reuse.specs.declared.using.Use.{Use}
use Rattle.rules_reuse.specs.declared.using.Use.TheVariants.{Fresh, Stale, Meanwhile, Validate, Pass}
use Rattle.rules_serving.specs.Choices.{use_in, use_number, told_use}
use Rattle.rules_ffi_results.specs.Heads.{status_line, sent_framing, ending}
use Rattle.rules_ffi_results.specs.Parts.{befores, part_shapes}
use Rattle.rules_ffi_results.specs.Sending.{Answered}
use Rattle.rules_serving.specs.Boundary.{boundary_in}
use Rattle.rules_ffi_results.specs.Hows.{how_in, fetch_of, said, time_to_live}

abbrev pub known : ℕ → Option ℕ
known length = if length == none then None else Some length

-- a status line, lines, and what ends a head
unfoldable pub whole_head : ℕ → List Field → ℕ → Bool → List ℕ
whole_head status lines form closes = status_line status ++ block lines ++ ending form closes

-- how an answer is sent
abbrev pub reply_framing : Reply → ℕ → ℕ × ℕ
reply_framing a minor = sent_framing (is_some a.pieces) (option_and_then digits (first (codes "content-length") a.lines)) minor

abbrev pub pieces_of : Reply → List Piece
pieces_of a = option_map_or (λ ps. ps) a.pieces []

-- the connection ends: the request wants it, or the caller
abbrev pub closes : RequestShape → How → Bool
closes q h = has_mark q.marks 1 || h.closes == 1

-- whether the connection ends, and whether it was a HEAD
abbrev pub sent_marks : RequestShape → How → ℕ
sent_marks q h = mark (closes q h) 1 + mark (has_mark q.marks 8) 8

abbrev pub reply_head : Reply → RequestShape → How → List ℕ
reply_head a q h = whole_head a.status a.lines (reply_framing a q.minor).0 (closes q h)

abbrev pub after_span : ℕ → List ℕ → Out → Out
after_span at after out = if length after == 0 then out else record out { more = behind at after }

abbrev pub shaped : Reply → RequestShape → How → Answered
shaped a q h =
    let head = reply_head a q h in
    let ps = pieces_of a in
    record {
      text = head ++ befores ps ++ a.after;
      told = after_span (length head + length (befores ps)) a.after (record (blank 67 0) {
        code = a.status;
        framing = (reply_framing a q.minor).0;
        length = (reply_framing a q.minor).1;
        marks = sent_marks q h;
        parts = length ps;
        head = behind 0 head;
      });
      parts = part_shapes (length head) ps;
    }

-- the answer to a request that was read
unfoldable pub reply_by : RequestShape → Asked → HeadShape → List ℕ → ℕ → ℕ → How → Chosen → Option Answered
reply_by q request h lines_text length now way o = do
  stored ← block_lines lines_text
  kept ← kept_by h stored
  Some (shaped (answer_of request kept (known length) now (boundary_in request now o)
      (said way (Some (time_to_live (nanoseconds_of h.updated) kept.lifetime now))) o) q way)

-- what stands under a first key where responses vary is no response: a list of sets of names, which answers nobody
abbrev pub is_list : HeadShape → Bool
is_list h = h.status == 600

unfoldable pub reply_in : OptionNumbers → List ℕ → RequestShape → List ℕ → HeadShape → List ℕ → ℕ → ℕ → ℕ → How → Option Answered
reply_in n words q text h lines_text length seconds nanoseconds how = do
  lists ← lists_in words
  o ← chosen_by n lists
  way ← how_in how
  lines ← lines_in text q.asked
  request ← asked_by q text lines o.scheme
  now ← moment_in seconds nanoseconds
  if is_list h then None else reply_by q request h lines_text length now way o

-- it answers now: fresh, or stale and let
abbrev pub answers : Use → Bool
answers Fresh = true
answers Stale = true
answers Meanwhile = true
answers Validate = false
answers Pass = false

-- the choice alone, of what doesn't answer
abbrev pub undecided : Use → Answered
undecided u = record { text = []; told = told_use u; parts = [] }

abbrev pub with_choice : Use → Answered → Answered
with_choice u a = record { text = a.text; told = record a.told { choice = use_number u }; parts = a.parts }

-- the use that `use` tells, and where that answers what `answer` gives, with the use
unfoldable pub served_in : OptionNumbers → List ℕ → RequestShape → List ℕ → HeadShape → List ℕ → ℕ → ℕ → ℕ → How → Option Answered
served_in n words q text h lines_text length seconds nanoseconds how = do
  u ← use_in n words q text h lines_text seconds nanoseconds
  if answers u then option_map (with_choice u) (reply_in n words q text h lines_text length seconds nanoseconds how) else Some (undecided u)

-- a response from 100 to 199 goes on as it came, without a Date that was added
unfoldable pub interim_text : Came → ℕ → List ℕ
interim_text p marks = status_line p.status ++ block (if has_mark marks 64 then p.lines else without (codes "date" ∷ []) p.lines) ++ ending 0 false

abbrev pub told_interim : Came → ℕ → List ℕ × Out
told_interim p marks =
    (interim_text p marks, record (blank 67 0) { code = p.status; length = none; head = behind 0 (interim_text p marks) })

abbrev pub told_interim_answer : Came → ℕ → Answered
told_interim_answer p marks = let t = told_interim p marks in record { text = t.0; told = t.1; parts = [] }

-- nothing is dropped: what was passed on goes on as it came
abbrev pub is_whole : Fetch → Chosen → Bool
is_whole PassOn o = true
is_whole fetch o = length o.response_drops == 0

abbrev pub reply : RequestShape → Asked → Came → ℕ → ℕ → How → Chosen → Answered
reply q request p asked came way o = shaped (told_reply (fetch_of way) request p asked came (said way None) o) q way

-- what a response that was read is handed on as, to a request that was read
unfoldable pub relay_of : RequestShape → Asked → Came → ℕ → ℕ → ℕ → How → Chosen → Answered
relay_of q request p marks asked came way o =
    if nat_lt p.status 200 then told_interim_answer p marks
    else (if is_whole (fetch_of way) o then reply q request p asked came way o else reply q request (dropped o p) asked came way o)

unfoldable pub relay_by : RequestShape → Asked → ResponseShape → List ℕ → ℕ × ℕ → ℕ × ℕ → How → Chosen → Option Answered
relay_by q request r came_text asked came way o = do
  fields ← lines_in came_text r.lines
  response ← answered_by r fields
  a ← moment_in asked.0 asked.1
  c ← moment_in came.0 came.1
  Some (relay_of q request response r.marks a c way o)

unfoldable pub told_in : OptionNumbers → List ℕ → RequestShape → List ℕ → ResponseShape → List ℕ → ℕ × ℕ → ℕ × ℕ → How → Option Answered
told_in n words q text r came_text asked came how = do
  lists ← lists_in words
  o ← chosen_by n lists
  way ← how_in how
  lines ← lines_in text q.asked
  request ← asked_by q text lines o.scheme
  relay_by q request r came_text asked came way o
