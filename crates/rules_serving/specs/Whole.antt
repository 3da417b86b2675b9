-- The whole of what is stored, where the answer's lines are the stored ones as they stand and its own.
use Rattle.std.specs.Prelude.{◌≡◌, ℕ, true, false, ◌||◌, ◌&&◌, ◌==◌, not, is_some, Bool, if◌then◌else◌, List, [], ◌∷◌, ◌++◌, codes, Option, Some, None, option_map}
use Rattle.std.specs.List.{flat_map}
use Rattle.rules_fields.specs.Fields.{Field, has_line, without}
use Rattle.rules_fields.specs.Types.{Asked, KeptHead, Chosen}
use Rattle.http1_message_parts.specs.Lines.{lines_of, rows_of, field_of, fields_of}
use Rattle.rules_storage.specs.Kept.{with_length}
use Rattle.rules_response.specs.Lines.{age_line, sent}
use Rattle.rules_response.specs.Answering.{own, accepts, length_sent}
use Rattle.rules_ffi_arguments.specs.Given.{◌>>=◌}
use Rattle.rules_ffi_arguments.specs.Rooms.{block, line_text}
use Rattle.rules_ffi_arguments.specs.Spans.{if_read, block_lines}
use Rattle.rules_ffi_arguments.specs.declared.shapes.PartShape.{PartShape}
use Rattle.rules_ffi_results.specs.Numbers.{none}
use Rattle.rules_serving.specs.Answers.{whole_head}

-- a request has a condition or a Range: else the whole answers it
abbrev pub asks_for_a_part : List Field → Bool
asks_for_a_part lines = has_line (codes "if-none-match") lines || has_line (codes "if-modified-since") lines || has_line (codes "range") lines

-- lines that are sent as they stand, but for the answer's own: no element of Cache-Status has to be gathered from them
abbrev pub plain : List Field → Option (List Field)
plain lines = if has_line (codes "cache-status") lines then None else Some lines

abbrev pub plain_lines : List ℕ → Option (List Field)
plain_lines text = block_lines text >>= plain

-- what stands behind a colon and a space
abbrev pub behind_colon : List ℕ → Option (List ℕ)
behind_colon [] = None
behind_colon (b ∷ []) = None
behind_colon (b ∷ c ∷ text) = if b == 58 && c == 32 then Some text else None

-- a row, as it stands, is its line as an answer writes it
abbrev pub StandsAs : List ℕ → Field → Bool → Type 0
StandsAs row f true = row ++ (13 ∷ 10 ∷ []) ≡ line_text f
StandsAs row f false = Unit {0}

-- what is sent of such lines, and whether they say what of a body can be asked for
abbrev pub copied_of : List Field → List ℕ × Bool
copied_of lines = (block (without own lines), has_line (codes "accept-ranges") lines)

-- the same of the rows of a text, however many
abbrev pub copied : List ℕ → Option (List ℕ × Bool)
copied text = option_map copied_of (if_read (fields_of (rows_of (lines_of text))) >>= plain)

-- and of one row
abbrev pub copied_row : List ℕ → Option (List ℕ × Bool)
copied_row row = (if_read (field_of row) >>= λ f. plain (f ∷ [])) >>= λ lines. Some (copied_of lines)

-- a text with what was told of lines, and such behind another text
abbrev pub with_text : List ℕ → Bool → List ℕ × Bool
with_text text says = (text, says)

abbrev pub behind : List ℕ → List ℕ × Bool → List ℕ × Bool
behind text c = (text ++ c.0, c.1)

-- stored otherwise the same, with these lines
abbrev pub over : KeptHead → List Field → KeptHead
over kept lines = record kept { lines = lines }

-- what is said in an own element of Cache-Status, each behind a semicolon
abbrev pub told_each : List (List ℕ) → List ℕ
told_each how = flat_map (λ p. codes "; " ++ p) how

-- the own lines but Cache-Status: Age, Accept-Ranges and Content-Length
abbrev pub whole_lines : KeptHead → ℕ → ℕ → List Field
whole_lines kept length now =
    age_line kept.arrival now ∷ accepts kept (Some length) ++ with_length (length_sent kept.status (Some length))

-- the head of an answer with the whole
abbrev pub whole_text : KeptHead → ℕ → ℕ → List (List ℕ) → Chosen → ℕ → Bool → List ℕ
whole_text kept length now how o form closes = whole_head kept.status (sent own kept.lines (whole_lines kept length now) how o) form closes

-- the parts of a body that is sent whole
abbrev pub whole_shapes : Bool → ℕ → ℕ → List PartShape
whole_shapes is_bare at n = if is_bare then [] else (record { before = record { from = at; to = at }; from = 0; to = n } ∷ [])

-- an answer is written at once: the whole of a known length, from lines that are sent as they stand
abbrev pub is_at_once : Asked → List ℕ → ℕ → Bool
is_at_once request text length = not (length == none) && not (asks_for_a_part request.lines) && is_some (plain_lines text)
