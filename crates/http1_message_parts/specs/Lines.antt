-- The field lines of a head (RFC 9112, 2.2 and 5). Bytes are numbers: 10 a LF, 13 a CR, 58 a colon.
use Rattle.std.specs.Prelude.{ℕ, Bool, false, not, ◌&&◌, ◌||◌, ◌==◌, nat_lt, if◌then◌else◌, List, [], ◌∷◌, length, take, drop, Option, Some, None, Result, Ok, Err}
use Rattle.std.specs.List.{list_all, position_or_len, slice_split}
use Rattle.httparse.specs.Grammar.{is_token, is_value_byte}
use Rattle.rules_fields.specs.Texts.{is_blank, trimmed, is_filled}
use Rattle.rules_fields.specs.Fields.{Field}
use Rattle.http1_message_parts.specs.Results.{on_ok, map_ok, without_end}
use Rattle.http1_message_parts.specs.declared.reason.Reason.{Reason}
use Rattle.http1_message_parts.specs.declared.reason.Reason.TheVariants.{TooManyFields, Folded, BlankBeforeColon, BadField}

-- a CR or LF that stands alone: `after_cr` whether a CR stands in front
abbrev pub has_bare_end : Bool → List ℕ → Bool
has_bare_end after_cr [] = after_cr
has_bare_end after_cr (b ∷ text) = if b == 10 then not after_cr || has_bare_end false text else after_cr || has_bare_end (b == 13) text

-- a CR without a LF after it
abbrev pub has_bare_cr : Bool → List ℕ → Bool
has_bare_cr after_cr [] = after_cr
has_bare_cr after_cr (b ∷ text) = if b == 10 then has_bare_cr false text else after_cr || has_bare_cr (b == 13) text

-- what follows a CR LF that stands in front
abbrev pub behind_end : List ℕ → Option (List ℕ)
behind_end [] = None
behind_end (b ∷ []) = None
behind_end (b ∷ c ∷ text) = if b == 13 && c == 10 then Some text else None

-- the lines of a text
abbrev pub lines_of : List ℕ → List (List ℕ)
lines_of text = slice_split (λ b. b == 10) text

-- a line without the CR at its end
abbrev pub row_of : List ℕ → List ℕ
row_of line = without_end (13 ∷ []) line

-- the rows of lines: up to the first that is empty
abbrev pub rows_of : List (List ℕ) → List (List ℕ)
rows_of [] = []
rows_of (line ∷ lines) = if is_filled (row_of line) then row_of line ∷ rows_of lines else []

abbrev pub begins_blank : List ℕ → Bool
begins_blank [] = false
begins_blank (b ∷ row) = is_blank b

-- what is wrong with a row that is no field line: `before` stands before its colon, `after` from the colon on
abbrev pub fault_of : List ℕ → List ℕ → Reason
fault_of before after =
    if begins_blank before then Folded
    else (if is_filled after && not (is_token before) && is_token (trimmed before) then BlankBeforeColon else BadField)

-- a field line: a token, a colon, and bytes of a value, without blanks round these (5.1)
abbrev pub field_from : List ℕ → List ℕ → Result Field Reason
field_from before [] = Err (fault_of before [])
field_from before (colon ∷ value) =
    if is_token before && list_all is_value_byte value then Ok (before, trimmed value) else Err (fault_of before (colon ∷ value))

abbrev pub field_of : List ℕ → Result Field Reason
field_of row = let n = position_or_len (λ b. b == 58) row in field_from (take n row) (drop n row)

-- all of them, or the first refusal
abbrev pub fields_of : List (List ℕ) → Result (List Field) Reason
fields_of [] = Ok []
fields_of (row ∷ rows) = on_ok (field_of row) (λ f. map_ok (λ fs. f ∷ fs) (fields_of rows))

-- no more than these
abbrev pub fields_within : ℕ → List (List ℕ) → Result (List Field) Reason
fields_within most rows = if nat_lt most (length rows) then Err TooManyFields else fields_of rows

-- why rows are refused of which one is wrong, where so many may still stand behind it: that they are too many comes first
abbrev pub refusal : List (List ℕ) → ℕ → Reason → Reason
refusal rows most reason = if nat_lt most (length rows) then TooManyFields else reason
