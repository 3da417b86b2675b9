-- Texts and lines that spans name.
use Rattle.std.specs.Prelude.{ℕ, ◌-◌, ◌^◌, not, ◌&&◌, nat_lt, List, length, slice_range, Option, Some, None, Result, Ok, Err}
use Rattle.std.specs.List.{list_all}
use Rattle.httparse.specs.Grammar.{is_value_byte}
use Rattle.rules_fields.specs.Fields.{Field}
use Rattle.http1_message_parts.specs.Lines.{lines_of, rows_of, fields_within}
use Rattle.rules_ffi_arguments.specs.declared.shapes.Span.{Span}
use Rattle.rules_ffi_arguments.specs.Given.{◌>>=◌, only_if}

abbrev pub text_in : List ℕ → Span → Option (List ℕ)
text_in text s = only_if (not (nat_lt s.to s.from) && not (nat_lt (length text) s.to)) (slice_range text s.from s.to)

abbrev pub if_read : {A B : Type 0} → Result A B → Option A
if_read (Ok x) = Some x
if_read (Err e) = None

-- the lines of a block: each `name: value`, CR and LF
abbrev pub block_lines : List ℕ → Option (List Field)
block_lines block = if_read (fields_within (2 ^ 64 - 1) (rows_of (lines_of block)))

abbrev pub lines_in : List ℕ → Span → Option (List Field)
lines_in text s = do
  block ← text_in text s
  block_lines block

-- a text that can stand in a field's value (RFC 9110, 5.5)
abbrev pub value_in : List ℕ → Option (List ℕ)
value_in text = only_if (list_all is_value_byte text) text
