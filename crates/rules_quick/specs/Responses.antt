-- What is told of a response that was read.
use Rattle.std.specs.Prelude.{ℕ, ◌+◌, Bool, true, not, List, [], ◌∷◌, codes, reverse, bytes_eq, Option, Some, None, Result, Ok, Err}
use Rattle.rules_fields.specs.Fields.{Field}
use Rattle.rules_fields.specs.Types.{Answered}
use Rattle.http1_message_parts.specs.declared.reason.Reason.{Reason}
use Rattle.http1_message.specs.Response.{ReadResponse}
use Rattle.rules_ffi_arguments.specs.Rooms.{block, behind}
use Rattle.rules_ffi_arguments.specs.declared.shapes.ResponseShape.{ResponseShape}
use Rattle.rules_ffi_results.specs.Numbers.{mark, framing_numbers, nowhere}
use Rattle.rules_ffi_results.specs.Reasons.{refusal_number}

abbrev pub unread : ℕ → ℕ → ℕ → ResponseShape
unread status needed reason = record {
  status = status;
  needed = needed;
  used = 0;
  reason = reason;
  code = 0;
  minor = 0;
  framing = 0;
  length = 0;
  marks = 0;
  lines = nowhere;
  whole = nowhere;
  reserved = 0 ∷ 0 ∷ 0 ∷ [];
}

abbrev pub blank_response : ℕ → ℕ → ResponseShape
blank_response status needed = unread status needed 0

-- it came with Date: one that is added is the last line
abbrev pub ends_dated : List Field → Bool
ends_dated [] = true
ends_dated (f ∷ lines) = not (bytes_eq f.0 (codes "Date"))

abbrev pub is_dated : List Field → Bool
is_dated lines = ends_dated (reverse lines)

abbrev pub response_shape : Answered → Bool → ℕ → ResponseShape
response_shape p closes used = record {
  status = 65;
  needed = 0;
  used = used;
  reason = 0;
  code = p.status;
  minor = p.minor;
  framing = (framing_numbers p.framing).0;
  length = (framing_numbers p.framing).1;
  marks = mark closes 1 + mark (is_dated p.lines) 64;
  lines = behind 0 (block p.lines);
  whole = behind 0 (block p.lines);
  reserved = 0 ∷ 0 ∷ 0 ∷ [];
}

abbrev pub response_told : Answered → Bool → ℕ → List ℕ × ResponseShape
response_told p closes used = (block p.lines, response_shape p closes used)

-- what was heard: nothing yet, a refusal, or a response
abbrev pub told_heard : Option (Result (ReadResponse × ℕ) Reason) → List ℕ × ResponseShape
told_heard None = ([], unread 64 0 0)
told_heard (Some (Err reason)) = ([], unread 66 0 (refusal_number reason))
told_heard (Some (Ok r)) = response_told r.0.0 r.0.1 r.1
