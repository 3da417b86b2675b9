-- A request that is read, and what is to be done with it.
use Rattle.std.specs.Prelude.{ℕ, min, List, length, Option, Some}
use Rattle.std.specs.Option.{option_map_or}
use Rattle.http1_message_parts.specs.End.{end_behind}
use Rattle.http1_message.specs.Request.{read_request}
use Rattle.rules_ffi_arguments.specs.Given.{◌>>=◌}
use Rattle.rules_ffi_arguments.specs.Options.{lists_in, chosen_by}
use Rattle.rules_ffi_arguments.specs.declared.shapes.OptionNumbers.{OptionNumbers}
use Rattle.rules_ffi_arguments.specs.declared.shapes.RequestShape.{RequestShape}
pub use Rattle.rules_quick.specs.Requests.{unread, blank_request, refused, awaits, closes, marks_of, why_number, plan_numbers, asked_lines, request_text, request_shape, request_told, shaped, told_heard}

-- how many bytes the head has, or 0
abbrev pub head_length : ℕ → List ℕ → ℕ
head_length from bytes = option_map_or (λ n. n) (end_behind (min from (length bytes)) bytes) 0

unfoldable pub asked_in : OptionNumbers → List ℕ → List ℕ → Option (List ℕ × RequestShape)
asked_in n words bytes = do
  lists ← lists_in words
  o ← chosen_by n lists
  Some (told_heard (read_request bytes o) o)
