-- A response that is read.
use Rattle.std.specs.Prelude.{ℕ, ◌==◌, if◌then◌else◌, List, codes, Option, Some}
use Rattle.http1_message.specs.Response.{read_response}
use Rattle.rules_ffi_arguments.specs.Given.{◌>>=◌}
use Rattle.rules_ffi_arguments.specs.Options.{lists_in, chosen_by}
use Rattle.rules_ffi_arguments.specs.declared.shapes.OptionNumbers.{OptionNumbers}
use Rattle.rules_ffi_arguments.specs.declared.shapes.ResponseShape.{ResponseShape}
pub use Rattle.rules_quick.specs.Responses.{unread, blank_response, ends_dated, is_dated, response_shape, response_told, told_heard}

abbrev pub sent_method : ℕ → List ℕ
sent_method head_sent = if head_sent == 0 then codes "GET" else codes "HEAD"

unfoldable pub answered_in : OptionNumbers → List ℕ → ℕ → List ℕ → List ℕ → Option (List ℕ × ResponseShape)
answered_in n words head_sent bytes date = do
  lists ← lists_in words
  o ← chosen_by n lists
  Some (told_heard (read_response bytes (sent_method head_sent) date o))
