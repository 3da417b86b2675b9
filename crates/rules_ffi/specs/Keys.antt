-- The keys that a response makes out of date. Bytes are numbers: 10 a LF.
use Rattle.std.specs.Prelude.{ℕ, List, [], ◌∷◌, ◌++◌, length, Option, Some}
use Rattle.std.specs.List.{flat_map}
use Rattle.rules_forward.specs.Purge.{invalidates}
use Rattle.rules_ffi_arguments.specs.Given.{◌>>=◌}
use Rattle.rules_ffi_arguments.specs.Rooms.{behind}
use Rattle.rules_ffi_arguments.specs.Options.{lists_in, chosen_by}
use Rattle.rules_ffi_arguments.specs.Spans.{lines_in}
use Rattle.rules_ffi_arguments.specs.Requests.{asked_by}
use Rattle.rules_ffi_arguments.specs.Responses.{answered_by}
use Rattle.rules_ffi_arguments.specs.declared.shapes.OptionNumbers.{OptionNumbers}
use Rattle.rules_ffi_arguments.specs.declared.shapes.RequestShape.{RequestShape}
use Rattle.rules_ffi_arguments.specs.declared.shapes.ResponseShape.{ResponseShape}
use Rattle.rules_ffi_arguments.specs.declared.shapes.Out.{Out}
use Rattle.rules_ffi_results.specs.Numbers.{blank}

-- each with a LF behind it
abbrev pub ended : List (List ℕ) → List ℕ
ended keys = flat_map (λ key. key ++ (10 ∷ [])) keys

-- their text, and how many there are
abbrev pub listed : List (List ℕ) → List ℕ × ℕ
listed keys = (ended keys, length keys)

unfoldable pub purged_in : OptionNumbers → List ℕ → RequestShape → List ℕ → ResponseShape → List ℕ → Option (List (List ℕ))
purged_in n words q text r came = do
  lists ← lists_in words
  o ← chosen_by n lists
  lines ← lines_in text q.lines
  request ← asked_by q text lines o.scheme
  fields ← lines_in came r.lines
  response ← answered_by r fields
  Some (invalidates request response o)

abbrev pub told_keys : List (List ℕ) → List ℕ × Out
told_keys keys = (ended keys, record (blank 67 0) { count = length keys; more = behind 0 (ended keys) })
