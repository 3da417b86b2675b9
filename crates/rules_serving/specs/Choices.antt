-- How what was found may answer, and whether it may in the place of an error.
use Rattle.std.specs.Prelude.{ℕ, ◌&&◌, ◌==◌, Bool, false, if◌then◌else◌, List, [], Option, Some, None}
use Rattle.rules_fields.specs.Types.{Asked, KeptHead, Chosen}
use Rattle.http1_message_parts.specs.Lines.{lines_of}
use Rattle.rules_reuse.specs.declared.using.Use.{Use}
use Rattle.rules_reuse.specs.declared.using.Use.TheVariants.{Fresh, Stale, Meanwhile, Validate, Pass}
use Rattle.rules_reuse.specs.Using.{use_of, goes_by_lines, may_spare, error_of}
use Rattle.rules_ffi_arguments.specs.Given.{◌>>=◌}
use Rattle.rules_ffi_arguments.specs.Words.{wrong_row}
use Rattle.rules_ffi_arguments.specs.Options.{lists_in, chosen_by, are_numbers}
use Rattle.rules_ffi_arguments.specs.Prepared.{prepared}
use Rattle.rules_ffi_arguments.specs.Rooms.{behind}
use Rattle.rules_ffi_arguments.specs.Spans.{lines_in, block_lines}
use Rattle.rules_ffi_arguments.specs.Requests.{asked_by}
use Rattle.rules_ffi_arguments.specs.Responses.{code_in}
use Rattle.rules_ffi_arguments.specs.Stored.{kept_by}
use Rattle.rules_ffi_arguments.specs.Moments.{moment_in}
use Rattle.rules_ffi_arguments.specs.declared.shapes.OptionNumbers.{OptionNumbers}
use Rattle.rules_ffi_arguments.specs.declared.shapes.RequestShape.{RequestShape}
use Rattle.rules_ffi_arguments.specs.declared.shapes.HeadShape.{HeadShape}
use Rattle.rules_ffi_arguments.specs.declared.shapes.Out.{Out}
use Rattle.rules_ffi_results.specs.Numbers.{blank, mark}

-- done, or the line of the words that is wrong
abbrev pub checked : OptionNumbers → List ℕ → Out
checked n words =
    let wrong = wrong_row 1 (lines_of words) in
    if wrong == 0 && are_numbers n then blank 67 0 else record (blank 20 0) { choice = wrong }

-- words as the calls read them fastest, of options that are right
abbrev pub prepared_in : OptionNumbers → List ℕ → Option (List ℕ)
prepared_in n words = if are_numbers n then prepared words else None

abbrev pub told_words : List ℕ → List ℕ × Out
told_words text = (text, record (blank 67 0) { head = behind 0 text })

abbrev pub use_number : Use → ℕ
use_number Fresh = 1
use_number Stale = 2
use_number Meanwhile = 3
use_number Validate = 4
use_number Pass = 5

abbrev pub use_by_lines : Asked → HeadShape → List ℕ → ℕ → Chosen → Option Use
use_by_lines request h block now o = do
  stored ← block_lines block
  kept ← kept_by h stored
  Some (use_of request kept now o)

-- the use, by the stored lines only where they count
unfoldable pub use_by : Asked → HeadShape → List ℕ → ℕ → Chosen → Option Use
use_by request h block now o = do
  bare ← kept_by h []
  if goes_by_lines request bare now o then use_by_lines request h block now o else Some (use_of request bare now o)

unfoldable pub use_in : OptionNumbers → List ℕ → RequestShape → List ℕ → HeadShape → List ℕ → ℕ → ℕ → Option Use
use_in n words q text h block seconds nanoseconds = do
  lists ← lists_in words
  o ← chosen_by n lists
  lines ← lines_in text q.asked
  request ← asked_by q text lines o.scheme
  now ← moment_in seconds nanoseconds
  use_by request h block now o

abbrev pub told_use : Use → Out
told_use u = record (blank 67 0) { choice = use_number u }

-- the status of the origin's answer; 0 where it gave none
abbrev pub origin_status : ℕ → Option (Option ℕ)
origin_status code = if code == 0 then Some None else (code_in code >>= λ status. Some (Some status))

-- whether it may, and the status where the origin gave no answer; a head of status 0 is none
abbrev pub spared : Asked → KeptHead → ℕ → Option ℕ → Chosen → Bool × ℕ
spared request kept now status o =
    if kept.status == 0 then (false, 502) else (may_spare request kept now status o, error_of (Some kept) o)

unfoldable pub spared_in : OptionNumbers → List ℕ → RequestShape → List ℕ → HeadShape → List ℕ → ℕ → ℕ → ℕ → Option (Bool × ℕ)
spared_in n words q text h block seconds nanoseconds code = do
  lists ← lists_in words
  o ← chosen_by n lists
  lines ← lines_in text q.asked
  request ← asked_by q text lines o.scheme
  stored ← block_lines block
  kept ← kept_by h stored
  now ← moment_in seconds nanoseconds
  status ← origin_status code
  Some (spared request kept now status o)

abbrev pub told_spare : Bool × ℕ → Out
told_spare s = record (blank 67 0) { choice = mark s.0 1; code = s.1 }
