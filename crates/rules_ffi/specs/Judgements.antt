-- What is stored of a response, or of what a confirmation makes of what is stored. Bytes are numbers: 13 and 10 end a line.
use Rattle.std.specs.Prelude.{ℕ, ℤ, Bool, false, not, ◌&&◌, ◌==◌, if◌then◌else◌, List, [], length, codes, bytes_eq, Option, Some, None, Result, Ok, Err}
use Rattle.std.specs.Option.{option_map_or}
use Rattle.rules_fields.specs.Types.{Asked, Answered, KeptHead, Chosen}
use Rattle.rules_storage.specs.Ages.{arrival, is_fresh}
use Rattle.rules_storage.specs.Judge.{judgement}
use Rattle.rules_storage.specs.Good.{is_good}
use Rattle.rules_storage.specs.Predicting.{predicts_uncacheable}
use Rattle.rules_ffi_results.specs.Shown.{shown}
use Rattle.rules_storage.specs.declared.reason.Reason.{Reason}
use Rattle.rules_response.specs.Confirm.{freshen, freshen_by_head, stored_from}
use Rattle.rules_ffi_arguments.specs.Given.{◌>>=◌}
use Rattle.rules_ffi_arguments.specs.Options.{lists_in, chosen_by}
use Rattle.rules_ffi_arguments.specs.Spans.{lines_in, block_lines}
use Rattle.rules_ffi_arguments.specs.Moments.{moment_in}
use Rattle.rules_ffi_arguments.specs.Requests.{asked_by}
use Rattle.rules_ffi_arguments.specs.Responses.{answered_by}
use Rattle.rules_ffi_arguments.specs.Stored.{kept_by}
use Rattle.rules_ffi_arguments.specs.declared.shapes.OptionNumbers.{OptionNumbers}
use Rattle.rules_ffi_arguments.specs.declared.shapes.RequestShape.{RequestShape}
use Rattle.rules_ffi_arguments.specs.declared.shapes.ResponseShape.{ResponseShape}
use Rattle.rules_ffi_arguments.specs.declared.shapes.HeadShape.{HeadShape}
use Rattle.rules_ffi_arguments.specs.declared.shapes.KeptShape.{KeptShape}
use Rattle.rules_ffi_results.specs.Numbers.{mark}
use Rattle.rules_ffi_results.specs.Keeping.{unkept, keeping, leaving, not_kept}
use Rattle.rules_ffi.specs.Responses.{sent_method}
use Rattle.rules_ffi.specs.Sets.{varies, vary_alike}

-- HEAD where it was sent; GET where it was sent for a HEAD; else the request's
abbrev pub judged_method : ℕ → List ℕ → List ℕ
judged_method head_sent method = if head_sent == 0 && not (bytes_eq method (codes "HEAD")) then method else sent_method head_sent

-- what was found: nothing where it has no status
abbrev pub found_of : KeptHead → Option KeptHead
found_of kept = if kept.status == 0 then None else Some kept

-- by a list what was found stands under another set than a response, and isn't fresh
abbrev pub outdates : KeptHead → Answered → ℕ → Bool
outdates kept p now = not (vary_alike kept.lines p.lines) && not (is_fresh kept.arrival kept.lifetime now)

-- what is kept takes the place of what was found, under another key
abbrev pub moves : List ℕ → Option KeptHead → Answered → ℕ → Bool
moves list found p now = not (length list == 0) && option_map_or (λ kept. outdates kept p now) found false

abbrev pub told_judged : Result KeptHead (Reason × Bool) → Asked → ℤ → Answered → Bool → Bool → List ℕ × KeptShape
told_judged (Ok k) request arrived p varies moves = keeping k p varies moves
told_judged (Err why) request arrived p varies moves = leaving (not_kept why.0 why.1 (predicts_uncacheable why.0 request)) arrived p

abbrev pub judge_told : Asked → List ℕ → Answered → ℕ → ℕ → List ℕ → Option KeptHead → Chosen → List ℕ × KeptShape
judge_told request method p a c list found o =
    told_judged (judgement request method p a c found p.status o) request (arrival p.lines a c o) (shown o p) (varies list p.lines) (moves list found p c)

unfoldable pub judged_in : OptionNumbers → List ℕ → RequestShape → List ℕ → ℕ → ResponseShape → List ℕ → ℕ × ℕ → ℕ × ℕ → List ℕ → HeadShape → List ℕ → Option (List ℕ × KeptShape)
judged_in n words q text head_sent r came_text asked came list h found_text = do
  lists ← lists_in words
  o ← chosen_by n lists
  lines ← lines_in text q.lines
  request ← asked_by q text lines o.scheme
  fields ← lines_in came_text r.lines
  response ← answered_by r fields
  a ← moment_in asked.0 asked.1
  c ← moment_in came.0 came.1
  stored ← block_lines found_text
  found ← kept_by h stored
  Some (judge_told request (judged_method head_sent request.method) response a c list (found_of found) o)

-- what was confirmed; where it varies by other names than what is stored it isn't stored, and what is stored goes unless it is good
abbrev pub renewing : KeptHead → Answered → Bool → Bool → List ℕ × KeptShape
renewing k p alike goes = if alike then keeping k p false false else leaving (record (unkept 69 0) { removes = mark goes 1 }) k.arrival p

abbrev pub told_renewed : Result KeptHead (Reason × Bool) → Asked → ℤ → Answered → Bool → Bool → List ℕ × KeptShape
told_renewed (Ok k) request arrived p alike goes = renewing k p alike goes
told_renewed (Err why) request arrived p alike goes = leaving (not_kept why.0 why.1 (predicts_uncacheable why.0 request)) arrived p

-- the head that a confirmation makes of what is stored; one that is of another takes that away unless it is good
abbrev pub told_merged : Option Answered → KeptHead → Answered → Asked → ℕ → ℕ → Chosen → List ℕ × KeptShape
told_merged None kept response request a c o = ([], record (unkept 70 0) { removes = mark (not (is_good kept c)) 1 })
told_merged (Some m) kept response request a c o =
    told_renewed (judgement request (codes "GET") (stored_from kept response m o) a c (Some kept) response.status o) request (arrival m.lines a c o) (shown o m)
    (vary_alike kept.lines m.lines) (not (is_good kept c))

-- by a 304, or by a 200 to HEAD, where `length` is that of the stored body
abbrev pub merged : KeptHead → ℕ → Answered → Option Answered
merged kept length response = if response.status == 304 then freshen kept response else freshen_by_head kept length response

unfoldable pub renewed_in : OptionNumbers → List ℕ → RequestShape → List ℕ → HeadShape → List ℕ → ℕ → ResponseShape → List ℕ → ℕ × ℕ → ℕ × ℕ → Option (List ℕ × KeptShape)
renewed_in n words q text h lines_text length r came_text asked came = do
  lists ← lists_in words
  o ← chosen_by n lists
  lines ← lines_in text q.lines
  request ← asked_by q text lines o.scheme
  stored ← block_lines lines_text
  kept ← kept_by h stored
  fields ← lines_in came_text r.lines
  response ← answered_by r fields
  a ← moment_in asked.0 asked.1
  c ← moment_in came.0 came.1
  Some (told_merged (merged kept length response) kept response request a c o)
