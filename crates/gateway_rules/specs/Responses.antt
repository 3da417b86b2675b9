-- The origin's response: read, judged, merged into what is stored, relayed; and what is stored, as an answer.
use Rattle.std.specs.Prelude.{ℕ, Bool, true, false, ◌||◌, ◌==◌, if◌then◌else◌, List, [], Option, Some, None, option_map, Result, Ok, Err}
use Rattle.rules_ffi_arguments.specs.Given.{◌>>=◌}
use Rattle.rules_ffi_arguments.specs.declared.shapes.Moment.{Moment}
use Rattle.rules_ffi_arguments.specs.declared.shapes.HeadShape.{HeadShape}
use Rattle.rules_ffi_arguments.specs.declared.shapes.KeptShape.{KeptShape}
use Rattle.rules_ffi_arguments.specs.declared.shapes.How.{How}
use Rattle.rules_ffi_results.specs.Numbers.{mark, none}
use Rattle.rules_ffi_results.specs.Sending.{Answered}
use Rattle.rules_ffi.specs.Responses.{answered_in}
use Rattle.rules_ffi.specs.Judgements.{judged_in, renewed_in}
use Rattle.rules_reuse.specs.declared.using.Use.{Use}
use Rattle.rules_reuse.specs.declared.using.Use.TheVariants.{Fresh, Stale, Meanwhile, Validate, Pass}
use Rattle.rules_serving.specs.Choices.{use_in, spared_in}
use Rattle.rules_serving.specs.Answers.{answers, told_in, reply_in}
use Rattle.gateway_types.specs.declared.looks.Reuse.{Reuse}
use Rattle.gateway_types.specs.declared.looks.Reuse.TheVariants as reuses
use Rattle.gateway_rules.specs.Options.{Options, one_range}
use Rattle.gateway_rules.specs.Values.{Asked, Came}
use Rattle.gateway_rules.specs.Messages.{MessageValue, sent_as}
use Rattle.gateway_rules.specs.declared.responses.Times.{Times}

abbrev pub pair : Moment → ℕ × ℕ
pair m = (m.seconds, m.nanoseconds)

-- a response, or why it doesn't read; without a reason it has no end
abbrev pub heard : Came → Result Came ℕ
heard r = if r.1.status == 66 || r.1.status == 64 then Err r.1.reason else Ok r

-- what the bytes give of a response, by the text of a date; whether the method that was sent is HEAD
abbrev pub read_in : Options → Bool → List ℕ → List ℕ → Option (Result Came ℕ)
read_in o head_sent bytes date = option_map heard (answered_in o.numbers o.words (mark head_sent 1) bytes date)

-- whether a response is stored, and as what, by the index that stood under the first key
abbrev pub stored_in : Options → Asked → Bool → Came → Times → HeadShape × List ℕ → List ℕ → Option (List ℕ × KeptShape)
stored_in o q head_sent r times found index =
    judged_in o.numbers o.words q.1 q.0 (mark head_sent 1) r.1 r.0 (pair times.asked) (pair times.came) index found.0 found.1

-- what a 304 makes of what was found, or a 200 to HEAD
abbrev pub freshened_in : Options → Asked → HeadShape × List ℕ → ℕ → Came → Times → Option (List ℕ × KeptShape)
freshened_in o q found length r times =
    renewed_in o.numbers o.words q.1 q.0 found.0 found.1 length r.1 r.0 (pair times.asked) (pair times.came)

-- what a response that isn't stored is handed on as
abbrev pub relayed_in : Options → Asked → Came → Times → How → Option MessageValue
relayed_in o q r times how = option_map sent_as (told_in o.numbers o.words q.1 q.0 r.1 r.0 (pair times.asked) (pair times.came) how)

abbrev pub reuse_of : Use → Reuse
reuse_of Fresh = reuses.Fresh
reuse_of Stale = reuses.Stale
reuse_of Meanwhile = reuses.WhileRevalidating
reuse_of Validate = reuses.AfterValidation
reuse_of Pass = reuses.Bypass

-- how what is stored may answer
abbrev pub reused_in : Options → Asked → HeadShape × List ℕ → Moment → Option Reuse
reused_in o q stored now = option_map reuse_of (use_in o.numbers o.words q.1 q.0 stored.0 stored.1 now.seconds now.nanoseconds)

-- whether what was found answers in the place of an error, and the status where nothing came; the status that came, or 0
abbrev pub spares_in : Options → Asked → HeadShape × List ℕ → Moment → ℕ → Option (Bool × ℕ)
spares_in o q found now status = spared_in o.numbers o.words q.1 q.0 found.0 found.1 now.seconds now.nanoseconds status

abbrev pub stale_in : Options → Asked → Option (HeadShape × List ℕ) → Moment → ℕ → Option Bool
stale_in o q None now status = Some false
stale_in o q (Some stored) now status = option_map (λ s. s.0) (spares_in o q stored now status)

-- 502 where nothing is stored, or what is may answer
abbrev pub error_in : Options → Asked → Option (HeadShape × List ℕ) → Moment → Option ℕ
error_in o q None now = Some 502
error_in o q (Some stored) now = option_map (λ s. if s.0 then 502 else s.1) (spares_in o q stored now 0)

-- what is stored as an answer, where its length is known; of what is in flight one range alone is sent
abbrev pub served_in : Options → Asked → HeadShape → List ℕ → Option ℕ → Moment → How → Option MessageValue
served_in o q head block (Some length) now how =
    option_map sent_as (reply_in o.numbers o.words q.1 q.0 head block length now.seconds now.nanoseconds how)
served_in o q head block None now how =
    option_map sent_as (reply_in (one_range o.numbers) o.one_words q.1 q.0 head block none now.seconds now.nanoseconds how)

-- how what is stored may answer, and the answer that it gives, if it answers at once
abbrev pub with_answer : Use → Option Answered → Option (Reuse × Option MessageValue)
with_answer u answer = if answers u then option_map (λ a. (reuse_of u, Some (sent_as a))) answer else Some (reuse_of u, None)

-- the same of what is stored as a whole
unfoldable pub whole_in : Options → Asked → HeadShape → List ℕ → ℕ → Moment → How → Option (Reuse × Option MessageValue)
whole_in o q head block length now how = do
  u ← use_in o.numbers o.words q.1 q.0 head block now.seconds now.nanoseconds
  with_answer u (reply_in o.numbers o.words q.1 q.0 head block length now.seconds now.nanoseconds how)
