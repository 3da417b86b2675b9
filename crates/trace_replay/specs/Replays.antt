-- What a trace is answered with.
use Rattle.std.specs.Prelude.{◌≡◌, ℕ, ◌==◌, List, [], ◌∷◌, ◌++◌, map, if◌then◌else◌}
use Rattle.rand_core.specs.Stream.{Stream}
use Rattle.tier_model.specs.Calls.{Call, History, extended}
use Rattle.tier_model.specs.Histories.{Opening}
use Rattle.tier_model.specs.Past.{HasPast, state_of}
use Rattle.tier_model.specs.Reports.{report_of}
use Rattle.tier_model.specs.State.{State}
use Rattle.tier_single.specs.Draws.{AreAllDrawn}
use Rattle.trace_lines.specs.Lines.{line_of}
use Rattle.trace_lines.specs.Texts.{outcome_text, refusal_text, report_text}
use Rattle.trace_lines.specs.declared.line.Line.{Line}
use Rattle.trace_lines.specs.declared.line.Line.TheVariants.{Refused, Accepted}

-- a byte more at the front of the first line
abbrev pub onto_first : ℕ → List (List ℕ) → List (List ℕ)
onto_first x [] = (x ∷ []) ∷ []
onto_first x (l ∷ ls) = (x ∷ l) ∷ ls

-- each line ends at a line feed; a last line without one counts
abbrev pub lines_in : List ℕ → List (List ℕ)
lines_in [] = []
lines_in (x ∷ xs) = if x == 10 then [] ∷ lines_in xs else onto_first x (lines_in xs)

-- what the lines of a trace request
abbrev pub requests_in : List ℕ → List Line
requests_in trace = map line_of (lines_in trace)

-- a line that is written, with its line feed
abbrev pub ended : List ℕ → List ℕ
ended text = text ++ 10 ∷ []

-- after the calls of the past these lines, in their order, lead to the calls of h, the latest first in both, and the text
-- has a line for each: the refusal of a refused line, and what the tier answered to the event of any other
abbrev pub Replays : List Line → History → History → List ℕ → Type 0
Replays [] past h text = (h ≡ past) × (text ≡ [])
Replays (Refused refusal ∷ lines) past h text =
    (rest : List ℕ) × (text ≡ ended (refusal_text refusal) ++ rest) × Replays lines past h rest
Replays (Accepted event ∷ lines) past h text =
    (call : Call) × (rest : List ℕ) × (call.event ≡ event) × (text ≡ ended (outcome_text call.outcome) ++ rest) × Replays lines (call ∷ past) h rest

-- what a replay begins with: how its tier began, and the words of a generator
pub record Start : Type 0 where
  pub opening : Opening
  pub words : Stream

-- the calls evicted, in order, what the words pick from the first on, and these words are left
abbrev pub AreFromWords : Start → History → Stream → Type 0
AreFromWords start history left = (calls : List Call) × (extended [] calls ≡ history) × AreAllDrawn (state_of start.opening []) calls start.words left

-- the text answers each line of a trace by one tier that began so, whose history keeps the promise and whose evictions the
-- words pick, and ends with the report of its state; this state and these words are left
pub record EndsReplay (start : Start) (lines : List Line) (text : List ℕ) (state : State) (words : Stream) : Type 0 where
  pub history : History
  pub answers : List ℕ
  pub replays : Replays lines [] history answers
  pub past : HasPast start.opening state history
  pub drawn : AreFromWords start history words
  pub reported : text ≡ answers ++ ended (report_text (report_of state))

-- the same, whatever is left
pub record IsReplay (start : Start) (lines : List Line) (text : List ℕ) : Type 0 where
  pub state : State
  pub words : Stream
  pub ends : EndsReplay start lines text state words

-- the report of the state, where no line is left
abbrev pub last_text : List Line → State → List ℕ
last_text [] state = ended (report_text (report_of state))
last_text (line ∷ lines) state = []

-- the text is a beginning of what answers the first of the lines, or all of them and the report, by one tier that began
-- so, whose history keeps the promise and whose evictions the words pick
pub record IsBegun (start : Start) (lines : List Line) (text : List ℕ) : Type 0 where
  pub answered : List Line
  pub left : List Line
  pub history : History
  pub answers : List ℕ
  pub state : State
  pub rest : List ℕ
  pub split : lines ≡ answered ++ left
  pub replays : Replays answered [] history answers
  pub past : HasPast start.opening state history
  pub drawn : (words : Stream) × AreFromWords start history words
  pub begins : answers ++ last_text left state ≡ text ++ rest
