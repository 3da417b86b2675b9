-- One line of a trace.
use Rattle.std.specs.Prelude.{◌≡◌, ℕ, List, [], ◌∷◌}
use Rattle.tier_model.specs.declared.event.Event.{Event}
use Rattle.rand_core.specs.Stream.{Stream}
use Rattle.tier_model.specs.Calls.{Outcome}
use Rattle.tier_single.specs.Takes.{Takes}
use Rattle.tier_model.specs.State.{State}
use Rattle.trace_lines.specs.Texts.{outcome_text, refusal_text}
use Rattle.trace_lines.specs.declared.line.Line.{Line}
use Rattle.trace_lines.specs.declared.line.Line.TheVariants.{Refused, Accepted}
use Rattle.trace_replay.specs.Replays.{ended}

-- where a replay stands: its tier's state, and the words that are left
pub record Place : Type 0 where
  pub state : State
  pub words : Stream

-- the event is the tier's next call, and the text is its outcome
abbrev pub RepliesTo : Place → Place → Event → List ℕ → Type 0
RepliesTo old new event text = (outcome : Outcome) × Takes old.state old.words (event ∷ []) (outcome ∷ []) new.state new.words × (text ≡ outcome_text outcome)

-- the text answers the line: a refusal leaves all as it was
abbrev pub Replies : Place → Place → Line → List ℕ → Type 0
Replies old new (Refused refusal) text = (new.state ≡ old.state) × (new.words ≡ old.words) × (text ≡ refusal_text refusal)
Replies old new (Accepted event) text = RepliesTo old new event text

-- such a text with its line feed
abbrev pub Answers : Place → Place → Line → List ℕ → Type 0
Answers old new line text = (reply : List ℕ) × Replies old new line reply × (text ≡ ended reply)
