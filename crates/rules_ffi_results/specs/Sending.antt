-- What a call tells with a text and the parts of a table: an answer from what is stored or came, or second keys.
use Rattle.std.specs.Prelude.{◌≡◌, ℕ, ◌<◌, ◌⊎◌, List, ◌++◌, length, drop, Option, Some, None}
use Rattle.rules_ffi_arguments.specs.declared.shapes.PartShape.{PartShape}
use Rattle.rules_ffi_arguments.specs.declared.shapes.Out.{Out}
use Rattle.rules_ffi_results.specs.declared.sending.Sent.{Sent}
use Rattle.rules_ffi_results.specs.Telling.{Holds}

-- the text, what is told of it, and its parts
pub record Answered : Type 0 where
  pub text : List ℕ
  pub told : Out
  pub parts : List PartShape

abbrev pub sent_view : Sent → Answered
sent_view s = record { text = s.text.items; told = s.told; parts = s.parts.items }

-- the parts stand at the front of their table, of which the rest is as it was
abbrev pub Lists : List PartShape → List PartShape → List PartShape → Type 0
Lists old parts new = new ≡ parts ++ drop (length parts) old

-- an answer is told where its text and its parts have room; none is, where an argument is out of its range
abbrev pub Answering : (ℕ → ℕ → Out) → Option Answered → List ℕ → List ℕ → List PartShape → List PartShape → Out → Type 0
Answering blank None old new table written out = (new ≡ old) × (written ≡ table) × (out ≡ blank 20 0)
Answering blank (Some a) old new table written out =
    (Holds old a.text new × Lists table a.parts written × (out ≡ a.told))
    ⊎ (((length old < length a.text) ⊎ (length table < length a.parts)) × (new ≡ old) × (written ≡ table) × (out ≡ blank 23 (length a.text)))

-- the same, unless memory ran out
abbrev pub Answers : (ℕ → ℕ → Out) → Option Answered → List ℕ → List ℕ → List PartShape → List PartShape → Out → Type 0
Answers blank given old new table written out =
    ((new ≡ old) × (written ≡ table) × (out ≡ blank 13 0)) ⊎ Answering blank given old new table written out
