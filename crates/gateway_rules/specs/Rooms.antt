-- A text in a room that was made for it.
use Rattle.std.specs.Prelude.{◌≡◌, ℕ, ◌<◌, ◌||◌, ◌==◌, if◌then◌else◌, List, length, Option, Some, Result, Ok, Err}
use Rattle.rules_ffi_arguments.specs.Given.{Fails}
use Rattle.rules_ffi_arguments.specs.declared.bad.Bad.{Bad}
use Rattle.rules_ffi_arguments.specs.declared.bad.Bad.TheVariants.{Memory, Call}
use Rattle.rules_ffi_results.specs.Sending.{Answered}
use Rattle.gateway_rules.specs.Dated.{IsDated}
use Rattle.gateway_rules.specs.Messages.{message_of, sent_as}
use Rattle.gateway_rules.specs.declared.values.Message.{Message}

-- what a function returned, seen by view
abbrev pub seen : {X Y : Type 0} → (X → Y) → Result X Bad → Result Y Bad
seen view (Ok x) = Ok (view x)
seen view (Err e) = Err e

-- what a call told, by its status: 13 without memory; 20 of what is out of its range, 23 without room
abbrev pub told_by : {X : Type 0} → ℕ → X → Result X Bad
told_by status x = if status == 13 then Err Memory else (if status == 20 || status == 23 then Err Call else Ok x)

-- a text that is longer than its room
abbrev pub Wants : {S : Type 0} → Option (List ℕ × S) → ℕ → ℕ → Type 0
Wants {S} given size needed = (told : List ℕ × S) × (given ≡ Some told) × (needed ≡ length told.0) × (size < needed)

-- what a function returned, seen by view, is this; or how many bytes its text has, which is longer than its room
abbrev pub GivesWithin : {R S : Type 0} → (R → List ℕ × S) → Result (Result R ℕ) Bad → ℕ → Option (List ℕ × S) → Type 0
GivesWithin view (Ok (Ok r)) size given = given ≡ Some (view r)
GivesWithin view (Ok (Err needed)) size given = Wants given size needed
GivesWithin view (Err e) size given = Fails e given

-- the same of what has a date in it
abbrev pub GivesDatedWithin : {R Y : Type 0} → (R → Y) → Result (Result R ℕ) Bad → Option ℕ → (List ℕ → Option Y) → Type 0
GivesDatedWithin view (Ok (Ok r)) moment given = IsDated moment given (Some (view r))
GivesDatedWithin view (Ok (Err needed)) moment given = Unit {0}
GivesDatedWithin view (Err Call) moment given = IsDated moment given Option.None
GivesDatedWithin view (Err Memory) moment given = Unit {0}

-- the same of a message
abbrev pub Relays : Result (Result Message ℕ) Bad → ℕ → Option Answered → Type 0
Relays (Ok (Ok m)) size given = (a : Answered) × (given ≡ Some a) × (message_of m ≡ sent_as a)
Relays (Ok (Err needed)) size given = (a : Answered) × (given ≡ Some a) × (needed ≡ length a.text) × (size < needed)
Relays (Err e) size given = Fails e given
