-- The history of a tier's calls, and its replay.
use Rattle.std.specs.Prelude.{◌≡◌, ℕ, ◌+◌, Bool, Option, ◌==◌, List, [], ◌∷◌, ◌++◌, length, map, take, if◌then◌else◌}
use Rattle.rand_core.specs.Stream.{Stream}
use Rattle.tier_model.specs.declared.event.Event.{Event}
use Rattle.tier_model.specs.Calls.{Call, Outcome}
use Rattle.tier_model.specs.State.{State}
use Rattle.tier_single.specs.Takes.{Takes}
use Rattle.tier_recorded.specs.declared.history.Record.{Record}
use Rattle.tier_recorded.specs.declared.history.CallerRecord.{CallerRecord}
use Rattle.tier_recorded.specs.declared.note.Note.{Note}
use Rattle.tier_recorded.specs.Notes.{note_of}
use Rattle.tier_recorded.specs.Seen.{seen, seen_note}

-- an event with the note of its outcome
abbrev pub own : Event → Outcome → CallerRecord
own e o = record { event = e; note = note_of o }

-- events, each with the note of its outcome
abbrev pub owns : List Event → List Outcome → List CallerRecord
owns (e ∷ es) (o ∷ os) = own e o ∷ owns es os
owns _ _ = []

abbrev pub own_of : Record → CallerRecord
own_of r = record { event = r.event; note = r.note }

-- what a history has of a caller, in its order
abbrev pub records_of : ℕ → List Record → List CallerRecord
records_of c [] = []
records_of c (r ∷ rs) = if r.caller == c then own_of r ∷ records_of c rs else records_of c rs

-- each turn is the number of the caller's earlier records
abbrev pub HasTurns : List Record → List Record → Type 0
HasTurns before [] = Unit {0}
HasTurns before (r ∷ rs) = (r.turn ≡ length (records_of r.caller before)) × HasTurns (before ++ r ∷ []) rs

-- a tier in the old state takes the history's events one by one, with the generator's words from s to rest, and comes to the new state;
-- each note is that of the outcome
abbrev pub IsReplay : State → Stream → List Record → State → Stream → Type 0
IsReplay old s history new rest =
    (outcomes : List Outcome) × Takes old s (map (λ r. r.event) history) outcomes new rest × (map (λ r. r.note) history ≡ map note_of outcomes)

-- what distinguishes records
abbrev pub SeenOwn : Type 0
SeenOwn = Event × (Note × Option (List ℕ × Bool))

abbrev pub seen_own : CallerRecord → SeenOwn
seen_own x = (seen x.event, seen_note x.note)

-- the same records, as far as a cache can see
abbrev pub AreSame : List CallerRecord → List CallerRecord → Type 0
AreSame xs ys = map seen_own xs ≡ map seen_own ys

-- so many records in front are the same, and with the next they aren't
abbrev pub FirstDiffer : List CallerRecord → List CallerRecord → ℕ → Type 0
FirstDiffer xs ys turn = AreSame (take turn xs) (take turn ys) × (AreSame (take (turn + 1) xs) (take (turn + 1) ys) → ⊥)

-- the calls are those of the history, in order
abbrev pub AreCallsIn : List Record → List Call → Type 0
AreCallsIn history calls = (map (λ c. c.event) calls ≡ map (λ r. r.event) history) × (map (λ c. note_of c.outcome) calls ≡ map (λ r. r.note) history)
