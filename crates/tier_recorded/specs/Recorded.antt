-- What a recorded tier is, and what one call makes of it.
use Rattle.std.specs.Prelude.{◌≡◌, ℕ, ◌+◌, ◌<◌, ◌≤◌, false, List, [], ◌∷◌, ◌++◌, length, set, Err}
use Rattle.rand_core.specs.Stream.{Stream}
use Rattle.tier_model.specs.declared.event.Event.{Event}
use Rattle.tier_model.specs.declared.event.TierFault.TheVariants.{NoRecord}
use Rattle.tier_model.specs.Calls.{Outcome}
use Rattle.tier_model.specs.State.{State}
use Rattle.tier_single.specs.Takes.{Takes}
use Rattle.tier_recorded.specs.declared.history.CallerRecord.{CallerRecord}
use Rattle.tier_recorded.specs.declared.history.Record.{Record}
use Rattle.tier_recorded.specs.declared.history.Seat.{Seat}
use Rattle.tier_recorded.specs.declared.snapshot.Snapshot.{Snapshot}
use Rattle.tier_recorded.specs.Notes.{note_of}
use Rattle.tier_recorded.specs.Histories.{records_of, owns, IsReplay}
use Rattle.tier_recorded.specs.Openings.{Opens}
use Rattle.tier_recorded.specs.Seats.{PassState, IsTurn, ShowsOne, total}

-- a tier, how it began, its generator, the history of its calls, its callers, and the passes that were gathered
pub record RecordedState (R : Type 0) : Type 0 where
  pub opening : Snapshot R
  pub tier : State
  pub rng : R
  pub history : List Record
  pub seats : List Seat
  pub gathered : List PassState
  -- for how many records more there is room
  pub room : ℕ

-- from its opening, with the words from s to rest, the history leads to the tier
abbrev pub IsReplayed : {R : Type 0} → ℕ → RecordedState R → Stream → Stream → Type 0
IsReplayed n a s rest = (first : State) × Opens n a.opening first × IsReplay first s a.history a.tier rest

abbrev pub record_of : ℕ → ℕ → Event → Outcome → Record
record_of caller turn event o = record { caller = caller; turn = turn; event = event; note = note_of o }

-- the tier took the caller's event, with the words from s to rest, and the history has one record more
pub record Appends {R : Type 0} (old : RecordedState R) (s : Stream) (caller turn : ℕ) (event : Event) (o : Outcome) (new : RecordedState R) (rest : Stream) : Type 0 where
  pub takes : Takes old.tier s (event ∷ []) (o ∷ []) new.tier rest
  pub history : new.history ≡ old.history ++ record_of caller turn event o ∷ []
  pub is_turn : IsTurn old.seats caller turn
  pub seats : new.seats ≡ set old.seats caller (record { records = turn + 1; is_gathered = false })
  pub opening : new.opening ≡ old.opening
  pub gathered : new.gathered ≡ old.gathered
  pub room : old.room ≤ new.room + 1

-- of an outcome: what holds where the call's record was refused, and what else
abbrev pub MatchRecorded : Outcome → Type 0 → Type 0 → Type 0
MatchRecorded (Err NoRecord) refused taken = refused
MatchRecorded _ refused taken = taken

-- a call was refused: nothing changed, and it wasn't the caller's turn or there was no room
pub record Refuses {R : Type 0} (old : RecordedState R) (caller turn : ℕ) (new : RecordedState R) : Type 0 where
  pub same : new ≡ old
  pub reason : IsTurn old.seats caller turn → old.room ≡ 0

-- ---- some calls of one caller, or none

-- a caller's own records, as a history has them from that turn on
abbrev pub records_by : ℕ → ℕ → List CallerRecord → List Record
records_by caller turn [] = []
records_by caller turn (x ∷ xs) = record { caller = caller; turn = turn; event = x.event; note = x.note } ∷ records_by caller (turn + 1) xs

-- the tier took these events of the caller, with the words from s to rest, and the history has a record more of each
pub record AppendsAll {R : Type 0} (old : RecordedState R) (s : Stream) (caller turn : ℕ) (events : List Event) (outcomes : List Outcome) (new : RecordedState R) (rest : Stream) : Type 0 where
  pub takes : Takes old.tier s events outcomes new.tier rest
  pub history : new.history ≡ old.history ++ records_by caller turn (owns events outcomes)
  pub is_turn : IsTurn old.seats caller turn
  pub seats : new.seats ≡ set old.seats caller (record { records = turn + length events; is_gathered = false })
  pub opening : new.opening ≡ old.opening
  pub gathered : new.gathered ≡ old.gathered
  pub room : old.room ≤ new.room + length events

-- no call was made: nothing changed, but that there may be room for more records
pub record KeepsAll {R : Type 0} (old new : RecordedState R) : Type 0 where
  pub same : new ≡ record old { room = new.room }
  pub room : old.room ≤ new.room

-- some calls were refused, n at most: nothing changed, and it wasn't the caller's turn or there was no room for so many
pub record RefusesAll {R : Type 0} (n : ℕ) (old : RecordedState R) (caller turn : ℕ) (new : RecordedState R) : Type 0 where
  pub same : new ≡ old
  pub reason : IsTurn old.seats caller turn → old.room < n

-- all passes are gathered: each caller's records are its gathered pass's, in their order, nobody else made calls, and the history is as
-- long as the records of the gathered passes together
pub record IsClosed {R : Type 0} (a : RecordedState R) : Type 0 where
  pub callers : (c : ℕ) → c < length a.seats → ShowsOne c a.history a.gathered
  pub strangers : (c : ℕ) → length a.seats ≤ c → records_of c a.history ≡ []
  pub total_is : length a.history ≡ total a.gathered
