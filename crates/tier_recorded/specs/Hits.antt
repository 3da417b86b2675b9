-- The calls of a hit, as a history and a pass keep them.
use Rattle.std.specs.Prelude.{ℕ, ◌+◌, Bool, false, true, List, [], ◌∷◌, ◌++◌, if◌then◌else◌, Option, Some, None, Result, Ok, Err}
use Rattle.cache_words.specs.Time.{MomentValue}
use Rattle.cache_words.specs.Key.{CacheKeyValue}
use Rattle.tier_model.specs.declared.event.Action.TheVariants.{Open, LookUp, Read, Drop}
use Rattle.tier_model.specs.declared.event.Answer.TheVariants.{Opened, Found, Bytes, Dropped}
use Rattle.tier_model.specs.declared.event.Event.{Event}
use Rattle.tier_model.specs.declared.event.LockGiven.TheVariants as given
use Rattle.tier_model.specs.declared.event.TierFault.{TierFault}
use Rattle.tier_model.specs.declared.event.TierFault.TheVariants.{NoRecord}
use Rattle.tier_model.specs.Calls.{Outcome}
use Rattle.tier_single.specs.declared.found.Hit.{Hit}
use Rattle.tier_single.specs.Hits.{at_moment, is_of_open}
use Rattle.tier_recorded.specs.declared.history.CallerRecord.{CallerRecord}
use Rattle.tier_recorded.specs.declared.history.Record.{Record}
use Rattle.tier_recorded.specs.declared.hits.CallEvents.{CallEvents}
use Rattle.tier_recorded.specs.declared.hits.HitNotes.{HitNotes}
use Rattle.tier_recorded.specs.declared.note.Note.{Note}
use Rattle.tier_recorded.specs.Notes.{note_of}

-- how many calls a hit made
abbrev pub hit_calls : Result (Option Hit) TierFault → ℕ
hit_calls (Ok (Some h)) = 4
hit_calls (Ok None) = 0
hit_calls (Err f) = if is_of_open f then 1 else 3

-- of a hit: what holds where its calls were refused, and what else
abbrev pub MatchMade : Result (Option Hit) TierFault → Type 0 → Type 0 → Type 0
MatchMade (Err NoRecord) refused made = refused
MatchMade _ refused made = made

-- the events of the calls that a hit may make
abbrev pub hit_events : MomentValue → ℕ → CacheKeyValue → CallEvents
hit_events t id key = record {
  opening = at_moment t (Open id key false);
  look_up = at_moment t (LookUp id);
  reading = at_moment t (Read id);
  ending = at_moment t (Drop id);
}

-- ---- notes of the calls that were made

-- where the opening was refused, or the look-up
abbrev pub fault_notes : Bool → TierFault → HitNotes
fault_notes true f = record { opening = Some (note_of (Err f)); look_up = None; reading = None; ending = None }
fault_notes false f = record { opening = Some (note_of (Ok Opened)); look_up = Some (note_of (Err f)); reading = None; ending = Some (note_of (Ok Dropped)) }

abbrev pub hit_notes : Result (Option Hit) TierFault → HitNotes
hit_notes (Ok (Some h)) = record {
  opening = Some (note_of (Ok Opened));
  look_up = Some (note_of (Ok (Found true true given.None)));
  reading = Some (note_of (Ok (Bytes h.body)));
  ending = Some (note_of (Ok Dropped));
}
hit_notes (Ok None) = record { opening = None; look_up = None; reading = None; ending = None }
hit_notes (Err f) = fault_notes (is_of_open f) f

-- ---- records of the calls that have a note

abbrev pub made : Option Note → ℕ
made None = 0
made (Some n) = 1

abbrev pub made_all : HitNotes → ℕ
made_all n = made n.opening + made n.look_up + made n.reading + made n.ending

abbrev pub next_turn : ℕ → Option Note → ℕ
next_turn turn None = turn
next_turn turn (Some n) = turn + 1

abbrev pub last_turn : ℕ → HitNotes → ℕ
last_turn turn n = next_turn (next_turn (next_turn (next_turn turn n.opening) n.look_up) n.reading) n.ending

abbrev pub kept : ℕ → ℕ → Event → Option Note → List Record
kept caller turn event None = []
kept caller turn event (Some n) = record { caller = caller; turn = turn; event = event; note = n } ∷ []

abbrev pub kept_all : List Record → ℕ → ℕ → CallEvents → HitNotes → List Record
kept_all history caller turn e n =
    let second = next_turn turn n.opening in
    let third = next_turn second n.look_up in
    let fourth = next_turn third n.reading in
    history ++ kept caller turn e.opening n.opening ++ kept caller second e.look_up n.look_up ++ kept caller third e.reading n.reading ++ kept caller fourth e.ending n.ending

abbrev pub kept_own : Event → Option Note → List CallerRecord
kept_own event None = []
kept_own event (Some n) = record { event = event; note = n } ∷ []

abbrev pub kept_all_own : List CallerRecord → CallEvents → HitNotes → List CallerRecord
kept_all_own records e n = records ++ kept_own e.opening n.opening ++ kept_own e.look_up n.look_up ++ kept_own e.reading n.reading ++ kept_own e.ending n.ending
