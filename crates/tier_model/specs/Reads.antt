-- What a request read, by the calls of a history: a whole body, or a write as it came.
use Rattle.std.specs.Prelude.{◌≡◌, ◌↔◌, ℕ, ◌==◌, Bool, true, false, [], ◌∷◌, ◌++◌, ◌⊎◌, if◌then◌else◌, Some}
use Rattle.std.specs.List.{AllByRecursion}
use Rattle.cache_changes.specs.Changes.{stored_key, Write, Changes, finishes}
use Rattle.cache_changes.specs.Writes.{bytes_of, has_ended, IsShown, IsNumberInFlight}
use Rattle.tier_model.specs.Keys.{Entry}
use Rattle.tier_model.specs.Calls.{Call, History, opened_for, hits_partly, begins_by, ends_reader, bytes_read}
use Rattle.tier_model.specs.Histories.{Kept, Opening, begun_by, changes_of, HasHit}

-- the call gave the request a reader of w as it comes: its look-up found no more than the beginning of w, or it began w itself
abbrev pub StreamsFrom : Opening → ℕ → Write Kept → Call → History → Type 0
StreamsFrom start id w c h =
    ((hits_partly id c ≡ true) × ((e : Entry) × (opened_for id h ≡ Some e) × IsShown (stored_key e) w (changes_of start h)))
    ⊎ ((begins_by id c ≡ true) × (begun_by start id c h ≡ Some w))

-- the request's last reader is of w as it comes; since are the calls after it got it
pub record HasStream (start : Opening) (id : ℕ) (w : Write Kept) (since h : History) : Type 0 where
  pub call : Call
  pub before : History
  pub split : h ≡ since ++ call ∷ before
  pub streams : StreamsFrom start id w call before
  pub last : AllByRecursion (λ c. ends_reader id c ≡ false) since

-- the write of that number was finished
abbrev pub has_finished : ℕ → Changes Kept → Bool
has_finished n [] = false
has_finished n (finishes w ∷ before) = if w.number == n then true else has_finished n before
has_finished n (_ ∷ before) = has_finished n before

-- all of a write came: it had its last piece, or was finished
abbrev pub IsWhole : ℕ → Changes Kept → Type 0
IsWhole n changes = (has_ended n changes ≡ true) ⊎ (has_finished n changes ≡ true)

-- no more comes to a write: it had its last piece, or is in flight no more
abbrev pub IsOver : ℕ → Changes Kept → Type 0
IsOver n changes = (has_ended n changes ≡ true) ⊎ (IsNumberInFlight n changes → ⊥)

-- the request's last reader is of w, whole or as it comes; since are the calls after it got it
abbrev pub HasReader : Opening → ℕ → Write Kept → History → History → Type 0
HasReader start id w since h = HasHit start id w since h ⊎ HasStream start id w since h

-- the request read a write to its end: it has all bytes of it, and no more comes; and whether all of it came
pub record HasReadOut (start : Opening) (id : ℕ) (all : Bool) (h : History) : Type 0 where
  pub write : Write Kept
  pub since : History
  pub reader : HasReader start id write since h
  pub bytes : bytes_read id since ≡ bytes_of write.number (changes_of start h)
  pub over : IsOver write.number (changes_of start h)
  pub whole : (all ≡ true) ↔ IsWhole write.number (changes_of start h)
