-- Readings of parts of the keys, side by side.
use Rattle.std.specs.Prelude.{◌≡◌, ℕ, ◌+◌, ◌*◌, ◌<◌, Bool, false, List, [], ◌∷◌, length, slice_index, Option, Some, None, is_some, IsSome, map}
use Rattle.std.specs.List.{AllZip, AllByRecursion, sum_by}
use Rattle.cache_entries.specs.declared.entry.CacheEntryKey.{CacheEntryKey}
use Rattle.curve_sizes.specs.Requests.{Request, AreFirst}
use Rattle.curve_sizes.specs.Rows.{empty_row, limits_of}
use Rattle.curve_sizes.specs.Numbers.{mark_of}
use Rattle.curve_timed.specs.declared.row.FreshRow.{FreshRow}
use Rattle.curve_timed.specs.declared.every.Every.{Every}
use Rattle.curve_timed.specs.Timed.{timed_of}
use Rattle.curve_timed.specs.Rows.{AreFresh}
use Rattle.curve_held.specs.declared.row.HeldRow.{HeldRow}
use Rattle.curve_held.specs.Held.{AreHeld}
use Rattle.curve_keys.specs.Keys.{IsFedKeys, AreSameLimits}
use Rattle.curve_keys.specs.Misses.{goes_on}
use Rattle.curve_keys.specs.Parts.{kept}
use Rattle.curve_keys.specs.Pasts.{Line, Past, nothing_read, onto, IsRead}
use Rattle.curve_keys.specs.declared.part.Part.{Part}
use Rattle.curve_keys.specs.declared.said.Said.{Said}
use Rattle.curve_keys.specs.declared.said.Said.TheVariants.{Removal, Weight, Known, Told, Other, Wrong}
use Rattle.curve_keys.specs.declared.reading.Reading.{Reading}
use Rattle.curve_keys.specs.declared.readings.PartReading.{PartReading}
use Rattle.curve_keys.specs.declared.readings.Readings.{Readings}

-- how many requests a line makes that ask
abbrev pub asks_by : Said → ℕ → ℕ
asks_by (Weight weight) times = times
asks_by Known times = times
asks_by Removal times = 0
asks_by Told times = 0
asks_by Other times = 0
asks_by Wrong times = 0

-- what these say that they weigh
abbrev pub says_by : Said → ℕ → ℕ
says_by (Weight weight) times = weight * times
says_by Known times = 0
says_by Removal times = 0
says_by Told times = 0
says_by Other times = 0
says_by Wrong times = 0

-- how many lines are of a key and no request
abbrev pub others_by : Said → ℕ
others_by (Weight weight) = 0
others_by Known = 0
others_by Removal = 0
others_by Told = 1
others_by Other = 1
others_by Wrong = 0

-- the same of a line
abbrev pub asks_of : Option Line → ℕ
asks_of None = 0
asks_of (Some l) = asks_by l.said l.times

abbrev pub says_of : Option Line → ℕ
says_of None = 0
says_of (Some l) = says_by l.said l.times

abbrev pub others_of : Option Line → ℕ
others_of None = 0
others_of (Some l) = others_by l.said

-- how many keys were asked for, in all parts together
abbrev pub entries_of : List PartReading → ℕ
entries_of rs = sum_by (λ r. length r.reading.curve.curve.curve.weights.items) rs

-- something was read of the part
abbrev pub IsReady : PartReading → Type 0
IsReady r = (past : Past) × IsRead r.reading past

abbrev pub AreReady : Readings → Type 0
AreReady rs = AllByRecursion IsReady rs.parts.items

-- nothing was read of the part yet
pub record IsNew (limits : List ℕ) (watermark : Option ℕ) (is_timed : Bool) (every : Option Every) (part : Option Part) (r : PartReading) : Type 0 where
  pub part_is : r.part ≡ part
  pub read : IsRead r.reading nothing_read
  pub table : r.reading.curve.curve.curve.table ≡ map empty_row limits
  pub mark : mark_of r.reading.curve.curve.curve.watermark ≡ watermark
  pub every_is : r.reading.curve.curve.every ≡ every
  pub timed : is_some r.reading.curve.curve.fresh ≡ is_timed

-- one line more was read, if its key is in the part
pub record AddsTo (l : Line) (old new : PartReading) : Type 0 where
  pub part_is : new.part ≡ old.part
  pub limits : AreSameLimits old.reading.curve new.reading.curve
  pub read : (past : Past) → IsRead old.reading past → IsRead new.reading (onto (kept old.part (Some l)) past)

-- of all readings what holds of the one, where there is one
abbrev pub OfOne : (PartReading → Type 0) → List PartReading → Type 0
OfOne P [] = Unit {0}
OfOne P (r ∷ []) = P r
OfOne P (r ∷ s ∷ rs) = Unit {0}

-- it is told whether a line goes on from the limit of a number, after what was read; where lifetimes count nothing is said
abbrev pub IsMissedBy : ℕ → Line → Bool → PartReading → Type 0
IsMissedBy at l missed r =
    r.reading.curve.curve.fresh ≡ None → (past : Past) → IsRead r.reading past → (weight : CacheEntryKey → ℕ) → AreFirst weight past.requests → at < length r.reading.curve.curve.curve.table
    → missed ≡ goes_on weight (slice_index (limits_of r.reading.curve.curve.curve.table) at) (mark_of r.reading.curve.curve.curve.watermark) (Some l) past.requests

abbrev pub IsMissed : Option ℕ → Line → Bool → List PartReading → Type 0
IsMissed None l missed rs = missed ≡ false
IsMissed (Some at) l missed rs = OfOne (IsMissedBy at l missed) rs

-- one line more was read by each part, and its requests were counted whatever the part of its key
pub record AddsSome (l : Line) (old new : Readings) : Type 0 where
  pub parts : AllZip (AddsTo l) old.parts.items new.parts.items
  pub asked : new.asked ≡ old.asked + asks_by l.said l.times
  pub said : new.said ≡ old.said + says_by l.said l.times
  pub others : new.others ≡ old.others + others_by l.said
  pub at : new.misses ≡ old.misses
  pub missed : IsMissed old.misses l new.missed old.parts.items

-- the same of a line that may say nothing
abbrev pub AddsLine : Option Line → Readings → Readings → Type 0
AddsLine None old new = new ≡ old
AddsLine (Some l) old new = AddsSome l old new

-- the rows are what the limits find fresh of what was read
abbrev pub IsFreshOf : Reading → List FreshRow → Type 0
IsFreshOf reading rows = (requests : List Request) → IsFedKeys reading.curve requests → (weight : CacheEntryKey → ℕ) → AreFirst weight requests
    → AreFresh weight (mark_of reading.curve.curve.curve.watermark) (timed_of requests) rows

-- the rows are what the limits hold of what was read
abbrev pub IsHeldOf : Reading → List HeldRow → Type 0
IsHeldOf reading rows = (requests : List Request) → IsFedKeys reading.curve requests → (weight : CacheEntryKey → ℕ) → AreFirst weight requests
    → AreHeld weight (mark_of reading.curve.curve.curve.watermark) requests (limits_of reading.curve.curve.curve.table) rows

-- where fresh finds are counted, there is a row for each limit
abbrev pub HasRows : Reading → List FreshRow → Type 0
HasRows reading rows = IsSome reading.curve.curve.fresh → map (λ r. r.limit) rows ≡ limits_of reading.curve.curve.curve.table

-- what is found fresh was noted, and what is held
pub record IsFinished (old new : PartReading) : Type 0 where
  pub part_is : new.part ≡ old.part
  pub reading_is : new.reading ≡ old.reading
  pub fresh : IsFreshOf new.reading new.fresh.items
  pub rows : HasRows new.reading new.fresh.items
  pub held : IsHeldOf new.reading new.held.items
