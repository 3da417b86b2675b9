-- The requests of a stream.
use Rattle.std.specs.Prelude.{◌≡◌, ℕ, ◌+◌, if◌then◌else◌, List, [], ◌∷◌, Option, Some, is_some, Bool, true, false, IfSome, length, map}
use Rattle.std.specs.List.{AllByRecursion}
use Rattle.cache_entries.specs.declared.entry.CacheEntryKey.{CacheEntryKey}
use Rattle.curve_sizes.specs.Requests.{Request, steps_of, AreFirst, AreFound, entries_in}
use Rattle.curve_sizes.specs.Rows.{limits_of}
use Rattle.curve_held.specs.Held.{AreHeld}
use Rattle.curve_timed.specs.declared.row.FreshRow.{FreshRow}
use Rattle.curve_timed.specs.Timed.{timed_of}
use Rattle.curve_timed.specs.Marks.{AreMarks, HasMarkRows}
use Rattle.curve_timed.specs.Rows.{AreFresh}
use Rattle.curve_keys.specs.Keys.{Counts}
use Rattle.curve_keys.specs.Parts.{kept}
use Rattle.curve_keys.specs.Pasts.{Past, nothing_read, onto, IsRead}
use Rattle.curve_keys.specs.Repeats.{HasRepeats}
use Rattle.curve_keys.specs.Shares.{AddsLine, asks_of, says_of, others_of}
use Rattle.curve_keys.specs.declared.part.Part.{Part}
use Rattle.curve_keys.specs.declared.readings.PartReading.{PartReading}
use Rattle.curve_keys.specs.declared.readings.Readings.{Readings}
use Rattle.curve_lines.specs.declared.format.Rules.{Rules}
use Rattle.curve_lines.specs.declared.read.Found.{Found}
use Rattle.curve_lines.specs.declared.step.Step.{Step}
use Rattle.curve_lines.specs.declared.step.Step.TheVariants.{End, Fed, Wrong, TooLong}
use Rattle.curve_lines.specs.ColumnLines.{is_timed}
use Rattle.curve_lines.specs.Formats.{units_in, line_of, TakesUnit}

-- what was read of a part with these lines or records, those whose keys are in it, after others
abbrev pub read_after : Rules → Option Part → Past → List (List ℕ) → Past
read_after by part before [] = before
read_after by part before (l ∷ ls) = read_after by part (onto (kept part (line_of by l)) before) ls

-- how many of the lines or records say nothing
abbrev pub wrong_units : Rules → List (List ℕ) → ℕ
wrong_units by [] = 0
wrong_units by (l ∷ ls) = (if is_some (line_of by l) then 0 else 1) + wrong_units by ls

-- how many requests they make that ask, whatever the part of their key, and what these say that they weigh
abbrev pub asks_in : Rules → List (List ℕ) → ℕ
asks_in by [] = 0
asks_in by (l ∷ ls) = asks_of (line_of by l) + asks_in by ls

abbrev pub says_in : Rules → List (List ℕ) → ℕ
says_in by [] = 0
says_in by (l ∷ ls) = says_of (line_of by l) + says_in by ls

-- how many of them are of a key and no request
abbrev pub others_in : Rules → List (List ℕ) → ℕ
others_in by [] = 0
others_in by (l ∷ ls) = others_of (line_of by l) + others_in by ls

-- what was read of a part, of a stream
abbrev pub read_in : Rules → Option Part → List ℕ → Past
read_in by part text = read_after by part nothing_read (units_in by.format text)

-- the requests of a stream for keys of a part, the latest first
abbrev pub requests_in : Rules → Option Part → List ℕ → List Request
requests_in by part text = (read_in by part text).requests

-- a line or record was left
abbrev pub is_more : Step → Bool
is_more End = false
is_more Fed = true
is_more Wrong = true
is_more TooLong = true

-- it says something
abbrev pub has_request : Step → Bool
has_request End = false
has_request Fed = true
has_request Wrong = false
has_request TooLong = false

-- a step took the first line or record that was left, and fed what it says
abbrev pub Feeds : Rules → Option (List ℕ) → Option (List ℕ) → Readings → Readings → Step → Type 0
Feeds by old new readings readings' step = (part : List ℕ) × TakesUnit by.format old new part (is_more step) × (has_request step ≡ is_some (line_of by part))
    × AddsLine (line_of by part) readings readings'

-- while a stream is read: the first lines or records were counted, and what is left has the others
abbrev pub IsHalfway : Rules → Option (List ℕ) → Option (List ℕ) → Readings → ℕ → ℕ → Type 0
IsHalfway by input rest readings wrong read =
    IfSome input (λ xs. (ys : List ℕ) × (rest ≡ Some ys) × (wrong + wrong_units by (units_in by.format ys) ≡ wrong_units by (units_in by.format xs))
    × (read + length (units_in by.format ys) ≡ length (units_in by.format xs))
    × (readings.asked + asks_in by (units_in by.format ys) ≡ asks_in by (units_in by.format xs))
    × (readings.said + says_in by (units_in by.format ys) ≡ says_in by (units_in by.format xs))
    × (readings.others + others_in by (units_in by.format ys) ≡ others_in by (units_in by.format xs)))

-- the first ones were fed to a part
abbrev pub IsPartHalfway : Rules → Option (List ℕ) → Option (List ℕ) → PartReading → Type 0
IsPartHalfway by input rest r =
    IfSome input (λ xs. (ys : List ℕ) × (done : Past) × (rest ≡ Some ys) × IsRead r.reading done
    × (read_after by r.part done (units_in by.format ys) ≡ read_in by r.part xs))

-- what a run found of a part is what caches of these limits find of the requests of the stream for its keys; each mark has a row for each limit, and where
-- fresh finds are counted, there is a row of them for each limit too; it has as many entries as keys are asked for, and how many of these are more than once
pub record IsFoundOf (by : Rules) (watermark : Option ℕ) (text : List ℕ) (r : PartReading) : Type 0 where
  pub rows : (weight : CacheEntryKey → ℕ) → AreFirst weight (requests_in by r.part text)
      → AreFound weight watermark (steps_of (requests_in by r.part text)) r.reading.curve.curve.curve.table
  pub counts : (weight : CacheEntryKey → ℕ) → AreFirst weight (requests_in by r.part text) → Counts weight r.reading.curve.curve.curve.totals (requests_in by r.part text)
  pub fresh : (weight : CacheEntryKey → ℕ) → AreFirst weight (requests_in by r.part text) → AreFresh weight watermark (timed_of (requests_in by r.part text)) r.fresh.items
  pub fresh_limits : is_timed by.lifetime by.columns ≡ true → map (λ (row : FreshRow). row.limit) r.fresh.items ≡ limits_of r.reading.curve.curve.curve.table
  pub held : (weight : CacheEntryKey → ℕ) → AreFirst weight (requests_in by r.part text)
      → AreHeld weight watermark (requests_in by r.part text) (limits_of r.reading.curve.curve.curve.table) r.held.items
  pub marks : (weight : CacheEntryKey → ℕ) → AreFirst weight (requests_in by r.part text)
      → AreMarks weight watermark by.by (requests_in by r.part text) r.reading.curve.curve.marks.items
  pub mark_rows : AllByRecursion (HasMarkRows (limits_of r.reading.curve.curve.curve.table) (is_timed by.lifetime by.columns)) r.reading.curve.curve.marks.items
  pub unweighed : r.reading.unweighed ≡ (read_in by r.part text).unweighed
  pub keys : length r.reading.curve.curve.curve.weights.items ≡ entries_in (requests_in by r.part text)
  pub repeats_are : (weight : CacheEntryKey → ℕ) → AreFirst weight (requests_in by r.part text) → HasRepeats weight r.reading.curve.repeats (requests_in by r.part text)

-- what a run found: of each part that was asked for what is found of it, and how many lines and requests there are in all
pub record IsFound (by : Rules) (watermark : Option ℕ) (text : List ℕ) (f : Found) : Type 0 where
  pub parts : map (λ (r : PartReading). r.part) f.readings.parts.items ≡ by.parts.items
  pub found : AllByRecursion (IsFoundOf by watermark text) f.readings.parts.items
  pub wrong : f.wrong ≡ wrong_units by (units_in by.format text)
  pub read : f.read ≡ length (units_in by.format text)
  pub asked : f.readings.asked ≡ asks_in by (units_in by.format text)
  pub said : f.readings.said ≡ says_in by (units_in by.format text)
  pub others : f.readings.others ≡ others_in by (units_in by.format text)
