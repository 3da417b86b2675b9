-- What was found up to moments at which spans of a fixed length begin. Lists of requests have the latest first.
use Rattle.std.specs.Prelude.{◌≡◌, ℕ, ◌+◌, nat_lt, not, Bool, true, false, ◌||◌, if◌then◌else◌, List, [], ◌∷◌, ◌++◌, map, Option, Some, None}
use Rattle.std.specs.List.{AllByRecursion}
use Rattle.cache_entries.specs.declared.entry.CacheEntryKey.{CacheEntryKey}
use Rattle.curve_sizes.specs.Rows.{limits_of}
use Rattle.curve_sizes.specs.Requests.{Request, asks, removes, steps_of, asked_in, bytes_in, AreFound}
use Rattle.curve_held.specs.Held.{AreHeld}
use Rattle.curve_timed.specs.Spans.{span_from}
use Rattle.curve_timed.specs.Timed.{timed_of}
use Rattle.curve_timed.specs.Rows.{AreFresh}
use Rattle.curve_timed.specs.declared.every.Every.{Every}
use Rattle.curve_timed.specs.declared.marks.Mark.{Mark}
use Rattle.curve_timed.specs.declared.row.FreshRow.{FreshRow}

-- one of the requests asks at a moment or later
abbrev pub reached : ℕ → List Request → Bool
reached at [] = false
reached at (asks e w t ∷ before) = not (nat_lt t.moment at) || reached at before
reached at (removes e ∷ before) = reached at before

-- the requests before the first that asks at a moment or later
abbrev pub until : ℕ → List Request → List Request
until at [] = []
until at (asks e w t ∷ before) = if reached at before then until at before else if nat_lt t.moment at then asks e w t ∷ before else before
until at (removes e ∷ before) = if reached at before then until at before else removes e ∷ before

-- a moment lies past a span; none is past where there is none
abbrev pub is_past_span : (seconds moment : ℕ) → Option ℕ → Bool
is_past_span seconds moment None = false
is_past_span seconds moment (Some span) = not (nat_lt moment (span + seconds))

-- the span after a request at a moment: it goes on, where the moment isn't past it
abbrev pub span_after : (seconds moment : ℕ) → Option ℕ → ℕ
span_after seconds moment None = span_from seconds moment
span_after seconds moment (Some span) = if nat_lt moment (span + seconds) then span else span_from seconds moment

-- the span of the last request that asks, none without one
abbrev pub span_of : (seconds : ℕ) → List Request → Option ℕ
span_of seconds [] = None
span_of seconds (asks e w t ∷ before) = Some (span_after seconds t.moment (span_of seconds before))
span_of seconds (removes e ∷ before) = span_of seconds before

-- where spans begin that have requests, but for the first of them
abbrev pub marks_of : (seconds : ℕ) → List Request → List ℕ
marks_of seconds [] = []
marks_of seconds (asks e w t ∷ before) =
    marks_of seconds before ++ (if is_past_span seconds t.moment (span_of seconds before) then span_from seconds t.moment ∷ [] else [])
marks_of seconds (removes e ∷ before) = marks_of seconds before

-- without a length of spans there are none
abbrev pub marks_by : Option Every → List Request → List ℕ
marks_by None requests = []
marks_by (Some every) requests = marks_of every.seconds requests

-- what is found of all these requests, and what is held after them
pub record IsSoFar (weight : CacheEntryKey → ℕ) (watermark : Option ℕ) (requests : List Request) (m : Mark) : Type 0 where
  pub asks_are : m.asks ≡ asked_in requests
  pub bytes_are : m.bytes ≡ bytes_in weight requests
  pub rows : AreFound weight watermark (steps_of requests) m.rows.items
  pub fresh : AreFresh weight watermark (timed_of requests) m.fresh.items
  pub held : AreHeld weight watermark requests (limits_of m.rows.items) m.held.items

-- what is marked is what is found of the requests before the first that asks at the moment or later
pub record IsMark (weight : CacheEntryKey → ℕ) (watermark : Option ℕ) (requests : List Request) (m : Mark) : Type 0 where
  pub is_reached : reached m.at requests ≡ true
  pub found : IsSoFar weight watermark (until m.at requests) m

-- the mark has a row for each limit, and one of fresh finds for each where these are counted
pub record HasMarkRows (limits : List ℕ) (is_timed : Bool) (m : Mark) : Type 0 where
  pub rows : limits_of m.rows.items ≡ limits
  pub fresh : is_timed ≡ true → map (λ (r : FreshRow). r.limit) m.fresh.items ≡ limits

-- there is such a mark at each moment at which a span begins, but for the first
pub record AreMarks (weight : CacheEntryKey → ℕ) (watermark : Option ℕ) (every : Option Every) (requests : List Request) (marks : List Mark) : Type 0 where
  pub moments : map (λ (m : Mark). m.at) marks ≡ marks_by every requests
  pub each : AllByRecursion (IsMark weight watermark requests) marks
