-- A curve with moments that was fed requests.
use Rattle.std.specs.Prelude.{◌≡◌, ℕ, ◌+◌, ◌==◌, ◌<◌, nat_lt, Bool, true, false, if◌then◌else◌, List, length, slice_index, Option, Some, None, is_some, IfSome}
use Rattle.std.specs.List.{AllByRecursion}
use Rattle.cache_entries.specs.declared.entry.CacheEntryKey.{CacheEntryKey}
use Rattle.curve_fresh.specs.Fresh.{stale_in, fresh_finds, fresh_bytes}
use Rattle.curve_runs.specs.declared.table.FreshTable.{FreshTable}
use Rattle.curve_runs.specs.declared.run.Load.{Load}
use Rattle.curve_runs.specs.Runs.{since_of, loaded}
use Rattle.curve_runs.specs.Counts.{counted, fresh as found_fresh}
use Rattle.curve_sizes.specs.Requests.{Request}
use Rattle.curve_sizes.specs.Rows.{limits_of}
use Rattle.curve_sizes.specs.declared.curve.SizeCurve.{SizeCurve}
use Rattle.curve_sizes.specs.Numbers.{numbered, mark_of, Agrees, IsFed}
use Rattle.curve_held.specs.State.{IsFilled}
use Rattle.curve_timed.specs.declared.curve.TimedCurve.{TimedCurve}
use Rattle.curve_timed.specs.Timed.{timed_of}
use Rattle.curve_timed.specs.declared.every.Every.{Every}
use Rattle.curve_timed.specs.declared.marks.Mark.{Mark}
use Rattle.curve_timed.specs.Marks.{span_of, AreMarks, HasMarkRows}

-- the table is whole, and has counts for so many entries and sizes
pub record IsWhole (entries sizes : ℕ) (t : FreshTable) : Type 0 where
  pub whole : t.is_broken ≡ false
  pub entries_are : length t.runs.items ≡ entries
  pub sizes_are : t.sizes ≡ sizes
  pub finds_are : length t.finds.begun.items ≡ sizes
  pub bytes_are : length t.bytes.begun.items ≡ sizes

-- by these weights the table has, for each limit, from when on the last load of each entry is stale, and what is found fresh
pub record ShowsFresh (weight : CacheEntryKey → ℕ) (limits : List ℕ) (mark : Option ℕ) (t : FreshTable) (requests : List Request) : Type 0 where
  pub since : (e i : ℕ) → i < length limits → since_of e i t.runs.items ≡ stale_in weight (slice_index limits i) mark (numbered e) (timed_of requests)
  pub finds : (i : ℕ) → i < length limits → counted i t.finds ≡ fresh_finds weight (slice_index limits i) mark (timed_of requests)
  pub bytes : (i : ℕ) → i < length limits → counted i t.bytes ≡ fresh_bytes weight (slice_index limits i) mark (timed_of requests)

-- the table counted a request for an entry of that weight
pub record IsCounted (t t' : FreshTable) (entry weight : ℕ) (load : Load) : Type 0 where
  pub since : (e i : ℕ) → i < t.sizes → since_of e i t'.runs.items ≡ (if e == entry then loaded load i (since_of e i t.runs.items) else since_of e i t.runs.items)
  pub finds : (i : ℕ) → i < length t.finds.begun.items → counted i t'.finds ≡ counted i t.finds + found_fresh load 1 i (since_of entry i t.runs.items)
  pub bytes : (i : ℕ) → i < length t.bytes.begun.items → counted i t'.bytes ≡ counted i t.bytes + found_fresh load weight i (since_of entry i t.runs.items)
  pub sizes : (t'.sizes ≡ t.sizes) × (length t'.finds.begun.items ≡ length t.finds.begun.items) × (length t'.bytes.begun.items ≡ length t.bytes.begun.items)
  pub old : entry < length t.runs.items → length t'.runs.items ≡ length t.runs.items
  pub next : entry ≡ length t.runs.items → length t'.runs.items ≡ length t.runs.items + 1
  pub whole : t'.is_broken ≡ t.is_broken

-- the table was fed these requests
pub record IsFedFresh (weights limits : List ℕ) (mark : Option ℕ) (t : FreshTable) (requests : List Request) : Type 0 where
  pub shape : IsWhole (length weights) (length limits) t
  pub shown : (weight : CacheEntryKey → ℕ) → Agrees weight weights → ShowsFresh weight limits mark t requests

-- fresh finds were counted, if they are asked for
abbrev pub IsFreshFed : SizeCurve → Option FreshTable → List Request → Type 0
IsFreshFed c fresh requests = IfSome fresh (λ t. IsFedFresh c.weights.items (limits_of c.table) (mark_of c.watermark) t requests)

-- the last load of an entry at the limit of a number isn't stale at a moment; so it is where no fresh finds are counted
abbrev pub is_fresh_at : Option FreshTable → (e i moment : ℕ) → Bool
is_fresh_at None e i moment = true
is_fresh_at (Some t) e i moment = nat_lt moment (since_of e i t.runs.items)

-- the marks of these requests were made, and the span of the last one is known
pub record IsMarked (ws : List ℕ) (mark : Option ℕ) (every : Option Every) (span : Option ℕ) (marks : List Mark) (requests : List Request) : Type 0 where
  pub span_is : IfSome every (λ e. span ≡ span_of e.seconds requests)
  pub marks_are : (weight : CacheEntryKey → ℕ) → Agrees weight ws → AreMarks weight mark every requests marks

-- the curve was fed these requests
pub record IsFedTimed (c : TimedCurve) (requests : List Request) : Type 0 where
  pub whole : c.is_broken ≡ false
  pub fed : IsFed c.curve requests
  pub fresh : IsFreshFed c.curve c.fresh requests
  pub filled : IsFilled c.curve.weights.items (limits_of c.curve.table) (mark_of c.curve.watermark) c.filling requests
  pub marked : IsMarked c.curve.weights.items (mark_of c.curve.watermark) c.every c.span c.marks.items requests
  pub mark_rows : AllByRecursion (HasMarkRows (limits_of c.curve.table) (is_some c.fresh)) c.marks.items
