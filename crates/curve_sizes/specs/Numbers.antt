-- Entries by number, and their places among the cells of an order of use.
use Rattle.std.specs.Prelude.{◌≡◌, ℕ, ◌+◌, ◌<◌, nat_lt, Bool, true, false, not, ◌||◌, if◌then◌else◌, List, [], ◌∷◌, length, slice_index, Option, Some, None, option_map, IfSome}
use Rattle.std.specs.List.{AllByRecursion}
use Rattle.cache_entries.specs.declared.entry.CacheEntryKey.{CacheEntryKey}
use Rattle.cache_entries.specs.declared.entry.CacheEntryKey.TheVariants.{KeyOnly}
use Rattle.cache_entries.specs.Entry.{key_of}
use Rattle.curve_loads.specs.Cells.{Cell, taken, hole, cells_of, one_each}
use Rattle.curve_heights.specs.declared.place.Place.{Place}
use Rattle.curve_heights.specs.Places.{height}
use Rattle.curve_sizes.specs.Requests.{Request, entry_of, steps_of, AreFirst, AreFound, is_among, asked_in, entries_in, removed_in, odd_in, bytes_in, said_in}
use Rattle.curve_sizes.specs.Rows.{found_at}
use Rattle.curve_sizes.specs.declared.row.CurveRow.{CurveRow}
use Rattle.curve_sizes.specs.declared.curve.SizeCurve.{SizeCurve}
use Rattle.curve_sizes.specs.declared.watermark.Watermark.{Watermark}
use Rattle.curve_sizes.specs.declared.totals.Totals.{Totals}

-- the entry of a number
abbrev pub numbered : ℕ → CacheEntryKey
numbered n = KeyOnly (record { primary = n ∷ []; variance = None; user_tag = [] })

abbrev pub number_in : CacheEntryKey → ℕ
number_in e = slice_index (key_of e).primary 0

-- the places of cells, where holes of some weight came before
abbrev pub places_of : ℕ → List Cell → List Place
places_of holes [] = []
places_of holes (taken x w ∷ cells) = record { holes = holes; entry = number_in x; weight = w } ∷ places_of 0 cells
places_of holes (hole w ∷ cells) = places_of (holes + w) cells

-- the entries of the requests have numbers below n
abbrev pub AreNumbered : ℕ → List Request → Type 0
AreNumbered n requests = AllByRecursion (λ r. (entry_of r ≡ numbered (number_in (entry_of r))) × (number_in (entry_of r) < n)) requests

-- each number has the weight that the list says
abbrev pub Agrees : (CacheEntryKey → ℕ) → List ℕ → Type 0
Agrees weight weights = (n : ℕ) → n < length weights → weight (numbered n) ≡ slice_index weights n

abbrev pub mark_of : Option Watermark → Option ℕ
mark_of watermark = option_map (λ m. m.most) watermark

-- the number of a height is past
abbrev pub past : ℕ → Option ℕ → Bool
past most None = false
past most (Some n) = nat_lt most n

-- an entry's height by number is past the watermark, if there is one
abbrev pub is_past_mark : Option Watermark → ℕ → Bool
is_past_mark None e = false
is_past_mark (Some m) e = past m.most (height e m.heights)

-- the limit holds an entry of that height, which may be past the watermark
abbrev pub is_found : Option ℕ → Bool → ℕ → Bool
is_found None is_past limit = false
is_found (Some h) is_past limit = not (nat_lt limit h || is_past)

-- the rows after a request for an entry of that height
abbrev pub rows_after : Option ℕ → Bool → ℕ → List CurveRow → List CurveRow
rows_after None is_past weight rows = rows
rows_after (Some h) is_past weight rows = if is_past then rows else found_at h weight rows

-- the totals of requests
pub record AreTotals (weight : CacheEntryKey → ℕ) (t : Totals) (requests : List Request) : Type 0 where
  pub asked : t.asks ≡ asked_in requests
  pub removed : t.removed ≡ removed_in requests
  pub odd : t.odd ≡ odd_in weight requests
  pub bytes : t.bytes ≡ bytes_in weight requests
  pub said : t.said ≡ said_in requests

-- by these weights the curve has the places, the rows and the totals of the requests
pub record Shows (weight : CacheEntryKey → ℕ) (c : SizeCurve) (requests : List Request) : Type 0 where
  pub places : c.by_weight ≡ places_of 0 (cells_of weight (steps_of requests))
  pub marked : IfSome c.watermark (λ m. m.heights ≡ places_of 0 (cells_of one_each (steps_of requests)))
  pub rows : AreFound weight (mark_of c.watermark) (steps_of requests) c.table
  pub totals : AreTotals weight c.totals requests

-- the curve was fed these requests
pub record IsFed (c : SizeCurve) (requests : List Request) : Type 0 where
  pub whole : c.is_broken ≡ false
  pub entries : length c.weights.items ≡ entries_in requests
  pub known : (n : ℕ) → n < length c.weights.items → is_among (numbered n) requests ≡ true
  pub numbers : AreNumbered (length c.weights.items) requests
  pub first : (weight : CacheEntryKey → ℕ) → AreFirst weight requests → Agrees weight c.weights.items
  pub shown : (weight : CacheEntryKey → ℕ) → Agrees weight c.weights.items → Shows weight c requests
