-- Cells: an order of use in which an entry that leaves its place leaves a hole there, which later asks fill. The height of an
-- entry is its greatest load.
use Rattle.std.specs.Prelude.{ℕ, ◌+◌, ◌-◌, nat_lt, Bool, false, ◌||◌, not, if◌then◌else◌, List, [], ◌∷◌, Option, Some, None}
use Rattle.cache_entries.specs.declared.entry.CacheEntryKey.{CacheEntryKey}
use Rattle.cache_entries.specs.Entry.{same_entry}
use Rattle.curve_loads.specs.Steps.{Step, asks, removes, exceeds}

-- an entry with its weight, or a hole of some weight
pub data Cell : Type 0 where
  taken : CacheEntryKey → ℕ → Cell
  hole : ℕ → Cell

-- e leaves: its cell is a hole of its weight
abbrev pub emptied : CacheEntryKey → List Cell → List Cell
emptied e [] = []
emptied e (taken x w ∷ cells) = (if same_entry x e then hole w else taken x w) ∷ emptied e cells
emptied e (hole w ∷ cells) = hole w ∷ emptied e cells

-- a weight is taken from the holes, the first one first, as far as there are any
abbrev pub filled : ℕ → List Cell → List Cell
filled w [] = []
filled w (taken x v ∷ cells) = taken x v ∷ filled w cells
filled w (hole v ∷ cells) = if nat_lt w v then hole (v - w) ∷ cells else filled (w - v) cells

-- the cells after steps, the latest first: an entry that is asked for leaves its place, fills holes, and comes first
abbrev pub cells_of : (CacheEntryKey → ℕ) → List Step → List Cell
cells_of weight [] = []
cells_of weight (asks e ∷ before) = taken e (weight e) ∷ filled (weight e) (emptied e (cells_of weight before))
cells_of weight (removes e ∷ before) = emptied e (cells_of weight before)

abbrev pub is_there : CacheEntryKey → List Cell → Bool
is_there e [] = false
is_there e (taken x w ∷ cells) = same_entry x e || is_there e cells
is_there e (hole w ∷ cells) = is_there e cells

-- what the cell of e and all cells in front of it weigh, holes too
abbrev pub height : CacheEntryKey → List Cell → ℕ
height e [] = 0
height e (taken x w ∷ cells) = w + (if same_entry x e then 0 else height e cells)
height e (hole w ∷ cells) = w + height e cells

abbrev pub height_of : CacheEntryKey → List Cell → Option ℕ
height_of e cells = if is_there e cells then Some (height e cells) else None

-- each entry counts once
abbrev pub one_each : CacheEntryKey → ℕ
one_each e = 1

-- the limits keep an entry of that height by weight and that height by number
abbrev pub is_kept : ℕ → Option ℕ → Option ℕ → Option ℕ → Bool
is_kept limit watermark (Some weight) (Some number) = not (exceeds limit watermark weight number)
is_kept limit watermark _ _ = false
