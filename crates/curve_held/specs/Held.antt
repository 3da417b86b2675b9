-- What a cache of one list holds after requests, and when it was full first. Lists of requests have the latest first.
use Rattle.std.specs.Prelude.{◌≡◌, ℕ, min, nat_lt, Bool, if◌then◌else◌, List, [], ◌∷◌, length, Option, Some, None}
use Rattle.std.specs.List.{AllZip}
use Rattle.cache_entries.specs.declared.entry.CacheEntryKey.{CacheEntryKey}
use Rattle.cache_entries.specs.declared.rows.Tracked.{Tracked}
use Rattle.cache_entries.specs.Entry.{same_entry}
use Rattle.curve_loads.specs.Steps.{Step, held, put_first}
use Rattle.curve_loads.specs.Steps as steps
use Rattle.curve_sizes.specs.Requests.{Request, asks, removes, steps_of, asked_in}
use Rattle.curve_held.specs.declared.row.Full.{Full}
use Rattle.curve_held.specs.declared.row.HeldRow.{HeldRow}

-- the moment of the last request that asks for e; 0 without one
abbrev pub last_asked : CacheEntryKey → List Request → ℕ
last_asked e [] = 0
last_asked e (asks x w t ∷ before) = if same_entry x e then t.moment else last_asked e before
last_asked e (removes x ∷ before) = last_asked e before

-- the lesser of two moments, as far as there are any
abbrev pub sooner : Option ℕ → Option ℕ → Option ℕ
sooner None other = other
sooner (Some m) None = Some m
sooner (Some m) (Some n) = Some (min m n)

-- the least moment at which an entry of the rows was asked for last; none where there is no row
abbrev pub oldest : List Request → List Tracked → Option ℕ
oldest requests [] = None
oldest requests (r ∷ rows) = sooner (Some (last_asked r.entry requests)) (oldest requests rows)

-- an ask for e puts entries out: fewer are held after it than those before it with e in front
abbrev pub puts_out : (weight : CacheEntryKey → ℕ) (limit : ℕ) (watermark : Option ℕ) → CacheEntryKey → List Step → Bool
puts_out weight limit watermark e before =
    nat_lt (length (held weight limit watermark (steps.asks e ∷ before))) (length (put_first weight e (held weight limit watermark before)))

-- the first of what is told earlier and later
abbrev pub first_of : Option Full → Option Full → Option Full
first_of (Some earlier) later = Some earlier
first_of None later = later

-- the first request that puts entries out: how many requests asked up to it and with it, and its moment; none where no request does
abbrev pub full_at : (weight : CacheEntryKey → ℕ) (limit : ℕ) (watermark : Option ℕ) → List Request → Option Full
full_at weight limit watermark [] = None
full_at weight limit watermark (asks e w t ∷ before) =
    first_of (full_at weight limit watermark before)
    (if puts_out weight limit watermark e (steps_of before) then Some (record { asks = asked_in (asks e w t ∷ before); moment = t.moment }) else None)
full_at weight limit watermark (removes e ∷ before) = full_at weight limit watermark before

-- the row has what a cache of the limit holds after the requests, and when it was full first
pub record IsHeld (weight : CacheEntryKey → ℕ) (watermark : Option ℕ) (requests : List Request) (limit : ℕ) (r : HeldRow) : Type 0 where
  pub entries : r.entries ≡ length (held weight limit watermark (steps_of requests))
  pub oldest : r.oldest ≡ oldest requests (held weight limit watermark (steps_of requests))
  pub full : r.full ≡ full_at weight limit watermark requests

-- there is such a row for each limit, in their order
abbrev pub AreHeld : (weight : CacheEntryKey → ℕ) (watermark : Option ℕ) → List Request → (limits : List ℕ) → List HeldRow → Type 0
AreHeld weight watermark requests limits rows = AllZip (IsHeld weight watermark requests) limits rows
