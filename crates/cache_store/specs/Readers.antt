-- Readers: of a whole body, and of a write as it comes.
use Rattle.std.specs.Prelude.{◌≡◌, ◌≢◌, ℕ, ◌==◌, ◌+◌, ◌-◌, ◌<◌, ◌≤◌, min, Bool, true, false, nat_lt, List, [], ◌++◌, drop, length, slice_range, Option, Some, None, option_map, option_and_then, unwrap_or, Result, Ok, Err, find, if◌then◌else◌}
use Rattle.cache_heads.specs.declared.meta.CacheMeta.{CacheMeta}
use Rattle.cache_changes.specs.Store.{Flying, flying_at}
use Rattle.cache_store.specs.declared.storage.ReadStep.{ReadStep}
use Rattle.cache_store.specs.declared.storage.ReadStep.TheVariants.{Bytes, Pending, End}
use Rattle.cache_store.specs.declared.storage.StoreFault.{StoreFault}
use Rattle.cache_store.specs.declared.storage.StoreFault.TheVariants.{Memory}
use Rattle.cache_store.specs.StoreState.{Reading, StoreState}

-- a reader of a write, and how much it has read
pub record StreamHit : Type 0 where
  pub number : ℕ
  pub place : ℕ

-- what a reader is to read: of the body of a write, and what of it comes next; or a write as it comes
pub data Reader : Type 0 where
  whole : ℕ → List ℕ → List ℕ → Reader
  streaming : StreamHit → Reader

-- the number of the write that is read
abbrev pub number_read : Reader → ℕ
number_read (whole n body bytes) = n
number_read (streaming s) = s.number

-- both read the same body, or the same write as it comes
abbrev pub ReadsSame : Reader → Reader → Type 0
ReadsSame (whole n body bytes) (whole m other more) = (m ≡ n) × (other ≡ body)
ReadsSame (streaming s) (streaming t) = t.number ≡ s.number
ReadsSame _ _ = ⊥

-- the bytes that readers of a write were left with
abbrev pub left_at : ℕ → List Reading → Option (List ℕ)
left_at n rs = option_and_then (λ r. r.left) (find (λ r. n == r.number) rs)

-- what there is to read of a write: its bytes, and whether no more come
abbrev pub readable_of : Option (Flying CacheMeta) → Option (List ℕ) → Option (List ℕ × Bool)
readable_of (Some f) left = Some (f.stored.bytes, f.ended)
readable_of None left = option_map (λ bytes. (bytes, true)) left

abbrev pub readable : ℕ → StoreState → Option (List ℕ × Bool)
readable n h = readable_of (flying_at n h.store) (left_at n h.readings)

-- where a range of a body ends: at the body's end where none is given, or a later one
abbrev pub end_within : ℕ → Option ℕ → ℕ
end_within size None = size
end_within size (Some n) = min n size

-- what is left to read from a place; a write that isn't there has ended
abbrev pub past_place : ℕ → Option (List ℕ × Bool) → List ℕ × Bool
past_place place None = ([], true)
past_place place (Some p) = (drop place p.0, p.1)

-- what a reader has yet to read of what is there, and whether no more comes
abbrev pub ahead : Reader → StoreState → List ℕ × Bool
ahead (whole n body bytes) h = (bytes, true)
ahead (streaming s) h = past_place s.place (readable s.number h)

-- a step of reading, by what was ahead and what is: the next bytes, of which there are some where any are ahead; nothing where all was read, and the end once no
-- more comes. Memory runs out only where bytes are ahead
abbrev pub IsStep : List ℕ × Bool → Result ReadStep StoreFault → List ℕ × Bool → Type 0
IsStep old (Ok (Bytes bytes)) new = (old.0 ≡ bytes ++ new.0) × (new.1 ≡ old.1) × (bytes ≡ [] → old.0 ≡ [])
IsStep old (Ok Pending) new = (old ≡ ([], false)) × (new ≡ old)
IsStep old (Ok End) new = (old ≡ ([], true)) × (new ≡ old)
IsStep old (Err f) new = (f ≡ Memory) × (new ≡ old) × (old.0 ≢ [])

-- an empty piece comes only as the first and only one: before it the reader was unread, and after a piece it's unread no more
abbrev pub IsEmptyOnce : Bool → Result ReadStep StoreFault → Bool → Type 0
IsEmptyOnce unread (Ok (Bytes bytes)) still = (bytes ≡ [] → unread ≡ true) × (still ≡ false)
IsEmptyOnce unread _ still = still ≡ unread

-- a range within a body: it begins in it, and doesn't end before it begins. A write has none
abbrev pub IsRange : ℕ → Option ℕ → Reader → Type 0
IsRange start None (whole n body bytes) = start < length body
IsRange start (Some stop) (whole n body bytes) = (start < length body) × (start ≤ stop)
IsRange start stop (streaming s) = ⊥

-- what a reader set to a range reads next: that part of a body
abbrev pub IsSought : ℕ → Option ℕ → Reader → Reader → Type 0
IsSought start stop (whole n body bytes) new = IsRange start stop (whole n body bytes) × (new ≡ whole n body (slice_range body start (end_within (length body) stop)))
IsSought start stop (streaming s) new = ⊥

-- the readers of a write
abbrev pub reading_at : ℕ → List Reading → Option Reading
reading_at n rs = find (λ (r : Reading). n == r.number) rs

-- all of a write came: of one in flight its end is marked; else it had its end, or was finished, before its readers were left with its bytes
abbrev pub whole_of : Option (Flying CacheMeta) → Option Reading → Bool
whole_of (Some f) reading = f.ended
whole_of None reading = unwrap_or (option_map (λ (r : Reading). r.whole) reading) false

abbrev pub is_whole : ℕ → StoreState → Bool
is_whole n h = whole_of (flying_at n h.store) (reading_at n h.readings)

-- nothing is ahead, and no more comes
abbrev pub is_at_end : List ℕ × Bool → Bool
is_at_end ([], over) = over
is_at_end _ = false

-- whether all of a write came, where a reader at that place has read what there is and no more comes
abbrev pub whole_past : ℕ → ℕ → StoreState → Option Bool
whole_past n place h = if is_at_end (past_place place (readable n h)) then Some (is_whole n h) else None

-- one reader more, and one less; without any the bytes go
abbrev pub one_more : ℕ → Option Reading → Reading
one_more n None = record { number = n; others = 0; left = None; whole = false }
one_more n (Some r) = record r { others = r.others + 1 }

abbrev pub one_less : Option Reading → Option Reading
one_less None = None
one_less (Some r) = if nat_lt 0 r.others then Some (record r { others = r.others - 1 }) else None

-- a write has one reader more, and nothing else changed
pub record IsJoined (n : ℕ) (old new : StoreState) : Type 0 where
  pub store : new.store ≡ old.store
  pub next : new.next ≡ old.next
  pub readings : (m : ℕ) → reading_at m new.readings ≡ (if n == m then Some (one_more n (reading_at n old.readings)) else reading_at m old.readings)

-- a write has one reader less, and nothing else changed
pub record IsParted (n : ℕ) (old new : StoreState) : Type 0 where
  pub store : new.store ≡ old.store
  pub next : new.next ≡ old.next
  pub readings : (m : ℕ) → reading_at m new.readings ≡ (if n == m then one_less (reading_at n old.readings) else reading_at m old.readings)

-- a reader is spent: of a write it is no longer counted
abbrev pub PartsReader : Reader → StoreState → StoreState → Type 0
PartsReader (whole n body bytes) old new = new ≡ old
PartsReader (streaming s) old new = IsParted s.number old new

-- nothing changed; of the writes that are read by what each of them has
pub record SameStoreState (old new : StoreState) : Type 0 where
  pub store : new.store ≡ old.store
  pub next : new.next ≡ old.next
  pub readings : (n : ℕ) → reading_at n new.readings ≡ reading_at n old.readings
