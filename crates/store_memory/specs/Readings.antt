-- What readers are answered, of a body and of a write.
use Rattle.std.specs.Prelude.{◌≡◌, ℕ, Bool, true, false, not, Option, Some, None, Result, Err}
use Rattle.head_lines.specs.declared.header.ResponseHeader.{ResponseHeader}
use Rattle.cache_store.specs.declared.storage.ReadStep.{ReadStep}
use Rattle.cache_store.specs.declared.storage.StoreFault.{StoreFault}
use Rattle.cache_store.specs.declared.storage.StoreFault.TheVariants.{SeekRange}
use Rattle.store_memory.specs.declared.handlers.MemHitHandler.{MemHitHandler}
use Rattle.store_memory.specs.declared.handlers.MemHitHandler.TheVariants.{Complete, Partial}
use Rattle.cache_store.specs.StoreState.{StoreState}
use Rattle.cache_store.specs.Readers.{Reader, whole, streaming, readable}
use Rattle.store_memory.specs.Hits.{WholeHit, WholeAnswer, after_read, next_bytes, ReadAnswer, moved, SeekAnswer}

abbrev pub is_complete : MemHitHandler → Bool
is_complete (Complete h) = true
is_complete (Partial h) = false

-- a reader of a body has given no piece since it was made or set; one of a write gives no empty piece
abbrev pub is_unread : MemHitHandler → Bool
is_unread (Complete h) = not h.done
is_unread (Partial h) = false

-- a body weighs what it weighed when it was found
abbrev pub weight_of : MemHitHandler → ℕ
weight_of (Complete h) = h.weight
weight_of (Partial h) = 0

-- the head of a body, as it was when that was found; a reader of a write holds none
abbrev pub head_of : MemHitHandler → Option ResponseHeader
head_of (Complete h) = Some h.head
head_of (Partial h) = None

-- what a reader is to read
abbrev pub reader_of : MemHitHandler → Reader
reader_of (Complete h) = whole h.number h.body (next_bytes h)
reader_of (Partial h) = streaming h

-- a step of reading
abbrev pub HitRead : MemHitHandler → StoreState → Result ReadStep StoreFault → MemHitHandler → Type 0
HitRead (Complete h) store r new = WholeAnswer h.done h r × (new ≡ Complete (after_read h r))
HitRead (Partial h) store r new = ReadAnswer (readable h.number store) h.place r × (new ≡ Partial (moved h r))

-- a reader of a body is set to a range; one of a write can't be
abbrev pub HitSeek : ℕ → Option ℕ → MemHitHandler → Result (Unit {0}) StoreFault → MemHitHandler → Type 0
HitSeek start stop (Complete h) r new = (moved : WholeHit) × (new ≡ Complete moved) × SeekAnswer start stop h r moved
HitSeek start stop (Partial h) r new = (r ≡ Err SeekRange) × (new ≡ Partial h)
