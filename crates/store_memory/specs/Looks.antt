-- What look-ups of a store in memory answer, and the handlers that they give out.
use Rattle.std.specs.Prelude.{◌≡◌, ℕ, ◌==◌, List, length, Option, Some, None, Result, Ok, Err, MatchResult, if◌then◌else◌}
use Rattle.std.specs.Int.{w64, from_be_bytes}
use Rattle.cache_heads.specs.declared.meta.CacheMeta.{CacheMeta}
use Rattle.cache_store.specs.declared.storage.StoreFault.{StoreFault}
use Rattle.cache_store.specs.declared.storage.StoreFault.TheVariants.{Memory, WriteRemoved}
use Rattle.cache_store.specs.Answers.{Look, in_flight, finished}
use Rattle.cache_store.specs.StoreState.{StoreState}
use Rattle.cache_store.specs.Readers.{IsJoined}
use Rattle.store_memory.specs.declared.handlers.MemHitHandler.{MemHitHandler}
use Rattle.store_memory.specs.declared.handlers.MemHitHandler.TheVariants.{Complete, Partial}
use Rattle.store_memory.specs.Hits.{unread}
use Rattle.store_memory.specs.Kept.{weigh}

-- what a look-up answers, by what it shows: the meta and a reader that has read nothing. Of a write in flight the reader is counted
abbrev pub MemLookAnswer : Option Look → StoreState → Result (Option (CacheMeta × MemHitHandler)) StoreFault → StoreState → Type 0
MemLookAnswer None old r new = (r ≡ Ok None) × (new ≡ old)
MemLookAnswer (Some (finished x)) old r new = MatchResult r (λ found. found ≡ Some (x.meta, Complete (unread x.write.number x.bytes (weigh x) x.meta.header))) (λ f. f ≡ Memory) × (new ≡ old)
MemLookAnswer (Some (in_flight x)) old r new =
    MatchResult r (λ found. (found ≡ Some (x.meta, Partial (record { number = x.write.number; place = 0 }))) × IsJoined x.write.number old new) (λ f. (f ≡ Memory) × (new ≡ old))

-- what a look-up of one write answers
abbrev pub MemStreamAnswer : Option Look → StoreState → Result (Option (CacheMeta × MemHitHandler)) StoreFault → StoreState → Type 0
MemStreamAnswer None old r new = (r ≡ Err WriteRemoved) × (new ≡ old)
MemStreamAnswer (Some x) old r new = MemLookAnswer (Some x) old r new

-- what a look-up answers that may name a write by its number
abbrev pub MemTagAnswer : Option ℕ → Option Look → StoreState → Result (Option (CacheMeta × MemHitHandler)) StoreFault → StoreState → Type 0
MemTagAnswer None look old r new = MemLookAnswer look old r new
MemTagAnswer (Some n) look old r new = MemStreamAnswer look old r new

-- the number that a tag names
abbrev pub tag_number : Option (List ℕ) → Option ℕ
tag_number None = None
tag_number (Some bytes) = if length bytes == 8 then Some (from_be_bytes w64 bytes) else None
