-- Look-ups of a reader alone.
use Rattle.std.proofs.Common.{◌≡◌, ℕ, refl, ap, subst, Option, Some, None, Ok, Err}
use Rattle.std.specs.Prelude.{Result}
use Rattle.cache_heads.specs.declared.meta.CacheMeta.{CacheMeta}
use Rattle.cache_changes.specs.Store.{Stored}
use Rattle.cache_store.specs.declared.storage.StoreFault.{StoreFault}
use Rattle.cache_store.specs.declared.storage.StoreFault.TheVariants.{Memory, WriteRemoved}
use Rattle.cache_store.specs.Answers.{Look, in_flight}
use Rattle.cache_store.specs.StoreState.{StoreState}
use Rattle.cache_store.specs.Looks.{ReaderAnswer, reader_found}
use Rattle.cache_store.specs.Readers.{StreamHit, streaming, IsJoined}
use Rattle.store_memory.specs.declared.handlers.MemHitHandler.{MemHitHandler}
use Rattle.store_memory.specs.declared.handlers.MemHitHandler.TheVariants.{Partial}
use Rattle.store_memory.specs.Kept.{weigh}
use Rattle.store_memory.specs.Looks.{MemLookAnswer}
use Rattle.store_memory.specs.Readings.{reader_of, weight_of}
use Rattle.store_memory.proofs.StoreLaws.{look-told, look-tells}

abbrev pub Reads : Option ℕ → Option Look → StoreState → Result (Option MemHitHandler) StoreFault → StoreState → Type 0
Reads named look old r new = ReaderAnswer reader_of weight_of (λ _. None) weigh None named look old r new

-- of what a key shows
pub reader-shown : (look : Option Look) (old new : StoreState) (found : Result (Option (CacheMeta × MemHitHandler)) StoreFault) (r : Result (Option MemHitHandler) StoreFault)
    → MemLookAnswer look old found new → r ≡ reader_found found → Reads None look old r new
reader-shown look old new found r a e = (found, look-told look old new found a, look-tells look old new found a, e)

-- of a write: one that isn't there, one for whose reader there is no memory, and one that has a reader more
pub reader-nowhere : (n : ℕ) (look : Option Look) (old : StoreState) → None ≡ look → Reads (Some n) look old (Err WriteRemoved) old
reader-nowhere n look old e = subst (λ (l : Option Look). Reads (Some n) l old (Err WriteRemoved) old) e (Err WriteRemoved, (refl, refl), tt, refl)

pub reader-refused : (n : ℕ) (x : Stored CacheMeta) (look : Option Look) (old new : StoreState) (f : StoreFault) → Some (in_flight x) ≡ look → f ≡ Memory → new ≡ old → Reads (Some n) look old (Err f) new
reader-refused n x look old new f e m s = subst (λ (l : Option Look). Reads (Some n) l old (Err f) new) e (Err f, (m, s), tt, refl)

pub reader-joined : (n : ℕ) (x : Stored CacheMeta) (look : Option Look) (old new : StoreState) (s : StreamHit) → Some (in_flight x) ≡ look
    → s ≡ record { number = x.write.number; place = 0 } → IsJoined x.write.number old new → Reads (Some n) look old (Ok (Some (Partial s))) new
reader-joined n x look old new s e p j =
    subst (λ (l : Option Look). Reads (Some n) l old (Ok (Some (Partial s))) new) e (Ok (Some (x.meta, Partial s)), ((refl, ap streaming p), j), tt, refl)
