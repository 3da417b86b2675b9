-- How a write begins.
use Rattle.std.specs.Prelude.{◌≡◌, ℕ, Bool, true, false, Option, Some, None, Ok, Err, ◌⊎◌}
use Rattle.cache_heads.specs.declared.meta.CacheMeta.{CacheMeta}
use Rattle.cache_changes.specs.Changes.{StoredKey}
use Rattle.cache_store.specs.declared.storage.StoreFault.{StoreFault}
use Rattle.cache_store.specs.Answers.{left}
use Rattle.cache_store.specs.StoreState.{StoreState}
use Rattle.cache_store.specs.Looks.{TagAnswer, asked}
use Rattle.cache_store.specs.Misses.{BeginAnswer}
use Rattle.cache_store.specs.Readers.{Reader}

module _ {H M : Type 0} (reader : H → Reader) (number : M → ℕ) (tagged : M → Option ℕ) (streams is_spent : Bool) (key : StoredKey) (meta : CacheMeta) where
  -- where the store streams, a look-up by the tag of the write that began gives its own reader
  abbrev pub OwnReader : Bool → M → StoreState → Option H → StoreState → Type 0
  OwnReader true miss mid own new =
      (found : CacheMeta) × (hit : H) × (own ≡ Some hit) × TagAnswer reader (tagged miss) (asked streams key (tagged miss) mid.store) mid (Ok (Some (found, hit))) new
  OwnReader false miss mid own new = (own ≡ None) × (new ≡ mid)

  -- a write began
  pub record IsBegun (miss : M) (own : Option H) (old new : StoreState) : Type 0 where
    pub mid : StoreState
    pub begun : BeginAnswer number is_spent key meta old (Ok miss) mid
    pub read : OwnReader streams miss mid own new

  -- a write began in a store that streams, its own reader was refused for that fault, and so the write is left
  pub record IsLeftAgain (fault : StoreFault) (old new : StoreState) : Type 0 where
    pub streamed : streams ≡ true
    pub miss : M
    pub mid : StoreState
    pub begun : BeginAnswer number is_spent key meta old (Ok miss) mid
    pub refused : TagAnswer reader (tagged miss) (asked streams key (tagged miss) mid.store) mid (Err fault) mid
    pub left : new ≡ left (number miss) mid

  -- no write began: the store refuses it, or its own reader
  abbrev pub IsNotBegun : StoreFault → StoreState → StoreState → Type 0
  IsNotBegun fault old new = BeginAnswer number is_spent key meta old (Err fault) new ⊎ IsLeftAgain fault old new
