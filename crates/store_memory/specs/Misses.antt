-- How writes begin and end.
use Rattle.std.specs.Prelude.{◌≡◌, ℕ, ◌==◌, ◌-◌, ◌^◌, Bool, Option, Some, None, Result, Err, MatchResult}
use Rattle.cache_heads.specs.declared.meta.CacheMeta.{CacheMeta}
use Rattle.cache_changes.specs.Changes.{StoredKey}
use Rattle.cache_changes.specs.Store.{Stored}
use Rattle.cache_store.specs.declared.storage.StoreFault.{StoreFault}
use Rattle.cache_store.specs.declared.storage.StoreFault.TheVariants.{Memory, WriteRemoved}
use Rattle.cache_store.specs.Answers.{left, IsFinished}
use Rattle.cache_store.specs.StoreState.{StoreState}
use Rattle.store_memory.specs.Kept.{weigh}

-- no number is left for a write
abbrev pub are_numbers_spent : StoreState → Bool
are_numbers_spent h = h.next == 2 ^ 64 - 1

-- a write is finished, and `weight` is what its body weighs
abbrev pub FinishesWith : ℕ → ℕ → StoreState → StoreState → Type 0
FinishesWith n weight old new = (x : Stored CacheMeta) × (weight ≡ weigh x) × IsFinished n x old new

-- the answer to the end of a write, by the key of the write where no removal met it
abbrev pub FinishAnswer : ℕ → StoreState → Result ℕ StoreFault → StoreState → Option StoredKey → Type 0
FinishAnswer n old r new None = (r ≡ Err WriteRemoved) × (new ≡ left n old)
FinishAnswer n old r new (Some k) = MatchResult r (λ weight. FinishesWith n weight old new) (λ f. (f ≡ Memory) × (new ≡ old))
