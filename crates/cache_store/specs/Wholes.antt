-- What storing a body whole does.
use Rattle.std.specs.Prelude.{◌≡◌, ℕ, ◌+◌, Bool, true, false, List, Some, ◌⊎◌}
use Rattle.cache_heads.specs.declared.meta.CacheMeta.{CacheMeta}
use Rattle.head_metas.specs.Internal.{IsWritable}
use Rattle.cache_changes.specs.Changes.{StoredKey}
use Rattle.cache_changes.specs.Store.{Stored, Store, with_body}
use Rattle.cache_store.specs.declared.storage.StoreFault.{StoreFault}
use Rattle.cache_store.specs.declared.storage.StoreFault.TheVariants.{Memory, WriteNumbersSpent, MetaMoment}
use Rattle.cache_store.specs.Agree.{Agree}
use Rattle.cache_store.specs.StoreState.{StoreState, left_with}

-- the body of k with that meta and those bytes, by the write of the next number
abbrev pub whole_of : StoredKey → CacheMeta → List ℕ → StoreState → Stored CacheMeta
whole_of k meta bytes h = record { write = record { number = h.next; key = k; meta = meta }; meta = meta; bytes = bytes }

-- that is the body of k; the other bodies and the writes in flight are as before
abbrev pub with_whole : StoredKey → CacheMeta → List ℕ → StoreState → Store CacheMeta
with_whole k meta bytes h =
    record h.store { bodies = with_body (Some (whole_of k meta bytes h)) h.store.bodies }

-- a body was stored whole, by a write that took the next number; `spent` says whether none is left
pub record Stores (spent : Bool) (k : StoredKey) (meta : CacheMeta) (bytes : List ℕ) (old new : StoreState) : Type 0 where
  pub numbered : spent ≡ false
  pub written : IsWritable meta.internal
  pub store : Agree new.store (with_whole k meta bytes old)
  pub next : new.next ≡ old.next + 1
  pub readings : new.readings ≡ left_with old.next bytes true old.readings

-- nothing was done, or a write began, for which a number was left, and was given up: the bodies and the other writes in flight are
-- as before
abbrev pub GivenUp : Bool → StoreState → StoreState → Type 0
GivenUp spent old new =
    (new ≡ old) ⊎ ((bytes : List ℕ) × (whole : Bool) × (spent ≡ false) × (new ≡ record old { next = old.next + 1; readings = left_with old.next bytes whole old.readings }))

-- why a body isn't stored; memory is reported only where a number is left and the meta can be written
abbrev pub IsWriteFault : Bool → CacheMeta → StoreFault → StoreState → StoreState → Type 0
IsWriteFault spent meta WriteNumbersSpent old new = (spent ≡ true) × (new ≡ old)
IsWriteFault spent meta MetaMoment old new = (spent ≡ false) × (IsWritable meta.internal → ⊥) × (new ≡ old)
IsWriteFault spent meta Memory old new = (spent ≡ false) × IsWritable meta.internal × GivenUp spent old new
IsWriteFault spent meta _ old new = ⊥
