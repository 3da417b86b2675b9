-- What a store holds.
use Rattle.std.specs.Prelude.{ℕ, Bool, ◌==◌, if◌then◌else◌, List, Option, Some, map}
use Rattle.cache_changes.specs.Store.{Store}
use Rattle.cache_heads.specs.declared.meta.CacheMeta.{CacheMeta}

-- a write that is read: how many readers it has beside one, and what they are left with once it is in flight no more; whether that is all of it
pub record Reading : Type 0 where
  pub number : ℕ
  pub others : ℕ
  pub left : Option (List ℕ)
  pub whole : Bool

-- the bodies and the writes in flight, the number of the next write, and the writes that have readers
pub record StoreState : Type 0 where
  pub store : Store CacheMeta
  pub next : ℕ
  pub readings : List Reading

-- the readers of a write are left with its bytes, which are all of it or not
abbrev pub left_with : ℕ → List ℕ → Bool → List Reading → List Reading
left_with n bytes whole rs = map (λ (r : Reading). if n == r.number then record r { left = Some bytes; whole = whole } else r) rs
