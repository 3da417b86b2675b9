-- Words of the laws: which write a look-up shows, and whose number a body's is.
use Rattle.std.specs.Prelude.{◌≡◌, ℕ, true, false, Some, None}
use Rattle.std.specs.List.{AllByRecursion}
use Rattle.cache_entries.specs.Keys.{same_bytes}
use Rattle.cache_heads.specs.declared.meta.CacheMeta.{CacheMeta}
use Rattle.cache_changes.specs.Changes.{StoredKey}
use Rattle.cache_changes.specs.Store.{Stored, Store, body_at, flying_at, flies_for}
use Rattle.cache_store.specs.Answers.{Look, in_flight, finished}

-- the write that a look-up shows
abbrev pub write_shown : Look → Stored CacheMeta
write_shown (in_flight x) = x
write_shown (finished x) = x

-- no write of k flies alive
abbrev pub NoneFlies : StoredKey → Store CacheMeta → Type 0
NoneFlies k s = AllByRecursion (λ f. flies_for k f ≡ false) s.flying

-- only the body of k has that number, and no write in flight
pub record IsOwnNumber (k : StoredKey) (n : ℕ) (s : Store CacheMeta) : Type 0 where
  pub bodies : (j : StoredKey) (y : Stored CacheMeta) → body_at j s ≡ Some y → y.write.number ≡ n → same_bytes k j ≡ true
  pub flying : flying_at n s ≡ None
