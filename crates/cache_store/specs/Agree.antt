-- When two plain states are one but for what no look-up shows: the order of the bodies, and the metas that writes began with.
use Rattle.std.specs.Prelude.{◌≡◌, option_map, map}
use Rattle.cache_changes.specs.Changes.{StoredKey}
use Rattle.cache_changes.specs.Store.{Stored, Flying, Store, body_at}

-- with the meta that it has now as the one that it began with
abbrev pub settled : {M : Type 0} → Stored M → Stored M
settled x = record x { write = record x.write { meta = x.meta } }

abbrev pub settled_flying : {M : Type 0} → Flying M → Flying M
settled_flying f = record f { stored = settled f.stored }

-- both have the same bodies, and the same writes in flight in the same order
pub record Agree {M : Type 0} (s t : Store M) : Type 0 where
  pub bodies : (k : StoredKey) → option_map settled (body_at k s) ≡ option_map settled (body_at k t)
  pub flying : map settled_flying s.flying ≡ map settled_flying t.flying
