-- What a look-up shows, of what is kept.
use Rattle.std.specs.Prelude.{ℕ, List, Option, Some, None}
use Rattle.cache_changes.specs.Changes.{StoredKey}
use Rattle.store_memory.specs.declared.flight.Shown.{Shown}
use Rattle.store_memory.specs.declared.flight.Shown.TheVariants as shown
use Rattle.cache_heads.specs.declared.meta.CacheMeta.{CacheMeta}
use Rattle.store_memory.specs.declared.meta.ShownMeta.{ShownMeta}
use Rattle.store_memory.specs.declared.meta.ShownMeta.TheVariants as meta
use Rattle.store_memory.specs.Kept.{stored_flight, body_of, weigh}
use Rattle.cache_store.specs.Answers.{Look, in_flight, finished}

abbrev pub shown_of : StoredKey → Shown → Look
shown_of k (shown.Flying n f) = in_flight (stored_flight (n, f.now))
shown_of k (shown.Body b) = finished (body_of (k, b.now))

-- the meta that is lent
abbrev pub meta_shown : ShownMeta → CacheMeta
meta_shown (meta.InFlight m) = m.now
meta_shown (meta.Finished m) = m.now

-- the finished body that a look-up shows, with its meta and what it weighs
abbrev pub whole_shown : Option Look → Option (CacheMeta × List ℕ × ℕ)
whole_shown (Some (finished x)) = Some (x.meta, x.bytes, weigh x)
whole_shown _ = None
