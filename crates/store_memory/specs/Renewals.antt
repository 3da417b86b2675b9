-- Other metas for what is kept of bodies.
use Rattle.cache_heads.specs.declared.meta.CacheMeta.{CacheMeta}
use Rattle.store_memory.specs.declared.flight.Body.{Body}

abbrev pub body_with : (CacheMeta → CacheMeta) → Body → Body
body_with change b = record b { meta = change b.meta }
