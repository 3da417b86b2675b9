-- What is kept of metas.
use Rattle.std.specs.Prelude.{None, Some}
use Rattle.cache_heads.specs.declared.meta.CacheMeta.{CacheMeta}
use Rattle.head_metas.specs.declared.versions.InternalMetaV2.{InternalMetaV2}
use Rattle.head_packed.specs.declared.Kept.{Kept}
use Rattle.head_packed.specs.declared.Kept.TheVariants.{Short, Any}

-- the moments and numbers of a meta that was stored once
abbrev pub in_short : InternalMetaV2 → InternalMetaV2
in_short m = record m { updated = m.created; variance = None; epoch_override = None; provenance = Some m.created }

-- the meta that is kept
abbrev pub kept_meta : Kept → CacheMeta
kept_meta (Short s) = record {
  internal = record {
    fresh_until = s.fresh_until;
    created = s.created;
    updated = s.created;
    stale_while_revalidate_sec = s.stale_while_revalidate_sec;
    stale_if_error_sec = s.stale_if_error_sec;
    variance = None;
    epoch_override = None;
    provenance = Some s.created;
  };
  header = s.head;
  external = 0;
}
kept_meta (Any m) = record { internal = m.value.internal; header = m.value.head; external = m.value.external }
