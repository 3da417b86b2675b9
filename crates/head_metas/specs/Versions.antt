-- What an early form says, in the latest one.
use Rattle.std.specs.Prelude.{ℕ, None}
use Rattle.head_metas.specs.declared.versions.EarlyInternalMeta.{EarlyInternalMeta}
use Rattle.head_metas.specs.declared.versions.InternalMetaV2.{InternalMetaV2}

-- it was updated when it was created, and nothing more is known
abbrev pub of_early : (version : ℕ) → EarlyInternalMeta version → InternalMetaV2
of_early version early = record {
  fresh_until = early.fresh_until;
  created = early.created;
  updated = early.created;
  stale_while_revalidate_sec = early.stale_while_revalidate_sec;
  stale_if_error_sec = early.stale_if_error_sec;
  variance = None;
  epoch_override = None;
  provenance = None;
}
