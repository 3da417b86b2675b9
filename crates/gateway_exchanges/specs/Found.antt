-- What was found at the tier, as the rules look at it.
use Rattle.std.specs.Prelude.{[], false, None, unwrap_or}
use Rattle.gateway_types.specs.declared.looks.Permit.{Permit}
use Rattle.head_packed.specs.HeadText.{head_text, line_feeds}
use Rattle.rules_ffi_arguments.specs.declared.shapes.HeadShape.{HeadShape}
use Rattle.gateway_rules.specs.declared.stored.Stored.{Stored}
use Rattle.gateway_rules.specs.Moments.{from_tier}
use Rattle.tier_single.specs.declared.found.FoundMeta.{FoundMeta}
use Rattle.gateway_exchanges.specs.declared.found.Look.{Look}

-- status and lines of its head, its moments and numbers
abbrev pub shape_by : FoundMeta → HeadShape
shape_by meta = record {
  status = meta.head.status;
  lines = line_feeds (head_text meta.head);
  fresh_until = from_tier meta.internal.fresh_until;
  created = from_tier meta.internal.created;
  updated = from_tier meta.internal.updated;
  provenance = from_tier (unwrap_or meta.internal.provenance meta.internal.created);
  stale_while_revalidate = meta.internal.stale_while_revalidate_sec;
  stale_if_error = meta.internal.stale_if_error_sec;
  external = meta.external;
  block = record { at = 0; len = 0 };
  reserved = 0;
}

abbrev pub stored_by : FoundMeta → Stored
stored_by meta = record { shape = shape_by meta; head = meta.head }

abbrev pub nothing_found : Permit → Look
nothing_found permit = record { found = None; body = []; fresh = false; whole = false; permit = permit }
