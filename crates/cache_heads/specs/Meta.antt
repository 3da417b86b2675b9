-- What is kept of a response, without its body.
use Rattle.std.specs.Prelude.{ℕ, ◌+◌, length, Some, None, unwrap_or}
use Rattle.cache_words.specs.Time.{MomentValue}
use Rattle.head_lines.specs.declared.header.ResponseHeader.{ResponseHeader}
use Rattle.head_metas.specs.declared.versions.InternalMetaV2.{InternalMetaV2}
use Rattle.head_metas.specs.Head.{written_head}
use Rattle.head_metas.specs.Internal.{written_meta}
use Rattle.cache_heads.specs.declared.given.GivenMeta.{GivenMeta}
use Rattle.cache_heads.specs.declared.meta.CacheMeta.{CacheMeta}

-- a new meta: updated when it was created, which is its provenance too
abbrev pub new_meta : MomentValue → MomentValue → ℕ → ℕ → ResponseHeader → CacheMeta
new_meta fresh_until created revalidate error header =
    record {
      internal = record {
        fresh_until = fresh_until;
        created = created;
        updated = created;
        stale_while_revalidate_sec = revalidate;
        stale_if_error_sec = error;
        variance = None;
        epoch_override = None;
        provenance = Some created;
      };
      header = header;
      external = 0;
    }

-- what a caller says of a response: its meta but for the head, as a new meta has it
abbrev pub new_given : MomentValue → MomentValue → ℕ → ℕ → GivenMeta
new_given fresh_until created revalidate error =
    record {
      fresh_until = fresh_until;
      created = created;
      updated = created;
      provenance = created;
      stale_while_revalidate_sec = revalidate;
      stale_if_error_sec = error;
      external = 0;
    }

-- the moment from which age counts: the override, else when the meta was updated
abbrev pub epoch_of : InternalMetaV2 → MomentValue
epoch_of m = unwrap_or m.epoch_override m.updated

-- the moment to which the stored object goes back: when it was created, unless another is set
abbrev pub provenance_of : InternalMetaV2 → MomentValue
provenance_of m = unwrap_or m.provenance m.created

-- a response that was validated at `now`, with another freshness and other windows
abbrev pub refreshed : InternalMetaV2 → MomentValue → ℕ → ℕ → MomentValue → InternalMetaV2
refreshed m fresh_until revalidate error now =
    record m {
      fresh_until = fresh_until;
      updated = now;
      stale_while_revalidate_sec = revalidate;
      stale_if_error_sec = error;
    }

-- how many bytes both halves of a meta take as they are written
abbrev pub meta_length : CacheMeta → ℕ
meta_length m = length (written_meta m.internal) + length (written_head m.header)

-- what a meta weighs: what its body has outside, and its two halves as they are written
abbrev pub meta_weight : CacheMeta → ℕ
meta_weight m = m.external + meta_length m
