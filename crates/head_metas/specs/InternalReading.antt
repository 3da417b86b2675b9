-- Reading the moments and numbers of a meta, with the first fault that is met.
use Rattle.std.specs.Prelude.{ℕ, ◌==◌, ◌&&◌, nat_lt, nat_le, if◌then◌else◌, List, length, Result, Ok, Err}
use Rattle.cache_words.specs.declared.pack.fault.PackFault.{PackFault}
use Rattle.cache_words.specs.declared.pack.fault.PackFault.TheVariants.{Short, Range, Length}
use Rattle.cache_words.specs.Forms.{arrays}
use Rattle.cache_words.specs.Reading.{◌>>=◌, number_at, moment_at, optional_hash_at}
use Rattle.head_metas.specs.declared.versions.EarlyInternalMeta.{EarlyInternalMeta}
use Rattle.head_metas.specs.declared.versions.InternalMetaV2.{InternalMetaV2}
use Rattle.head_metas.specs.Internal.{least_len}
use Rattle.cache_words.specs.Items.{seen_as, there_at, byte_at, seconds_at, optional_moment_at}
use Rattle.head_metas.specs.Versions.{of_early}

unfoldable pub early_at : (version : ℕ) → List ℕ → Result (EarlyInternalMeta version × List ℕ) PackFault
early_at version bytes = do
  fresh_until ← moment_at bytes
  created ← moment_at fresh_until.1
  revalidate ← seconds_at created.1
  error ← seconds_at revalidate.1
  Ok (
    record {
      fresh_until = fresh_until.0;
      created = created.0;
      stale_while_revalidate_sec = revalidate.0;
      stale_if_error_sec = error.0;
    },
    error.1,
  )

-- of so many items: the seventh to the ninth may be missing
unfoldable pub v2_at : ℕ → List ℕ → Result (InternalMetaV2 × List ℕ) PackFault
v2_at count bytes = do
  fresh_until ← moment_at bytes
  created ← moment_at fresh_until.1
  updated ← moment_at created.1
  revalidate ← seconds_at updated.1
  error ← seconds_at revalidate.1
  variance ← there_at (nat_lt 6 count) optional_hash_at error.1
  epoch_override ← there_at (nat_lt 7 count) optional_moment_at variance.1
  provenance ← there_at (nat_lt 8 count) optional_moment_at epoch_override.1
  Ok (
    record {
      fresh_until = fresh_until.0;
      created = created.0;
      updated = updated.0;
      stale_while_revalidate_sec = revalidate.0;
      stale_if_error_sec = error.0;
      variance = variance.0;
      epoch_override = epoch_override.0;
      provenance = provenance.0;
    },
    provenance.1,
  )

-- what follows the version, in an array of so many items
unfoldable pub versioned_at : ℕ → ℕ → List ℕ → Result (InternalMetaV2 × List ℕ) PackFault
versioned_at version count bytes =
    if version == 1 then (if count == 5 then seen_as (of_early 1) (early_at 1 bytes) else Err Length)
    else if version == 2 then (if nat_le 6 count && nat_le count 9 then v2_at count bytes else Err Length)
    else Err Range

-- the meta at the front: an array of 4 is the first form, any other begins with its version
unfoldable pub form_at : List ℕ → Result (InternalMetaV2 × List ℕ) PackFault
form_at bytes = do
  n ← number_at arrays bytes
  if n.0 == 4 then seen_as (of_early 0) (early_at 0 n.1) else (byte_at n.1 >>= λ version. versioned_at version.0 n.0 version.1)

-- the same of a whole input, which is not too short
unfoldable pub meta_at : List ℕ → Result (InternalMetaV2 × List ℕ) PackFault
meta_at bytes = if nat_lt (length bytes) least_len then Err Short else form_at bytes

-- a value that was read, without the bytes after it
abbrev pub value_of : {X : Type 0} → Result (X × List ℕ) PackFault → Result X PackFault
value_of read = read >>= λ x. Ok x.0
