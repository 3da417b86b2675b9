-- The moments and numbers of a meta as MessagePack: which texts spell them, and which of these is written. What is
-- written is the latest form alone.
use Rattle.std.specs.Prelude.{◌≡◌, ℕ, ◌^◌, ◌<◌, ◌≤◌, ◌⊎◌, ◌<ℤ◌, ◌≤ℤ◌, pos, nat_lt, List, [], ◌∷◌, ◌++◌, length, Option, Some, None, IfSome}
use Rattle.cache_words.specs.Forms.{shortest, numbers, arrays}
use Rattle.cache_words.specs.Pack.{moment_of, optional_hash_of, SpellsMoment, SpellsOptionalHash, IsHash}
use Rattle.cache_words.specs.Time.{MomentValue, second}
use Rattle.head_metas.specs.declared.versions.EarlyInternalMeta.{EarlyInternalMeta}
use Rattle.head_metas.specs.declared.versions.InternalMetaV2.{InternalMetaV2}
use Rattle.cache_words.specs.Items.{SpellBoth, SpellItems, SpellUnder, SpellThere, SpellsSeconds, SpellsOptionalMoment, optional_moment_of}
use Rattle.head_metas.specs.Versions.{of_early}

-- the fields of an early form
abbrev pub SpellsEarly : (version : ℕ) → EarlyInternalMeta version → List ℕ → Type 0
SpellsEarly version m text =
    SpellBoth SpellsMoment (SpellBoth SpellsMoment (SpellBoth SpellsSeconds SpellsSeconds))
    (m.fresh_until, (m.created, (m.stale_while_revalidate_sec, m.stale_if_error_sec))) text

-- the fields of the latest form in an array of so many items: the seventh to the ninth may be missing
abbrev pub SpellsV2 : ℕ → InternalMetaV2 → List ℕ → Type 0
SpellsV2 count m text =
    SpellBoth SpellsMoment (SpellBoth SpellsMoment (SpellBoth SpellsMoment (SpellBoth SpellsSeconds (SpellBoth SpellsSeconds
    (SpellBoth (SpellThere (nat_lt 6 count) SpellsOptionalHash)
    (SpellBoth (SpellThere (nat_lt 7 count) SpellsOptionalMoment) (SpellThere (nat_lt 8 count) SpellsOptionalMoment)))))))
    (m.fresh_until, (m.created, (m.updated, (m.stale_while_revalidate_sec, (m.stale_if_error_sec, (m.variance, (m.epoch_override, m.provenance))))))) text

-- a meta in one of its forms: an array of 4 is the first, any other begins with its version
abbrev pub SpellsMeta : InternalMetaV2 → List ℕ → Type 0
SpellsMeta m text =
    ((early : EarlyInternalMeta 0) × (m ≡ of_early 0 early) × SpellItems 4 (SpellsEarly 0) early text)
    ⊎ (((early : EarlyInternalMeta 1) × (m ≡ of_early 1 early) × SpellItems 5 (SpellUnder 1 (SpellsEarly 1)) early text)
    ⊎ ((count : ℕ) × (6 ≤ count) × (count ≤ 9) × SpellItems count (SpellUnder 2 (SpellsV2 count)) m text))

-- fewer bytes are not a meta, whatever they are
abbrev pub least_len : ℕ
least_len = 10

abbrev pub IsLongEnough : List ℕ → Type 0
IsLongEnough bytes = least_len ≤ length bytes

-- the input begins with a meta
abbrev pub BeginsWithMeta : List ℕ → InternalMetaV2 → Type 0
BeginsWithMeta bytes m = IsLongEnough bytes × (text : List ℕ) × (rest : List ℕ) × SpellsMeta m text × (bytes ≡ text ++ rest)

-- not before 1970
abbrev pub IsSinceEpoch : MomentValue → Type 0
IsSinceEpoch moment = pos 0 ≤ℤ moment.seconds

-- each of its moments can be written
pub record IsWritable (m : InternalMetaV2) : Type 0 where
  pub fresh_until : IsSinceEpoch m.fresh_until
  pub created : IsSinceEpoch m.created
  pub updated : IsSinceEpoch m.updated
  pub epoch_override : IfSome m.epoch_override IsSinceEpoch
  pub provenance : IfSome m.provenance IsSinceEpoch

-- seconds in 64 bits with a sign, and nanoseconds below a second
abbrev pub IsMoment : MomentValue → Type 0
IsMoment moment = (moment.seconds <ℤ pos (2 ^ 63)) × (moment.nanoseconds < second)

-- what holds of each meta in memory, by the types of its fields
pub record IsMeta (m : InternalMetaV2) : Type 0 where
  pub fresh_until : IsMoment m.fresh_until
  pub created : IsMoment m.created
  pub updated : IsMoment m.updated
  pub revalidate : m.stale_while_revalidate_sec < 2 ^ 32
  pub error : m.stale_if_error_sec < 2 ^ 32
  pub variance : IfSome m.variance IsHash
  pub epoch_override : IfSome m.epoch_override IsMoment
  pub provenance : IfSome m.provenance IsMoment

-- the provenance is an item only where there is one
abbrev pub item_count : Option MomentValue → ℕ
item_count None = 8
item_count (Some provenance) = 9

abbrev pub provenance_of : Option MomentValue → List ℕ
provenance_of None = []
provenance_of (Some provenance) = moment_of provenance

abbrev pub required_of : InternalMetaV2 → List ℕ
required_of m =
    moment_of m.fresh_until ++ (moment_of m.created ++ (moment_of m.updated
    ++ (shortest numbers m.stale_while_revalidate_sec ++ shortest numbers m.stale_if_error_sec)))

abbrev pub optional_of : InternalMetaV2 → List ℕ
optional_of m = optional_hash_of m.variance ++ (optional_moment_of m.epoch_override ++ provenance_of m.provenance)

-- the text that is written
unfoldable pub written_meta : InternalMetaV2 → List ℕ
written_meta m = shortest arrays (item_count m.provenance) ++ (2 ∷ (required_of m ++ optional_of m))
