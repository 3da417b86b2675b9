-- What the tier makes of a response with what its caller says of it.
use Rattle.std.specs.Prelude.{◌≡◌, ℕ, List, Result, Ok, Err}
use Rattle.head_lines.specs.declared.header.ResponseHeader.{ResponseHeader}
use Rattle.cache_heads.specs.declared.given.GivenMeta.{GivenMeta}
use Rattle.cache_heads.specs.declared.meta.CacheMeta.{CacheMeta}
use Rattle.head_parse.specs.Response.{Reading, IsReading}
use Rattle.tier_model.specs.declared.event.TierFault.{TierFault}
use Rattle.tier_model.specs.declared.event.TierFault.TheVariants as fault
use Rattle.tier_model.specs.declared.whole.PutVerdict.{PutVerdict}
use Rattle.tier_model.specs.declared.whole.PutVerdict.TheVariants.{Stored, Incomplete, BadHead, BeforeEpoch}
use Rattle.tier_model.specs.Response.{kept, too_early, not_read, given_unless, as_given, renewal_too_early, whole_given}
use Rattle.tier_requests.specs.Faults.{out_of_memory}
use Rattle.tier_single.specs.declared.given.WholeGiven.{WholeGiven}

-- a header has the meta that was given with it, or it has no body of its own, or one of the moments lies before 1970
abbrev pub IsAsGiven : GivenMeta → ResponseHeader → Result CacheMeta TierFault → Type 0
IsAsGiven s header (Ok meta) = as_given s header ≡ kept meta
IsAsGiven s header (Err fault.BadHead) = as_given s header ≡ not_read
IsAsGiven s header (Err fault.BeforeEpoch) = as_given s header ≡ too_early
IsAsGiven s header (Err f) = ⊥

-- the same in a renewal, whose header is one of a response that is answered
abbrev pub IsRenewedAsGiven : GivenMeta → ResponseHeader → Result CacheMeta TierFault → Type 0
IsRenewedAsGiven s header (Ok meta) = given_unless (renewal_too_early s) s header ≡ kept meta
IsRenewedAsGiven s header (Err f) = (f ≡ fault.BeforeEpoch) × (given_unless (renewal_too_early s) s header ≡ too_early)

-- the bytes of a response give that with a given meta, by one of their readings
abbrev pub GivesWhole : GivenMeta → List ℕ → PutVerdict → Type 0
GivesWhole s bytes w = (r : Reading) × IsReading bytes r × (whole_given s r ≡ w)

-- a response with a given meta is read, or refused
abbrev pub IsWholeGiven : GivenMeta → List ℕ → Result WholeGiven TierFault → Type 0
IsWholeGiven s bytes (Ok w) = GivesWhole s bytes (Stored (record { bytes = w.body; meta = w.meta }))
IsWholeGiven s bytes (Err fault.Incomplete) = GivesWhole s bytes Incomplete
IsWholeGiven s bytes (Err fault.BadHead) = GivesWhole s bytes BadHead
IsWholeGiven s bytes (Err fault.BeforeEpoch) = GivesWhole s bytes BeforeEpoch
IsWholeGiven s bytes (Err f) = f ≡ out_of_memory
