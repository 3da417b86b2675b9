-- What the tier makes of a head that confirms what a request found past its moment.
use Rattle.std.specs.Prelude.{◌≡◌, ◌≢◌, ℕ, List, Bool, true, false, Option, Result, Ok, Err, MatchOption}
use Rattle.cache_words.specs.Time.{MomentValue}
use Rattle.cache_heads.specs.declared.given.GivenMeta.{GivenMeta}
use Rattle.cache_heads.specs.declared.meta.CacheMeta.{CacheMeta}
use Rattle.head_parse.specs.Response.{Reading, IsReading, head_of}
use Rattle.tier_model.specs.declared.event.TierFault.{TierFault}
use Rattle.tier_model.specs.declared.event.TierFault.TheVariants as fault
use Rattle.tier_model.specs.Response.{Judged, kept, not_kept, too_early, not_read, renewed_by, confirmed_alone}
use Rattle.tier_model.specs.Shelf.{Shelf}
use Rattle.tier_model.specs.State.{Request}
use Rattle.tier_model.specs.Answers.{seen_meta, is_body_seen}
use Rattle.tier_requests.specs.Faults.{out_of_memory}
use Rattle.tier_single.specs.declared.put.Renewal.{Renewal}
use Rattle.tier_single.specs.declared.put.Renewal.TheVariants.{Renewed, NotRenewed}

-- the bytes give that of the meta that was found, coming at a moment, by one of their readings
abbrev pub ConfirmsTo : Option GivenMeta → MomentValue → List ℕ → CacheMeta → Judged → Type 0
ConfirmsTo given t head old j = (r : Reading) × IsReading head r × (confirmed_alone given t old (head_of r) ≡ j)

-- the bytes are such a head, whatever it gives
abbrev pub IsConfirmingHead : Option GivenMeta → MomentValue → List ℕ → CacheMeta → Type 0
IsConfirmingHead given t head old = (r : Reading) × IsReading head r × (confirmed_alone given t old (head_of r) ≢ not_read)

-- what it gives, but for what stays the old one's
abbrev pub renewal_in : Renewal → Judged
renewal_in (Renewed meta) = kept meta
renewal_in (NotRenewed reason sent) = not_kept reason

-- a head that confirms that meta is judged with it, by whether that is the meta of the body; or it is refused: no head comes before no body
abbrev pub IsConfirmedBy : Option GivenMeta → MomentValue → List ℕ → CacheMeta → Bool → Result Renewal TierFault → Type 0
IsConfirmedBy given t head old there (Ok n) = (there ≡ true) × ConfirmsTo given t head old (renewed_by old (renewal_in n))
IsConfirmedBy given t head old there (Err fault.BadHead) = ConfirmsTo given t head old not_read
IsConfirmedBy given t head old there (Err fault.NotStored) = (there ≡ false) × IsConfirmingHead given t head old
IsConfirmedBy given t head old there (Err fault.BeforeEpoch) = (there ≡ true) × ConfirmsTo given t head old too_early
IsConfirmedBy given t head old there (Err f) = f ≡ out_of_memory

-- the same of what a request has seen
abbrev pub IsConfirmedFor : Option GivenMeta → MomentValue → List ℕ → Request → Shelf → Result Renewal TierFault → Type 0
IsConfirmedFor given t head q shelf r = MatchOption (seen_meta q) ⊥ (λ old. IsConfirmedBy given t head old (is_body_seen q shelf) r)
