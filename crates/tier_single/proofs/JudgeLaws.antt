-- What the head of a response gives.
use Rattle.std.proofs.Common.{◌≡◌, ◌≢◌, ℕ, refl, ap, sym, ◌∙◌, subst, Some, None, Option, true, false, cond}
use Rattle.std.specs.Prelude.{Bool, List, Result, Ok, Err, ◌||◌, codes}
use Rattle.cache_words.specs.Time.{MomentValue}
use Rattle.cache_heads.specs.declared.given.GivenMeta.{GivenMeta}
use Rattle.head_directives.specs.Written.{Written}
use Rattle.head_directives.specs.Control.{named, lines_under}
use Rattle.head_lines.specs.declared.header.ResponseHeader.{ResponseHeader}
use Rattle.cache_heads.specs.FreshUntil.{fresh_until_by}
use Rattle.cache_heads.specs.Verdict as verdicts
use Rattle.cache_heads.specs.Meta.{new_meta}
use Rattle.cache_heads.specs.Stale.{revalidate_window, error_window}
use Rattle.cache_heads.specs.declared.meta.CacheMeta.{CacheMeta}
use Rattle.cache_heads.specs.declared.reason.NoCacheReason.{NoCacheReason}
use Rattle.cache_heads.specs.declared.reason.NoCacheReason.TheVariants.{StorageError}
use Rattle.cache_heads.specs.declared.reason.RespCacheable.{RespCacheable}
use Rattle.cache_heads.specs.declared.reason.RespCacheable.TheVariants as verdict
use Rattle.tier_model.specs.declared.event.TierFault.{TierFault}
use Rattle.tier_model.specs.declared.event.TierFault.TheVariants as fault
use Rattle.tier_model.specs.Response.{Judged, kept, not_kept, too_early, not_read, judged, judged_by, judged_alone, is_before_epoch}
use Rattle.tier_single.specs.declared.put.Verdict.{Verdict}
use Rattle.tier_single.specs.Puts.{since_epoch, kept_by}
use Rattle.tier_single.specs.Given.{IsAsGiven}
use Rattle.tier_single.specs.Heads.{HasHead, IsVerdictOn, IsJudged, not_kept_by}

-- what the tier's verdict on a header is, by the model's words
abbrev pub IsVerdict : RespCacheable → Judged → Type 0
IsVerdict (verdict.Cacheable meta) j = j ≡ kept meta
IsVerdict (verdict.Uncacheable StorageError) j = j ≡ too_early
IsVerdict (verdict.Uncacheable reason) j = j ≡ not_kept reason

by_until : (t : MomentValue) (until : Option MomentValue) (ds : Option (List Written)) (header : ResponseHeader)
    → IsVerdict (since_epoch t (verdicts.kept_until until t ds header 0 0)) (judged_by t (verdicts.kept_until until t ds header 0 0))
by_until t None ds header = refl
by_until t (Some until) ds header = by_test (is_before_epoch t || is_before_epoch until)
  where
    meta : CacheMeta
    meta = new_meta until t (revalidate_window ds 0) (error_window ds 0) (verdicts.kept_header header ds)

    by_test : (v : Bool) → IsVerdict (cond v (verdict.Uncacheable StorageError) (verdict.Cacheable meta)) (cond v too_early (kept meta))
    by_test true = refl
    by_test false = refl

pub is-verdict : (t : MomentValue) (header : ResponseHeader) → IsVerdict (kept_by t header) (judged t header)
is-verdict t header =
    let lines = lines_under (codes "cache-control") header.headers in
    by_until t (fresh_until_by t (named lines) (lines_under (codes "expires") header.headers) false None) (named lines) header

-- a header is judged as the tier's verdict on it is
pub verdict-kept : (t : MomentValue) (header : ResponseHeader) (meta : CacheMeta) → kept_by t header ≡ verdict.Cacheable meta → judged t header ≡ kept meta
verdict-kept t header meta is = subst (λ (v : RespCacheable). IsVerdict v (judged t header)) is (is-verdict t header)

pub verdict-not : (t : MomentValue) (header : ResponseHeader) (reason : NoCacheReason) → kept_by t header ≡ verdict.Uncacheable reason → IsVerdictOn None t header (not_kept_by reason)
verdict-not t header reason is = by_reason reason (subst (λ (v : RespCacheable). IsVerdict v (judged t header)) is (is-verdict t header))
  where
    by_reason : (reason : NoCacheReason) → IsVerdict (verdict.Uncacheable reason) (judged t header) → IsVerdictOn None t header (not_kept_by reason)
    by_reason StorageError is = is
    by_reason _ is = is

-- a header that was read is none that isn't
by_verdict : (v : RespCacheable) (j : Judged) → IsVerdict v j → j ≢ not_read
by_verdict (verdict.Cacheable meta) j is none = let clash : kept meta ≡ not_read = sym is ∙ none in absurd cc
by_verdict (verdict.Uncacheable StorageError) j is none = let clash : too_early ≡ not_read = sym is ∙ none in absurd cc
by_verdict (verdict.Uncacheable reason) j is none = by_reason reason is
  where
    by_reason : (reason : NoCacheReason) → IsVerdict (verdict.Uncacheable reason) j → ⊥
    by_reason StorageError is = let clash : too_early ≡ not_read = sym is ∙ none in absurd cc
    by_reason reason is = let clash : not_kept reason ≡ not_read = sym is ∙ none in absurd cc

pub verdict-read : (t : MomentValue) (header : ResponseHeader) → judged t header ≢ not_read
verdict-read t header = by_verdict (kept_by t header) (judged t header) (is-verdict t header)

-- with a given meta it has no body of its own, or one of the moments lies before 1970
pub given-fault : (s : GivenMeta) (t : MomentValue) (header : ResponseHeader) (f : TierFault) → IsAsGiven s header (Err f) → IsVerdictOn (Some s) t header (Err f)
given-fault s t header fault.BadHead gives = gives
given-fault s t header fault.BeforeEpoch gives = gives
given-fault s t header f gives = absurd gives

-- ---- of a begin

pub judged-head : (given : Option GivenMeta) (t : MomentValue) (head : List ℕ) (header : ResponseHeader) (r : Result Verdict TierFault) → HasHead head (Some header) → IsVerdictOn given t header r → IsJudged given t head r
judged-head given t head header (Ok v) read is = (read.0, read.1, ap (judged_alone given t) read.2 ∙ is)
judged-head given t head header (Err fault.BadHead) read is = (read.0, read.1, ap (judged_alone given t) read.2 ∙ is)
judged-head given t head header (Err fault.BeforeEpoch) read is = (read.0, read.1, ap (judged_alone given t) read.2 ∙ is)
judged-head given t head header (Err f) read is = is
