-- What a response gives of which the tier decides, and which refusals of a put it may meet.
use Rattle.std.proofs.Common.{◌≡◌, ℕ, List, [], refl, ap, sym, ◌∙◌, subst, Some, None, Option, true, false, inl, inr, cond}
use Rattle.std.specs.Prelude.{Bool, ◌||◌, ◌⊎◌, codes}
use Rattle.cache_words.specs.Time.{MomentValue}
use Rattle.head_metas.specs.Internal.{IsWritable}
use Rattle.head_directives.specs.Written.{Written}
use Rattle.head_directives.specs.Control.{named, lines_under}
use Rattle.head_lines.specs.declared.header.ResponseHeader.{ResponseHeader}
use Rattle.cache_heads.specs.FreshUntil.{fresh_until_by}
use Rattle.cache_heads.specs.Verdict as verdicts
use Rattle.cache_heads.specs.Meta.{new_meta}
use Rattle.cache_heads.specs.Stale.{revalidate_window, error_window}
use Rattle.cache_heads.specs.declared.meta.CacheMeta.{CacheMeta}
use Rattle.cache_heads.specs.declared.reason.NoCacheReason.TheVariants.{OriginNotCache, StorageError, ResponseTooLarge}
use Rattle.cache_heads.specs.declared.reason.RespCacheable.{RespCacheable}
use Rattle.cache_heads.specs.declared.reason.RespCacheable.TheVariants as verdict
use Rattle.cache_evict.specs.declared.fault.EvictFault.{EvictFault}
use Rattle.cache_evict.specs.declared.fault.EvictFault.TheVariants as evict
use Rattle.cache_evict.specs.Faults.{evicted_of}
use Rattle.cache_entries.specs.declared.entry.CacheEntryKey.{CacheEntryKey}
use Rattle.head_parse.specs.declared.response.Parsed.{Parsed}
use Rattle.head_parse.specs.declared.response.Parsed.TheVariants as parsed
use Rattle.head_parse.specs.Parse.{content_length}
use Rattle.request_store.specs.Admissions.{IsDone}
use Rattle.request_store.specs.declared.done.Done.{Done as PutDone}
use Rattle.request_puts.specs.Put.{IsTold}
use Rattle.request_puts.specs.Response as cache
use Rattle.request_puts.specs.Response.{judged, judged_short}
use Rattle.request_puts.specs.declared.put.whole.ResponseVerdict.{ResponseVerdict as Given}
use Rattle.request_puts.specs.declared.put.whole.ResponseVerdict.TheVariants as given
use Rattle.request_puts.specs.declared.put.outcome.PutFault.{PutFault}
use Rattle.request_puts.specs.declared.put.outcome.PutFault.TheVariants as put
use Rattle.tier_model.specs.declared.event.Done.{Done}
use Rattle.tier_model.specs.declared.event.TierFault.{TierFault}
use Rattle.tier_model.specs.declared.event.TierFault.TheVariants as tier
use Rattle.tier_model.specs.Calls.{nothing_done}
use Rattle.tier_model.specs.declared.whole.PutVerdict.{PutVerdict}
use Rattle.tier_model.specs.declared.whole.PutVerdict.TheVariants as whole
use Rattle.tier_model.specs.Response.{kept, too_early, is_before_epoch, judged_by, whole_with, whole_by}
use Rattle.tier_requests.specs.Faults.{fault_for}
use Rattle.tier_single.specs.Puts.{done_as, since_epoch, kept_by, IsToldAs, IsTellable}
use Rattle.tier_single.proofs.DatedLaws.{new-dated}

-- what a response gives a put, and what it gives by the tier's own words. What is kept can be written
abbrev pub IsWholeFor : Given → PutVerdict → Type 0
IsWholeFor (given.Cacheable meta body) g = (g ≡ whole.Stored (record { bytes = body; meta = meta })) × IsWritable meta.internal
IsWholeFor (given.Uncacheable reason) g = ((reason ≡ OriginNotCache) × (g ≡ whole.Uncacheable OriginNotCache)) ⊎ ((reason ≡ StorageError) × (g ≡ whole.BeforeEpoch))
IsWholeFor given.TooLarge g = ⊥
IsWholeFor given.Incomplete g = g ≡ whole.Incomplete
IsWholeFor given.BadHead g = g ≡ whole.BadHead

-- without a size limit all that may be kept is
unlimited : (announced : Option ℕ) → cache.announces_past None announced ≡ false
unlimited None = refl
unlimited (Some length) = refl

judged-kept : (meta : CacheMeta) (body : List ℕ) → judged None (verdict.Cacheable meta) body ≡ given.Cacheable meta body
judged-kept meta body = ap (λ (v : Bool). cond v (given.Uncacheable ResponseTooLarge) (given.Cacheable meta body)) (unlimited (content_length meta.header))

-- without a size limit what ends too early is incomplete
short-kept : (v : RespCacheable) (len : ℕ) → IsWholeFor (judged_short None v len) whole.Incomplete
short-kept (verdict.Uncacheable reason) len = refl
short-kept (verdict.Cacheable meta) len = refl

module _ (t : MomentValue) where
  by_until : (until : Option MomentValue) (ds : Option (List Written)) (header : ResponseHeader) (body : List ℕ)
      → IsWholeFor (judged None (since_epoch t (verdicts.kept_until until t ds header 0 0)) body) (whole_with body (judged_by t (verdicts.kept_until until t ds header 0 0)))
  by_until None ds header body = inl (refl, refl)
  by_until (Some until) ds header body = by_test (is_before_epoch t || is_before_epoch until) refl
    where
      meta : CacheMeta
      meta = new_meta until t (revalidate_window ds 0) (error_window ds 0) (verdicts.kept_header header ds)

      by_test : (v : Bool) → (is_before_epoch t || is_before_epoch until) ≡ v
          → IsWholeFor (judged None (cond v (verdict.Uncacheable StorageError) (verdict.Cacheable meta)) body) (whole_with body (cond v too_early (kept meta)))
      by_test true e = inr (refl, refl)
      by_test false e =
          subst (λ (w : Given). IsWholeFor w (whole.Stored (record { bytes = body; meta = meta }))) (sym (judged-kept meta body))
          (refl, new-dated t until (revalidate_window ds 0) (error_window ds 0) (verdicts.kept_header header ds) e)

  pub whole-for : (p : Parsed) → IsWholeFor (cache.whole_by None (kept_by t) p) (whole_by t p)
  whole-for (parsed.Complete response) =
      let lines = lines_under (codes "cache-control") response.header.headers in
      by_until (fresh_until_by t (named lines) (lines_under (codes "expires") response.header.headers) false None) (named lines) response.header response.body
  whole-for (parsed.Incomplete None) = refl
  whole-for (parsed.Incomplete (Some short)) = short-kept (kept_by t short.header) short.len
  whole-for parsed.BadHead = refl

-- ---- refusals after a body was stored

-- a fault of the order of use is never a size limit or a moment
pub told-tellable : (a : Bool) (cause : EvictFault) (fault : PutFault) → IsTold a cause fault → IsTellable fault
told-tellable a cause put.ResponseTooLarge t = no_limit cause t
  where
    no_limit : (cause : EvictFault) → IsTold a cause put.ResponseTooLarge → ⊥
    no_limit (evict.Memory v) t = t
    no_limit (evict.Weight v) t = t
    no_limit (evict.Length v) t = t
    no_limit (evict.NumbersSpent v) t = t
    no_limit (evict.File v) t = t
told-tellable a cause put.MetaMoment t = no_moment cause t
  where
    no_moment : (cause : EvictFault) → IsTold a cause put.MetaMoment → ⊥
    no_moment (evict.Memory v) t = t
    no_moment (evict.Weight v) t = t
    no_moment (evict.Length v) t = t
    no_moment (evict.NumbersSpent v) t = t
    no_moment (evict.File v) t = t
told-tellable a cause _ t = tt

-- memory ran out before anything was done
pub nothing-was : (d : PutDone) → IsDone false false [] d → done_as d ≡ nothing_done
nothing-was d i = λ j. record { stored = i.stored j; admitted = i.admitted j; evicted = i.evicted j }

pub done-is : (a : Bool) (es : List CacheEntryKey) (d : PutDone) → IsDone true a es d → done_as d ≡ record { stored = true; admitted = a; evicted = es }
done-is a es d i = λ j. record { stored = i.stored j; admitted = i.admitted j; evicted = i.evicted j }

-- it is reported with what was done
pub told-so : (a : Bool) (cause : EvictFault) (fault : PutFault) (f : TierFault) → IsTold a cause fault → IsToldAs fault f → f ≡ fault_for cause (record { stored = true; admitted = a; evicted = evicted_of cause })
told-so a (evict.Memory v) (put.Memory d) f t e = e ∙ ap (λ (x : Done). tier.Memory x) (done-is a v.items d t)
told-so a (evict.Memory v) _ f t e = absurd t
told-so a (evict.Weight v) (put.Weight d) f t e = e ∙ ap (λ (x : Done). tier.TooHeavy x) (done-is a v.items d t)
told-so a (evict.Weight v) _ f t e = absurd t
told-so a (evict.Length v) (put.Length d) f t e = e ∙ ap (λ (x : Done). tier.TooLong x) (done-is a v.items d t)
told-so a (evict.Length v) _ f t e = absurd t
told-so a (evict.NumbersSpent v) (put.NumbersSpent d) f t e = e ∙ ap (λ (x : Done). tier.NumbersSpent x) (done-is a v.items d t)
told-so a (evict.NumbersSpent v) _ f t e = absurd t
told-so a (evict.File v) _ f t e = absurd t
