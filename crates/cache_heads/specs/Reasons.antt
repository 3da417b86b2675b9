-- Names of reasons, and the verdicts that keep a response.
use Rattle.std.specs.Prelude.{List, ℕ, codes}
use Rattle.cache_heads.specs.declared.reason.NoCacheReason.{NoCacheReason}
use Rattle.cache_heads.specs.declared.reason.NoCacheReason.TheVariants.{NeverEnabled, OriginNotCache, ResponseTooLarge, PredictedResponseTooLarge, StorageError, InternalError, Deferred}
use Rattle.cache_heads.specs.declared.reason.NoCacheReason.TheVariants.{DeclinedToUpstream, UpstreamError, CacheLockGiveUp, CacheLockTimeout, CacheLockRetryLimit, Custom}
use Rattle.cache_heads.specs.declared.reason.RespCacheable.{RespCacheable}
use Rattle.cache_heads.specs.declared.reason.RespCacheable.TheVariants.{Cacheable, Uncacheable}

abbrev pub reason_name : NoCacheReason → List ℕ
reason_name NeverEnabled = codes "NeverEnabled"
reason_name OriginNotCache = codes "OriginNotCache"
reason_name ResponseTooLarge = codes "ResponseTooLarge"
reason_name PredictedResponseTooLarge = codes "PredictedResponseTooLarge"
reason_name StorageError = codes "StorageError"
reason_name InternalError = codes "InternalError"
reason_name Deferred = codes "Deferred"
reason_name DeclinedToUpstream = codes "DeclinedToUpstream"
reason_name UpstreamError = codes "UpstreamError"
reason_name CacheLockGiveUp = codes "CacheLockGiveUp"
reason_name CacheLockTimeout = codes "CacheLockTimeout"
reason_name CacheLockRetryLimit = codes "CacheLockRetryLimit"
reason_name (Custom text) = text.now

-- the response is kept
abbrev pub IsCacheable : RespCacheable → Type 0
IsCacheable (Cacheable meta) = Unit {0}
IsCacheable (Uncacheable reason) = ⊥
