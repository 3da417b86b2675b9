-- Which responses are kept, and what a put of one answers.
use Rattle.std.specs.Prelude.{◌≡◌, ℕ, List, length, Option, None, Result, Ok, Err, ⊤}
use Rattle.cache_words.specs.Time.{DurationValue}
use Rattle.cache_heads.specs.declared.defaults.CacheMetaDefaults.{CacheMetaDefaults}
use Rattle.cache_heads.specs.declared.defaults.NeverByStatus.{NeverByStatus}
use Rattle.cache_heads.specs.declared.meta.CacheMeta.{CacheMeta}
use Rattle.cache_store.specs.StoreState.{StoreState}
use Rattle.request_puts.specs.declared.put.whole.ResponseVerdict.{ResponseVerdict}
use Rattle.request_puts.specs.declared.put.whole.ResponseVerdict.TheVariants as whole
use Rattle.request_puts.specs.declared.put.outcome.PutFault.{PutFault}
use Rattle.request_puts.specs.declared.put.outcome.PutFault.TheVariants.{BadHead, Incomplete, ResponseTooLarge}
use Rattle.request_puts.specs.declared.put.outcome.PutOutcome.{PutOutcome}
use Rattle.request_puts.specs.declared.put.outcome.PutOutcome.TheVariants.{Stored, Uncacheable}

-- no lifetime by status, and no time in which a stale response is served
abbrev pub no_defaults : CacheMetaDefaults NeverByStatus
no_defaults = record { fresh_sec_fn = record {}; stale_while_revalidate_sec = 0; stale_if_error_sec = 0 }

abbrev pub never : NeverByStatus → ℕ → Option DurationValue
never f status = None

-- what a put answers for a response, and the store then: a body that may be kept, of the size that is told, may be there; for what may not be
-- kept, is no response, or ends too early, all is as before
abbrev pub IsPut : (ResponseVerdict → Type 0) → StoreState → Result PutOutcome PutFault → StoreState → Type 0
IsPut gives old (Ok (Stored size evicted)) new = (meta : CacheMeta) × (body : List ℕ) × gives (whole.Cacheable meta body) × (size ≡ length body)
IsPut gives old (Ok (Uncacheable reason)) new = gives (whole.Uncacheable reason) × (new ≡ old)
IsPut gives old (Err BadHead) new = gives whole.BadHead × (new ≡ old)
IsPut gives old (Err Incomplete) new = gives whole.Incomplete × (new ≡ old)
IsPut gives old (Err ResponseTooLarge) new = gives whole.TooLarge × (new ≡ old)
IsPut gives old (Err fault) new = ⊤
