-- Whether a response is kept, and as what.
use Rattle.std.specs.Prelude.{ℕ, Bool, List, Option, Some, None}
use Rattle.cache_words.specs.Time.{MomentValue, DurationValue}
use Rattle.head_directives.specs.Written.{Written}
use Rattle.head_directives.specs.Lifetime.{stripped}
use Rattle.head_lines.specs.declared.header.ResponseHeader.{ResponseHeader}
use Rattle.cache_heads.specs.FreshUntil.{fresh_until_of}
use Rattle.cache_heads.specs.Stale.{revalidate_window, error_window}
use Rattle.cache_heads.specs.Meta.{new_meta}
use Rattle.cache_heads.specs.Defaults.{status_lifetime}
use Rattle.cache_heads.specs.declared.defaults.CacheMetaDefaults.{CacheMetaDefaults}
use Rattle.cache_heads.specs.declared.reason.NoCacheReason.TheVariants.{OriginNotCache}
use Rattle.cache_heads.specs.declared.reason.RespCacheable.{RespCacheable}
use Rattle.cache_heads.specs.declared.reason.RespCacheable.TheVariants.{Cacheable, Uncacheable}

-- the head that is kept: without the fields that the directives list
abbrev pub kept_header : ResponseHeader → Option (List Written) → ResponseHeader
kept_header header None = header
kept_header header (Some ds) = record header { headers = stripped header.headers ds }

abbrev pub kept_until : Option MomentValue → MomentValue → Option (List Written) → ResponseHeader → ℕ → ℕ → RespCacheable
kept_until None now ds header revalidate error = Uncacheable OriginNotCache
kept_until (Some until) now ds header revalidate error =
    Cacheable (new_meta until now (revalidate_window ds revalidate) (error_window ds error) (kept_header header ds))

-- by the moment at which the response came, its directives and head, whether its request had Authorization, and the
-- defaults: the lifetime of its status and both windows
abbrev pub verdict : MomentValue → Option (List Written) → ResponseHeader → Bool → Option DurationValue → ℕ → ℕ → RespCacheable
verdict now ds header authorized default revalidate error =
    kept_until (fresh_until_of now ds header authorized default) now ds header revalidate error

-- the same with the defaults together; `duration` gives the lifetime by status
abbrev pub verdict_by : {F : Type 0} → MomentValue → Option (List Written) → ResponseHeader → Bool → (F → ℕ → Option DurationValue) → CacheMetaDefaults F → RespCacheable
verdict_by now ds header authorized duration defaults =
    verdict now ds header authorized (status_lifetime duration defaults header.status) defaults.stale_while_revalidate_sec defaults.stale_if_error_sec
