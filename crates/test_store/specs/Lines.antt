-- How the tests' puts judge a response.
use Rattle.std.specs.Prelude.{ℕ, Option, None}
use Rattle.cache_words.specs.Time.{MomentValue, DurationValue}
use Rattle.head_lines.specs.declared.header.ResponseHeader.{ResponseHeader}
use Rattle.cache_heads.specs.declared.defaults.CacheMetaDefaults.{CacheMetaDefaults}
use Rattle.cache_heads.specs.declared.defaults.NeverByStatus.{NeverByStatus}
use Rattle.cache_heads.specs.declared.reason.RespCacheable.{RespCacheable}
use Rattle.request_puts.specs.Response.{verdict_by_headers}

-- no lifetime by status, and one second in which a stale response is served
abbrev pub one_second : CacheMetaDefaults NeverByStatus
one_second = record { fresh_sec_fn = record {}; stale_while_revalidate_sec = 1; stale_if_error_sec = 1 }

abbrev pub never : NeverByStatus → ℕ → Option DurationValue
never f status = None

-- by the lines of its header
abbrev pub by_lines : MomentValue → ResponseHeader → RespCacheable
by_lines moment header = verdict_by_headers moment header never one_second
