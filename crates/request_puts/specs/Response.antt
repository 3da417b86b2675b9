-- What the response of a put gives, as far as a cache may keep it.
use Rattle.std.specs.Prelude.{◌≡◌, ℕ, Bool, false, not, ◌&&◌, nat_lt, List, length, Option, Some, None, codes, if◌then◌else◌}
use Rattle.std.specs.List.{flat_map}
use Rattle.head_lines.specs.declared.header.ResponseHeader.{ResponseHeader}
use Rattle.cache_words.specs.Time.{MomentValue, DurationValue}
use Rattle.head_directives.specs.Control.{named, lines_under}
use Rattle.cache_heads.specs.Verdict.{verdict_by}
use Rattle.cache_heads.specs.declared.defaults.CacheMetaDefaults.{CacheMetaDefaults}
use Rattle.cache_heads.specs.declared.reason.NoCacheReason.TheVariants.{ResponseTooLarge}
use Rattle.cache_heads.specs.declared.reason.RespCacheable.{RespCacheable}
use Rattle.cache_heads.specs.declared.reason.RespCacheable.TheVariants as verdict
use Rattle.head_parse.specs.Response.{Reading, IsReading, parsed_of}
use Rattle.head_parse.specs.Parse.{content_length}
use Rattle.head_parse.specs.declared.response.Parsed.{Parsed}
use Rattle.head_parse.specs.declared.response.Parsed.TheVariants as parsed
use Rattle.request_puts.specs.declared.put.whole.ResponseVerdict.{ResponseVerdict}
use Rattle.request_puts.specs.declared.put.whole.ResponseVerdict.TheVariants.{Cacheable, Uncacheable, TooLarge, Incomplete, BadHead}

-- whether a response with this header is kept that comes at a moment, by its lines and the defaults; its request has no Authorization
abbrev pub verdict_by_headers : {F : Type 0} → MomentValue → ResponseHeader → (F → ℕ → Option DurationValue) → CacheMetaDefaults F → RespCacheable
verdict_by_headers now header duration defaults = verdict_by now (named (lines_under (codes "cache-control") header.headers)) header false duration defaults

-- the pieces, one after another
abbrev pub joined : List (List ℕ) → List ℕ
joined pieces = flat_map (λ piece. piece) pieces

-- a size passes the limit, if there is one
abbrev pub is_past : Option ℕ → ℕ → Bool
is_past None size = false
is_past (Some limit) size = nat_lt limit size

-- the same of a length that is announced, if one is
abbrev pub announces_past : Option ℕ → Option ℕ → Bool
announces_past limit None = false
announces_past limit (Some length) = is_past limit length

-- what a body gives that comes with a verdict on its header. The length is looked for in the header that is kept
abbrev pub judged : Option ℕ → RespCacheable → List ℕ → ResponseVerdict
judged limit (verdict.Uncacheable reason) body = Uncacheable reason
judged limit (verdict.Cacheable meta) body =
    if announces_past limit (content_length meta.header)
    then Uncacheable ResponseTooLarge
    else (if is_past limit (length body) then TooLarge else Cacheable meta body)

-- the same of a body that ends too early, after so many bytes: they may have been written past the limit by then
abbrev pub judged_short : Option ℕ → RespCacheable → ℕ → ResponseVerdict
judged_short limit (verdict.Uncacheable reason) len = Incomplete
judged_short limit (verdict.Cacheable meta) len =
    if is_past limit len && not (announces_past limit (content_length meta.header))
    then TooLarge
    else Incomplete

-- what a response gives, by the verdicts on headers
abbrev pub whole_by : Option ℕ → (ResponseHeader → RespCacheable) → Parsed → ResponseVerdict
whole_by limit verdict_on (parsed.Complete response) = judged limit (verdict_on response.header) response.body
whole_by limit verdict_on (parsed.Incomplete (Some short)) = judged_short limit (verdict_on short.header) short.len
whole_by limit verdict_on (parsed.Incomplete None) = Incomplete
whole_by limit verdict_on parsed.BadHead = BadHead

-- that is what the bytes give, by one of their readings
abbrev pub Gives : Option ℕ → (ResponseHeader → RespCacheable) → List ℕ → ResponseVerdict → Type 0
Gives limit verdict_on bytes whole = (r : Reading) × IsReading bytes r × (whole ≡ whole_by limit verdict_on (parsed_of r))
