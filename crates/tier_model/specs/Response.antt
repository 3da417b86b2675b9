-- What the response of a put, and the head of a begin or of a revalidation, give at the moment at which they come.
use Rattle.std.specs.Prelude.{◌≡◌, ◌≤◌, ◌==◌, ◌&&◌, not, nat_le, nat_lt, ℕ, Bool, true, false, List, [], length, map, codes, if◌then◌else◌, ◌||◌, Option, Some, None, pos, int_lt}
use Rattle.std.specs.List.{flat_map}
use Rattle.cache_words.specs.Time.{MomentValue}
use Rattle.head_directives.specs.Control.{named, lines_under}
use Rattle.head_lines.specs.Lines.{map_of}
use Rattle.head_lines.specs.declared.header.ResponseHeader.{ResponseHeader}
use Rattle.cache_heads.specs.Merged.{merged, renewed_from}
use Rattle.cache_heads.specs.Verdict.{verdict}
use Rattle.cache_heads.specs.declared.given.GivenMeta.{GivenMeta}
use Rattle.cache_heads.specs.declared.meta.CacheMeta.{CacheMeta}
use Rattle.cache_heads.specs.declared.reason.NoCacheReason.{NoCacheReason}
use Rattle.cache_heads.specs.declared.reason.RespCacheable.{RespCacheable}
use Rattle.cache_heads.specs.declared.reason.RespCacheable.TheVariants as cacheable
use Rattle.httparse.specs.Grammar.{ResponseHead, ReadsResponse, status_code}
use Rattle.httparse.specs.Spans.{name_and_value}
use Rattle.head_parse.specs.Response.{Reading, whole_head, begun_head, no_head, IsReading, is_within_bounds, parsed_of, head_of}
use Rattle.head_parse.specs.declared.response.Parsed.{Parsed}
use Rattle.head_parse.specs.declared.response.Parsed.TheVariants as parsed
use Rattle.tier_model.specs.declared.event.Action.{Action}
use Rattle.tier_model.specs.declared.event.Action.TheVariants.{Begin, Revalidate, Put}
use Rattle.tier_model.specs.declared.whole.PutVerdict.{PutVerdict}
use Rattle.tier_model.specs.declared.whole.PutVerdict.TheVariants.{Stored, Uncacheable, Incomplete, BadHead, BeforeEpoch}

-- the pieces, one after another
abbrev pub joined : List (List ℕ) → List ℕ
joined pieces = flat_map (λ piece. piece) pieces

-- 1970 had not begun
abbrev pub is_before_epoch : MomentValue → Bool
is_before_epoch t = int_lt t.seconds (pos 0)

-- the verdict on the head of a response that comes at a moment. The tier knows no default lifetimes, and its requests have no
-- Authorization
abbrev pub verdict_on : MomentValue → ResponseHeader → RespCacheable
verdict_on arrival header = verdict arrival (named (lines_under (codes "cache-control") header.headers)) header false None 0 0

-- what a head gives at the moment at which it comes
pub data Judged : Type 0 where
  -- it is kept, with this meta
  kept : CacheMeta → Judged
  -- it may not be kept
  not_kept : NoCacheReason → Judged
  -- it came, or is fresh, only before 1970
  too_early : Judged
  -- it is none
  not_read : Judged

abbrev pub judged_by : MomentValue → RespCacheable → Judged
judged_by arrival (cacheable.Uncacheable reason) = not_kept reason
judged_by arrival (cacheable.Cacheable meta) = if is_before_epoch arrival || is_before_epoch meta.internal.fresh_until then too_early else kept meta

abbrev pub judged : MomentValue → ResponseHeader → Judged
judged arrival header = judged_by arrival (verdict_on arrival header)

-- one of the moments that are given lies before 1970
abbrev pub given_too_early : GivenMeta → Bool
given_too_early s = is_before_epoch s.fresh_until || (is_before_epoch s.created || (is_before_epoch s.updated || is_before_epoch s.provenance))

-- a head with what the caller says of it, whatever its own lines say: it is kept whole
abbrev pub meta_given : GivenMeta → ResponseHeader → CacheMeta
meta_given s header = record {
  internal = record {
    fresh_until = s.fresh_until;
    created = s.created;
    updated = s.updated;
    stale_while_revalidate_sec = s.stale_while_revalidate_sec;
    stale_if_error_sec = s.stale_if_error_sec;
    variance = None;
    epoch_override = None;
    provenance = Some s.provenance;
  };
  header = header;
  external = s.external;
}

abbrev pub given_unless : Bool → GivenMeta → ResponseHeader → Judged
given_unless early s header = if early then too_early else kept (meta_given s header)

-- a final response's status that speaks of its own body: none of an interim response (RFC 9110, 15.2), and not 304, whose head confirms
-- what is stored (15.4.5). So are those beyond 599, under which a list of variants is stored
abbrev pub has_own_body : ℕ → Bool
has_own_body status = nat_le 200 status && not (status == 304)

-- a status with which a response is answered, of such a one
abbrev pub is_answered : ℕ → Bool
is_answered status = has_own_body status && nat_lt status 600

-- with a given meta a head is stored that has a body of its own
abbrev pub as_given : GivenMeta → ResponseHeader → Judged
as_given s header = if has_own_body header.status then given_unless (given_too_early s) s header else not_read

-- by what the caller says of it, else by its lines
abbrev pub judged_with : Option GivenMeta → MomentValue → ResponseHeader → Judged
judged_with None t header = judged t header
judged_with (Some s) t header = as_given s header

-- the same with its whole body
abbrev pub whole_with : List ℕ → Judged → PutVerdict
whole_with bytes (kept meta) = Stored (record { bytes = bytes; meta = meta })
whole_with bytes (not_kept reason) = Uncacheable reason
whole_with bytes too_early = BeforeEpoch
whole_with bytes not_read = BadHead

-- what a response gives, coming at a moment
abbrev pub whole_by : MomentValue → Parsed → PutVerdict
whole_by arrival (parsed.Complete response) = whole_with response.body (judged arrival response.header)
whole_by arrival (parsed.Incomplete short) = Incomplete
whole_by arrival parsed.BadHead = whole_with [] not_read

-- what a reading of it gives
abbrev pub whole_of : MomentValue → Reading → PutVerdict
whole_of arrival r = whole_by arrival (parsed_of r)

-- with a given meta a put's body is all that comes after the head, whatever that announces
abbrev pub whole_given : GivenMeta → Reading → PutVerdict
whole_given s (whole_head status lines rest) =
    if is_within_bounds status lines then whole_with rest (as_given s (record { status = status; headers = map_of lines })) else BadHead
whole_given s begun_head = Incomplete
whole_given s no_head = BadHead

abbrev pub whole_as : Option GivenMeta → MomentValue → Reading → PutVerdict
whole_as None t r = whole_of t r
whole_as (Some s) t r = whole_given s r

-- the response of a put was read, as a reading of its pieces, and the head of a begin or a revalidation, as one of its bytes, or none was,
-- where memory ran out first; nothing else is read
abbrev pub IsRead : Action → Option Reading → Type 0
IsRead (Put key pieces given) (Some r) = IsReading (joined pieces) r
IsRead (Begin request head given) (Some r) = IsReading head r
IsRead (Revalidate request head given) (Some r) = IsReading head r
IsRead action None = Unit {0}
IsRead action (Some r) = ⊥

-- what a put's response gives, where it was read
abbrev pub whole_in : MomentValue → Action → Option Reading → Option PutVerdict
whole_in t (Put key pieces given) (Some r) = Some (whole_as given t r)
whole_in t _ _ = None

abbrev pub judged_alone : Option GivenMeta → MomentValue → Option ResponseHeader → Judged
judged_alone given arrival None = not_read
judged_alone given arrival (Some header) = judged_with given arrival header

-- what a begin's head gives, where it was read: the bytes are a whole head with nothing after it
abbrev pub judged_in : MomentValue → Action → Option Reading → Option Judged
judged_in t (Begin request head given) (Some r) = Some (judged_alone given t (head_of r))
judged_in t _ _ = None

-- with the creation and the provenance of what it renews
abbrev pub renewed_by : CacheMeta → Judged → Judged
renewed_by old (kept meta) = kept (renewed_from (Some old) meta)
renewed_by old j = j

-- of a renewal creation and provenance are the old ones: only its own two moments count
abbrev pub renewal_too_early : GivenMeta → Bool
renewal_too_early s = is_before_epoch s.fresh_until || is_before_epoch s.updated

-- what a head of status 304 gives that confirms what was found (RFC 9111, 4.3.4): the found head with those of the five
-- fields that were sent is judged; with a given meta the head is the whole new one, which is then answered, so it isn't the 304's own
abbrev pub confirmed_alone : Option GivenMeta → MomentValue → CacheMeta → Option ResponseHeader → Judged
confirmed_alone given t old None = not_read
confirmed_alone None t old (Some sent) = if sent.status == 304 then renewed_by old (judged t (merged old.header sent)) else not_read
confirmed_alone (Some s) t old (Some header) = if is_answered header.status then renewed_by old (given_unless (renewal_too_early s) s header) else not_read

-- what the head of a revalidation gives, where it was read, by the meta that was found
abbrev pub confirmed_in : MomentValue → Option CacheMeta → Action → Option Reading → Option Judged
confirmed_in t (Some old) (Revalidate request head given) (Some r) = Some (confirmed_alone given t old (head_of r))
confirmed_in t _ _ _ = None

-- the bytes are one head that the parser's default options read (RFC 9112), of at most 256 lines and within bounds, with nothing after it
abbrev pub IsOneHeadOf : ResponseHead → List ℕ → Type 0
IsOneHeadOf h bytes = ReadsResponse bytes h [] × (length h.fields ≤ 256) × (is_within_bounds (status_code h) (map name_and_value h.fields) ≡ true)
