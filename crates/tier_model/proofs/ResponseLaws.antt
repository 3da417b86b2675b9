-- What readings of responses give at a moment.
use Rattle.std.proofs.Common.{◌≡◌, List, [], refl, ap, sym, ◌∙◌, true, false, cond, ℕ, inl, inr}
use Rattle.std.specs.Prelude.{◌≢◌, ◌==◌, ◌||◌, Bool, Option, Some, None, is_some, map}
use Rattle.std.proofs.lemmas.Bool.{cases_Bool}
use Rattle.cache_words.specs.Time.{MomentValue, at_most}
use Rattle.cache_heads.specs.declared.reason.NoCacheReason.{NoCacheReason}
use Rattle.cache_heads.specs.declared.reason.RespCacheable.{RespCacheable}
use Rattle.cache_heads.specs.declared.reason.RespCacheable.TheVariants as cacheable
use Rattle.head_lines.specs.Lines.{map_of}
use Rattle.head_lines.specs.declared.header.ResponseHeader.{ResponseHeader}
use Rattle.cache_heads.specs.Merged.{merged, renewed_from}
use Rattle.cache_heads.specs.declared.given.GivenMeta.{GivenMeta}
use Rattle.cache_heads.specs.declared.meta.CacheMeta.{CacheMeta}
use Rattle.httparse.specs.Grammar.{ResponseHead, status_code}
use Rattle.httparse.specs.Spans.{name_and_value}
use Rattle.head_parse.specs.Response.{IsWellFormed, Reading, IsReading, is_within_bounds, parsed_of, head_of}
use Rattle.head_parse.specs.declared.response.Parsed.{Parsed}
use Rattle.head_parse.specs.declared.response.Parsed.TheVariants as parsed
use Rattle.head_parse.proofs.ReadingLaws.{parsed_of-read}
use Rattle.tier_model.specs.declared.whole.PutVerdict.TheVariants.{BadHead}
use Rattle.tier_model.specs.Answers.{is_fresh}
use Rattle.tier_model.specs.Response.{Judged, kept, not_kept, too_early, not_read, is_before_epoch, verdict_on, judged_by, judged, given_too_early, meta_given, given_unless, has_own_body, is_answered, as_given, renewal_too_early, judged_with, judged_alone, renewed_by, confirmed_alone, whole_with, whole_by, whole_of, IsOneHeadOf}

-- a head that is read is none that isn't
judged_by-read : (arrival : MomentValue) (v : RespCacheable) → judged_by arrival v ≢ not_read
judged_by-read arrival (cacheable.Uncacheable reason) e = cc
judged_by-read arrival (cacheable.Cacheable meta) e =
    elim (cases_Bool (is_before_epoch arrival || is_before_epoch meta.internal.fresh_until)) [
      | inl t ↦ absurd (cc)
      | inr f ↦ absurd (cc)
    ]

with-bad : (bytes : List ℕ) (j : Judged) → whole_with bytes j ≡ BadHead → j ≡ not_read
with-bad bytes (kept meta) e = cc
with-bad bytes (not_kept reason) e = cc
with-bad bytes too_early e = cc
with-bad bytes not_read e = refl

-- only a bad head gives a bad head
whole_by-bad : (arrival : MomentValue) (p : Parsed) → whole_by arrival p ≡ BadHead → p ≡ parsed.BadHead
whole_by-bad arrival (parsed.Complete response) e = absurd (judged_by-read arrival (verdict_on arrival response.header) (with-bad response.body (judged arrival response.header) e))
whole_by-bad arrival (parsed.Incomplete short) e = cc
whole_by-bad arrival parsed.BadHead e = refl

pub whole_of-read : (arrival : MomentValue) (bytes : List ℕ) (r : Reading) → IsWellFormed bytes → IsReading bytes r → whole_of arrival r ≢ BadHead
whole_of-read arrival bytes r well is bad = parsed_of-read bytes r well is (whole_by-bad arrival (parsed_of r) bad)

-- a head with a given meta is read
given_read : (early : Bool) (s : GivenMeta) (header : ResponseHeader) → given_unless early s header ≢ not_read
given_read true s header e = cc
given_read false s header e = cc

as_given_read : (v : Bool) (s : GivenMeta) (header : ResponseHeader) → v ≡ true → cond v (given_unless (given_too_early s) s header) not_read ≢ not_read
as_given_read true s header own = given_read (given_too_early s) s header
as_given_read false s header own = absurd cc

judged_with-read : (given : Option GivenMeta) (arrival : MomentValue) (header : ResponseHeader) → (is_some given ≡ true → has_own_body header.status ≡ true) → judged_with given arrival header ≢ not_read
judged_with-read None arrival header own = judged_by-read arrival (verdict_on arrival header)
judged_with-read (Some s) arrival header own = as_given_read (has_own_body header.status) s header (own refl)

-- one head is read as it is
read_alone : (given : Option GivenMeta) (arrival : MomentValue) (v : Bool) (header : ResponseHeader) → v ≡ true → (is_some given ≡ true → has_own_body header.status ≡ true)
    → judged_alone given arrival (cond v (Some header) None) ≢ not_read
read_alone given arrival true header e own bad = judged_with-read given arrival header own bad
read_alone given arrival false header e own bad = absurd cc

pub judged_alone-read : (given : Option GivenMeta) (arrival : MomentValue) (bytes : List ℕ) (h : ResponseHead) (r : Reading) → IsOneHeadOf h bytes
    → (is_some given ≡ true → has_own_body (status_code h) ≡ true) → IsReading bytes r → judged_alone given arrival (head_of r) ≢ not_read
judged_alone-read given arrival bytes h r one own is bad =
    read_alone given arrival (is_within_bounds (status_code h) (map name_and_value h.fields)) (record { status = status_code h; headers = map_of (map name_and_value h.fields) }) one.2 own
    (ap (λ (x : Reading). judged_alone given arrival (head_of x)) (sym (is.whole h [] one.0 one.1)) ∙ bad)

-- what is stored with a given meta has a body of its own, and is not told that it may not be kept
own_by : (v : Bool) (s : GivenMeta) (header : ResponseHeader) (meta : CacheMeta) → cond v (given_unless (given_too_early s) s header) not_read ≡ kept meta → v ≡ true
own_by true s header meta e = refl
own_by false s header meta e = absurd cc

pub given-own : (s : GivenMeta) (header : ResponseHeader) (meta : CacheMeta) → as_given s header ≡ kept meta → has_own_body header.status ≡ true
given-own s header meta e = own_by (has_own_body header.status) s header meta e

unless_kept : (early : Bool) (s : GivenMeta) (header : ResponseHeader) (reason : NoCacheReason) → given_unless early s header ≢ not_kept reason
unless_kept true s header reason e = cc
unless_kept false s header reason e = cc

never_by : (v : Bool) (s : GivenMeta) (header : ResponseHeader) (reason : NoCacheReason) → cond v (given_unless (given_too_early s) s header) not_read ≢ not_kept reason
never_by true s header reason e = unless_kept (given_too_early s) s header reason e
never_by false s header reason e = cc

pub given-never : (s : GivenMeta) (header : ResponseHeader) (reason : NoCacheReason) → as_given s header ≢ not_kept reason
given-never s header reason e = never_by (has_own_body header.status) s header reason e

unless_is : (early : Bool) (s : GivenMeta) (header : ResponseHeader) (meta : CacheMeta) → given_unless early s header ≡ kept meta → meta_given s header ≡ meta
unless_is true s header meta e = absurd cc
unless_is false s header meta e = cc

given_is : (v : Bool) (s : GivenMeta) (header : ResponseHeader) (meta : CacheMeta) → cond v (given_unless (given_too_early s) s header) not_read ≡ kept meta → meta_given s header ≡ meta
given_is true s header meta e = unless_is (given_too_early s) s header meta e
given_is false s header meta e = absurd cc

-- it is the given one
pub given-is : (s : GivenMeta) (header : ResponseHeader) (meta : CacheMeta) → as_given s header ≡ kept meta → meta_given s header ≡ meta
given-is s header meta e = given_is (has_own_body header.status) s header meta e

pub given-kept : (s : GivenMeta) (header : ResponseHeader) (meta : CacheMeta) → as_given s header ≡ kept meta
    → ((t : MomentValue) → is_fresh t meta ≡ at_most t s.fresh_until) × (meta.header ≡ header) × (meta.external ≡ s.external)
given-kept s header meta e =
    let is = given-is s header meta e in
    (λ (t : MomentValue). ap (is_fresh t) (sym is), ap (λ (m : CacheMeta). m.header) (sym is), ap (λ (m : CacheMeta). m.external) (sym is))

renewed_by-bad : (old : CacheMeta) (j : Judged) → renewed_by old j ≡ not_read → j ≡ not_read
renewed_by-bad old (kept meta) e = cc
renewed_by-bad old (not_kept reason) e = cc
renewed_by-bad old too_early e = cc
renewed_by-bad old not_read e = refl

-- and so is one that confirms
confirmed_read : (arrival : MomentValue) (old : CacheMeta) (v : Bool) (header : ResponseHeader) → v ≡ true → header.status ≡ 304 → confirmed_alone None arrival old (cond v (Some header) None) ≢ not_read
confirmed_read arrival old true header e status bad =
    let j : Judged = judged arrival (merged old.header header) in
    judged_by-read arrival (verdict_on arrival (merged old.header header))
    (renewed_by-bad old j (sym (ap (λ (n : ℕ). cond (n == 304) (renewed_by old j) not_read) status) ∙ bad))
confirmed_read arrival old false header e status bad = absurd cc

pub confirmed_alone-read : (arrival : MomentValue) (old : CacheMeta) (bytes : List ℕ) (h : ResponseHead) (r : Reading) → IsOneHeadOf h bytes → status_code h ≡ 304 → IsReading bytes r
    → confirmed_alone None arrival old (head_of r) ≢ not_read
confirmed_alone-read arrival old bytes h r one status is bad =
    confirmed_read arrival old (is_within_bounds (status_code h) (map name_and_value h.fields)) (record { status = status_code h; headers = map_of (map name_and_value h.fields) }) one.2 status
    (ap (λ (x : Reading). confirmed_alone None arrival old (head_of x)) (sym (is.whole h [] one.0 one.1)) ∙ bad)

-- what a body has outside stays under a renewal
renewed_outside : (old : CacheMeta) (j : Judged) (meta : CacheMeta) → renewed_by old j ≡ kept meta → meta.external ≡ old.external
renewed_outside old (kept m) meta e = let same : renewed_from (Some old) m ≡ meta = cc in ap (λ (x : CacheMeta). x.external) (sym same)
renewed_outside old (not_kept reason) meta e = absurd cc
renewed_outside old too_early meta e = absurd cc
renewed_outside old not_read meta e = absurd cc

confirmed_outside : (old : CacheMeta) (v : Bool) (j : Judged) (meta : CacheMeta) → cond v (renewed_by old j) not_read ≡ kept meta → meta.external ≡ old.external
confirmed_outside old true j meta e = renewed_outside old j meta e
confirmed_outside old false j meta e = absurd cc

pub confirmed-outside : (given : Option GivenMeta) (t : MomentValue) (old : CacheMeta) (sent : Option ResponseHeader) (meta : CacheMeta)
    → confirmed_alone given t old sent ≡ kept meta → meta.external ≡ old.external
confirmed-outside given t old None meta e = absurd cc
confirmed-outside None t old (Some sent) meta e = confirmed_outside old (sent.status == 304) (judged t (merged old.header sent)) meta e
confirmed-outside (Some s) t old (Some header) meta e = confirmed_outside old (is_answered header.status) (given_unless (renewal_too_early s) s header) meta e
