-- The numbers of reasons.
use Rattle.std.specs.Prelude.{ℕ, ◌-◌, ◌==◌, nat_lt, if◌then◌else◌, List, [], ◌∷◌, codes, slice_get}
use Rattle.std.specs.Option.{option_map_or}
use Rattle.http1_message_parts.specs.declared.reason.Reason.{Reason as Refusal}
use Rattle.http1_message_parts.specs.declared.reason.Reason.TheVariants as refusals
use Rattle.rules_storage.specs.declared.reason.Reason.{Reason}
use Rattle.rules_storage.specs.declared.reason.Reason.TheVariants as reasons

abbrev pub refusal_number : Refusal → ℕ
refusal_number refusals.TargetTooLong = 1
refusal_number refusals.HeadTooLong = 2
refusal_number refusals.BareLineEnd = 3
refusal_number refusals.BadRequestLine = 4
refusal_number refusals.Version = 5
refusal_number refusals.Method = 6
refusal_number refusals.TooManyFields = 7
refusal_number refusals.Folded = 8
refusal_number refusals.BlankBeforeColon = 9
refusal_number refusals.BadField = 10
refusal_number refusals.LengthAndCoding = 11
refusal_number refusals.BadLength = 12
refusal_number refusals.CodingIn10 = 13
refusal_number refusals.UnknownCoding = 14
refusal_number refusals.BadCoding = 15
refusal_number refusals.SeveralHosts = 16
refusal_number refusals.NoHost = 17
refusal_number refusals.BadHost = 18
refusal_number refusals.OtherScheme = 19
refusal_number refusals.OtherHost = 20
refusal_number refusals.BadTarget = 21
refusal_number refusals.BadStatusLine = 22
refusal_number refusals.Switched = 23
refusal_number refusals.FieldTooLong = 44

abbrev pub reason_number : Reason → ℕ
reason_number reasons.Method = 6
reason_number reasons.NoStore = 27
reason_number reasons.Status = 28
reason_number reasons.Partial = 29
reason_number reasons.NotModified = 30
reason_number reasons.RequestNoStore = 31
reason_number reasons.NotUnderstood = 32
reason_number reasons.Private = 33
reason_number reasons.VaryAny = 34
reason_number reasons.Authorization = 35
reason_number reasons.SetCookie = 36
reason_number reasons.NoFreshness = 37
reason_number reasons.NeverUsable = 38
reason_number reasons.TooManyLines = 39
reason_number reasons.StoredIsGood = 42
reason_number reasons.NeverStore = 43

-- the names of the reasons from 1 on
abbrev pub of_heads : List (List ℕ)
of_heads =
    (codes "target-too-long"
    ∷ codes "head-too-long"
    ∷ codes "bare-line-end"
    ∷ codes "bad-request-line"
    ∷ codes "version"
    ∷ codes "method"
    ∷ codes "too-many-fields"
    ∷ codes "folded"
    ∷ codes "blank-before-colon"
    ∷ codes "bad-field"
    ∷ codes "length-and-coding"
    ∷ codes "bad-length"
    ∷ codes "coding-in-1-0"
    ∷ codes "unknown-coding"
    ∷ codes "bad-coding"
    ∷ codes "several-hosts"
    ∷ codes "no-host"
    ∷ codes "bad-host"
    ∷ codes "other-scheme"
    ∷ codes "other-host"
    ∷ codes "bad-target"
    ∷ codes "bad-status-line"
    ∷ codes "switched"
    ∷ codes "last-forward"
    ∷ codes "content"
    ∷ codes "precondition"
    ∷ codes "no-store"
    ∷ codes "status"
    ∷ codes "partial"
    ∷ codes "not-modified"
    ∷ codes "request-no-store"
    ∷ codes "not-understood"
    ∷ codes "private"
    ∷ codes "vary-any"
    ∷ codes "authorization"
    ∷ codes "set-cookie"
    ∷ codes "no-freshness"
    ∷ codes "never-usable"
    ∷ codes "too-many-lines"
    ∷ codes "bad-chunk"
    ∷ codes "bad-trailer"
    ∷ codes "stored-is-good"
    ∷ codes "never-store"
    ∷ codes "field-too-long"
    ∷ [])

-- and from 50 on
abbrev pub of_callers : List (List ℕ)
of_callers =
    (codes "no-answer"
    ∷ codes "only-if-cached"
    ∷ codes "stale-while-revalidate"
    ∷ codes "stale-if-error"
    ∷ codes "stale-if-down"
    ∷ codes "purged"
    ∷ codes "unstored"
    ∷ codes "body-too-long"
    ∷ codes "too-busy"
    ∷ [])

abbrev pub named : List (List ℕ) → ℕ → List ℕ
named names place = option_map_or (λ name. name) (slice_get names place) []

-- empty of a number that is none
abbrev pub reason_name : ℕ → List ℕ
reason_name reason = if reason == 0 then [] else (if nat_lt reason 50 then named of_heads (reason - 1) else named of_callers (reason - 50))
