-- Which responses the tier keeps, and what it reports of a put.
use Rattle.std.specs.Prelude.{◌≡◌, ℕ, Option, None, Result, Ok, Err, ◌||◌, if◌then◌else◌}
use Rattle.cache_words.specs.Time.{MomentValue, DurationValue}
use Rattle.head_lines.specs.declared.header.ResponseHeader.{ResponseHeader}
use Rattle.cache_heads.specs.declared.defaults.CacheMetaDefaults.{CacheMetaDefaults}
use Rattle.cache_heads.specs.declared.defaults.NeverByStatus.{NeverByStatus}
use Rattle.cache_heads.specs.declared.reason.NoCacheReason.TheVariants.{StorageError}
use Rattle.cache_heads.specs.declared.reason.RespCacheable.{RespCacheable}
use Rattle.cache_heads.specs.declared.reason.RespCacheable.TheVariants as verdict
use Rattle.request_puts.specs.Response.{verdict_by_headers}
use Rattle.request_store.specs.declared.done.Done.{Done as PutDone}
use Rattle.request_puts.specs.declared.put.outcome.PutOutcome.{PutOutcome}
use Rattle.request_puts.specs.declared.put.outcome.PutOutcome.TheVariants.{Stored, Uncacheable}
use Rattle.request_puts.specs.declared.put.outcome.PutFault.{PutFault}
use Rattle.request_puts.specs.declared.put.outcome.PutFault.TheVariants as put
use Rattle.tier_model.specs.declared.event.Answer.TheVariants as answer
use Rattle.tier_model.specs.declared.event.Done.{Done}
use Rattle.tier_model.specs.declared.event.TierFault.{TierFault}
use Rattle.tier_model.specs.declared.event.TierFault.TheVariants as fault
use Rattle.tier_model.specs.Calls.{Outcome, nothing_done}
use Rattle.tier_model.specs.Response.{is_before_epoch}

-- no lifetime by status, and no time in which a stale response is served
abbrev pub no_defaults : CacheMetaDefaults NeverByStatus
no_defaults = record { fresh_sec_fn = record {}; stale_while_revalidate_sec = 0; stale_if_error_sec = 0 }

abbrev pub never : NeverByStatus → ℕ → Option DurationValue
never f status = None

-- what came before 1970, or is fresh only before it, isn't kept, as if the store refused it: no store can write such a moment
abbrev pub since_epoch : MomentValue → RespCacheable → RespCacheable
since_epoch arrival (verdict.Uncacheable reason) = verdict.Uncacheable reason
since_epoch arrival (verdict.Cacheable meta) =
    if is_before_epoch arrival || is_before_epoch meta.internal.fresh_until
    then verdict.Uncacheable StorageError
    else verdict.Cacheable meta

-- whether a response with this header is kept that comes at a moment, by its lines alone
abbrev pub kept_by : MomentValue → ResponseHeader → RespCacheable
kept_by arrival header = since_epoch arrival (verdict_by_headers arrival header never no_defaults)

-- what a put did, as the tier reports it
abbrev pub done_as : PutDone → Done
done_as done = record { stored = done.stored; admitted = done.admitted; evicted = done.evicted.items }

-- what the tier answers after a put that was not refused
abbrev pub answer_as : PutOutcome → Outcome
answer_as (Stored size evicted) = Ok (answer.Finished size evicted.items)
answer_as (Uncacheable StorageError) = Err fault.BeforeEpoch
answer_as (Uncacheable reason) = Ok (answer.Uncacheable reason)

-- what the tier reports of a put's refusal. It knows no size limit, and has looked at 1970 before the store does
abbrev pub IsToldAs : PutFault → TierFault → Type 0
IsToldAs put.BadHead f = f ≡ fault.BadHead
IsToldAs put.Incomplete f = f ≡ fault.Incomplete
IsToldAs put.WriteNumbersSpent f = f ≡ fault.NumbersSpent nothing_done
IsToldAs (put.Weight done) f = f ≡ fault.TooHeavy (done_as done)
IsToldAs (put.Length done) f = f ≡ fault.TooLong (done_as done)
IsToldAs (put.NumbersSpent done) f = f ≡ fault.NumbersSpent (done_as done)
IsToldAs (put.Memory done) f = f ≡ fault.Memory (done_as done)
IsToldAs put.ResponseTooLarge f = ⊥
IsToldAs put.MetaMoment f = ⊥

-- a refusal that a put of the tier may meet
abbrev pub IsTellable : PutFault → Type 0
IsTellable put.ResponseTooLarge = ⊥
IsTellable put.MetaMoment = ⊥
IsTellable _ = Unit {0}

-- what the tier answers after a put
abbrev pub IsToldOf : Result PutOutcome PutFault → Outcome → Type 0
IsToldOf (Ok outcome) o = o ≡ answer_as outcome
IsToldOf (Err fault) o = (f : TierFault) × (o ≡ Err f) × IsToldAs fault f
