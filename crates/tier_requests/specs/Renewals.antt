-- What becomes of what a request found past its moment, once that is confirmed.
use Rattle.std.specs.Prelude.{◌≡◌, ℕ, Bool, true, false, List, if◌then◌else◌, Option, None, Result, Ok, Err, MatchOption, Vec}
use Rattle.std.specs.declared.alloc.Global.{Global}
use Rattle.rand_core.specs.Stream.{Stream}
use Rattle.head_lines.specs.declared.header.ResponseHeader.{ResponseHeader}
use Rattle.cache_heads.specs.declared.meta.CacheMeta.{CacheMeta}
use Rattle.cache_heads.specs.Merged.{merged, renewed_from}
use Rattle.cache_entries.specs.declared.entry.CacheEntryKey.{CacheEntryKey}
use Rattle.cache_entries.specs.declared.rows.Tracked.{Tracked}
use Rattle.cache_changes.specs.Store.{Stored, body_at}
use Rattle.cache_lock.specs.State.{LockState, after_all}
use Rattle.cache_lock.specs.declared.status.LockStatus.TheVariants as status
use Rattle.request_store.specs.Admissions.{Cache}
use Rattle.request_phases.specs.declared.phase.CachePhase.{CachePhase}
use Rattle.request_phases.specs.declared.phase.CachePhase.TheVariants as phases
use Rattle.cache_store.specs.StoreState.{StoreState}
use Rattle.request_cache.specs.declared.renew.RevalidateFault.{RevalidateFault}
use Rattle.request_cache.specs.declared.renew.RevalidateFault.TheVariants as renew
use Rattle.request_cache.specs.Revalidations.{is_confirmed, RevalidateAnswer}
use Rattle.tier_model.specs.declared.event.Answer.TheVariants as answer
use Rattle.tier_model.specs.declared.event.TierFault.{TierFault}
use Rattle.tier_model.specs.declared.event.TierFault.TheVariants.{NotStored, BeforeEpoch, NumbersSpent, TooHeavy, TooLong, Memory}
use Rattle.tier_model.specs.Calls.{Outcome}
use Rattle.tier_model.specs.Rows.{size_of}
use Rattle.tier_model.specs.State.{Request}
use Rattle.tier_model.specs.Answers.{key_for, seen_meta}
use Rattle.tier_model.specs.After.{release_of, confirmed}
use Rattle.tier_requests.specs.Shelves.{found_in}
use Rattle.tier_requests.specs.Plain.{Driven}
use Rattle.tier_requests.specs.Finishes.{done_as, rules}

-- ---- the head

-- the head of what the request found past its moment, with the fields that were sent
abbrev pub IsMerged : Request → ResponseHeader → ResponseHeader → Type 0
IsMerged q sent header = MatchOption (seen_meta q) ⊥ (λ old. header ≡ merged old.header sent)

-- ---- it may be kept

-- what the tier reports of a renewal's refusal
abbrev pub told_as : RevalidateFault → TierFault
told_as renew.NoMeta = NotStored
told_as renew.MetaMoment = BeforeEpoch
told_as (renew.Memory done) = Memory (done_as done)
told_as (renew.Weight done) = TooHeavy (done_as done)
told_as (renew.Length done) = TooLong (done_as done)
told_as (renew.NumbersSpent done) = NumbersSpent (done_as done)

-- and of a renewal
abbrev pub told_of_renewal : Result (Vec CacheEntryKey Global) RevalidateFault → Outcome
told_of_renewal (Ok evicted) = Ok (answer.Revalidated evicted.items)
told_of_renewal (Err fault) = Err (told_as fault)

abbrev pub is_revalidated : CachePhase → Bool
is_revalidated phases.Revalidated = true
is_revalidated _ = false

-- no more is asked of the meta of what was confirmed
abbrev pub forgotten : Driven → Driven
forgotten r = if is_revalidated r.phase then record r { meta = None } else r

-- and the meta that the request held beside it goes too
abbrev pub left_held : Driven → Option CacheMeta → Option CacheMeta
left_held r share = if is_revalidated r.phase then None else share

-- what a body weighs
abbrev pub weigh : Stored CacheMeta → ℕ
weigh x = size_of (found_in x).body

module _ (n : ℕ) (weighed : ℕ → ℕ) (pick : List (List Tracked) → Stream → ℕ × Stream) where
  -- the body of the request's key has that meta, as a revalidation renews it, with what it came to in the store and in the order of use of n
  -- shards; where it was confirmed, the permit is released as done
  pub record Renews (meta : CacheMeta) (q : Request) (old : Cache StoreState) (s : LockState) (r : Outcome) (new : Request) (left : Cache StoreState) (s' : LockState) : Type 0 where
    pub came : Result (Vec CacheEntryKey Global) RevalidateFault
    pub answer : RevalidateAnswer (rules n weighed pick) weigh (key_for q) q.entry true (renewed_from (seen_meta q) meta) (body_at (key_for q) old.store.store) came old left
    pub told : r ≡ told_of_renewal came
    pub request : new ≡ (if is_confirmed came then confirmed q else q)
    pub lock : s' ≡ (if is_confirmed came then after_all (release_of status.Done q q.held s) s else s)

-- ---- it may not be kept

-- what was found was confirmed, and stays as it is: the permit ends as given up
pub record RenewsNot (q : Request) (s : LockState) (new : Request) (s' : LockState) : Type 0 where
  pub request : new ≡ confirmed q
  pub lock : s' ≡ after_all (release_of status.GiveUp q q.held s) s
