-- What the finish of a request's write answers, and what it leaves.
use Rattle.std.specs.Prelude.{◌≡◌, ⊤, ℕ, true, List, if◌then◌else◌, Option, Some, None, is_some, Result, Ok, Err}
use Rattle.rand_core.specs.Stream.{Stream}
use Rattle.cache_words.specs.Key.{CacheKeyValue}
use Rattle.cache_entries.specs.declared.rows.Tracked.{Tracked}
use Rattle.cache_store.specs.declared.storage.MissFinishType.TheVariants.{Created}
use Rattle.cache_store.specs.StoreState.{StoreState}
use Rattle.store_memory.specs.Misses.{are_numbers_spent}
use Rattle.request_store.specs.declared.done.Done.{Done as StoreDone}
use Rattle.request_store.specs.Admissions.{Rules, Cache, rules_of}
use Rattle.request_store.specs.declared.faults.Finished.{Finished}
use Rattle.request_store.specs.declared.faults.FinishFault.{FinishFault}
use Rattle.request_store.specs.declared.faults.FinishFault.TheVariants as finish
use Rattle.request_cache.specs.Founds.{entry_at}
use Rattle.request_store.specs.Finishes.{Finishes}
use Rattle.request_cache.specs.Finishes.{finish_status}
use Rattle.tier_model.specs.declared.event.Answer.TheVariants as answer
use Rattle.tier_model.specs.declared.event.Done.{Done}
use Rattle.tier_model.specs.declared.event.TierFault.{TierFault}
use Rattle.tier_model.specs.declared.event.TierFault.TheVariants.{WrongPhase, WriteRemoved, NumbersSpent, TooHeavy, TooLong, Memory}
use Rattle.tier_model.specs.Calls.{Outcome}
use Rattle.tier_model.specs.Rows.{size_of}
use Rattle.tier_model.specs.State.{Request}
use Rattle.tier_requests.specs.Shelves.{found_in}

-- what a finish did, as the tier reports it
abbrev pub done_as : StoreDone → Done
done_as done = record { stored = done.stored; admitted = done.admitted; evicted = done.evicted.items }

-- what the tier reports of a finish's refusal
abbrev pub told_as : FinishFault → TierFault
told_as finish.WriteRemoved = WriteRemoved
told_as (finish.Weight done) = TooHeavy (done_as done)
told_as (finish.Length done) = TooLong (done_as done)
told_as (finish.NumbersSpent done) = NumbersSpent (done_as done)
told_as (finish.Memory done) = Memory (done_as done)

-- and of a finish; a request without a write has none to finish
abbrev pub told_of : Result (Option Finished) FinishFault → Outcome
told_of (Ok None) = Err WrongPhase
told_of (Ok (Some finished)) = Ok (answer.Finished finished.length finished.evicted.items)
told_of (Err fault) = Err (told_as fault)

module _ (n : ℕ) (weighed : ℕ → ℕ) (pick : List (List Tracked) → Stream → ℕ × Stream) where
  -- what is known of the store and of the order of use, in n shards
  abbrev pub rules : Rules StoreState
  rules = rules_of (λ h. h) (λ h k. None) (λ h cause h'. ⊤) are_numbers_spent (λ x. Created (size_of (found_in x).body)) n weighed pick

  -- the finish of the write of a request, with what it came to in the store and in the order of use
  pub record Ends (write : ℕ) (q : Request) (old : Cache StoreState) (r : Outcome) (new : Request) (left : Cache StoreState) : Type 0 where
    pub came : Result (Option Finished) FinishFault
    pub key : Option CacheKeyValue
    pub entry : q.entry ≡ entry_at key None
    pub ends : Finishes rules (λ m. m) (λ m. None) write key true came old left
    pub told : r ≡ told_of came
    pub request : new ≡ (if is_some (finish_status came) then record q { write = None } else q)

  abbrev pub FinishAnswer : Option ℕ → Request → Cache StoreState → Outcome → Request → Cache StoreState → Type 0
  FinishAnswer None q old r new left = (r ≡ Err WrongPhase) × (new ≡ q) × (left ≡ old)
  FinishAnswer (Some m) q old r new left = Ends m q old r new left
