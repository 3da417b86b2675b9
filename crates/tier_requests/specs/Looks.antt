-- What a look-up of a request answers, and what it leaves of it and of what it is lent.
use Rattle.std.specs.Prelude.{◌≡◌, ◌≢◌, ◌⊎◌, ℕ, ◌-◌, ◌^◌, Bool, true, if◌then◌else◌, None, Ok, Err, MatchOption}
use Rattle.cache_words.specs.Time.{MomentValue}
use Rattle.cache_entries.specs.Rows.{weight_of}
use Rattle.cache_evict.specs.Managed.{Managed, rows_of, use_first}
use Rattle.cache_evict.specs.declared.fault.EvictFault.{EvictFault}
use Rattle.cache_evict.specs.Faults.{IsPutRefused}
use Rattle.cache_lock.specs.Answers.{to_wait_for, IsSpent}
use Rattle.cache_lock.specs.State.{LockState, after_all}
use Rattle.tier_model.specs.declared.event.TierFault.{TierFault}
use Rattle.tier_model.specs.declared.event.TierFault.TheVariants.{NumbersSpent}
use Rattle.tier_model.specs.declared.event.LockGiven.TheVariants as given
use Rattle.tier_model.specs.Calls.{Outcome, nothing_done}
use Rattle.tier_model.specs.Rows.{size_of}
use Rattle.tier_model.specs.Shelf.{Shelf, Look, finished, is_there}
use Rattle.tier_model.specs.State.{Request}
use Rattle.tier_model.specs.Checks.{look_refusal}
use Rattle.tier_model.specs.Answers.{key_for, look_for, asks_now, lock_given, look_answer}
use Rattle.tier_model.specs.After.{turned, reader_of, looked, given_changes, back_changes}
use Rattle.tier_requests.specs.Faults.{out_of_memory, fault_for}

-- what a request is lent
pub record Lent : Type 0 where
  pub shelf : Shelf
  pub managed : Managed
  pub lock : LockState

abbrev pub lent : Shelf → Managed → LockState → Lent
lent shelf managed lock = record { shelf = shelf; managed = managed; lock = lock }

-- a lock that was given is handed back; one is given only where it is asked for
pub record LeavesLock (t : MomentValue) (q : Request) (l : Look) (old new : LockState) : Type 0 where
  pub asked : Bool
  pub due : asked ≡ true → asks_now t q l ≡ true
  pub lock : new ≡ (if asked then after_all (back_changes t q l old) old else old)

module _ (n : ℕ) (weighed : ℕ → ℕ) where
  -- the order of use after a use of what was found, in n shards
  abbrev pub used_by : Request → Look → Managed → Managed
  used_by q (finished x) m = use_first n q.entry (weighed (size_of x.body)) m
  used_by q _ m = m

  -- why the entry of what was found isn't used: it isn't tracked, and is kept out
  abbrev pub UseRefused : Request → Look → Managed → TierFault → Type 0
  UseRefused q (finished x) m f =
      (weight_of q.entry (rows_of n q.entry m) ≡ None) × ((cause : EvictFault) × IsPutRefused n q.entry (weighed (size_of x.body)) m cause × (f ≡ fault_for cause nothing_done))
  UseRefused q _ m f = ⊥

  abbrev pub LockRefused : MomentValue → Request → Look → LockState → TierFault → Type 0
  LockRefused t q l s f = (f ≡ NumbersSpent nothing_done) × (asks_now t q l ≡ true) × IsSpent s (to_wait_for (key_for q) s)

  -- memory runs out only where something is found, before the lock and the order of use are asked, or a new permit is due, for which a
  -- number is left
  abbrev pub RunsOut : MomentValue → Request → Look → LockState → TierFault → Type 0
  RunsOut t q l s f = (f ≡ out_of_memory) × ((is_there l ≡ true) ⊎ ((lock_given t q l s ≡ given.Write) × (s.next ≢ 2 ^ 64 - 1)))

  abbrev pub LooksBy : MomentValue → Request → Look → Lent → Outcome → Request → Lent → Type 0
  LooksBy t q l old (Ok a) new left =
      (a ≡ look_answer t (lock_given t q l old.lock) l) × (new ≡ looked t q l old.lock)
      × (left ≡ lent (turned q.reader (reader_of l) old.shelf) (used_by q l old.managed) (after_all (given_changes t q l old.lock) old.lock))
  LooksBy t q l old (Err f) new left =
      (RunsOut t q l old.lock f ⊎ (UseRefused q l old.managed f ⊎ LockRefused t q l old.lock f))
      × (new ≡ q) × (left.shelf ≡ old.shelf) × (left.managed ≡ old.managed) × LeavesLock t q l old.lock left.lock

  -- the first check that fails, or what the look-up of an allowed one gives
  abbrev pub LookAnswer : MomentValue → Request → Lent → Outcome → Request → Lent → Type 0
  LookAnswer t q old r new left = MatchOption (look_refusal q) (LooksBy t q (look_for q old.shelf) old r new left) (λ f. (r ≡ Err f) × (new ≡ q) × (left ≡ old))
