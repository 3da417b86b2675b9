-- A permit that waits keeps its core, and those that were given a wait since wait for it, whatever call comes.
use Rattle.std.proofs.Common.{◌≡◌, ℕ, ◌<◌, ◌==◌, refl, ap, sym, ◌∙◌, true, false, subst, cond, inl, inr, [], ◌∷◌, ◌++◌, arith}
use Rattle.std.specs.Prelude.{Bool, Option, Some, None, Ok}
use Rattle.std.proofs.lemmas.Bool.{eqb-true, eq-eqb}
use Rattle.cache_words.specs.Time.{MomentValue}
use Rattle.cache_changes.specs.Changes.{StoredKey}
use Rattle.cache_lock.specs.Changes.{Changes, gives, lends}
use Rattle.cache_lock.specs.Answers.{to_wait_for, locked_by, lock_change, leave_changes}
use Rattle.cache_lock.specs.State.{IsSound}
use Rattle.cache_lock.specs.Waits.{same_key, last_status, core_of}
use Rattle.cache_lock.specs.declared.status.LockStatus.{LockStatus}
use Rattle.cache_lock.specs.declared.status.LockStatus.TheVariants.{Waiting, Dangling}
use Rattle.tier_model.specs.declared.event.Action.{Action}
use Rattle.tier_model.specs.declared.event.Action.TheVariants.{Poll}
use Rattle.tier_model.specs.declared.event.Answer.TheVariants.{Waited}
use Rattle.tier_model.specs.declared.event.LockGiven.{LockGiven}
use Rattle.tier_model.specs.declared.event.LockGiven.TheVariants as lock
use Rattle.tier_model.specs.Calls.{Outcome}
use Rattle.tier_model.specs.Locks.{given_after, is_wait}
use Rattle.tier_model.specs.State.{Request, State}
use Rattle.tier_model.specs.Answers.{key_for}
use Rattle.tier_model.proofs.GripLaws.{Grip, free, grips, by_permit, grip_number, grip_key, Moves, Same, moved-now, differ, differ-key}
use Rattle.tier_model.proofs.GrantSteps.{Granted, waits-for}
use Rattle.tier_model.proofs.EffectLaws.{grip_at, hold_at, SaysLittle, SaysGiven}

-- the core of k is n, and waits; the request has its permit; and of those that wait under k, just the ones that were given a wait since wait for it
pub record IsCore (s : State) (changes : Changes) (k : StoredKey) (id n : ℕ) (given : ℕ → LockGiven) : Type 0 where
  pub core : core_of k changes ≡ Some n
  pub waiting : last_status n changes ≡ Waiting
  pub holder : grip_at s id ≡ grips true n k
  pub readers : (r m : ℕ) → grip_at s r ≡ grips false m k → is_wait (given r) ≡ (m == n)

-- what was given before a poll that was answered is as after it
pub polled_given : (id r : ℕ) (outcome : Option LockStatus) (action : Action) (o : Outcome) (old : LockGiven) → action ≡ Poll r → o ≡ Ok (Waited outcome) → given_after id action o old ≡ old
polled_given id r outcome action o old act out = ap (λ (a : Action). given_after id a o old) act ∙ ap (λ (x : Outcome). given_after id (Poll r) x old) out

module _ (s new : State) (t : MomentValue) (action : Action) (o : Outcome) (changes : Changes) (x : Granted s.lock (grip_at s) (hold_at s) changes) (sound : IsSound s.lock)
    (k : StoredKey) (id n : ℕ) where
  -- a permit of another key alone can be given
  pub other_key : (key : StoredKey) → core_of k changes ≡ Some n → last_status n changes ≡ Waiting → to_wait_for key s.lock ≡ None → same_key k key ≡ false
  other_key key core waiting none = differ-key k key (λ e.
      let there : to_wait_for key s.lock ≡ Some n = ap (λ (j : StoredKey). to_wait_for j s.lock) (sym e) ∙ waits-for s.lock (grip_at s) (hold_at s) changes x k n core waiting in
      let clash : None ≡ Some n = sym none ∙ there in
      absurd cc)

  pub below : core_of k changes ≡ Some n → (n == s.lock.next) ≡ false
  below core = let less : n < s.lock.next = x.grants.given k n core in differ n s.lock.next (λ e. omega (arith, less, e))

  module _ (given : ℕ → LockGiven) (c : IsCore s changes k id n given) where
    abbrev pub after_call : ℕ → LockGiven
    after_call r = given_after r action o (given r)

    -- one that held nothing, or a wait, isn't the one with the permit
    pub not_it : (r : ℕ) (a : Grip) → grip_at s r ≡ a → by_permit a ≡ false → (r == id) ≡ false
    not_it r a was lacks = differ r id (λ e.
        let clash : true ≡ false = ap by_permit (sym c.holder ∙ ap (grip_at s) (sym e) ∙ was) ∙ lacks in
        absurd cc)

    -- nor is one with another core's permit
    pub not_its_permit : (r m : ℕ) (key : StoredKey) → grip_at s r ≡ grips true m key → (r == id) ≡ false → (n == m) ≡ false
    not_its_permit r m key was apart = differ n m (λ e.
        let same : r ≡ id = x.grants.apart r id n key k (was ∙ ap (λ (j : ℕ). grips true j key) (sym e)) c.holder in
        let clash : true ≡ false = sym (eq-eqb r id same) ∙ apart in
        absurd cc)

    module _ (r : ℕ) (a b : Grip) (moves : Moves (grip_at s) (grip_at new) (hold_at s) (hold_at new) r a b) where
      holds_on : (r == id) ≡ false → grip_at new id ≡ grips true n k
      holds_on apart = moves.others id apart ∙ c.holder

      -- those that wait on are as before
      reads_on : ((i : ℕ) → (r == i) ≡ false → after_call i ≡ given i) → ((m : ℕ) → b ≡ grips false m k → is_wait (after_call r) ≡ (m == n))
          → (i m : ℕ) → grip_at new i ≡ grips false m k → is_wait (after_call i) ≡ (m == n)
      reads_on others own i m e = by_one (r == i) refl
        where
          by_one : (v : Bool) → (r == i) ≡ v → is_wait (after_call i) ≡ (m == n)
          by_one true is =
              subst (λ (j : ℕ). is_wait (after_call j) ≡ (m == n)) (eqb-true r i is) (own m (sym (moved-now (grip_at s) (grip_at new) (hold_at s) (hold_at new) r a b moves i is) ∙ e))
          by_one false is = ap is_wait (others i is) ∙ c.readers i m (sym (moves.others i is) ∙ e)

    -- none that lets go waits
    none_reads : (m : ℕ) (v : LockGiven) → free ≡ grips false m k → is_wait v ≡ (m == n)
    none_reads m v e = absurd cc

    pub reads_still : Same (grip_at s) (grip_at new) (hold_at s) (hold_at new) → SaysLittle s new action o → (i m : ℕ) → grip_at new i ≡ grips false m k → is_wait (after_call i) ≡ (m == n)
    reads_still same says i m e = elim (says.given i (given i)) [
      | inl none ↦ let clash : free ≡ grips false m k = sym none ∙ e in absurd cc
      | inr is ↦ ap is_wait is ∙ c.readers i m (sym (same.grip i) ∙ e)
    ]

    abbrev pub Next : Changes → Type 0
    Next cs = IsCore new (cs ++ changes) k id n after_call

    not_given_next : (st : LockStatus) → cond (n == s.lock.next) st (last_status n changes) ≡ Waiting
    not_given_next st = ap (λ (v : Bool). cond v st (last_status n changes)) (below c.core) ∙ c.waiting

    pub by_given : (r : ℕ) (q : Request) (stale : Bool) → Moves (grip_at s) (grip_at new) (hold_at s) (hold_at new) r free (grips true s.lock.next (key_for q)) → to_wait_for (key_for q) s.lock ≡ None
        → SaysGiven r lock.Write action o → Next (gives s.lock.next (key_for q) stale t ∷ [])
    by_given r q stale moves none says = record {
      core = ap (λ (v : Bool). cond v (Some s.lock.next) (core_of k changes)) (other_key (key_for q) c.core c.waiting none) ∙ c.core;
      waiting = not_given_next Waiting;
      holder = holds_on r free _ moves (not_it r free moves.was refl);
      readers = reads_on r free _ moves (λ i e. says.gives i (given i) ∙ ap (λ (v : Bool). cond v lock.Write (given i)) e)
          (λ m e. let clash : true ≡ false = ap by_permit e in absurd cc);
    }

    pub by_lent : (r m : ℕ) (key : StoredKey) → Moves (grip_at s) (grip_at new) (hold_at s) (hold_at new) r free (grips false m key) → to_wait_for key s.lock ≡ Some m
        → SaysGiven r lock.Read action o → Next (lends m ∷ [])
    by_lent r m key moves there says = record {
      core = c.core;
      waiting = c.waiting;
      holder = holds_on r free _ moves (not_it r free moves.was refl);
      readers = reads_on r free _ moves (λ i e. says.gives i (given i) ∙ ap (λ (v : Bool). cond v lock.Read (given i)) e) own;
    }
      where
        own : (j : ℕ) → grips false m key ≡ grips false j k → is_wait (after_call r) ≡ (j == n)
        own j e =
            let both : Some m ≡ Some n = sym there ∙ ap (λ (y : StoredKey). to_wait_for y s.lock) (ap grip_key e) ∙ waits-for s.lock (grip_at s) (hold_at s) changes x k n c.core c.waiting in
            let one : m ≡ n = cc in
            let is : j ≡ n = sym (ap grip_number e) ∙ one in
            ap is_wait (says.gives r (given r) ∙ ap (λ (v : Bool). cond v lock.Read (given r)) (eq-eqb r r refl)) ∙ sym (eq-eqb j n is)

    pub by_back : (key : StoredKey) (stale : Bool) (core : Option ℕ) → to_wait_for key s.lock ≡ core → Same (grip_at s) (grip_at new) (hold_at s) (hold_at new) → SaysLittle s new action o
        → Next (leave_changes (locked_by s.lock core) ++ lock_change key stale t s.lock core ∷ [])
    by_back key stale None none same says = record {
      core = ap (λ (v : Bool). cond v (Some s.lock.next) (core_of k changes)) (other_key key c.core c.waiting none) ∙ c.core;
      waiting = ap (λ (v : Bool). cond v Dangling (cond v Waiting (last_status n changes))) (below c.core) ∙ c.waiting;
      holder = same.grip id ∙ c.holder;
      readers = reads_still same says;
    }
    by_back key stale (Some m) there same says = record { core = c.core; waiting = c.waiting; holder = same.grip id ∙ c.holder; readers = reads_still same says }

    pub by_ended : (r m : ℕ) (p : Bool) (key : StoredKey) (cs : Changes) → Moves (grip_at s) (grip_at new) (hold_at s) (hold_at new) r (grips p m key) free → (r == id) ≡ false
        → ((i : ℕ) → after_call i ≡ given i) → core_of k (cs ++ changes) ≡ Some n → last_status n (cs ++ changes) ≡ Waiting → Next cs
    by_ended r m p key cs moves apart says core waiting = record {
      core = core;
      waiting = waiting;
      holder = holds_on r _ free moves apart;
      readers = reads_on r _ free moves (λ i e. says i) (λ j e. none_reads j (after_call r) e);
    }
