-- Look-ups are taken.
use Rattle.std.proofs.Common.{◌≡◌, ℕ, refl, ap, sym, ◌∙◌, arith, Bool, true, false, subst, inl, inr, Some, None, Option, List, [], max}
use Rattle.std.specs.Prelude.{Ok, Err, MatchOption, ◌⊎◌, if◌then◌else◌}
use Rattle.std.specs.FinMap.{FinMap, get, insert}
use Rattle.std.specs.Ordering.{nat_cmp}
use Rattle.cache_words.specs.Time.{MomentValue}
use Rattle.cache_entries.specs.Rows.{weight_of}
use Rattle.cache_evict.specs.declared.fault.EvictFault.{EvictFault}
use Rattle.cache_evict.specs.declared.fault.EvictFault.TheVariants as evict
use Rattle.cache_evict.specs.Faults.{IsPutRefused}
use Rattle.cache_evict.specs.Managed.{rows_of, use_first, Fits, IsSharded}
use Rattle.cache_lock.specs.Changes.{Change}
use Rattle.cache_lock.specs.State.{LockState, after_all}
use Rattle.tier_model.specs.declared.event.Action.TheVariants.{LookUp}
use Rattle.tier_model.specs.declared.event.Answer.{Answer}
use Rattle.tier_model.specs.declared.event.LockGiven.{LockGiven}
use Rattle.tier_model.specs.declared.event.TierFault.{TierFault}
use Rattle.tier_model.specs.declared.event.TierFault.TheVariants.{NoRequest, Memory}
use Rattle.tier_model.specs.Calls.{Outcome, nothing_done, is_begun}
use Rattle.tier_model.specs.Rows.{size_of, weight_for}
use Rattle.tier_model.specs.Shelf.{Look, absent, in_flight, finished, is_there}
use Rattle.tier_model.specs.State.{Request, State, shards_of}
use Rattle.tier_model.specs.Checks.{refusal, unless_open, look_refusal}
use Rattle.tier_model.specs.Answers.{look_for, asks_now, lock_given, look_answer, used}
use Rattle.tier_model.specs.Step.{AllowsBy, Allows, AsksLock, UseFits, IsDue, IsUseFault, IsLockFault, OfRequest}
use Rattle.tier_model.specs.After.{by_request, given_changes, back_changes, managed_after, after_look, counted, counted_if, with_counts, after}
use Rattle.tier_requests.specs.Faults.{fault_for}
use Rattle.tier_requests.specs.Looks.{Lent, lent, LeavesLock, used_by, UseRefused, LockRefused, RunsOut, LooksBy, LookAnswer}
use Rattle.tier_requests.specs.Rows.{OnOpen}
use Rattle.tier_single.specs.Acts.{Took}
use Rattle.tier_single.specs.Counts.{found_after, absent_after}
use Rattle.tier_single.proofs.TookLaws.{insert-same, plain_call, Took-refused}

-- what the manager makes of a size
abbrev pub least_one : ℕ → ℕ
least_one size = max size 1

weighs_same : (n : ℕ) → max n 1 ≡ max 1 n
weighs_same n = omega arith

look_begins : (t : MomentValue) (g : LockGiven) (l : Look) → is_begun (Ok (look_answer t g l)) ≡ false
look_begins t g absent = refl
look_begins t g (in_flight f) = refl
look_begins t g (finished y) = refl

found_counts : (t : MomentValue) (g : LockGiven) (l : Look) (n : ℕ) → found_after (Ok (look_answer t g l)) n ≡ counted_if (is_there l) n
found_counts t g absent n = refl
found_counts t g (in_flight f) n = refl
found_counts t g (finished y) n = refl

absent_counts : (t : MomentValue) (g : LockGiven) (l : Look) (n : ℕ) → absent_after (Ok (look_answer t g l)) n ≡ (if is_there l then n else counted n 1)
absent_counts t g absent n = refl
absent_counts t g (in_flight f) n = refl
absent_counts t g (finished y) n = refl

module _ (s : State) (t : MomentValue) (id : ℕ) where
  abbrev checked : Option Request → Option TierFault
  checked o = unless_open o look_refusal

  -- with what a look-up left, and the counts
  abbrev pub looked_to : FinMap nat_cmp Request → Lent → ℕ → ℕ → State
  looked_to requests left found missed = record s { requests = requests; managed = left.managed; shelf = left.shelf; lock = left.lock; found = found; absent = missed }

  pub Took-look-refused : (f : TierFault) → refusal s (LookUp id) ≡ Some f → Took s t (LookUp id) (Err f) s
  Took-look-refused f fails = Took-refused s t (LookUp id) f fails tt refl tt refl

  module _ (q : Request) (there : get s.requests id ≡ Some q) (passes : look_refusal q ≡ None) where
    abbrev l : Look
    l = look_for q s.shelf

    abbrev g : LockGiven
    g = lock_given t q l s.lock

    passed : refusal s (LookUp id) ≡ None
    passed = ap checked there ∙ passes

    open_here : (P : Request → Type 0) → P q → OfRequest s id P
    open_here P p = subst (λ (o : Option Request). MatchOption o ⊥ P) (sym there) p

    -- a look-up that is answered
    pub Took-looked : UseFits s q l → Took s t (LookUp id) (Ok (look_answer t g l)) (record (after_look s t id q l) { lock = after_all (given_changes t q l s.lock) s.lock })
    Took-looked fits = (
      plain_call t (LookUp id) (Ok (look_answer t g l)) false,
      refl,
      refl,
      record {
        read = tt;
        outcome = subst (λ r. AllowsBy r s t (LookUp id) (plain_call t (LookUp id) (Ok (look_answer t g l)) false) (Ok (look_answer t g l))) (sym passed)
            (open_here (λ p. (look_answer t g l ≡ look_answer t (lock_given t p (look_for p s.shelf) s.lock) (look_for p s.shelf)) × UseFits s p (look_for p s.shelf)) (refl, fits));
        begins = look_begins t g l;
        asks = tt;
      },
      ap (λ (o : Option Request). with_counts s.shelf.writes (after_all (by_request {X = List Change} [] o (λ p. given_changes t p (look_for p s.shelf) s.lock)) s.lock)
          (by_request s o (λ p. after_look s t id p (look_for p s.shelf)))) (sym there),
    )

    -- and one that is refused, whether a lock was given or not
    module _ (f : TierFault) (why : ((f ≡ Memory nothing_done) × IsDue s t q l) ⊎ (IsUseFault s q l f ⊎ IsLockFault s t q f)) where
      allowed : (asked : Bool) → AsksLock s t (LookUp id) asked → Allows s (plain_call t (LookUp id) (Err f) asked)
      allowed asked asks = record {
        read = tt;
        outcome = subst (λ r. AllowsBy r s t (LookUp id) (plain_call t (LookUp id) (Err f) asked) (Err f)) (sym passed)
            (elim why [
              | inl memory ↦ inl (memory.0, open_here (λ p. IsDue s t p (look_for p s.shelf)) memory.1)
              | inr late ↦ inr (open_here (λ p. IsUseFault s p (look_for p s.shelf) f ⊎ IsLockFault s t p f) late)
            ]);
        begins = refl;
        asks = asks;
      }

      pub Took-look-fault : (lock : LockState) → LeavesLock t q l s.lock lock → Took s t (LookUp id) (Err f) (record s { lock = lock })
      Took-look-fault lock leaves = by_asked leaves.asked leaves.due leaves.lock
        where
          by_asked : (asked : Bool) → (asked ≡ true → asks_now t q l ≡ true) → lock ≡ (if asked then after_all (back_changes t q l s.lock) s.lock else s.lock) → Took s t (LookUp id) (Err f) (record s { lock = lock })
          by_asked false due is = rw is (plain_call t (LookUp id) (Err f) false, refl, refl, allowed false tt, refl)
          by_asked true due is = rw is (
            plain_call t (LookUp id) (Err f) true,
            refl,
            refl,
            allowed true (passed, open_here (λ p. asks_now t p (look_for p s.shelf) ≡ true) (due refl)),
            ap (λ (o : Option Request). record s { lock = after_all (by_request {X = List Change} [] o (λ p. back_changes t p (look_for p s.shelf) s.lock)) s.lock }) (sym there),
          )

    -- ---- what was left, by the manager's own words
    module _ (n : ℕ) (k : IsSharded n s.managed) where
      pub used_same : (l : Look) → used_by n least_one q l s.managed ≡ managed_after s q l
      used_same absent = refl
      used_same (in_flight f) = refl
      used_same (finished y) =
          ap (λ (w : ℕ). use_first n q.entry w s.managed) (weighs_same (size_of y.body)) ∙ ap (λ (x : ℕ). use_first x q.entry (weight_for y.body) s.managed) (sym k.count)

      pub use_fits : (l : Look) → Fits n (used_by n least_one q l s.managed) → UseFits s q l
      use_fits absent fits = tt
      use_fits (in_flight f) fits = tt
      use_fits (finished y) fits = subst (λ (x : ℕ). Fits x (used s q.entry y.body)) (sym k.count) (subst (Fits n) (used_same (finished y)) fits)

      use_fault : (l : Look) (f : TierFault) → UseRefused n least_one q l s.managed f → ((f ≡ Memory nothing_done) × (is_there l ≡ true)) ⊎ IsUseFault s q l f
      use_fault absent f p = absurd p
      use_fault (in_flight f) g p = absurd p
      use_fault (finished y) f p = by_fault p.1.0 (at (λ x w. IsPutRefused x q.entry w s.managed p.1.0) p.1.1) p.1.2
        where
          at : (P : ℕ → ℕ → Type 0) → P n (max (size_of y.body) 1) → P (shards_of s) (weight_for y.body)
          at P h = subst (λ (w : ℕ). P (shards_of s) w) (weighs_same (size_of y.body)) (subst (λ (x : ℕ). P x (max (size_of y.body) 1)) (sym k.count) h)

          none : weight_of q.entry (rows_of (shards_of s) q.entry s.managed) ≡ None
          none = at (λ x w. weight_of q.entry (rows_of x q.entry s.managed) ≡ None) p.0

          by_fault : (cause : EvictFault) → IsPutRefused (shards_of s) q.entry (weight_for y.body) s.managed cause → f ≡ fault_for cause nothing_done → ((f ≡ Memory nothing_done) × (true ≡ true)) ⊎ IsUseFault s q (finished y) f
          by_fault (evict.Memory v) h is = inl (is, refl)
          by_fault (evict.Weight v) h is = inr (subst (λ (x : TierFault). IsUseFault s q (finished y) x) (sym is) (none, (refl, h)))
          by_fault (evict.Length v) h is = inr (subst (λ (x : TierFault). IsUseFault s q (finished y) x) (sym is) (none, (refl, h)))
          by_fault (evict.NumbersSpent v) h is = inr (subst (λ (x : TierFault). IsUseFault s q (finished y) x) (sym is) (none, (refl, h)))
          by_fault (evict.File v) h is = absurd h

      pub why_of : (f : TierFault) → RunsOut n least_one t q l s.lock f ⊎ (UseRefused n least_one q l s.managed f ⊎ LockRefused n least_one t q l s.lock f)
          → ((f ≡ Memory nothing_done) × IsDue s t q l) ⊎ (IsUseFault s q l f ⊎ IsLockFault s t q f)
      why_of f p = elim p [
        | inl out ↦ inl out
        | inr late ↦ elim late [
          | inl unused ↦ elim (use_fault l f unused) [ inl memory ↦ inl (memory.0, inl memory.1) | inr kept_out ↦ inr (inl kept_out) ]
          | inr lock ↦ inr (inr lock)
        ]
      ]

  -- a look-up of a request that is open or isn't, in n shards, each of which is still within its bound
  module _ (n : ℕ) (k : IsSharded n s.managed) where
    abbrev before : Lent
    before = lent s.shelf s.managed s.lock

    answered_look : (q left : Request) (a : Answer) (after : Lent) → get s.requests id ≡ Some q → look_refusal q ≡ None → Fits n after.managed
        → LooksBy n least_one t q (look_for q s.shelf) before (Ok a) left after → Took s t (LookUp id) (Ok a) (looked_to (insert s.requests id left) after (found_after (Ok a) s.found) (absent_after (Ok a) s.absent))
    answered_look q left a after there passes small p =
        let l = look_for q s.shelf in
        let g = lock_given t q l s.lock in
        let fits : UseFits s q l = use_fits q there passes n k l (subst (λ (x : Lent). Fits n x.managed) p.2 small) in
        rw (p.2, p.1, p.0, found_counts t g l s.found, absent_counts t g l s.absent, used_same q there passes n k l) (Took-looked q there passes fits)

    refused_look : (q left : Request) (f : TierFault) (after : Lent) → get s.requests id ≡ Some q → look_refusal q ≡ None
        → LooksBy n least_one t q (look_for q s.shelf) before (Err f) left after → Took s t (LookUp id) (Err f) (looked_to (insert s.requests id left) after s.found s.absent)
    refused_look q left f after there passes p =
        let is : after ≡ lent s.shelf s.managed after.lock = λ i. record { shelf = p.2 i; managed = p.3 i; lock = after.lock } in
        rw (is, p.1, insert-same s.requests id q there) (Took-look-fault q there passes f (why_of q there passes n k f p.0) after.lock p.4)

    pub Took-look : (o : Outcome) (requests : FinMap nat_cmp Request) (after : Lent) → Fits n after.managed
        → OnOpen id s.requests ((o ≡ Err NoRequest) × (after ≡ before)) (λ q left. LookAnswer n least_one t q before o left after) requests
        → Took s t (LookUp id) o (looked_to requests after (found_after o s.found) (absent_after o s.absent))
    Took-look o requests after small h = by_open (get s.requests id) refl h
      where
        by_result : (q left : Request) (o : Outcome) → get s.requests id ≡ Some q → look_refusal q ≡ None → LooksBy n least_one t q (look_for q s.shelf) before o left after
            → Took s t (LookUp id) o (looked_to (insert s.requests id left) after (found_after o s.found) (absent_after o s.absent))
        by_result q left (Ok a) there passes p = answered_look q left a after there passes small p
        by_result q left (Err f) there passes p = refused_look q left f after there passes p

        by_check : (q left : Request) (r : Option TierFault) → get s.requests id ≡ Some q → look_refusal q ≡ r
            → MatchOption r (LooksBy n least_one t q (look_for q s.shelf) before o left after) (λ f. (o ≡ Err f) × (left ≡ q) × (after ≡ before))
            → Took s t (LookUp id) o (looked_to (insert s.requests id left) after (found_after o s.found) (absent_after o s.absent))
        by_check q left None there passes p = by_result q left o there passes p
        by_check q left (Some f) there fails p = rw (p.0, p.1, p.2, insert-same s.requests id q there) (Took-look-refused f (ap checked there ∙ fails))

        by_open : (x : Option Request) → get s.requests id ≡ x
            → MatchOption x (((o ≡ Err NoRequest) × (after ≡ before)) × (requests ≡ s.requests)) (λ q. (left : Request) × LookAnswer n least_one t q before o left after × (requests ≡ insert s.requests id left))
            → Took s t (LookUp id) o (looked_to requests after (found_after o s.found) (absent_after o s.absent))
        by_open None none h = rw (h.0.0, h.0.1, h.1) (Took-look-refused NoRequest (ap checked none))
        by_open (Some q) there h = rw h.2 (by_check q h.0 (look_refusal q) there refl h.1)
