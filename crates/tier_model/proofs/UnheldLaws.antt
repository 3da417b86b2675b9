-- A lock of which nobody holds a core is as it was made, but for the number that comes next.
use Rattle.std.proofs.Common.{◌≡◌, ℕ, ◌<◌, refl, ap, sym, ◌∙◌, true, false, subst, cond, List, [], ◌∷◌, ◌++◌, arith}
use Rattle.std.specs.Prelude.{Bool, Option, Some, None, nat_le, option_map}
use Rattle.std.specs.FinMap.{FinMap, empty, get, insert, remove, len, empty_of_len, get-empty, get-remove, same_map, nat_cmp-IsAntisymmetric, slice_cmp-IsAntisymmetric}
use Rattle.std.specs.Ordering.{nat_cmp, eq_by_cmp}
use Rattle.std.specs.Cmp.Lexicographic.{slice_cmp, nat_list_cmp_total}
use Rattle.std.proofs.lemmas.Bool.{eq-eqb}
use Rattle.std.proofs.lemmas.Cmp.{nat_cmp_total}
use Rattle.cache_words.specs.Time.{MomentValue}
use Rattle.cache_lock.specs.Answers.{to_wait_for, locked_by, lock_change, leave_changes, poll_changes, wait_outcome, released_by}
use Rattle.cache_lock.specs.Changes.{Changes, gives, lends, stores, spends}
use Rattle.cache_lock.specs.State.{LockState, IsSound, named, unnamed, with_status, with_core, without_core, spent, is_number, status_of, after as changed, after_all, empty_lock}
use Rattle.cache_lock.specs.Status.{is_aged}
use Rattle.cache_lock.specs.Waits.{same_key}
use Rattle.cache_lock.specs.declared.fills.WaitOutcome.{WaitOutcome}
use Rattle.cache_lock.specs.declared.fills.WaitOutcome.TheVariants as wait
use Rattle.cache_lock.specs.declared.lock_core.HeldCore.{HeldCore}
use Rattle.cache_lock.specs.declared.status.LockStatus.{LockStatus}
use Rattle.cache_lock.proofs.ChangeLaws.{get-out, key-put, key-out}
use Rattle.tier_model.specs.declared.event.Action.{Action}
use Rattle.tier_model.specs.Calls.{History, Outcome}
use Rattle.tier_model.specs.Histories.{Opening}
use Rattle.tier_model.specs.State.{State}
use Rattle.tier_model.specs.Answers.{key_for}
use Rattle.tier_model.specs.After.{lock_changes}
use Rattle.tier_model.specs.Past.{HasPast, IsLawful, state_of}
use Rattle.tier_model.proofs.EffectLaws.{hold_at, Effect, quiet, given, lent, back, polled, left, dropped, released}
use Rattle.tier_model.proofs.GripLaws.{key_in, key_at, key-given, key-kept, key-true, key-itself, differ}
use Rattle.tier_model.proofs.GrantedLaws.{LocksFit-lawful, effect-lawful, none_holds}
use Rattle.tier_model.proofs.LockLaws.{IsSound-of}

-- each key's core is there, under that key, and no tokens are published
record IsTidy (s : LockState) : Type 0 where
  keyed : (k : List ℕ) (n : ℕ) → get s.current k ≡ Some n → key_at n s ≡ Some k
  untold : s.published ≡ empty

-- ---- single changes

core_tidy : (n : ℕ) (f : HeldCore → HeldCore) (s : LockState) → ((c : HeldCore) → (f c).key ≡ c.key) → (o : Option HeldCore) → get s.cores n ≡ o → IsTidy s → IsTidy (with_core n f o s)
core_tidy n f s h None e tidy = tidy
core_tidy n f s h (Some c) e tidy = record { keyed = λ k m is. key-kept m n f s h (Some c) e ∙ tidy.keyed k m is; untold = tidy.untold }

taken_tidy : (gone : List ℕ) (s : LockState) → IsTidy s → IsTidy (record s { current = remove s.current gone })
taken_tidy gone s tidy = record { keyed = λ k m e. tidy.keyed k m (was k m (same_key k gone) (sym (key-out s.current gone k) ∙ e)); untold = tidy.untold }
  where
    was : (k : List ℕ) (m : ℕ) (v : Bool) → cond v None (get s.current k) ≡ Some m → get s.current k ≡ Some m
    was k m true e = absurd cc
    was k m false e = e

none_gone : (m : FinMap nat_cmp (List ℕ)) (n : ℕ) → m ≡ empty → remove m n ≡ empty
none_gone m n e = ap (λ (x : FinMap nat_cmp (List ℕ)). remove x n) e ∙ same_map nat_cmp_total nat_cmp-IsAntisymmetric (remove empty n) empty (λ q. get-remove nat_cmp_total empty n q ∙ by (eq_by_cmp nat_cmp q n) q)
  where
    by : (v : Bool) (q : ℕ) → cond v None (get (empty {X = List ℕ} {R = nat_cmp}) q) ≡ get (empty {X = List ℕ} {R = nat_cmp}) q
    by true q = sym (get-empty nat_cmp q)
    by false q = refl

-- the last that names a core hands it back
module _ (n : ℕ) (c : HeldCore) (s : LockState) (there : get s.cores n ≡ Some c) (tidy : IsTidy s) where
  own_key : (k : List ℕ) → key_at n s ≡ Some k → k ≡ c.key
  own_key k e = let both : Some c.key ≡ Some k = sym (ap (option_map key_in) there) ∙ e in cc

  still : (k : List ℕ) (m : ℕ) → (m ≡ n → ⊥) → get s.current k ≡ Some m → key_at m (without_core n c.key s) ≡ Some k
  still k m other e = ap (option_map key_in) (get-out s.cores n m ∙ ap (λ (v : Bool). cond v None (get s.cores m)) (differ m n other)) ∙ tidy.keyed k m e

  by_current : (v : Bool) → is_number n (get s.current c.key) ≡ v → (k : List ℕ) (m : ℕ) → get (cond v (remove s.current c.key) s.current) k ≡ Some m → key_at m (without_core n c.key s) ≡ Some k
  by_current true is k m e = by_key (same_key k c.key) refl (sym (key-out s.current c.key k) ∙ e)
    where
      by_key : (w : Bool) → same_key k c.key ≡ w → cond w None (get s.current k) ≡ Some m → key_at m (without_core n c.key s) ≡ Some k
      by_key true same e = absurd cc
      by_key false apart e = still k m (λ one. clash (own_key k (ap (λ (j : ℕ). key_at j s) (sym one) ∙ tidy.keyed k m e))) e
        where
          clash : k ≡ c.key → ⊥
          clash same = let no : false ≡ true = sym apart ∙ ap (same_key k) (sym same) ∙ key-itself k in absurd cc
  by_current false is k m e = still k m (λ one. clash one (own_key k (ap (λ (j : ℕ). key_at j s) (sym one) ∙ tidy.keyed k m e))) e
    where
      clash : m ≡ n → k ≡ c.key → ⊥
      clash one same =
          let no : false ≡ true = sym is ∙ ap (is_number n) (ap (get s.current) (sym same) ∙ e) ∙ eq-eqb n m (sym one) in absurd cc

  last_tidy : IsTidy (without_core n c.key s)
  last_tidy = record { keyed = by_current (is_number n (get s.current c.key)) refl; untold = none_gone s.published n tidy.untold }

spent_tidy : (n : ℕ) (s : LockState) (o : Option HeldCore) → get s.cores n ≡ o → IsTidy s → IsTidy (spent n o s)
spent_tidy n s None e tidy = tidy
spent_tidy n s (Some c) e tidy = by_last (nat_le c.names 1)
  where
    by_last : (v : Bool) → IsTidy (cond v (without_core n c.key s) (record s { cores = insert s.cores n (unnamed c) }))
    by_last true = last_tidy n c s e tidy
    by_last false = core_tidy n unnamed s (λ c. refl) (Some c) e tidy

given_tidy : (key : List ℕ) (stale : Bool) (t : MomentValue) (s : LockState) → IsSound s → IsTidy s → IsTidy (changed (gives s.next key stale t) s)
given_tidy key stale t s sound tidy = record { keyed = λ k m e. by_key k m (same_key k key) refl (sym (key-put s.current key k s.next) ∙ e); untold = tidy.untold }
  where
    no_core : (o : Option HeldCore) (k : List ℕ) (m : ℕ) → get s.cores m ≡ o → option_map key_in o ≡ Some k → m < s.next
    no_core None k m e is = absurd cc
    no_core (Some c) k m e is = (sound m c e).0

    by_key : (k : List ℕ) (m : ℕ) (v : Bool) → same_key k key ≡ v → cond v (Some s.next) (get s.current k) ≡ Some m → key_at m (changed (gives s.next key stale t) s) ≡ Some k
    by_key k m true same e =
        let is : m ≡ s.next = cc in
        key-given m key stale t s ∙ ap (λ (v : Bool). cond v (Some key) (key_at m s)) (eq-eqb m s.next is) ∙ ap (λ (x : List ℕ). Some x) (sym (key-true k key same))
    by_key k m false apart e =
        let old : key_at m s ≡ Some k = tidy.keyed k m e in
        let below : m < s.next = no_core (get s.cores m) k m refl old in
        key-given m key stale t s ∙ ap (λ (v : Bool). cond v (Some key) (key_at m s)) (differ m s.next (λ is. omega (arith, is, below))) ∙ old

lent_tidy : (n : ℕ) (s : LockState) → IsTidy s → IsTidy (changed (lends n) s)
lent_tidy n s tidy = core_tidy n named s (λ c. refl) (get s.cores n) refl tidy

stored_tidy : (n : ℕ) (st : LockStatus) (s : LockState) → IsTidy s → IsTidy (changed (stores n st) s)
stored_tidy n st s tidy = core_tidy n (with_status st) s (λ c. refl) (get s.cores n) refl tidy

back_tidy : (n : ℕ) (s : LockState) → IsTidy s → IsTidy (changed (spends n) s)
back_tidy n s tidy = spent_tidy n s (get s.cores n) refl tidy

-- ---- what a call changes

module _ (s new : State) (t : MomentValue) (action : Action) (o : Outcome) (sound : IsSound s.lock) (tidy : IsTidy s.lock) where
  abbrev Now : Changes → Type 0
  Now cs = IsTidy (after_all cs s.lock)

  by_back : (key : List ℕ) (stale : Bool) (core : Option ℕ) → Now (leave_changes (locked_by s.lock core) ++ lock_change key stale t s.lock core ∷ [])
  by_back key stale None =
      let mid = changed (gives s.lock.next key stale t) s.lock in
      back_tidy s.lock.next _ (stored_tidy s.lock.next _ mid (given_tidy key stale t s.lock sound tidy))
  by_back key stale (Some n) = back_tidy n _ (lent_tidy n s.lock tidy)

  by_wait : (n : ℕ) (w : Option WaitOutcome) → Now (spends n ∷ poll_changes n w)
  by_wait n (Some wait.AgeTimeout) = back_tidy n _ (stored_tidy n _ s.lock tidy)
  by_wait n (Some _) = back_tidy n s.lock tidy
  by_wait n None = back_tidy n s.lock tidy

  by_case : (n : ℕ) (key : List ℕ) (reason : LockStatus) (aged own : Bool) → Now (released_by aged own key n reason)
  by_case n key reason true own = back_tidy n s.lock tidy
  by_case n key reason false true = back_tidy n _ (stored_tidy n reason _ (taken_tidy key s.lock tidy))
  by_case n key reason false false = back_tidy n _ (stored_tidy n _ s.lock tidy)

  tidy-step : (cs : Changes) → Effect s new t action o cs → Now cs
  tidy-step cs (quiet same none says) = subst Now (sym none) tidy
  tidy-step cs (given r q stale there moves none is says) = subst Now (sym is) (given_tidy (key_for q) stale t s.lock sound tidy)
  tidy-step cs (lent r n key moves there is says) = subst Now (sym is) (lent_tidy n s.lock tidy)
  tidy-step cs (back key stale same is says) = subst Now (sym is) (by_back key stale (to_wait_for key s.lock))
  tidy-step cs (polled r n key over outcome moves is act out over_is) = subst Now (sym is) (by_wait n (wait_outcome n [] t s.lock))
  tidy-step cs (left r n key moves is says) = subst Now (sym is) (back_tidy n s.lock tidy)
  tidy-step cs (dropped r n key moves is says) = subst Now (sym is) (back_tidy n _ (stored_tidy n _ s.lock tidy))
  tidy-step cs (released r n key reason lasts moves is says) = subst Now (sym is) (by_case n key reason (is_aged (status_of n s.lock)) (is_number n (get s.lock.current key)))

tidy-of : (start : Opening) (h : History) → IsLawful start h → IsTidy (state_of start h).lock
tidy-of start [] l = record { keyed = λ k n e. let no : None ≡ Some n = sym (get-empty (slice_cmp nat_cmp) k) ∙ e in absurd cc; untold = refl }
tidy-of start (c ∷ h) l =
    tidy-step (state_of start h) (state_of start (c ∷ h)) c.event.moment c.event.action c.outcome (IsSound-of start h) (tidy-of start h l.1) (lock_changes (state_of start h) c)
    (effect-lawful start c h (LocksFit-lawful start h l.1) l.0)

-- ---- where no request is open

module _ (start : Opening) (h : History) (l : IsLawful start h) (none : len (state_of start h).requests ≡ 0) where
  abbrev s : State
  s = state_of start h

  no_core : (n : ℕ) → get s.lock.cores n ≡ None
  no_core n = by_core (get s.lock.cores n) refl
    where
      by_core : (o : Option HeldCore) → get s.lock.cores n ≡ o → o ≡ None
      by_core None e = refl
      by_core (Some c) e =
          let fit = (LocksFit-lawful start h l).granted.grants in
          let many : 0 < c.names = (IsSound-of start h n c e).1 in
          let none_left : c.names ≡ 0 = fit.state.names n c e ∙ fit.names n ∙ ap (λ requests. hold_at (record s { requests = requests }) n) (empty_of_len s.requests none) ∙ none_holds n in
          absurd (omega (arith, many, none_left))

  cores : s.lock.cores ≡ empty
  cores = same_map nat_cmp_total nat_cmp-IsAntisymmetric s.lock.cores empty (λ n. no_core n ∙ sym (get-empty nat_cmp n))

  no_key : (k : List ℕ) → get s.lock.current k ≡ None
  no_key k = by_core (get s.lock.current k) refl
    where
      by_core : (o : Option ℕ) → get s.lock.current k ≡ o → o ≡ None
      by_core None e = refl
      by_core (Some n) e = let no : None ≡ Some k = sym (ap (option_map key_in) (no_core n)) ∙ (tidy-of start h l).keyed k n e in absurd cc

  current : s.lock.current ≡ empty
  current = same_map nat_list_cmp_total (slice_cmp-IsAntisymmetric nat_cmp-IsAntisymmetric) s.lock.current empty (λ k. no_key k ∙ sym (get-empty (slice_cmp nat_cmp) k))

  pub unheld-lawful : s.lock ≡ record (empty_lock s.lock.age) { next = s.lock.next }
  unheld-lawful = λ i. record { cores = cores i; current = current i; published = (tidy-of start h l).untold i; next = s.lock.next; age = s.lock.age }

pub unheld-past : (start : Opening) (s : State) (h : History) → HasPast start s h → len s.requests ≡ 0 → s.lock ≡ record (empty_lock s.lock.age) { next = s.lock.next }
unheld-past start s h past none =
    subst (λ (x : State). x.lock ≡ record (empty_lock x.lock.age) { next = x.lock.next }) (sym past.state) (unheld-lawful start h past.lawful (subst (λ (x : State). len x.requests ≡ 0) past.state none))
