-- A release, table by table.
use Rattle.std.proofs.Common.{◌≡◌, ℕ, Bool, true, false, cond, List, refl, ap, sym, ◌∙◌}
use Rattle.std.specs.Prelude.{Option, Some, nat_le}
use Rattle.std.specs.Ordering.{nat_cmp}
use Rattle.std.specs.FinMap.{FinMap, get, insert, remove}
use Rattle.cache_lock.specs.declared.lock_core.HeldCore.{HeldCore}
use Rattle.cache_lock.specs.declared.status.LockStatus.{LockStatus}
use Rattle.cache_lock.specs.declared.status.LockStatus.TheVariants.{Dangling}
use Rattle.cache_lock.specs.Status.{is_aged}
use Rattle.cache_lock.specs.State.{LockState, after_all, status_in, is_number, unnamed, with_status}
use Rattle.cache_lock.specs.Answers.{released_by, release_changes}
use Rattle.cache_lock.specs.Released.{without_last, without_key, keys_left, told_by, shared_left}
use Rattle.cache_lock.proofs.EndLaws.{ended}

module _ (n : ℕ) (key : List ℕ) (reason : LockStatus) (s : LockState) where
  released_core : (c : HeldCore) → get s.cores n ≡ Some c → after_all (release_changes key n reason s) s
      ≡ cond (nat_le c.names 1)
      (record s { cores = remove s.cores n; published = remove s.published n; current = keys_left (is_aged c.core.status) n key c s.current })
      (shared_left (is_aged c.core.status) n key reason c s)
  released_core c there = ap (λ (o : Option HeldCore). after_all (released_by (is_aged (status_in o)) (is_number n (get s.current key)) key n reason) s) there ∙ told (is_aged c.core.status)
    where
      by : (own : Bool) → after_all (released_by false own key n reason) s
          ≡ cond (nat_le c.names 1)
          (record s { cores = remove s.cores n; published = remove s.published n; current = without_key n c.key (cond own (remove s.current key) s.current) })
          (record s { cores = insert s.cores n (unnamed (with_status (told_by own reason) c)); current = cond own (remove s.current key) s.current })
      by true = ended n reason c (record s { current = remove s.current key }) there
      by false = ended n Dangling c s there

      told : (aged : Bool) → after_all (released_by aged (is_number n (get s.current key)) key n reason) s
          ≡ cond (nat_le c.names 1)
          (record s { cores = remove s.cores n; published = remove s.published n; current = keys_left aged n key c s.current })
          (shared_left aged n key reason c s)
      told true = rw there refl
      told false = by (is_number n (get s.current key))

  -- a core that has one name was taken out, and what goes with it went
  pub last_told : (k : List ℕ) (c : HeldCore) (mid new : LockState) → k ≡ key → Some c ≡ get s.cores n → nat_le c.names 1 ≡ true
      → mid ≡ record s { cores = without_last n (get s.cores n) s.cores }
      → new ≡ record mid { published = remove mid.published n; current = keys_left (is_aged c.core.status) n k c mid.current }
      → new ≡ after_all (release_changes key n reason s) s
  last_told k c mid new same there few is_mid is_new =
      let left : LockState = record s { cores = remove s.cores n; published = remove s.published n; current = keys_left (is_aged c.core.status) n key c s.current } in
      let shared : LockState = shared_left (is_aged c.core.status) n key reason c s in
      let told : after_all (release_changes key n reason s) s ≡ left = released_core c (sym there) ∙ ap (λ (t : Bool). cond t left shared) few in
      let taken : without_last n (get s.cores n) s.cores ≡ remove s.cores n = ap (λ (o : Option HeldCore). without_last n o s.cores) (sym there) ∙ ap (λ (t : Bool). cond t (remove s.cores n) s.cores) few in
      is_new
      ∙ ap (λ (t : LockState). record t { published = remove t.published n; current = keys_left (is_aged c.core.status) n k c t.current }) is_mid
      ∙ ap (λ (m : FinMap nat_cmp HeldCore). record s { cores = m; published = remove s.published n; current = keys_left (is_aged c.core.status) n k c s.current }) taken
      ∙ ap (λ (j : List ℕ). record s { cores = remove s.cores n; published = remove s.published n; current = keys_left (is_aged c.core.status) n j c s.current }) same
      ∙ sym told

  -- one that has more stayed, and was written
  pub shared_told : (k : List ℕ) (c : HeldCore) (mid new : LockState) → k ≡ key → Some c ≡ get s.cores n → nat_le c.names 1 ≡ false
      → mid ≡ record s { cores = without_last n (get s.cores n) s.cores }
      → new ≡ shared_left (is_aged c.core.status) n k reason c mid
      → new ≡ after_all (release_changes key n reason s) s
  shared_told k c mid new same there more is_mid is_new =
      let left : LockState = record s { cores = remove s.cores n; published = remove s.published n; current = keys_left (is_aged c.core.status) n key c s.current } in
      let shared : LockState = shared_left (is_aged c.core.status) n key reason c s in
      let told : after_all (release_changes key n reason s) s ≡ shared = released_core c (sym there) ∙ ap (λ (t : Bool). cond t left shared) more in
      let stays : without_last n (get s.cores n) s.cores ≡ s.cores = ap (λ (o : Option HeldCore). without_last n o s.cores) (sym there) ∙ ap (λ (t : Bool). cond t (remove s.cores n) s.cores) more in
      is_new
      ∙ ap (λ (t : LockState). shared_left (is_aged c.core.status) n k reason c t) (is_mid ∙ ap (λ (m : FinMap nat_cmp HeldCore). record s { cores = m }) stays)
      ∙ ap (λ (j : List ℕ). shared_left (is_aged c.core.status) n j reason c s) same
      ∙ sym told
