-- A status stored in a core whose last name is then taken back isn't seen any more.
use Rattle.std.proofs.Common.{◌≡◌, ℕ, Bool, true, false, cond, refl, ap, sym, ◌∙◌}
use Rattle.std.specs.Prelude.{Option, Some, None, nat_le, ◌==◌}
use Rattle.std.specs.Ordering.{nat_cmp}
use Rattle.std.proofs.lemmas.Cmp.{nat_cmp_total, eq_by_cmp_equiv}
use Rattle.std.specs.FinMap.{FinMap, empty, get, insert, remove, same_map, get-empty, get-insert, nat_cmp-IsAntisymmetric}
use Rattle.cache_lock.specs.declared.lock_core.HeldCore.{HeldCore}
use Rattle.cache_lock.specs.declared.status.LockStatus.{LockStatus}
use Rattle.cache_lock.specs.Changes.{stores, spends}
use Rattle.cache_lock.specs.State.{LockState, after, unnamed, with_status, without_core}
use Rattle.cache_lock.proofs.ChangeLaws.{get-put, get-out}

module _ {X : Type 0} (m : FinMap nat_cmp X) (k : ℕ) where
  put_found : (a : X) → get (insert m k a) k ≡ Some a
  put_found a = get-insert nat_cmp_total m k a k ∙ ap (λ (t : Bool). cond t (Some a) (get m k)) ((eq_by_cmp_equiv nat_cmp_total).refl k)

  put_twice : (a b : X) → insert (insert m k a) k b ≡ insert m k b
  put_twice a b = same_map nat_cmp_total nat_cmp-IsAntisymmetric _ _ each
    where
      each : (q : ℕ) → get (insert (insert m k a) k b) q ≡ get (insert m k b) q
      each q = get-put (insert m k a) k q b ∙ ap (λ (o : Option X). cond (q == k) (Some b) o) (get-put m k q a) ∙ by (q == k) ∙ sym (get-put m k q b)
        where
          by : (t : Bool) → cond t (Some b) (cond t (Some a) (get m q)) ≡ cond t (Some b) (get m q)
          by true = refl
          by false = refl

  put_out : (a : X) → remove (insert m k a) k ≡ remove m k
  put_out a = same_map nat_cmp_total nat_cmp-IsAntisymmetric _ _ each
    where
      each : (q : ℕ) → get (remove (insert m k a) k) q ≡ get (remove m k) q
      each q = get-out (insert m k a) k q ∙ ap (λ (o : Option X). cond (q == k) None o) (get-put m k q a) ∙ by (q == k) ∙ sym (get-out m k q)
        where
          by : (t : Bool) → cond t None (cond t (Some a) (get m q)) ≡ cond t None (get m q)
          by true = refl
          by false = refl

-- nothing is taken out of an empty map
pub out_of_empty : {X : Type 0} (m : FinMap nat_cmp X) (k : ℕ) → m ≡ empty → m ≡ remove m k
out_of_empty {X} m k is = same_map nat_cmp_total nat_cmp-IsAntisymmetric _ _ each
  where
    each : (q : ℕ) → get m q ≡ get (remove m k) q
    each q = by (q == k) ∙ sym (get-out m k q)
      where
        by : (t : Bool) → get m q ≡ cond t None (get m q)
        by true = ap (λ (n : FinMap nat_cmp X). get n q) is ∙ get-empty nat_cmp q
        by false = refl

module _ (n : ℕ) (status : LockStatus) (c : HeldCore) (s : LockState) (there : get s.cores n ≡ Some c) where
  pub ended : after (spends n) (after (stores n status) s) ≡ cond (nat_le c.names 1) (without_core n c.key s) (record s { cores = insert s.cores n (unnamed (with_status status c)) })
  ended = rw (there, put_found s.cores n (with_status status c), put_out s.cores n (with_status status c), put_twice s.cores n (with_status status c) (unnamed (with_status status c))) refl
