-- Hash maps from which a core, or a key, is taken out where it may go.
use Rattle.std.proofs.Common.{◌≡◌, ℕ, Bool, true, false, cond, List, refl, ap, sym, ◌∙◌}
use Rattle.std.specs.Prelude.{Option, Some, None, nat_eq, nat_le, ◌&&◌}
use Rattle.std.specs.Ordering.{nat_cmp}
use Rattle.std.specs.Cmp.Lexicographic.{pointwise, slice_cmp, nat_list_cmp_total, nat_list_eq_equiv}
use Rattle.std.specs.Map.{lookup}
use Rattle.std.specs.FinMap.{FinMap, get, from_entries, remove, same_map, nat_cmp-IsAntisymmetric}
use Rattle.std.proofs.lemmas.Cmp.{nat_cmp_total}
use Rattle.cache_lock.specs.declared.lock_core.HeldCore.{HeldCore}
use Rattle.cache_lock.specs.State.{is_number, AreNamedBelow}
use Rattle.cache_lock.specs.Released.{is_last, without_last, without_key}
use Rattle.cache_lock.proofs.BelowLaws.{below-remove}
use Rattle.cache_lock.proofs.ChangeLaws.{key-out}
use Rattle.cache_lock.proofs.Tables.{get-table, remove-table, numbers_tie, keys_tie, keys_same}

pub core-taken : (old new : List (ℕ × HeldCore)) (n : ℕ) (o : Option HeldCore) → ((q : ℕ) → lookup (nat_eq q) new ≡ cond (is_last o && nat_eq n q) None (lookup (nat_eq q) old))
    → from_entries {R = nat_cmp} new ≡ without_last n o (from_entries old)
core-taken old new n None h = same_map nat_cmp_total nat_cmp-IsAntisymmetric _ _ (λ q. get-table nat_cmp_total nat_cmp-IsAntisymmetric numbers_tie new q ∙ h q ∙ sym (get-table nat_cmp_total nat_cmp-IsAntisymmetric numbers_tie old q))
core-taken old new n (Some c) h = by (nat_le c.names 1) h
  where
    by : (t : Bool) → ((q : ℕ) → lookup (nat_eq q) new ≡ cond (t && nat_eq n q) None (lookup (nat_eq q) old)) → from_entries {R = nat_cmp} new ≡ cond t (remove (from_entries old) n) (from_entries old)
    by true h = remove-table nat_cmp_total nat_cmp-IsAntisymmetric numbers_tie old new n h
    by false h = same_map nat_cmp_total nat_cmp-IsAntisymmetric _ _ (λ q. get-table nat_cmp_total nat_cmp-IsAntisymmetric numbers_tie new q ∙ h q ∙ sym (get-table nat_cmp_total nat_cmp-IsAntisymmetric numbers_tie old q))

pub key-taken : (old new : List (List ℕ × ℕ)) (k : List ℕ) (n : ℕ) (t : Bool) → t ≡ is_number n (lookup (pointwise nat_eq k) old)
    → ((q : List ℕ) → lookup (pointwise nat_eq q) new ≡ cond (t && pointwise nat_eq k q) None (lookup (pointwise nat_eq q) old))
    → from_entries {R = slice_cmp nat_cmp} new ≡ without_key n k (from_entries old)
key-taken old new k n t is h =
    by t h ∙ ap (λ (b : Bool). cond b (remove (from_entries old) k) (from_entries old)) (is ∙ ap (is_number n) (sym (get-table nat_list_cmp_total keys_same keys_tie old k)))
  where
    by : (t : Bool) → ((q : List ℕ) → lookup (pointwise nat_eq q) new ≡ cond (t && pointwise nat_eq k q) None (lookup (pointwise nat_eq q) old)) → from_entries {R = slice_cmp nat_cmp} new ≡ cond t (remove (from_entries old) k) (from_entries old)
    by true h = remove-table nat_list_cmp_total keys_same keys_tie old new k h
    by false h = same_map nat_list_cmp_total keys_same _ _ (λ q. get-table nat_list_cmp_total keys_same keys_tie new q ∙ h q ∙ sym (get-table nat_list_cmp_total keys_same keys_tie old q))

-- a key is taken out once
pub once : (n : ℕ) (k j : List ℕ) (m : FinMap (slice_cmp nat_cmp) ℕ) → k ≡ j → without_key n k m ≡ without_key n j (without_key n k m)
once n k j m same = by (is_number n (get m k)) refl ∙ ap (λ (i : List ℕ). without_key n i (without_key n k m)) same
  where
    none : get (remove m k) k ≡ None
    none = key-out m k k ∙ ap (λ (t : Bool). cond t None (get m k)) (nat_list_eq_equiv.refl k)

    by : (t : Bool) → is_number n (get m k) ≡ t → cond t (remove m k) m ≡ without_key n k (cond t (remove m k) m)
    by true is = ap (λ (o : Option ℕ). cond (is_number n o) (remove (remove m k) k) (remove m k)) (sym none)
    by false is = ap (λ (t : Bool). cond t (remove m k) m) (sym is)

pub below-last : (b k : ℕ) (o : Option HeldCore) (m : FinMap nat_cmp HeldCore) → AreNamedBelow b m → AreNamedBelow b (without_last k o m)
below-last b k None m below = below
below-last b k (Some c) m below = by (nat_le c.names 1)
  where
    by : (t : Bool) → AreNamedBelow b (cond t (remove m k) m)
    by true = below-remove b k m below
    by false = below
