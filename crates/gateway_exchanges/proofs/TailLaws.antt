-- Changes of tails.
use Rattle.std.proofs.Common.{◌≡◌, ℕ, List, refl, ap, sym, ◌∙◌, cond, true, false, Bool, Option, Some, None}
use Rattle.std.specs.Prelude.{nat_eq}
use Rattle.std.specs.Ordering.{nat_cmp, eq_by_cmp}
use Rattle.std.specs.FinMap.{get, insert, remove, from_entries, get-insert, get-remove, same_map, nat_cmp-IsAntisymmetric}
use Rattle.std.specs.Map.{lookup, set_value}
use Rattle.std.proofs.lemmas.Cmp.{nat_cmp_total, nat_eq_equiv}
use Rattle.std.proofs.lemmas.Map.{lookup-set_value}
use Rattle.tier_model.proofs.Tables.{get-table, insert-table}
use Rattle.gateway_exchanges.proofs.Places.{insert-same as insert-alike}
use Rattle.gateway_exchanges.specs.declared.tails.Tail.{Tail}
use Rattle.gateway_exchanges.specs.Tails.{TailMap, changed_at, with_change}

-- a value that is written in place of one that is there
pub set-table : (es : List (ℕ × Tail)) (x : ℕ) (v w : Tail) → lookup (nat_eq x) es ≡ Some v → from_entries {R = nat_cmp} (set_value (nat_eq x) es w) ≡ insert (from_entries es) x w
set-table es x v w there = insert-table es (set_value (nat_eq x) es w) x w (λ q. lookup-set_value nat_eq_equiv (nat_eq x) (nat_eq_equiv.congr x) q w es (rw there refl))

pub changed-there : (es new : List (ℕ × Tail)) (x : ℕ) (f : Tail → Tail) (v w : Tail) → new ≡ set_value (nat_eq x) es w → lookup (nat_eq x) es ≡ Some v → w ≡ f v
    → from_entries {R = nat_cmp} new ≡ with_change x f (from_entries es)
changed-there es new x f v w put there is =
    ap (from_entries {R = nat_cmp}) put ∙ set-table es x v w there ∙ ap (insert (from_entries es) x) is ∙ sym (ap (λ o. changed_at x f o (from_entries es)) (get-table es x ∙ there))

pub changed-nowhere : (es : List (ℕ × Tail)) (x : ℕ) (f : Tail → Tail) → lookup (nat_eq x) es ≡ None → from_entries {R = nat_cmp} es ≡ with_change x f (from_entries es)
changed-nowhere es x f none = sym (ap (λ o. changed_at x f o (from_entries es)) (get-table es x ∙ none))

pub same-there : (es new : List (ℕ × Tail)) (x : ℕ) (v w : Tail) → new ≡ set_value (nat_eq x) es w → lookup (nat_eq x) es ≡ Some v → w ≡ v
    → from_entries {R = nat_cmp} new ≡ from_entries es
same-there es new x v w put there is =
    changed-there es new x (λ t. t) v w put there is ∙ ap (λ o. changed_at x (λ t. t) o (from_entries es)) (get-table es x ∙ there) ∙ insert-alike nat_cmp_total nat_cmp-IsAntisymmetric (from_entries es) x v (get-table es x ∙ there)

-- a tail that is changed and removed
changed-removed : (o : Option Tail) (tails : TailMap) (x : ℕ) (f : Tail → Tail) → remove (changed_at x f o tails) x ≡ remove tails x
changed-removed None tails x f = refl
changed-removed (Some t) tails x f =
    same_map nat_cmp_total nat_cmp-IsAntisymmetric _ _
    (λ q. get-remove nat_cmp_total (insert tails x (f t)) x q ∙ ap (cond (eq_by_cmp nat_cmp q x) None) (get-insert nat_cmp_total tails x (f t) q) ∙ twice (eq_by_cmp nat_cmp q x) (Some (f t)) (get tails q)
    ∙ sym (get-remove nat_cmp_total tails x q))
  where
    twice : (b : Bool) (a c : Option Tail) → cond b None (cond b a c) ≡ cond b None c
    twice true a c = refl
    twice false a c = refl

pub left-removed : (tails : TailMap) (x : ℕ) (f : Tail → Tail) → remove (with_change x f tails) x ≡ remove tails x
left-removed tails x f = changed-removed (get tails x) tails x f
