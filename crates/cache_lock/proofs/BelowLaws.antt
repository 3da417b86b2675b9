-- Each core is named, under a number below a bound, as cores come, change and go.
use Rattle.std.proofs.Common.{◌≡◌, ℕ, ◌+◌, ◌<◌, Bool, true, false, cond, refl, ap, sym, ◌∙◌, subst, arith}
use Rattle.std.specs.Prelude.{Option, Some, None}
use Rattle.std.specs.Ordering.{nat_cmp, eq_by_cmp}
use Rattle.std.specs.Cmp.{unsigned_tied}
use Rattle.std.proofs.lemmas.Cmp.{nat_cmp_total}
use Rattle.std.proofs.lemmas.Bool.{eqb-true}
use Rattle.std.specs.FinMap.{FinMap, empty, get, insert, remove, same_map, get-empty, get-insert, get-remove, nat_cmp-IsAntisymmetric}
use Rattle.cache_lock.specs.declared.lock_core.HeldCore.{HeldCore}
use Rattle.cache_lock.specs.State.{AreNamedBelow}

same_number : (x y : ℕ) → eq_by_cmp nat_cmp x y ≡ true → x ≡ y
same_number x y e = eqb-true x y (sym (unsigned_tied x y) ∙ e)

pub below-empty : (b : ℕ) → AreNamedBelow b empty
below-empty b n c e = absurd (cc (get-empty {X = HeldCore} nat_cmp n))

named_still : (x y : HeldCore) → Some x ≡ Some y → 0 < x.names → 0 < y.names
named_still x y e named =
    let same : x ≡ y = cc in
    subst (λ (h : HeldCore). 0 < h.names) same named

pub below-set : (b k : ℕ) (m : FinMap nat_cmp HeldCore) (x c : HeldCore) → AreNamedBelow b m → get m k ≡ Some x → 0 < c.names → AreNamedBelow b (insert m k c)
below-set b k m x c below there named n y e = by (eq_by_cmp nat_cmp n k) refl (sym (get-insert nat_cmp_total m k c n) ∙ e)
  where
    by : (t : Bool) → eq_by_cmp nat_cmp n k ≡ t → cond t (Some c) (get m n) ≡ Some y → (n < b) × (0 < y.names)
    by true is e = (subst (λ (i : ℕ). i < b) (sym (same_number n k is)) (below k x there).0, named_still c y e named)
    by false is e = below n y e

pub below-insert : (b : ℕ) (m : FinMap nat_cmp HeldCore) (c : HeldCore) → AreNamedBelow b m → 0 < c.names → AreNamedBelow (b + 1) (insert m b c)
below-insert b m c below named n y e = by (eq_by_cmp nat_cmp n b) refl (sym (get-insert nat_cmp_total m b c n) ∙ e)
  where
    by : (t : Bool) → eq_by_cmp nat_cmp n b ≡ t → cond t (Some c) (get m n) ≡ Some y → (n < b + 1) × (0 < y.names)
    by true is e =
        let same : n ≡ b = same_number n b is in
        (omega arith, named_still c y e named)
    by false is e =
        let less : n < b = (below n y e).0 in
        (omega arith, (below n y e).1)

pub below-remove : (b k : ℕ) (m : FinMap nat_cmp HeldCore) → AreNamedBelow b m → AreNamedBelow b (remove m k)
below-remove b k m below n y e = by (eq_by_cmp nat_cmp n k) (sym (get-remove nat_cmp_total m k n) ∙ e)
  where
    by : (t : Bool) → cond t None (get m n) ≡ Some y → (n < b) × (0 < y.names)
    by true e = absurd cc
    by false e = below n y e

not_yet : (b : ℕ) (m : FinMap nat_cmp HeldCore) → AreNamedBelow b m → (o : Option HeldCore) → get m b ≡ o → None ≡ o
not_yet b m below None is = refl
not_yet b m below (Some c) is =
    let less : b < b = (below b c is).0 in
    absurd (omega arith)

-- a new core taken out again leaves what was there
pub without_new : (b : ℕ) (m : FinMap nat_cmp HeldCore) (c : HeldCore) → AreNamedBelow b m → remove (insert m b c) b ≡ m
without_new b m c below = same_map nat_cmp_total nat_cmp-IsAntisymmetric _ _ each
  where
    each : (q : ℕ) → get (remove (insert m b c) b) q ≡ get m q
    each q = get-remove nat_cmp_total (insert m b c) b q ∙ ap (λ (o : Option HeldCore). cond (eq_by_cmp nat_cmp q b) None o) (get-insert nat_cmp_total m b c q) ∙ by (eq_by_cmp nat_cmp q b) refl
      where
        by : (t : Bool) → eq_by_cmp nat_cmp q b ≡ t → cond t None (cond t (Some c) (get m q)) ≡ get m q
        by true is = subst (λ (i : ℕ). None ≡ get m i) (sym (same_number q b is)) (not_yet b m below (get m b) refl)
        by false is = refl
