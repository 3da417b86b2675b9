-- What comes into a table under a number, and goes again, leaves the rest as it was.
use Rattle.std.proofs.Common.{◌≡◌, ℕ, Bool, true, false, cond, refl, ap, sym, ◌∙◌}
use Rattle.std.specs.Prelude.{Option, Some, None}
use Rattle.std.specs.Ordering.{nat_cmp, eq_by_cmp}
use Rattle.std.specs.FinMap.{FinMap, get, insert, remove, same_map, get-insert, get-remove, nat_cmp-IsAntisymmetric}
use Rattle.std.specs.Cmp.{unsigned_tied}
use Rattle.std.proofs.lemmas.Cmp.{nat_cmp_total}
use Rattle.std.proofs.lemmas.Bool.{eqb-true, eq-eqb}

same-number : (q id : ℕ) → eq_by_cmp nat_cmp q id ≡ true → q ≡ id
same-number q id t = eqb-true q id (sym (unsigned_tied q id) ∙ t)

module _ {X : Type 0} where
  -- of two of one number the later counts
  pub put_twice : (m : FinMap nat_cmp X) (id : ℕ) (a b : X) → insert (insert m id a) id b ≡ insert m id b
  put_twice m id a b = same_map nat_cmp_total nat_cmp-IsAntisymmetric _ _ each
    where
      each : (q : ℕ) → get (insert (insert m id a) id b) q ≡ get (insert m id b) q
      each q =
          get-insert nat_cmp_total (insert m id a) id b q ∙ ap (λ (o : Option X). cond (eq_by_cmp nat_cmp q id) (Some b) o) (get-insert nat_cmp_total m id a q)
          ∙ by (eq_by_cmp nat_cmp q id) ∙ sym (get-insert nat_cmp_total m id b q)
        where
          by : (t : Bool) → cond t (Some b) (cond t (Some a) (get m q)) ≡ cond t (Some b) (get m q)
          by true = refl
          by false = refl

  pub there : (m : FinMap nat_cmp X) (id : ℕ) (a : X) → get (insert m id a) id ≡ Some a
  there m id a = get-insert nat_cmp_total m id a id ∙ ap (λ (t : Bool). cond t (Some a) (get m id)) (unsigned_tied id id ∙ eq-eqb id id refl)

  -- what came under a free number, and went, is as before
  pub come_and_gone : (m : FinMap nat_cmp X) (id : ℕ) (a : X) → get m id ≡ None → remove (insert m id a) id ≡ m
  come_and_gone m id a free = same_map nat_cmp_total nat_cmp-IsAntisymmetric _ _ each
    where
      each : (q : ℕ) → get (remove (insert m id a) id) q ≡ get m q
      each q =
          get-remove nat_cmp_total (insert m id a) id q ∙ ap (λ (o : Option X). cond (eq_by_cmp nat_cmp q id) None o) (get-insert nat_cmp_total m id a q) ∙ by (eq_by_cmp nat_cmp q id) refl
        where
          by : (t : Bool) → eq_by_cmp nat_cmp q id ≡ t → cond t None (cond t (Some a) (get m q)) ≡ get m q
          by true t = sym (ap (λ (i : ℕ). get m i) (same-number q id t) ∙ free)
          by false t = refl

  -- what was there, and is put again, is as before
  pub put_again : (m : FinMap nat_cmp X) (id : ℕ) (a : X) → get m id ≡ Some a → insert m id a ≡ m
  put_again m id a is = same_map nat_cmp_total nat_cmp-IsAntisymmetric _ _ each
    where
      each : (q : ℕ) → get (insert m id a) q ≡ get m q
      each q = get-insert nat_cmp_total m id a q ∙ by (eq_by_cmp nat_cmp q id) refl
        where
          by : (t : Bool) → eq_by_cmp nat_cmp q id ≡ t → cond t (Some a) (get m q) ≡ get m q
          by true t = sym (ap (λ (i : ℕ). get m i) (same-number q id t) ∙ is)
          by false t = refl
